-- The plain clock: whole numbers of ticks.
use Rattle.std.specs.Prelude.{ℕ, ◌+◌, ◌-◌, min, nat_le}
use Rattle.std.proofs.Common.{arith}
use Rattle.clock.specs.Time.{Time}
use Rattle.clock.specs.declared.ticks.Ticks.{Ticks}

-- n ticks, or the largest value held where n is beyond it
abbrev pub ticks : ℕ → Ticks
ticks n = record { count = min n 8589934590; held = omega arith }

abbrev pub plain : Time Ticks
plain = record {
  leq = λ a b. nat_le a.count b.count;
  zero = ticks 0;
  wait = λ k. ticks k;
  sum = λ a d. ticks (a.count + d.count);
  fits = λ a d. nat_le (a.count + d.count) 8589934590;
  -- the difference of two numbers stops at 0
  gap = λ a b. ticks (b.count - a.count);
  span = λ d. nat_le d.count 4294967295;
  within = λ a. nat_le a.count 4294967295;
}
