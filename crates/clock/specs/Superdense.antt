-- The superdense clock: pairs tick:micro, ordered by tick and then by micro.
use Rattle.std.specs.Prelude.{ℕ, ◌+◌, ◌-◌, min, Bool, cond, ◌&&◌, ◌||◌, ◌==◌, nat_le, nat_lt}
use Rattle.std.proofs.Common.{arith}
use Rattle.clock.specs.Time.{Time}
use Rattle.clock.specs.declared.dense.Dense.{Dense}

-- t:n, each number at most the largest held
abbrev pub dense : ℕ → ℕ → Dense
dense t n = record { tick = min t 8589934590; micro = min n 16842750; held_tick = omega arith; held_micro = omega arith }

-- whether t:n plus d:m can be held; it is (t+d):m where d is above 0, else t:(n+m)
abbrev pub sum_fits : Dense → Dense → Bool
sum_fits a d = cond (nat_lt 0 d.tick) (nat_le (a.tick + d.tick) 8589934590) (nat_le (a.micro + d.micro) 16842750)

abbrev pub superdense : Time Dense
superdense = record {
  leq = λ a b. nat_lt a.tick b.tick || (a.tick == b.tick && nat_le a.micro b.micro);
  zero = dense 0 0;
  wait = λ k. dense k (cond (nat_lt 0 k) 0 1);
  sum = λ a d. dense
      (cond (sum_fits a d) (a.tick + d.tick) 8589934590)
      (cond (sum_fits a d) (cond (nat_lt 0 d.tick) d.micro (a.micro + d.micro)) 16842750);
  fits = sum_fits;
  -- the difference of two numbers stops at 0; from later to earlier the gap is 0:0
  gap = λ a b. dense
      (b.tick - a.tick)
      (cond (nat_lt a.tick b.tick) b.micro (cond (a.tick == b.tick) (b.micro - a.micro) 0));
  span = λ d. nat_le d.tick 4294967295 && nat_le d.micro 65535;
  within = λ a. nat_le a.tick 4294967295 && nat_le a.micro 16777215;
}
