-- A value of a clock is its numbers: the proof that it is held adds nothing.
use Rattle.std.specs.Prelude.{◌≡◌, ◌≤◌}
use mathlib.Core.HLevel.{is_prop→PathP}
use Rattle.std.proofs.Math.Bridge.{le_prop}
use Rattle.clock.specs.declared.ticks.Ticks.{Ticks}
use Rattle.clock.specs.declared.dense.Dense.{Dense}

pub same_ticks : (a b : Ticks) → a.count ≡ b.count → a ≡ b
same_ticks a b p = λ i. record { count = p i; held = is_prop→PathP (λ j. p j ≤ 8589934590) (λ j. le_prop) a.held b.held i }

pub same_dense : (a b : Dense) → a.tick ≡ b.tick → a.micro ≡ b.micro → a ≡ b
same_dense a b p q = λ i. record {
  tick = p i;
  micro = q i;
  held_tick = is_prop→PathP (λ j. p j ≤ 8589934590) (λ j. le_prop) a.held_tick b.held_tick i;
  held_micro = is_prop→PathP (λ j. q j ≤ 16842750) (λ j. le_prop) a.held_micro b.held_micro i;
}
