-- The plain clock keeps the clock laws.
use Rattle.std.specs.Prelude.{refl}
use Rattle.std.proofs.Common.{arith}
use Rattle.std.proofs.lemmas.Bool.Decides.{nat_tests}
use Rattle.clock.specs.Time.{Laws}
use Rattle.clock.specs.Plain.{plain}
use Rattle.clock.specs.Same.{same_ticks}

pub plain_laws : Laws plain
plain_laws = record {
  total = λ a b. grind (arith, nat_tests);
  transitive = λ a b c p q. grind (arith, nat_tests);
  antisymmetric = λ a b p q. same_ticks a b (grind (arith, nat_tests));
  associative = λ a d e p q. (grind (arith, nat_tests), grind (arith, nat_tests), same_ticks _ _ (grind (arith, nat_tests)));
  zero_left = λ a. (grind (arith, nat_tests), same_ticks _ _ (omega arith));
  zero_right = λ a. (grind (arith, nat_tests), same_ticks _ _ (omega arith));
  grows = λ a d p. grind (arith, nat_tests);
  keeps_order = λ a d e p q. grind (arith, nat_tests);
  gap_exists = λ a b p. (grind (arith, nat_tests), same_ticks _ _ (grind (arith, nat_tests)));
  gap_only = λ a b d p q r. same_ticks _ _ (grind (arith, nat_tests));
  zero_span = refl;
  wait_span = λ k h. grind (arith, nat_tests);
  ceiling_span = λ a d p q. grind (arith, nat_tests);
  gap_span = λ a d p. grind (arith, nat_tests);
}
