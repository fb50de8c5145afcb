-- The superdense clock keeps the clock laws.
use Rattle.std.specs.Prelude.{refl}
use Rattle.std.proofs.Common.{arith}
use Rattle.std.proofs.lemmas.Bool.Decides.{nat_tests}
use Rattle.clock.specs.Time.{Laws}
use Rattle.clock.specs.Superdense.{superdense}
use Rattle.clock.specs.Same.{same_dense}

pub superdense_laws : Laws superdense
superdense_laws = record {
  total = λ a b. grind (arith, nat_tests);
  transitive = λ a b c p q. grind (arith, nat_tests);
  antisymmetric = λ a b p q. same_dense a b (grind (arith, nat_tests)) (grind (arith, nat_tests));
  associative = λ a d e p q. (grind (arith, nat_tests), grind (arith, nat_tests), same_dense _ _ (grind (arith, nat_tests)) (grind (arith, nat_tests)));
  zero_left = λ a. (grind (arith, nat_tests), same_dense _ _ (grind (arith, nat_tests)) (grind (arith, nat_tests)));
  zero_right = λ a. (grind (arith, nat_tests), same_dense _ _ (grind (arith, nat_tests)) (grind (arith, nat_tests)));
  grows = λ a d p. grind (arith, nat_tests);
  keeps_order = λ a d e p q. grind (arith, nat_tests);
  gap_exists = λ a b p. (grind (arith, nat_tests), same_dense _ _ (grind (arith, nat_tests)) (grind (arith, nat_tests)));
  gap_only = λ a b d p q r. same_dense _ _ (grind (arith, nat_tests)) (grind (arith, nat_tests));
  zero_span = refl;
  wait_span = λ k h. grind (arith, nat_tests);
  ceiling_span = λ a d p q. grind (arith, nat_tests);
  gap_span = λ a d p. grind (arith, nat_tests);
}
