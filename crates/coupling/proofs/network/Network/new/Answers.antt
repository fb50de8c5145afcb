use Rattle.std.proofs.Common.{length, ap, ◌∙◌, arith}
use Rattle.std.proofs.lemmas.List.{length-replicate}
use Rattle.coupling.proofs.Wiring.{blank_set}
use Rattle.coupling.proofs.network.Network.new.Goals as goal

pub invariant_of-result : goal.invariant_of-result
invariant_of-result c =
    let made = c.in_ok-rows.ensures.reach_nothing in
    let some = blank_set _ _ made in
    record {
      few_parts = omega arith;
      few_inputs = omega arith;
      a_row_for_each_pin = c.in_ok-rows.rows.ok.0 ∙ ap length made ∙ length-replicate _ _;
      none_to_itself = λ i k h. some _ i;
      none_to_absent = λ r j h. some r j;
    }
