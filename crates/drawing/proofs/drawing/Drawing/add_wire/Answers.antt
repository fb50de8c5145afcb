use Rattle.std.proofs.Common.{Ok, Err, vec_items, refl, ap, ◌∙◌, inr}
use Rattle.std.proofs.lemmas.Result.{err_from_is_err_and}
use Rattle.drawing.specs.Calls.{sheet}
use Rattle.drawing.proofs.Added.{put_outcome}
use Rattle.drawing.proofs.Outcomes.{wire_only}
use Rattle.drawing.proofs.drawing.Drawing.add_wire.Goals as goal

pub returns-in_err-wire-clause-has_one_outcome : goal.returns-in_err-wire-clause-has_one_outcome
returns-in_err-wire-clause-has_one_outcome g c u =
    let s = sheet c.args.self.now in
    let p = err_from_is_err_and c.from_residual-in_err-wire.result c.from_residual-in_err-wire.ensures.1 in
    wire_only s s _ _ _ u (inr (c.in_ok-block.block, Err c.in_err-wire.field-0.0, c.in_ok-block.ensures.ok_part, c.in_err-wire.ensures.asks_in_order, (p.1 ∙ ap Err p.2, refl)))

pub returns-clause-adds_the_wire_or_refuses : goal.returns-clause-adds_the_wire_or_refuses
returns-clause-adds_the_wire_or_refuses g c =
    let d = c.args.self.now in
    inr (c.in_ok-block.block, Ok c.in_ok-wire.wire, c.in_ok-block.ensures.ok_part, c.in_ok-wire.ensures.asks_in_order, put_outcome (vec_items d.starts) d.current _ _ _ _ c.put_wire.ensures.puts_it_or_refuses)

pub returns-clause-has_one_outcome : goal.returns-clause-has_one_outcome
returns-clause-has_one_outcome g c u = wire_only _ _ _ _ _ u (returns-clause-adds_the_wire_or_refuses g c)
