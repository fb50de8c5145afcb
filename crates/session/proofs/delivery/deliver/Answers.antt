use Rattle.std.proofs.Common.{◌<◌, length, sym, ◌∙◌, arith}
use Rattle.std.proofs.lemmas.Bool.{cond-true, eq-eqb}
use Rattle.coupling.specs.Rows.{set_of}
use Rattle.session.proofs.Deliveries.{delivered_more}
use Rattle.session.proofs.delivery.deliver.Goals as goal
use Rattle.session.proofs.delivery.deliver.Goals.{then-pins-ne0, else-pins-ne0}

pub parts-preserved : goal.parts-preserved
parts-preserved g c =
    let within : c.parts.part < length c.args.places.now = omega arith in
    elim c.if-pins-ne0.branch [
      | then-pins-ne0 w ↦
          w.places-is ∙ delivered_more g.C.Clock.time g.P.Part.kind c.args.moment c.args.value c.parts.part (set_of c.args.row.now) c.args.places.now c.parts.places _ _ within c.parts.invariant w.given.ensures.takes_the_input
      | else-pins-ne0 w ↦
          w.places-is ∙ delivered_more g.C.Clock.time g.P.Part.kind c.args.moment c.args.value c.parts.part (set_of c.args.row.now) c.args.places.now c.parts.places _ _ within c.parts.invariant (sym (cond-true _ _ _ (eq-eqb _ 0 w.if-pins-ne0.false)))
    ]
