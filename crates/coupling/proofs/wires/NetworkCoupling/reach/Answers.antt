use Rattle.std.proofs.Common.{◌≡◌, sym, ◌∙◌, subst}
use Rattle.coupling.specs.Networks.{wired}
use Rattle.coupling.specs.Wiring.{Reaches}
use Rattle.coupling.proofs.Wiring.{absent_reaches, lent_reaches}
use Rattle.coupling.proofs.wires.NetworkCoupling.reach.Goals as goal
use Rattle.coupling.proofs.wires.NetworkCoupling.reach.Goals.{in_default-via-in-Board-1, in_default-via-in-Part+else-part-self}

pub returns : goal.returns
returns c = record {
  is_the_union_of_the_rows =
      subst (λ s. Reaches (wired c.args.self.now) s c.args.pins c.empty.result) (sym c.in-Part.is)
      (absent_reaches c.args.self.now c.in-Part.part _ _ c.if-part-self.true c.empty.ensures.reaches_nothing);
}

pub returns-2 : goal.returns-2
returns-2 c =
    let same : c.in_default.source ≡ c.args.source =
    elim c.in_default.branch [ in_default-via-in-Board-1 w ↦ w.source-is | in_default-via-in-Part+else-part-self w ↦ w.source-is ∙ sym w.in-Part.is ] in
    record { is_the_union_of_the_rows = lent_reaches c.args.self.now c.args.source _ _ _ _ same c.rows_of.ensures.are_its_rows c.union.ensures.is_the_union }
