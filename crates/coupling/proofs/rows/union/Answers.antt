use Rattle.std.proofs.Common.{sym, subst, arith}
use Rattle.coupling.proofs.Unions.{Sofar, sofar_none, sofar_takes, sofar_skips, sofar_all}
use Rattle.coupling.proofs.rows.union.Goals as goal
use Rattle.coupling.proofs.rows.union.Goals.{then-pins-pin-eq1, else-pins-pin-eq1}

pub pins-init : goal.pins-init
pins-init c = sofar_none _ _ _ c.empty-all.ensures.reaches_nothing

pub pins-preserved : goal.pins-preserved
pins-preserved c =
    elim c.if-pins-pin-eq1.branch [
      | then-pins-pin-eq1 w ↦
          subst (Sofar _ _ _) (sym w.all-is) (sofar_takes _ _ _ _ _ _ c.pins.invariant w.if-pins-pin-eq1.true c.pins-test.true w.join-all.ensures.reaches_what_either_does)
      | else-pins-pin-eq1 w ↦ subst (Sofar _ _ _) (sym w.all-is) (sofar_skips _ _ _ _ c.pins.invariant w.if-pins-pin-eq1.false)
    ]

pub returns : goal.returns
returns c = record { is_the_union = sofar_all _ _ _ _ (omega arith) (omega arith) c.pins.invariant }
