use Rattle.std.proofs.Common.{refl, subst}
use Rattle.board.specs.Sweep.{Small}
use Rattle.board.proofs.Sweeping.{only_part, only_board, only_none, only_at}
use Rattle.board.proofs.flatten.alone.Goals as goal

pub returns-in-PartIn : goal.returns-in-PartIn
returns-in-PartIn c =
    let small = subst Small c.in-PartIn.is c.requires.in_range in
    record { reaches_it_alone = only_at _ _ _ c.in-PartIn.is (only_part c.in-PartIn.part c.in-PartIn.pin c.empty-row.result _ small.0 small.1 c.empty-row.ensures.reaches_nothing refl) }

pub returns-in-PartOut : goal.returns-in-PartOut
returns-in-PartOut c = record { reaches_it_alone = only_at _ _ _ c.in-PartOut.is (only_none _ _ (λ t. t) c.empty-row.ensures.reaches_nothing) }

pub returns-in-BlockIn : goal.returns-in-BlockIn
returns-in-BlockIn c = record { reaches_it_alone = only_at _ _ _ c.in-BlockIn.is (only_none _ _ (λ t. t) c.empty-row.ensures.reaches_nothing) }

pub returns-then-block-eq0 : goal.returns-then-block-eq0
returns-then-block-eq0 c =
    let small = subst Small c.in-BlockOut.is c.requires.in_range in
    record { reaches_it_alone = only_at _ _ _ c.in-BlockOut.is (only_board c.in-BlockOut.block c.in-BlockOut.pin c.empty-row.result _ c.if-block-eq0.true small.1 c.empty-row.ensures.reaches_nothing refl) }

pub returns-else-block-eq0 : goal.returns-else-block-eq0
returns-else-block-eq0 c = record { reaches_it_alone = only_at _ _ _ c.in-BlockOut.is (only_none _ _ c.if-block-eq0.false c.empty-row.ensures.reaches_nothing) }
