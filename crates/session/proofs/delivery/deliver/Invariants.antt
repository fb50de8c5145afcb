use Rattle.std.proofs.Common.{◌≡◌}
use Rattle.coupling.specs.Rows.{set_of}
use Rattle.session.specs.Machine.{delivered}
use Rattle.session.proofs.delivery.deliver.Given as goal

abbrev pub invariant-parts : goal.invariant-parts
invariant-parts g l = l.places ≡ delivered g.C.Clock.time g.P.Part.kind l.moment l.value l.part (set_of l.row) l.initial.places
