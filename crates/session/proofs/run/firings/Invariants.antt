use Rattle.std.proofs.Common.{◌-◌}
use Rattle.session.specs.Machine.{model, memory}
use Rattle.session.specs.Calls.{traced}
use Rattle.session.proofs.Running.{Sofar}
use Rattle.session.proofs.run.firings.Given as goal

abbrev pub invariant-firings : goal.invariant-firings
invariant-firings g l =
    Sofar (model g.C.Clock.time g.P.Part.kind (g.K.Coupling.wiring l.coupling)) l.horizon l.budget
    (traced (memory l.initial.places l.initial.session.now) l.initial.trace) l.steps l.events
    (traced (memory l.places l.session.now) l.trace)

abbrev pub decreases-firings : goal.decreases-firings
decreases-firings g l = l.budget - l.steps
