use Rattle.session.specs.Machine.{model}
use Rattle.replay.specs.Replays.{own, loan}
use Rattle.replay.proofs.Listing.{Sofar}
use Rattle.replay.proofs.replay.make_all.Given as goal

abbrev pub invariant-each : goal.invariant-each
invariant-each g l =
    let M = model g.C.Clock.time g.P.Part.kind (g.K.Coupling.wiring l.coupling) in
    Sofar M (own M l.initial.places l.initial.session.now) l.calls (loan l.initial.places l.initial.session.now l.initial.answers l.initial.trace) l.i l.events
    (loan l.places l.session.now l.answers l.trace)
