use Rattle.std.proofs.Common.{◌≡◌, ◌++◌, map, take, drop}
use Rattle.session.proofs.session.start.Given as goal

abbrev pub invariant-parts : goal.invariant-parts
invariant-parts g l = l.places ≡ map (λ s. record { part = s; last = g.C.Clock.time.zero }) (take l.i l.starts) ++ drop l.i l.initial.places
