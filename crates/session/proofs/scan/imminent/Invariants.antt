use Rattle.std.proofs.Common.{map, take}
use Rattle.session.specs.Machine.{due, First}
use Rattle.session.proofs.scan.imminent.Given as goal

abbrev pub invariant-parts : goal.invariant-parts
invariant-parts g l = First g.C.Clock.time (map (due g.C.Clock.time g.P.Part.kind) (take l.part l.places)) l.best
