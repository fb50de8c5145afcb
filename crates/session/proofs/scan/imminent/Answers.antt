use Rattle.std.proofs.Common.{◌<◌, length, arith}
use Rattle.session.proofs.Imminence.{first_next}
use Rattle.session.proofs.scan.imminent.Goals as goal

pub parts-preserved : goal.parts-preserved
parts-preserved g c =
    let within : c.parts.part < length c.args.places.now = omega arith in
    first_next g.C.Clock.time g.met.C.Clock.lawful g.P.Part.kind c.args.places.now c.parts.part _ _ _ _ within
    c.index-places-part.is c.due_moment.ensures.last_moment_plus_advance c.sooner_of-best.ensures.is_the_sooner c.parts.invariant
