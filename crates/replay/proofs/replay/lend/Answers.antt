use Rattle.std.proofs.Common.{refl}
use Rattle.session.specs.Machine.{model}
use Rattle.replay.specs.Replays.{answered}
use Rattle.replay.proofs.Lending.{lent_made}
use Rattle.replay.proofs.replay.lend.Goals as goal

pub returns : goal.returns
returns g c =
    let M = model g.C.Clock.time g.P.Part.kind (g.K.Coupling.wiring c.args.coupling.now) in
    let z =
    lent_made M c.args.lent c.args.places.now c.make.new.places _ _ c.args.session.now.now c.make.new.session.now c.args.trace.now c.make.new.trace c.min-count.result (answered (λ answer. answer) c.make.result)
    c.min-count.ensures refl c.make.auto.places refl c.requires.has_places c.make.ensures.makes_the_call in
    record { the_machine_makes_it = rw c.answer_of.ensures.is_the_answer z.0; leaves_spare_places = z.1 }
