use Rattle.std.proofs.Common.{refl}
use Rattle.session.specs.Machine.{model, memory}
use Rattle.replay.proofs.Making.{run_in}
use Rattle.replay.proofs.replay.run_within.Goals as goal

pub returns : goal.returns
returns g c =
    let M = model g.C.Clock.time g.P.Part.kind (g.K.Coupling.wiring c.args.coupling.now) in
    let trace = c.args.trace.now in
    record {
      runs_in_the_room =
          run_in M c.args.horizon c.args.budget c.args.room c.min-records.result (memory c.args.places.now c.args.session.now.now) (memory c.run.new.places c.run.new.self.now)
          trace c.run.new.trace _ _ c.run.result c.min-records.ensures refl c.run.auto.trace refl c.run.ensures.repeats_step;
    }
