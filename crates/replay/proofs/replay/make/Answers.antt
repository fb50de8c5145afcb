use Rattle.std.proofs.Common.{Err, sym, ap, ◌∙◌}
use Rattle.std.proofs.lemmas.Result.{err_from_is_err_and}
use Rattle.session.specs.Machine.{model, memory}
use Rattle.session.specs.Calls.{traced}
use Rattle.replay.specs.declared.calls.Answer.TheVariants as answer
use Rattle.replay.specs.Replays.{answered}
use Rattle.replay.proofs.Making.{done_answers, put_made, step_made, next_made, run_made}
use Rattle.replay.proofs.replay.make.Goals as goal

pub returns-in-Put : goal.returns-in-Put
returns-in-Put g c =
    let M = model g.C.Clock.time g.P.Part.kind (g.K.Coupling.wiring c.args.coupling.now) in
    let before = memory c.args.places.now c.args.session.now.now in
    record {
      makes_the_call =
          put_made M before c.args.trace.now c.args.call c.in-Put.moment c.in-Put.pins c.in-Put.value (memory c.put.new.places c.put.new.self.now) c.put.result _
          c.in-Put.is (done_answers c.put.result _ c.done.ensures.is_done_or_the_refusal) c.put.ensures.delivers_the_input;
    }

pub returns-in_err-step-in-Step : goal.returns-in_err-step-in-Step
returns-in_err-step-in-Step g c =
    let M = model g.C.Clock.time g.P.Part.kind (g.K.Coupling.wiring c.args.coupling.now) in
    let before = memory c.args.places.now c.args.session.now.now in
    let p = err_from_is_err_and c.from_residual.result c.from_residual.ensures.1 in
    let is = ap (answered (λ answer. answer)) (p.1 ∙ ap Err p.2) ∙ sym (ap (answered answer.Fired) c.in_err-step-in-Step.was) in
    record { makes_the_call = step_made M before c.args.trace.now c.args.call (memory c.step.new.places c.step.new.self.now) c.step.result _ c.in-Step.is is c.step.ensures.fires_the_imminent_part }

pub returns-in_ok-step-in-Step : goal.returns-in_ok-step-in-Step
returns-in_ok-step-in-Step g c =
    let M = model g.C.Clock.time g.P.Part.kind (g.K.Coupling.wiring c.args.coupling.now) in
    let before = memory c.args.places.now c.args.session.now.now in
    let is = sym (ap (answered answer.Fired) c.in_ok-step-in-Step.was) in
    record { makes_the_call = step_made M before c.args.trace.now c.args.call (memory c.step.new.places c.step.new.self.now) c.step.result _ c.in-Step.is is c.step.ensures.fires_the_imminent_part }

pub returns-in_ok-next-in-Next : goal.returns-in_ok-next-in-Next
returns-in_ok-next-in-Next g c =
    let M = model g.C.Clock.time g.P.Part.kind (g.K.Coupling.wiring c.args.coupling.now) in
    let before = memory c.args.places.now c.args.session.now.now in
    let is = sym (ap (answered answer.Earliest) c.in_ok-next-in-Next.was) in
    record { makes_the_call = next_made M before c.args.trace.now c.args.call c.next.result _ c.in-Next.is is c.next.ensures.answers_the_earliest }

pub returns-in_err-ran-in-Run : goal.returns-in_err-ran-in-Run
returns-in_err-ran-in-Run g c =
    let M = model g.C.Clock.time g.P.Part.kind (g.K.Coupling.wiring c.args.coupling.now) in
    let before = memory c.args.places.now c.args.session.now.now in
    let p = err_from_is_err_and c.from_residual-in_err-ran-in-Run.result c.from_residual-in_err-ran-in-Run.ensures.1 in
    let is = ap (answered (λ answer. answer)) (p.1 ∙ ap Err p.2) ∙ sym (ap (answered answer.Ran) c.in_err-ran-in-Run.was) in
    record { makes_the_call = run_made M before c.args.trace.now c.args.call c.in-Run.horizon c.in-Run.budget c.in-Run.room (traced (memory c.run_within.new.places c.run_within.new.session.now) c.run_within.new.trace) c.run_within.result _ c.in-Run.is is c.run_within.ensures.runs_in_the_room }

pub returns-in_ok-ran-in-Run : goal.returns-in_ok-ran-in-Run
returns-in_ok-ran-in-Run g c =
    let M = model g.C.Clock.time g.P.Part.kind (g.K.Coupling.wiring c.args.coupling.now) in
    let before = memory c.args.places.now c.args.session.now.now in
    let is = sym (ap (answered answer.Ran) c.in_ok-ran-in-Run.was) in
    record { makes_the_call = run_made M before c.args.trace.now c.args.call c.in-Run.horizon c.in-Run.budget c.in-Run.room (traced (memory c.run_within.new.places c.run_within.new.session.now) c.run_within.new.trace) c.run_within.result _ c.in-Run.is is c.run_within.ensures.runs_in_the_room }
