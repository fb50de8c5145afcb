use Rattle.std.proofs.Common.{◌≡◌, false, Ok, sym, refl, inr, arith}
use Rattle.std.proofs.lemmas.Bool.{both_ways}
use Rattle.session.specs.Machine.{model, memory}
use Rattle.session.specs.Calls.{RunsTo, Few, traced}
use Rattle.session.proofs.Running.{later_kept}
use Rattle.session.proofs.Verdicts.{runsto_only}
use Rattle.session.proofs.session.Session.run.Goals as goal

pub returns : goal.returns
returns g c =
    let M = model g.C.Clock.time g.P.Part.kind (g.K.Coupling.wiring c.args.coupling.now) in
    let before = traced (memory c.args.places.now c.args.self.now.now) c.args.trace.now in
    let after = traced (memory c.firings.new.places c.firings.new.session.now) c.firings.new.trace in
    let few : Few M.wiring c.args.places.now → ⊥ = λ f. omega (arith, f, c.parts.ensures.is_the_count) in
    let late : M.time.within c.args.horizon ≡ false → ⊥ = λ f. both_ways _ f (sym c.if-not-within_ceiling.ensures.is_the_ceiling_test) in
    let ran = c.firings.ensures.runs in
    let h : RunsTo M c.args.horizon c.args.budget before after (Ok c.firings.result) = inr (few, inr (late, (c.firings.result, refl, ran))) in
    record {
      repeats_step = h;
      refusal_leaves_memory_and_trace = tt;
      writes_no_other_record = later_kept M c.args.horizon c.args.budget before after _ ran;
      has_one_outcome = runsto_only M c.args.horizon g.met.C.Clock.lawful c.args.budget before after _ h;
    }
