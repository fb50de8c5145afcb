use Rattle.std.proofs.Common.{◌≡◌, Ok, Err, refl, ap, ◌∙◌, inr}
use Rattle.std.proofs.lemmas.Result.{err_from_is_err_and}
use Rattle.session.specs.Machine.{model, memory}
use Rattle.replay.specs.Replays.{loan, ReplaysFrom}
use Rattle.replay.proofs.Once.{replays_only}
use Rattle.replay.proofs.Opening.{replay_refused, refused_kept, replay_done, open_done, rest_kept, from_only}
use Rattle.replay.proofs.replay.replay.Goals as goal

pub make_all-requires : goal.make_all-requires
make_all-requires g c =
    let M = model g.C.Clock.time g.P.Part.kind (g.K.Coupling.wiring c.args.coupling.now) in
    record {
      has_places =
          (open_done M c.args.starts.now (memory c.args.places.now c.args.session.now.now) (memory c.open.new.places c.open.new.self.now) _ c.in_ok-open.was c.open.ensures.starts_every_part).fits;
    }

pub returns : goal.returns
returns g c =
    let M = model g.C.Clock.time g.P.Part.kind (g.K.Coupling.wiring c.args.coupling.now) in
    let starts = c.args.starts.now in
    let list = c.args.calls.now in
    let first = memory c.args.places.now c.args.session.now.now in
    let mid = memory c.open.new.places c.open.new.self.now in
    let before = loan c.args.places.now c.args.session.now.now c.args.answers.now c.args.trace.now in
    let after = loan c.make_all.new.places c.make_all.new.session.now c.make_all.new.answers c.make_all.new.trace in
    let began = open_done M starts first mid _ c.in_ok-open.was c.open.ensures.starts_every_part in
    let done = replay_done M starts list first mid c.args.answers.now c.args.trace.now after c.make_all.result began c.make_all.ensures.replays in
    let h : ReplaysFrom M starts list before after (Ok c.make_all.result) = inr (began.none_few, (c.make_all.result, refl, done)) in
    record {
      follows_the_machine_from_opening = h;
      refusal_changes_nothing = tt;
      leaves_spare_places_and_other_records = rest_kept M starts list _ before after c.make_all.result done;
      has_one_outcome = from_only M starts g.met.C.Clock.lawful list before after _ h;
      machine_has_one_outcome = λ free start list xs ys es fs x y p q. replays_only M g.met.C.Clock.lawful p q;
    }

pub returns-in_err-open : goal.returns-in_err-open
returns-in_err-open g c =
    let M = model g.C.Clock.time g.P.Part.kind (g.K.Coupling.wiring c.args.coupling.now) in
    let starts = c.args.starts.now in
    let list = c.args.calls.now in
    let first = memory c.args.places.now c.args.session.now.now in
    let mid = memory c.open.new.places c.open.new.self.now in
    let before = loan c.args.places.now c.args.session.now.now c.args.answers.now c.args.trace.now in
    let after = loan c.open.new.places c.open.new.self.now c.args.answers.now c.args.trace.now in
    let refusal = c.in_err-open.field-0.0 in
    let p = err_from_is_err_and c.from_residual.result c.from_residual.ensures.1 in
    let is : c.from_residual.result ≡ Err refusal = p.1 ∙ ap Err p.2 in
    let h : ReplaysFrom M starts list before after (Err refusal) = replay_refused M starts list first mid c.args.answers.now c.args.trace.now _ refusal c.in_err-open.was c.open.ensures.starts_every_part in
    let kept : after ≡ before = refused_kept M starts list before after refusal h in
    rw is
    (record {
      follows_the_machine_from_opening = h;
      refusal_changes_nothing = kept;
      leaves_spare_places_and_other_records = kept;
      has_one_outcome = from_only M starts g.met.C.Clock.lawful list before after _ h;
      machine_has_one_outcome = λ free start list xs ys es fs x y p q. replays_only M g.met.C.Clock.lawful p q;
    })
