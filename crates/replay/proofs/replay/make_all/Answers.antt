use Rattle.std.proofs.Common.{◌≡◌, ◌+◌, ◌-◌, ◌<◌, ◌++◌, length, get_or, take, drop, set, sym, refl, ◌∙◌, subst₂, arith}
use Rattle.std.proofs.lemmas.List.{take_rest, get_or-take, length-take-le}
use Rattle.session.specs.Machine.{model}
use Rattle.replay.specs.Replays.{own, loan}
use Rattle.replay.proofs.Listing.{Sofar, at_start, at_end, after_call}
use Rattle.replay.proofs.Opening.{put_last}
use Rattle.replay.proofs.replay.make_all.Goals as goal

pub each-init : goal.each-init
each-init g c = at_start _ c.args.calls.now _

pub each-preserved : goal.each-preserved
each-preserved g c =
    let M = model g.C.Clock.time g.P.Part.kind (g.K.Coupling.wiring c.args.coupling.now) in
    let n = c.each.events in
    let trace = c.each.trace in
    let list = c.args.calls.now in
    let count = c.min-count.result in
    let start = own M c.args.places.now c.args.session.now.now in
    let before = loan c.args.places.now c.args.session.now.now c.args.answers.now c.args.trace.now in
    let a = c.lend-answer.result in
    let lent = c.lent-item.result in
    let long : length (take count list) ≡ count = length-take-le count list (omega (arith, c.min-count.ensures)) in
    let below : c.each.i < count = omega (arith, c.each-test.true, long) in
    let in_list : c.each.i < length list = omega (arith, below, c.min-count.ensures) in
    let in_answers : c.each.i < length c.args.answers.now = omega (arith, below, c.min-count.ensures) in
    let read : lent ≡ get_or list c.each.i lent = c.lent-item.is ∙ get_or-take count list c.each.i lent below in
    let step =
    after_call M start list before c.each.i n (loan c.each.places c.each.session.now c.each.answers trace) lent a c.lend-answer.new.places c.lend-answer.new.session.now
    (take (length trace - n) (drop n trace)) c.lend-answer.new.trace (take n trace ++ (c.lend-answer.new.trace ++ drop (length trace - n) (drop n trace))) c.each.invariant in_list in_answers read
    (take_rest trace n) c.lend-answer.auto.trace (put_last n (length trace - n) trace c.lend-answer.new.trace refl) c.lend-answer.ensures.the_machine_makes_it c.lend-answer.ensures.leaves_spare_places in
    subst₂ (λ k l. Sofar M start list before (c.each.i + 1) (n + k) (loan c.lend-answer.new.places c.lend-answer.new.session.now l (take n trace ++ (c.lend-answer.new.trace ++ drop (length trace - n) (drop n trace)))))
    (sym c.events-events.ensures.is_the_count_of_a_run) (sym c.store.ensures.writes_the_record) step

pub returns : goal.returns
returns g c =
    let count = c.min-count.result in
    let long : length (take count c.args.calls.now) ≡ count = length-take-le count c.args.calls.now (omega (arith, c.min-count.ensures)) in
    record {
      replays = at_end _ _ c.args.calls.now _ c.each.i c.each.events count _ (omega (arith, long, c.each-test.false)) c.min-count.ensures c.each.invariant;
    }
