use Rattle.std.proofs.Common.{◌≡◌, ◌^◌, ◌≤◌, ◌⊎◌, ◌++◌, map, take, drop, Ok, sym, ap, subst, arith}
use Rattle.session.specs.Machine.{model, memory, due, deliver}
use Rattle.coupling.specs.declared.coupling.Source.TheVariants.{Board}
use Rattle.session.specs.Calls.{Puts, Few, DueBefore}
use Rattle.session.proofs.Accepted.{put_done, deliver_reaches}
use Rattle.session.proofs.Firings.{deliver_part}
use Rattle.session.proofs.Outcomes.{puts_only}
use Rattle.session.proofs.session.Session.put.Goals as goal

pub returns : goal.returns
returns g c =
    let M = model g.C.Clock.time g.P.Part.kind (g.K.Coupling.wiring c.args.coupling.now) in
    let places = c.args.places.now in
    let before = memory places c.args.self.now.now in
    let few : Few M.wiring places → ⊥ = λ f. omega (arith, f, c.parts-parts.ensures.is_the_count) in
    let e : c.deliver.new.places ++ drop c.parts-parts.result places ≡ deliver M c.args.moment Board c.args.pins c.args.value places =
    deliver_part M c.args.moment c.args.value Board c.args.pins c.reach-row.result c.parts-parts.result places c.deliver.new.places c.parts-parts.ensures.is_the_count (omega arith) c.reach-row.ensures.is_the_union_of_the_rows c.deliver.ensures.gives_each_its_set in
    let h : Puts M c.args.moment c.args.pins c.args.value before (memory (c.deliver.new.places ++ drop c.parts-parts.result places) c.args.moment) (Ok tt) =
    put_done M c.args.moment c.args.pins c.args.value before _ few (sym c.if-not-within_ceiling.ensures.is_the_ceiling_test)
    (subst (λ k. (c.args.pins ≡ 0) ⊎ (2 ^ k ≤ c.args.pins) → ⊥) c.inputs.ensures.is_the_count c.if-not-good_pins.ensures.value)
    (sym c.if-not-not_after.ensures.is_the_order)
    (subst (λ n. DueBefore M.time (map (due M.time M.kind) (take n places)) c.args.moment → ⊥) c.parts-parts.ensures.is_the_count c.if-due_before.ensures.value)
    (ap (λ l. memory l c.args.moment) e) in
    record {
      delivers_the_input = h;
      refusal_leaves_memory = tt;
      changes_exactly_what_is_reached = deliver_reaches M c.args.moment Board c.args.pins c.args.value places _ (omega arith) e;
      has_one_outcome = puts_only M c.args.moment c.args.pins c.args.value before _ _ h;
    }
