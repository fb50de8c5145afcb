use Rattle.std.proofs.Common.{◌≡◌, ℕ, ◌+◌, ◌-◌, ◌<◌, length, set, sym, ap, ◌∙◌, subst, subst₂, ⊎_elim, arith, rules}
use Rattle.std.proofs.lemmas.Bool.{cases_lt}
use Rattle.session.specs.Machine.{model, memory}
use Rattle.session.specs.Calls.{traced, Halts}
use Rattle.session.proofs.Running.{Sofar, at_start, at_halt, after_silent, after_event, event_pins}
use Rattle.session.proofs.run.firings.Goals as goal

pub firings-init : goal.firings-init
firings-init g c = at_start _ c.args.horizon c.args.budget _

pub returns-in-Err : goal.returns-in-Err
returns-in-Err g c =
    let M = model g.C.Clock.time g.P.Part.kind (g.K.Coupling.wiring c.args.coupling.now) in
    let room : length c.firings.trace - c.from.result ≡ length c.args.trace.now - c.firings.events = omega (arith, c.firings.auto.trace, c.from.ensures) in
    record {
      runs = at_halt M c.args.horizon c.args.budget _ c.firings.steps c.firings.events _ c.in-Err.stop c.firings.invariant
          (subst (λ n. Halts M c.args.horizon (c.args.budget - c.firings.steps) n c.firings.places c.in-Err.stop) room c.in-Err.ensures.decides_as_the_rules_say);
    }

-- a firing with output goes on only if a record is free
free_record : (records events room pins told : ℕ) → room ≡ records - events → 0 < pins → pins ≡ told → (room ≡ 0 → told ≡ 0) → events < records
free_record records events room pins told is_room some is_told silent =
    ⊎_elim (λ l. l) (λ l. let none : told ≡ 0 = silent (omega arith) in absurd (omega arith)) (cases_lt events records)

pub offset_bounds-trace-from : goal.offset_bounds-trace-from
offset_bounds-trace-from g c =
    let free = free_record (length c.args.trace.now) c.firings.events _ _ _ (omega (arith, c.firings.auto.trace, c.from.ensures)) c.if-event-gt0.true (ap event_pins c.fire-event.ensures.tells_the_event) c.in-Ok.ensures.decides_as_the_rules_say.1 in
    let here : c.from-then-event-gt0.result < length c.args.trace.now = omega (arith, free, c.from-then-event-gt0.ensures) in
    search rules

pub firings-preserved-then-event-gt0 : goal.firings-preserved-then-event-gt0
firings-preserved-then-event-gt0 g c =
    let M = model g.C.Clock.time g.P.Part.kind (g.K.Coupling.wiring c.args.coupling.now) in
    let decided = c.in-Ok.ensures.decides_as_the_rules_say in
    let is = c.fire-event.ensures.tells_the_event in
    let start = traced (memory c.args.places.now c.args.session.now.now) c.args.trace.now in
    let free = free_record (length c.args.trace.now) c.firings.events _ _ _ (omega (arith, c.firings.auto.trace, c.from.ensures)) c.if-event-gt0.true (ap event_pins is) decided.1 in
    subst₂ (λ l n. Sofar M c.args.horizon c.args.budget start (c.firings.steps + 1) (c.firings.events + 1) (traced (memory l c.in-Ok.due.moment) (set c.firings.trace n c.fire-event.result)))
    (sym c.fire-event.ensures.leaves_it_fired) (sym c.from-then-event-gt0.ensures)
    (after_event M c.args.horizon c.args.budget start c.firings.steps c.firings.events (traced (memory c.firings.places c.firings.session.now) c.firings.trace) _ _ c.fire-event.result c.firings.invariant
    decided.0 is c.if-event-gt0.true free)

pub firings-preserved : goal.firings-preserved
firings-preserved g c =
    let M = model g.C.Clock.time g.P.Part.kind (g.K.Coupling.wiring c.args.coupling.now) in
    let start = traced (memory c.args.places.now c.args.session.now.now) c.args.trace.now in
    let none : c.fire-event.result.pins ≡ 0 = omega (arith, c.if-event-gt0.false) in
    subst (λ l. Sofar M c.args.horizon c.args.budget start (c.firings.steps + 1) c.firings.events (traced (memory l c.in-Ok.due.moment) c.firings.trace))
    (sym c.fire-event.ensures.leaves_it_fired)
    (after_silent M c.args.horizon c.args.budget start c.firings.steps c.firings.events (traced (memory c.firings.places c.firings.session.now) c.firings.trace) _ _ c.firings.invariant
    c.in-Ok.ensures.decides_as_the_rules_say.0 (sym (ap event_pins c.fire-event.ensures.tells_the_event) ∙ none))
