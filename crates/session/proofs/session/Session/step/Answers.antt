use Rattle.std.proofs.Common.{map, take, sym, refl, ap, ◌∙◌, subst, arith}
use Rattle.session.specs.Machine.{model, memory, due, dues, First, Imminent}
use Rattle.session.specs.Calls.{Few, told}
use Rattle.session.proofs.Accepted.{step_late, step_done, fired_alone}
use Rattle.session.proofs.Outcomes.{steps_only}
use Rattle.session.proofs.session.Session.step.Goals as goal

pub returns-then-not-within_ceiling : goal.returns-then-not-within_ceiling
returns-then-not-within_ceiling g c =
    let M = model g.C.Clock.time g.P.Part.kind (g.K.Coupling.wiring c.args.coupling.now) in
    let places = c.args.places.now in
    let before = memory places c.args.self.now.now in
    let few : Few M.wiring places → ⊥ = λ f. omega (arith, f, c.parts-parts.ensures.is_the_count) in
    let found : Imminent M.time (dues M places) c.in_ok-due.due.moment c.in_ok-due.due.part =
    subst (λ n. Imminent M.time (map (due M.time M.kind) (take n places)) c.in_ok-due.due.moment c.in_ok-due.due.part) c.parts-parts.ensures.is_the_count
    (subst (First M.time (map (due M.time M.kind) (take c.parts-parts.result places))) c.in_ok-due.ensures.ok_part c.imminent.ensures.is_imminent) in
    let h = step_late M before _ _ few found (sym c.if-not-within_ceiling.ensures.is_the_ceiling_test) in
    record { fires_the_imminent_part = h; refusal_leaves_memory = refl; changes_only_what_fires_or_is_reached = refl; has_one_outcome = steps_only M g.met.C.Clock.lawful before _ _ h }

pub returns : goal.returns
returns g c =
    let M = model g.C.Clock.time g.P.Part.kind (g.K.Coupling.wiring c.args.coupling.now) in
    let places = c.args.places.now in
    let before = memory places c.args.self.now.now in
    let few : Few M.wiring places → ⊥ = λ f. omega (arith, f, c.parts-parts.ensures.is_the_count) in
    let found : Imminent M.time (dues M places) c.in_ok-due.due.moment c.in_ok-due.due.part =
    subst (λ n. Imminent M.time (map (due M.time M.kind) (take n places)) c.in_ok-due.due.moment c.in_ok-due.due.part) c.parts-parts.ensures.is_the_count
    (subst (First M.time (map (due M.time M.kind) (take c.parts-parts.result places))) c.in_ok-due.ensures.ok_part c.imminent.ensures.is_imminent) in
    let e = c.fire.ensures.leaves_it_fired in
    let h = step_done M before (memory c.fire.new.places c.in_ok-due.due.moment) _ _ _ few found (sym c.if-not-within_ceiling.ensures.is_the_ceiling_test) (c.from.ensures ∙ ap told c.fire.ensures.tells_the_event) (ap (λ l. memory l c.in_ok-due.due.moment) e) in
    record { fires_the_imminent_part = h; refusal_leaves_memory = tt; changes_only_what_fires_or_is_reached = fired_alone M places _ _ _ (omega arith) found e; has_one_outcome = steps_only M g.met.C.Clock.lawful before _ _ h }
