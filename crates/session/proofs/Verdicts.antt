-- A run's next decision, and so its outcome, is pinned.
use Rattle.std.proofs.Common.{◌≡◌, ℕ, suc, ◌<◌, cond, eqb, List, [], ◌∷◌, ◌++◌, length, drop, Some, None, Ok, Err, Option, Result, sym, refl, ap, ◌∙◌, subst, subst₂, ⊎_elim, add-one, arith}
use Rattle.std.proofs.lemmas.List.{append-nil, append_assoc, length_push}
use Rattle.std.proofs.lemmas.Bool.{cond-true, cond-false, eq-eqb, ne_eqb, cases_eq}
use Rattle.clock.specs.Time.{Time, Laws}
use Rattle.session.specs.Machine.{Model, Memory, dues, Imminent, NoneDue, First, event_of}
use Rattle.session.specs.Calls.{Decided, Runs, halts, silent, event, Run, RunsTo, Traced, after_firing, OnlyOutcome}
use Rattle.session.specs.Scan.{sooner}
use Rattle.session.specs.declared.places.Place.{Place}
use Rattle.session.specs.declared.places.Event.{Event}
use Rattle.session.specs.declared.scan.Due.{Due}
use Rattle.session.specs.declared.answers.Refusal.{Refusal}
use Rattle.session.specs.declared.answers.Ran.{Ran}
use Rattle.session.specs.declared.answers.Stop.{Stop}
use Rattle.session.specs.declared.answers.Stop.TheVariants as stop
use Rattle.session.proofs.Imminence.{first_more, imminent_only, none_some}
use Rattle.session.proofs.Outcomes.{asks_only}

abbrev scan_from : {C : Type 0} → Time C → Option (Due C) → ℕ → List (Option C) → Option (Due C)
scan_from time best i [] = best
scan_from time best i (x ∷ xs) = scan_from time (sooner time best i x) (suc i) xs

abbrev due_at : {C : Type 0} → C → ℕ → Due C
due_at m i = record { moment = m; part = i }

module _ {C : Type 0} (time : Time C) (laws : Laws time) where
  scan_first : (pre xs : List (Option C)) (best : Option (Due C)) → First time pre best → First time (pre ++ xs) (scan_from time best (length pre) xs)
  scan_first pre [] best h = subst (λ l. First time l best) (sym (append-nil pre)) h
  scan_first pre (x ∷ xs) best h =
      subst₂ (λ l n. First time l (scan_from time (sooner time best (length pre) x) n xs)) (append_assoc pre (x ∷ []) xs) (length_push pre x ∙ add-one (length pre))
      (scan_first (pre ++ x ∷ []) xs (sooner time best (length pre) x) (first_more time laws pre best x h))

  -- some part is imminent, or none is due
  pub first_exists : (ds : List (Option C)) → (o : Option (Due C)) × First time ds o
  first_exists ds = (scan_from time None 0 ds, scan_first [] ds None (λ j. refl))

  first_some : (ds : List (Option C)) (o : Option (Due C)) (m : C) (i : ℕ) → First time ds o → Imminent time ds m i → o ≡ Some (due_at m i)
  first_some ds None m i h k = absurd (none_some m _ (h i) k.is_due)
  first_some ds (Some d) m i h k =
      let same = imminent_only time laws ds d.moment m d.part i h k in
      λ n. Some (due_at (same.0 n) (same.1 n))

  first_none : (ds : List (Option C)) (o : Option (Due C)) → First time ds o → NoneDue ds → o ≡ None
  first_none ds None h k = refl
  first_none ds (Some d) h k = absurd (none_some d.moment _ (k d.part) h.is_due)

module _ {P C : Type 0} (M : Model P C) (horizon : C) (laws : Laws M.time) where
  abbrev on_due : ℕ → List (Place P C) → Option (Due C) → Result (Due C) Stop
  on_due room places None = Err stop.NothingDue
  on_due room places (Some d) =
      cond (M.time.leq d.moment horizon)
      (cond (M.time.within d.moment)
      (cond (eqb room 0) (cond (eqb (event_of M places d.moment d.part).pins 0) (Ok d) (Err stop.TraceFull)) (Ok d))
      (Err stop.Ceiling))
      (Err stop.Horizon)

  abbrev verdict : ℕ → ℕ → List (Place P C) → Option (Due C) → Result (Due C) Stop
  verdict budget room places o = cond (eqb budget 0) (Err stop.Budget) (on_due room places o)

  some_budget : (budget room : ℕ) (places : List (Place P C)) (o : Option (Due C)) (D : Result (Due C) Stop) → 0 < budget → on_due room places o ≡ D → D ≡ verdict budget room places o
  some_budget budget room places o D h e = sym (cond-false _ _ _ (ne_eqb budget 0 (λ z. omega arith)) ∙ e)

  decided_is : (budget room : ℕ) (places : List (Place P C)) (o : Option (Due C)) (D : Result (Due C) Stop) → First M.time (dues M places) o → Decided M horizon budget room places D → D ≡ verdict budget room places o
  decided_is budget room places o (Err stop.Budget) f h = sym (cond-true _ _ _ (eq-eqb budget 0 h))
  decided_is budget room places o (Err stop.NothingDue) f h = some_budget budget room places o _ h.0 (ap (on_due room places) (first_none M.time laws _ o f h.1))
  decided_is budget room places o (Err stop.Horizon) f h =
      let (m, i, imm, late) = h.1 in
      some_budget budget room places o _ h.0 (ap (on_due room places) (first_some M.time laws _ o m i f imm) ∙ cond-false _ _ _ late)
  decided_is budget room places o (Err stop.Ceiling) f h =
      let (m, i, imm, by, late) = h.1 in
      some_budget budget room places o _ h.0 (ap (on_due room places) (first_some M.time laws _ o m i f imm) ∙ cond-true _ _ _ by ∙ cond-false _ _ _ late)
  decided_is budget room places o (Err stop.TraceFull) f h =
      let (m, i, ready, some, full) = h in
      some_budget budget room places o _ ready.some_budget
      (ap (on_due room places) (first_some M.time laws _ o m i f ready.imminent) ∙ cond-true _ _ _ ready.by_horizon ∙ cond-true _ _ _ ready.by_ceiling
      ∙ cond-true _ _ _ (eq-eqb room 0 full) ∙ cond-false _ _ _ (ne_eqb (event_of M places m i).pins 0 (λ z. omega (arith, z, some))))
  decided_is budget room places o (Ok d) f h =
      let ready = h.0 in
      some_budget budget room places o _ ready.some_budget
      (ap (on_due room places) (first_some M.time laws _ o d.moment d.part f ready.imminent) ∙ cond-true _ _ _ ready.by_horizon ∙ cond-true _ _ _ ready.by_ceiling
      ∙ ⊎_elim (λ z. cond-true _ _ _ (eq-eqb room 0 z) ∙ cond-true _ _ _ (eq-eqb (event_of M places d.moment d.part).pins 0 (h.1 z))) (λ n. cond-false _ _ _ (ne_eqb room 0 n)) (cases_eq room 0))

  pub decided_only : (budget room : ℕ) (places : List (Place P C)) (D E : Result (Due C) Stop) → Decided M horizon budget room places D → Decided M horizon budget room places E → D ≡ E
  decided_only budget room places D E h k =
      let (o, f) = first_exists M.time laws (dues M places) in
      decided_is budget room places o D f h ∙ sym (decided_is budget room places o E f k)

  -- runs after equal firings are the same
  moved : {budget room steps : ℕ} {events : List (Event C)} {why : Stop} {after : Memory P C} (before : Memory P C) (d e : Due C) → d ≡ e →
      Runs M horizon budget room (after_firing M before d.moment d.part) steps events why after → Runs M horizon budget room (after_firing M before e.moment e.part) steps events why after
  moved {budget} {room} {steps} {events} {why} {after} before d e p r = subst (λ x. Runs M horizon budget room (after_firing M before x.moment x.part) steps events why after) p r

  -- what two runs on one memory have in common: everything
  pub record Same (steps steps' : ℕ) (events events' : List (Event C)) (why why' : Stop) (after after' : Memory P C) : Type 0 where
    pub same_steps : steps' ≡ steps
    pub same_events : events' ≡ events
    pub same_reason : why' ≡ why
    pub same_memory : after' ≡ after

  pub runs_only : {budget room : ℕ} {before : Memory P C} {steps steps' : ℕ} {events events' : List (Event C)} {why why' : Stop} {after after' : Memory P C} →
      Runs M horizon budget room before steps events why after → Runs M horizon budget room before steps' events' why' after' → Same steps steps' events events' why why' after after'
  runs_only {budget} {room} {before} (halts {why = v} h) (halts {why = w} k) =
      record { same_steps = refl; same_events = refl; same_reason = cc (decided_only budget room before.places (Err w) (Err v) k h); same_memory = refl }
  runs_only {budget} {room} {before} (halts {why = v} h) (silent m i ready none r) =
      absurd (cc (decided_only budget room before.places (Err v) (Ok (due_at m i)) h (ready, λ z. none)))
  runs_only {budget} {room} {before} (halts {why = v} h) (event m i ready some free r) =
      absurd (cc (decided_only budget room before.places (Err v) (Ok (due_at m i)) h (ready, λ z. absurd (omega (arith, z, free)))))
  runs_only {budget} {room} {before} (silent m i ready none r) (halts {why = v} h) =
      absurd (cc (decided_only budget room before.places (Err v) (Ok (due_at m i)) h (ready, λ z. none)))
  runs_only {budget} {room} {before} (event m i ready some free r) (halts {why = v} h) =
      absurd (cc (decided_only budget room before.places (Err v) (Ok (due_at m i)) h (ready, λ z. absurd (omega (arith, z, free)))))
  runs_only {budget} {room} {before} (silent m i ready none r) (silent n j ready' none' r') =
      let d : due_at n j ≡ due_at m i = cc (decided_only budget room before.places (Ok (due_at n j)) (Ok (due_at m i)) (ready', λ z. none') (ready, λ z. none)) in
      let rest = runs_only r (moved before (due_at n j) (due_at m i) d r') in
      record { same_steps = ap suc rest.same_steps; same_events = rest.same_events; same_reason = rest.same_reason; same_memory = rest.same_memory }
  runs_only {budget} {room} {before} (silent m i ready none r) (event n j ready' some free r') =
      let d : due_at n j ≡ due_at m i = cc (decided_only budget room before.places (Ok (due_at n j)) (Ok (due_at m i)) (ready', λ z. absurd (omega (arith, z, free))) (ready, λ z. none)) in
      absurd (omega (arith, none, subst (λ x. 0 < (event_of M before.places x.moment x.part).pins) d some))
  runs_only {budget} {room} {before} (event m i ready some free r) (silent n j ready' none r') =
      let d : due_at n j ≡ due_at m i = cc (decided_only budget room before.places (Ok (due_at n j)) (Ok (due_at m i)) (ready', λ z. none) (ready, λ z. absurd (omega (arith, z, free)))) in
      absurd (omega (arith, some, subst (λ x. (event_of M before.places x.moment x.part).pins ≡ 0) d none))
  runs_only {budget} {room} {before} (event m i ready some free r) (event n j ready' some' free' r') =
      let d : due_at n j ≡ due_at m i = cc (decided_only budget room before.places (Ok (due_at n j)) (Ok (due_at m i)) (ready', λ z. absurd (omega (arith, z, free))) (ready, λ z. absurd (omega (arith, z, free)))) in
      let rest = runs_only r (moved before (due_at n j) (due_at m i) d r') in
      record {
        same_steps = ap suc rest.same_steps;
        same_events = λ n. event_of M before.places (d n).moment (d n).part ∷ rest.same_events n;
        same_reason = rest.same_reason;
        same_memory = rest.same_memory;
      }

  run_only : (budget : ℕ) (before after other : Traced P C) (k l : Ran) → Run M horizon budget before after k → Run M horizon budget before other l → (other ≡ after) × (l ≡ k)
  run_only budget before after other k l h g =
      let same = runs_only h.runs g.runs in
      let count : l.events ≡ k.events = g.count ∙ ap length same.same_events ∙ sym h.count in
      let trace : other.trace ≡ after.trace = g.written ∙ ap (λ e. e ++ drop (length e) before.trace) same.same_events ∙ sym h.written in
      ((λ n. record { memory = same.same_memory n; trace = trace n }), (λ n. record { steps = same.same_steps n; events = count n; stop = same.same_reason n }))

  pub runsto_only : (budget : ℕ) (before after : Traced P C) (r : Result Ran Refusal) → RunsTo M horizon budget before after r → OnlyOutcome (RunsTo M horizon budget before) after r
  runsto_only budget before after r h other q k =
      asks_only 11 after other r q h k (λ a b. asks_only 12 after other r q a b (λ a b.
      let same = run_only budget before after other a.0 b.0 a.2 b.2 in
      (same.0, b.1 ∙ ap Ok same.1 ∙ sym a.1)))
