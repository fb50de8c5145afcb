-- A call reads and changes the places of the parts alone.
use Rattle.std.proofs.Common.{◌≡◌, ℕ, zero, suc, ◌-◌, ◌<◌, ◌⊎◌, List, [], ◌∷◌, take, drop, Some, None, Ok, Option, Result, sym, refl, ap, ◌∙◌, subst, inl, inr, le_of_suc-le-suc, not-suc-le-zero, arith}
use Rattle.std.proofs.lemmas.List.{length-take, length-map}
use Rattle.clock.specs.Time.{Time}
use Rattle.part.specs.Kind.{Kind}
use Rattle.part.specs.declared.part.Output.{Output}
use Rattle.coupling.specs.Wiring.{reached}
use Rattle.coupling.specs.declared.coupling.Source.{Source}
use Rattle.coupling.specs.declared.coupling.Source.TheVariants as source
use Rattle.session.specs.Machine.{Model, Memory, memory, due, dues, Imminent, NoneDue, given, delivered, deliver, changed_at, output_of, fired}
use Rattle.session.specs.Calls as calls
use Rattle.session.specs.Calls.{Asks, Few, DueBefore, Puts, Steps, Ready, Halts, Runs, halts, silent, event, told, after_firing}
use Rattle.session.specs.declared.places.Place.{Place}
use Rattle.session.specs.declared.places.Event.{Event}
use Rattle.session.specs.declared.answers.Refusal.{Refusal}
use Rattle.session.specs.declared.answers.Firing.{Firing}
use Rattle.session.specs.declared.answers.Stop.{Stop}
use Rattle.session.proofs.Imminence.{due_inside}
use Rattle.session.proofs.Running.{ready_inside}
use Rattle.replay.specs.Replays.{own}
use Rattle.replay.proofs.Alike.{dues_own, output_own, event_own, ready_same, halts_same}

-- a question asked of another memory
pub asks_map : {T S U : Type 0} {bad bad' on off Z : Type 0} (n : ℕ) (before after : S) (before' after' : U) (r : Result T Refusal) →
    (bad → bad') → (bad' → bad) → (after ≡ before → (after' ≡ before') × Z) → (on → off × Z) → Asks bad n before after r on → Asks bad' n before' after' r off × Z
asks_map n before after before' after' r to from same go (inl a) = let s = same a.1.1 in (inl (to a.0, (a.1.0, s.0)), s.1)
asks_map n before after before' after' r to from same go (inr a) = let k = go a.1 in (inr ((λ x. a.0 (from x)), k.0), k.1)

pub take_changed : {X : Type 0} (n i : ℕ) (f : X → X) (xs : List X) → take n (changed_at i f xs) ≡ changed_at i f (take n xs)
take_changed zero i f [] = refl
take_changed zero zero f (x ∷ xs) = refl
take_changed zero (suc i) f (x ∷ xs) = refl
take_changed (suc n) i f [] = refl
take_changed (suc n) zero f (x ∷ xs) = refl
take_changed (suc n) (suc i) f (x ∷ xs) = ap (λ l. x ∷ l) (take_changed n i f xs)

pub drop_changed : {X : Type 0} (n i : ℕ) (f : X → X) (xs : List X) → i < n → drop n (changed_at i f xs) ≡ drop n xs
drop_changed zero i f xs h = absurd (not-suc-le-zero h)
drop_changed (suc n) i f [] h = refl
drop_changed (suc n) zero f (x ∷ xs) h = refl
drop_changed (suc n) (suc i) f (x ∷ xs) h = drop_changed n i f xs (le_of_suc-le-suc h)

module _ {P C : Type 0} (time : Time C) (kind : Kind C P) (m : C) (v : ℕ) where
  pub take_delivered : (n : ℕ) (sets : ℕ → ℕ) (xs : List (Place P C)) → take n (delivered time kind m v n sets xs) ≡ delivered time kind m v n sets (take n xs)
  take_delivered zero sets xs = refl
  take_delivered (suc n) sets [] = refl
  take_delivered (suc n) sets (x ∷ xs) = ap (λ l. given time kind m (sets 0) v x ∷ l) (take_delivered n (λ i. sets (suc i)) xs)

  pub drop_delivered : (n : ℕ) (sets : ℕ → ℕ) (xs : List (Place P C)) → drop n (delivered time kind m v n sets xs) ≡ drop n xs
  drop_delivered zero sets xs = refl
  drop_delivered (suc n) sets [] = refl
  drop_delivered (suc n) sets (x ∷ xs) = drop_delivered n (λ i. sets (suc i)) xs

module _ {P C : Type 0} (M : Model P C) where
  -- the machine in a memory, and the places after those of the parts
  abbrev pub Own : Memory P C → Memory P C
  Own before = own M before.places before.now

  abbrev pub spare : Memory P C → List (Place P C)
  spare before = drop M.wiring.parts before.places

  pub deliver_own : (m : C) (s : Source) (pins v : ℕ) (xs : List (Place P C)) → take M.wiring.parts (deliver M m s pins v xs) ≡ deliver M m s pins v (take M.wiring.parts xs)
  deliver_own m s pins v xs = take_delivered M.time M.kind m v M.wiring.parts (reached M.wiring s pins) xs

  pub deliver_spare : (m : C) (s : Source) (pins v : ℕ) (xs : List (Place P C)) → drop M.wiring.parts (deliver M m s pins v xs) ≡ drop M.wiring.parts xs
  deliver_spare m s pins v xs = drop_delivered M.time M.kind m v M.wiring.parts (reached M.wiring s pins) xs

  fired_own : (xs : List (Place P C)) (m : C) (i : ℕ) → i < M.wiring.parts → take M.wiring.parts (fired M xs m i) ≡ fired M (take M.wiring.parts xs) m i
  fired_own xs m i h =
      let f : Place P C → Place P C = λ p. record { part = M.kind.internal p.part; last = m } in
      let o = output_of M xs i in
      deliver_own m (source.Part i) o.pins o.value (changed_at i f xs)
      ∙ ap (deliver M m (source.Part i) o.pins o.value) (take_changed M.wiring.parts i f xs)
      ∙ ap (λ (o : Output). deliver M m (source.Part i) o.pins o.value (changed_at i f (take M.wiring.parts xs))) (output_own M xs i h)

  fired_spare : (xs : List (Place P C)) (m : C) (i : ℕ) → i < M.wiring.parts → drop M.wiring.parts (fired M xs m i) ≡ drop M.wiring.parts xs
  fired_spare xs m i h =
      let f : Place P C → Place P C = λ p. record { part = M.kind.internal p.part; last = m } in
      let o = output_of M xs i in
      deliver_spare m (source.Part i) o.pins o.value (changed_at i f xs) ∙ drop_changed M.wiring.parts i f xs h

  firing_own : (before : Memory P C) (m : C) (i : ℕ) → i < M.wiring.parts → Own (after_firing M before m i) ≡ after_firing M (Own before) m i
  firing_own before m i h = ap (λ l. memory l m) (fired_own before.places m i h)

  few_to : (xs : List (Place P C)) → Few M.wiring xs → Few M.wiring (take M.wiring.parts xs)
  few_to xs h = omega (arith, length-take M.wiring.parts xs)

  few_from : (xs : List (Place P C)) → Few M.wiring (take M.wiring.parts xs) → Few M.wiring xs
  few_from xs h = omega (arith, length-take M.wiring.parts xs)

  abbrev Kept : Memory P C → Memory P C → Type 0
  Kept before after = spare after ≡ spare before

  same : (before after : Memory P C) → after ≡ before → (Own after ≡ Own before) × Kept before after
  same before after e = (ap Own e, ap spare e)

  imminent_inside : (xs : List (Place P C)) (m : C) (i : ℕ) → Imminent M.time (dues M xs) m i → i < M.wiring.parts
  imminent_inside xs m i h =
      omega (arith, due_inside (dues M xs) i m h.is_due, length-map (take M.wiring.parts xs) (due M.time M.kind), length-take M.wiring.parts xs)

  pub puts_own : (m : C) (pins v : ℕ) (before after : Memory P C) (r : Result Unit Refusal) → Puts M m pins v before after r →
      Puts M m pins v (Own before) (Own after) r × Kept before after
  puts_own m pins v before after r h =
      let xs = before.places in
      let s = same before after in
      let B = Own before in
      let A = Own after in
      let late : List (Option C) → Type 0 = λ ds. DueBefore M.time ds m in
      asks_map 11 before after B A r (few_to xs) (few_from xs) s
      (asks_map 12 before after B A r (λ x. x) (λ x. x) s
      (asks_map 13 before after B A r (λ x. x) (λ x. x) s
      (asks_map 14 before after B A r (λ x. x) (λ x. x) s
      (asks_map 15 before after B A r (subst late (dues_own M xs)) (subst late (sym (dues_own M xs))) s
      (λ k. (
        (k.0, ap Own k.1 ∙ ap (λ l. memory l m) (deliver_own m source.Board pins v xs)),
        ap spare k.1 ∙ deliver_spare m source.Board pins v xs,
      )))))) h

  pub steps_own : (before after : Memory P C) (r : Result (Firing C) Refusal) → Steps M before after r → Steps M (Own before) (Own after) r × Kept before after
  steps_own before after r h =
      let xs = before.places in
      let s = same before after in
      let B = Own before in
      let A = Own after in
      asks_map 11 before after B A r (few_to xs) (few_from xs) s
      (asks_map 16 before after B A r (subst NoneDue (dues_own M xs)) (subst NoneDue (sym (dues_own M xs))) s
      (λ k.
      let (m, i, imm, on) = k in
      let inside = imminent_inside xs m i imm in
      let on' =
      asks_map 17 before after B A r (λ x. x) (λ x. x) s
      (λ l. (
        (l.0 ∙ ap (λ e. Ok (told e)) (event_own M xs m i inside), ap Own l.1 ∙ firing_own before m i inside),
        ap spare l.1 ∙ fired_spare xs m i inside,
      )) on in
      ((m, i, subst (λ ds. Imminent M.time ds m i) (dues_own M xs) imm, on'.0), on'.1))) h

  pub next_own : (xs : List (Place P C)) (r : Result (Option C) Refusal) → calls.Next M xs r → calls.Next M (take M.wiring.parts xs) r
  next_own xs r h =
      (asks_map {Z = Unit {0}} 11 (tt {0}) (tt {0}) (tt {0}) (tt {0}) r (few_to xs) (few_from xs) (λ e. (e, tt)) (λ k. (subst Rule (dues_own M xs) k, tt)) h).0
    where
      Rule : List (Option C) → Type 0
      Rule ds = (NoneDue ds × (r ≡ Ok None)) ⊎ ((m : C) × (i : ℕ) × Imminent M.time ds m i × (r ≡ Ok (Some m)))

  module _ (horizon : C) where
    pub runs_own : {budget room steps : ℕ} {events : List (Event C)} {why : Stop} {before after : Memory P C} →
        Runs M horizon budget room before steps events why after → Runs M horizon budget room (Own before) steps events why (Own after) × Kept before after
    runs_own {budget} {room} {before = before} (halts {why = w} h) = (halts (halts_same M horizon before.places (take M.wiring.parts before.places) (dues_own M before.places) (event_own M before.places) budget room w h), refl)
    runs_own {budget} {room} {before = before} {after} (silent {steps = n} {events = es} {why = w} m i ready none r) =
        let xs = before.places in
        let inside = ready_inside M horizon budget xs m i ready in
        let rest = runs_own r in (
          silent m i (ready_same M horizon xs (take M.wiring.parts xs) (dues_own M xs) (event_own M xs) budget m i ready) (subst (λ e. e.pins ≡ 0) (event_own M xs m i inside) none)
              (subst (λ x. Runs M horizon (budget - 1) room x n es w (Own after)) (firing_own before m i inside) rest.0),
          rest.1 ∙ fired_spare xs m i inside,
        )
    runs_own {budget} {room} {before = before} {after} (event {steps = n} {events = es} {why = w} m i ready some free r) =
        let xs = before.places in
        let inside = ready_inside M horizon budget xs m i ready in
        let rest = runs_own r in (
          subst (λ e. Runs M horizon budget room (Own before) (suc n) (e ∷ es) w (Own after)) (sym (event_own M xs m i inside))
              (event m i (ready_same M horizon xs (take M.wiring.parts xs) (dues_own M xs) (event_own M xs) budget m i ready) (subst (λ e. 0 < e.pins) (event_own M xs m i inside) some) free
              (subst (λ x. Runs M horizon (budget - 1) (room - 1) x n es w (Own after)) (firing_own before m i inside) rest.0)),
          rest.1 ∙ fired_spare xs m i inside,
        )
