-- A run, one firing after another.
use Rattle.std.proofs.Common.{◌≡◌, ℕ, suc, ◌+◌, ◌-◌, ◌<◌, ◌≤◌, List, [], ◌∷◌, ◌++◌, length, get_or, take, drop, set, sym, refl, ap, ◌∙◌, subst, subst₂, add-zero, arith}
use Rattle.std.proofs.lemmas.List.{append-nil, append_assoc, length_push, drop_more, set_at, get_or-append_right, get_or-drop, length-map, length-take}
use Rattle.session.specs.Machine.{Model, Memory, event_of, due, dues}
use Rattle.session.specs.Calls.{Ready, Halts, Runs, halts, silent, event, Run, Traced, traced, after_firing}
use Rattle.session.proofs.Imminence.{due_inside}
use Rattle.session.specs.declared.places.Place.{Place}
use Rattle.session.specs.declared.places.Event.{Event}
use Rattle.session.specs.declared.answers.Stop.{Stop}
use Rattle.session.specs.declared.answers.Ran.{Ran}

abbrev pub event_pins : {C : Type 0} → Event C → ℕ
event_pins e = e.pins

module _ {P C : Type 0} (M : Model P C) (horizon : C) where
  -- so many steps and events into a run, memory is `mem` and the trace `trace`: whatever run goes on from here is one from the start
  pub record Sofar (budget : ℕ) (start : Traced P C) (steps events : ℕ) (here : Traced P C) : Type 0 where
    pub told : List (Event C)
    pub count : events ≡ length told
    pub written : here.trace ≡ told ++ drop events start.trace
    pub in_budget : steps ≤ budget
    pub few : events ≤ steps
    pub in_trace : events ≤ length start.trace
    pub goes_on : (k : ℕ) (rest : List (Event C)) (why : Stop) (after : Memory P C) →
        Runs M horizon (budget - steps) (length start.trace - events) here.memory k rest why after →
        Runs M horizon budget (length start.trace) start.memory (steps + k) (told ++ rest) why after

  pub at_start : (budget : ℕ) (start : Traced P C) → Sofar budget start 0 0 start
  at_start budget start = record {
    told = [];
    count = refl;
    written = refl;
    in_budget = omega arith;
    few = omega arith;
    in_trace = omega arith;
    goes_on = λ k rest why after r.
        let b : budget - 0 ≡ budget = omega arith in
        let f : length start.trace - 0 ≡ length start.trace = omega arith in
        let s : k ≡ 0 + k = omega arith in
        subst (λ n. Runs M horizon budget (length start.trace) start.memory n rest why after) s
        (subst₂ (λ x y. Runs M horizon x y start.memory k rest why after) b f r);
  }

  pub after_silent : (budget : ℕ) (start : Traced P C) (steps events : ℕ) (here : Traced P C) (m : C) (i : ℕ) → Sofar budget start steps events here →
      Ready M horizon (budget - steps) here.memory.places m i → (event_of M here.memory.places m i).pins ≡ 0 →
      Sofar budget start (steps + 1) events (traced (after_firing M here.memory m i) here.trace)
  after_silent budget start steps events here m i h ready none = record {
    told = h.told;
    count = h.count;
    written = h.written;
    in_budget = omega (arith, ready.some_budget, h.in_budget);
    few = omega (arith, h.few);
    in_trace = h.in_trace;
    goes_on = λ k rest why after r.
        let b : budget - (steps + 1) ≡ (budget - steps) - 1 = omega arith in
        let s : steps + suc k ≡ (steps + 1) + k = omega arith in
        subst (λ n. Runs M horizon budget (length start.trace) start.memory n (h.told ++ rest) why after) s
        (h.goes_on (suc k) rest why after (silent m i ready none (subst (λ x. Runs M horizon x (length start.trace - events) (after_firing M here.memory m i) k rest why after) b r)));
  }

  pub after_event : (budget : ℕ) (start : Traced P C) (steps events : ℕ) (here : Traced P C) (m : C) (i : ℕ) (e : Event C) → Sofar budget start steps events here →
      Ready M horizon (budget - steps) here.memory.places m i → e ≡ event_of M here.memory.places m i → 0 < e.pins → events < length start.trace →
      Sofar budget start (steps + 1) (events + 1) (traced (after_firing M here.memory m i) (set here.trace events e))
  after_event budget start steps events here m i e h ready is some free = record {
    told = h.told ++ e ∷ [];
    count = ap (λ n. n + 1) h.count ∙ sym (length_push h.told e);
    written =
        ap (λ l. set l events e) (h.written ∙ ap (λ l. h.told ++ l) (drop_more start.trace events e free))
        ∙ set_at h.told _ (drop (events + 1) start.trace) e events (sym h.count)
        ∙ sym (append_assoc h.told (e ∷ []) (drop (events + 1) start.trace));
    in_budget = omega (arith, ready.some_budget, h.in_budget);
    few = omega (arith, h.few);
    in_trace = omega arith;
    goes_on = λ k rest why after r.
        let b : budget - (steps + 1) ≡ (budget - steps) - 1 = omega arith in
        let f : length start.trace - (events + 1) ≡ (length start.trace - events) - 1 = omega arith in
        let s : steps + suc k ≡ (steps + 1) + k = omega arith in
        let room : 0 < length start.trace - events = omega arith in
        let next = event m i ready (subst (λ x. 0 < x.pins) is some) room (subst₂ (λ x y. Runs M horizon x y (after_firing M here.memory m i) k rest why after) b f r) in
        subst₂ (λ n l. Runs M horizon budget (length start.trace) start.memory n l why after) s
        (ap (λ x. h.told ++ x ∷ rest) (sym is) ∙ sym (append_assoc h.told (e ∷ []) rest))
        (h.goes_on (suc k) (event_of M here.memory.places m i ∷ rest) why after next);
  }

  pub at_halt : (budget : ℕ) (start : Traced P C) (steps events : ℕ) (here : Traced P C) (why : Stop) → Sofar budget start steps events here →
      Halts M horizon (budget - steps) (length start.trace - events) here.memory.places why →
      Run M horizon budget start here (record { steps = steps; events = events; stop = why })
  at_halt budget start steps events here why h stops = record {
    events = h.told;
    runs =
        subst₂ (λ n l. Runs M horizon budget (length start.trace) start.memory n l why here.memory) (add-zero steps) (append-nil h.told)
        (h.goes_on 0 [] why here.memory (halts stops));
    count = h.count;
    written = h.written ∙ ap (λ n. h.told ++ drop n start.trace) h.count;
  }

  -- later records are as they were
  pub later_kept : (budget : ℕ) (before after : Traced P C) (k : Ran) → Run M horizon budget before after k → (j : ℕ) (d : Event C) → k.events ≤ j → get_or after.trace j d ≡ get_or before.trace j d
  later_kept budget before after k h j d l =
      let n = length h.events in
      let le : n ≤ j = omega (arith, h.count, l) in
      let back : n + (j - n) ≡ j = omega arith in
      ap (λ x. get_or x j d) h.written ∙ get_or-append_right h.events (drop n before.trace) n j d refl le ∙ get_or-drop n before.trace (j - n) d ∙ ap (λ x. get_or before.trace x d) back

  pub ready_inside : (budget : ℕ) (places : List (Place P C)) (m : C) (i : ℕ) → Ready M horizon budget places m i → i < M.wiring.parts
  ready_inside budget places m i h =
      let f = due M.time M.kind in
      let n = M.wiring.parts in
      omega (arith, due_inside (dues M places) i m h.imminent.is_due, length-map (take n places) f, length-take n places)
