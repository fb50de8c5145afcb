-- One call that is lent some of the places: what it does to the machine.
use Rattle.std.proofs.Common.{◌≡◌, ℕ, ◌<◌, ◌≤◌, min, List, [], ◌++◌, length, take, drop, Result, sym, refl, ap, ◌∙◌, subst, subst₂, inl, inr, ⊎_elim, arith}
use Rattle.std.proofs.lemmas.List.{take-append-drop, take-append-le, drop-append-le, take-take, length-take}
use Rattle.std.proofs.lemmas.Bool.{cases_lt}
use Rattle.session.specs.Machine.{Model, Memory, memory}
use Rattle.session.specs.Calls.{traced}
use Rattle.session.specs.declared.places.Place.{Place}
use Rattle.session.specs.declared.places.Event.{Event}
use Rattle.session.specs.declared.answers.Refusal.{Refusal}
use Rattle.replay.specs.declared.calls.Call.{Call}
use Rattle.replay.specs.declared.calls.Call.TheVariants as call
use Rattle.replay.specs.declared.calls.Lent.{Lent}
use Rattle.replay.specs.declared.calls.Answer.{Answer}
use Rattle.replay.specs.declared.calls.Answer.TheVariants as answer
use Rattle.replay.specs.Replays.{own, Left, left, Lends, MakesCall, Made}
use Rattle.replay.proofs.Own.{asks_map, Own, spare, puts_own, steps_own, next_own, runs_own}

module _ {P C : Type 0} (M : Model P C) where
  abbrev own_left : Left P C → Left P C
  own_left x = left (Own M x.machine) x.events

  abbrev spare_left : Left P C → List (Place P C)
  spare_left x = spare M x.machine

  same : (before : Memory P C) (after : Left P C) → after ≡ left before [] → (own_left after ≡ left (Own M before) []) × (spare_left after ≡ spare M before)
  same before after e = (ap own_left e, ap spare_left e)

  lends_own : {T : Type 0} (rules rules' : Result T Refusal → Type 0) (before : Memory P C) (n k : ℕ) (after : Left P C) (f : T → Answer C) (a : Answer C) →
      (n < M.wiring.parts → k < M.wiring.parts) → (k < M.wiring.parts → n < M.wiring.parts) →
      ((r : Result T Refusal) → rules r → rules' r × (spare_left after ≡ spare M before)) →
      Lends M before n after f a rules → Lends M (Own M before) k (own_left after) f a rules' × (spare_left after ≡ spare M before)
  lends_own rules rules' before n k after f a to from go h =
      let (r, is, asked) = h in
      let g = asks_map 11 (left before []) after (left (Own M before) []) (own_left after) r to from (same before after) (go r) asked in
      ((r, is, g.0), g.1)

  -- the machine in the places makes the same call
  makes_own : (free : ℕ) (before : Memory P C) (n k : ℕ) (c : Call C) (a : Answer C) (after : Left P C) →
      (n < M.wiring.parts → k < M.wiring.parts) → (k < M.wiring.parts → n < M.wiring.parts) →
      MakesCall M free before n c a after → MakesCall M free (Own M before) k c a (own_left after) × (spare_left after ≡ spare M before)
  makes_own free before n k (call.Put m pins v) a after to from h =
      lends_own _ _ before n k after (λ _. answer.Done) a to from (λ r g. let z = puts_own M m pins v before after.machine r g.0 in ((z.0, g.1), z.1)) h
  makes_own free before n k call.Step a after to from h =
      lends_own _ _ before n k after answer.Fired a to from (λ r g. let z = steps_own M before after.machine r g.0 in ((z.0, g.1), z.1)) h
  makes_own free before n k call.Next a after to from h =
      lends_own _ _ before n k after answer.Earliest a to from (λ r g. ((next_own M before.places r g.0, ap own_left g.1), ap spare_left g.1)) h
  makes_own free before n k (call.Run horizon budget room) a after to from h =
      lends_own _ _ before n k after answer.Ran a to from
      (λ r g.
      asks_map 12 (left before []) after (left (Own M before) []) (own_left after) r (λ x. x) (λ x. x) (same before after)
      (λ x. let z = runs_own M horizon x.3 in ((x.0, x.1, x.2, z.0), z.1)) g) h

  -- too few places
  lends_few : {T : Type 0} (rules rules' : Result T Refusal → Type 0) (before other : Memory P C) (n k : ℕ) (after : Left P C) (f : T → Answer C) (a : Answer C) → n < M.wiring.parts → k < M.wiring.parts →
      Lends M before n after f a rules → (after ≡ left before []) × Lends M other k (left other []) f a rules'
  lends_few rules rules' before other n k after f a few few' (r, is, inl h) = (h.1.1, (r, is, inl (few', (h.1.0, refl))))
  lends_few rules rules' before other n k after f a few few' (r, is, inr h) = absurd (h.0 few)

  makes_few : (free : ℕ) (before other : Memory P C) (n k : ℕ) (c : Call C) (a : Answer C) (after : Left P C) → n < M.wiring.parts → k < M.wiring.parts →
      MakesCall M free before n c a after → (after ≡ left before []) × MakesCall M free other k c a (left other [])
  makes_few free before other n k (call.Put m pins v) a after few few' h = lends_few _ _ before other n k after (λ _. answer.Done) a few few' h
  makes_few free before other n k call.Step a after few few' h = lends_few _ _ before other n k after answer.Fired a few few' h
  makes_few free before other n k call.Next a after few few' h = lends_few _ _ before other n k after answer.Earliest a few few' h
  makes_few free before other n k (call.Run horizon budget room) a after few few' h = lends_few _ _ before other n k after answer.Ran a few few' h

  module _ (lent : Lent C) (places part given whole : List (Place P C)) (t u : C) (trace after : List (Event C)) (n : ℕ) (a : Answer C)
      (is : n ≡ min lent.places (length places)) (is_given : given ≡ take n places) (long : length part ≡ length given) (back : whole ≡ part ++ drop n places) (fits : M.wiring.parts ≤ length places)
      (made : Made M (record { call = lent.call; places = length given }) (traced (memory given t) trace) (traced (memory part u) after) a) where
    size : length given ≡ n
    size = ap length is_given ∙ length-take n places ∙ omega (arith, is)

    few_made : n < M.wiring.parts → Made M lent (traced (own M places t) trace) (traced (own M whole u) after) a × (drop M.wiring.parts whole ≡ drop M.wiring.parts places)
    few_made few =
        let here : length given < M.wiring.parts = omega (arith, size) in
        let there : lent.places < M.wiring.parts = omega (arith, is) in
        let z = makes_few (length trace) (memory given t) (own M places t) (length given) lent.places lent.call a (left (memory part u) made.events) here there made.makes_it in
        let w : whole ≡ places = back ∙ ap (λ l. l ++ drop n places) (ap (λ (x : Left P C). x.machine.places) z.0 ∙ is_given) ∙ take-append-drop n places in
        let e : left (own M whole u) made.events ≡ left (own M places t) [] = λ i. left (own M (w i) (z.0 i).machine.now) (z.0 i).events in (
          record {
            events = made.events;
            makes_it = subst (λ x. MakesCall M (length trace) (own M places t) lent.places lent.call a x) (sym e) z.1;
            count = made.count;
            written = made.written;
          },
          ap (drop M.wiring.parts) w,
        )

    enough_made : M.wiring.parts ≤ n → Made M lent (traced (own M places t) trace) (traced (own M whole u) after) a × (drop M.wiring.parts whole ≡ drop M.wiring.parts places)
    enough_made enough =
        let p = M.wiring.parts in
        let z =
        makes_own (length trace) (memory given t) (length given) lent.places lent.call a (left (memory part u) made.events)
        (λ x. absurd (omega (arith, x, size))) (λ x. absurd (omega (arith, x, is))) made.makes_it in
        let in_part : p ≤ length part = omega (arith, size, long) in
        let in_take : p ≤ length (take n places) = omega (arith, size, ap length is_given) in
        let b : take p given ≡ take p places = ap (take p) is_given ∙ take-take p n places enough in
        let e : take p part ≡ take p whole = sym (ap (take p) back ∙ take-append-le p part (drop n places) in_part) in (
          record {
            events = made.events;
            makes_it = subst₂ (λ x y. MakesCall M (length trace) (memory x t) lent.places lent.call a (left (memory y u) made.events)) b e z.0;
            count = made.count;
            written = made.written;
          },
          ap (drop p) back ∙ drop-append-le p part (drop n places) in_part ∙ ap (λ l. l ++ drop n places) (z.1 ∙ ap (drop p) is_given)
              ∙ sym (drop-append-le p (take n places) (drop n places) in_take) ∙ ap (drop p) (take-append-drop n places),
        )

    pub lent_made : Made M lent (traced (own M places t) trace) (traced (own M whole u) after) a × (drop M.wiring.parts whole ≡ drop M.wiring.parts places)
    lent_made = ⊎_elim few_made enough_made (cases_lt n M.wiring.parts)
