-- What makes up an accepted call, and what follows from one.
use Rattle.std.proofs.Common.{◌≡◌, ℕ, ◌+◌, ◌<◌, ◌≤◌, true, false, List, [], ◌∷◌, ◌++◌, map, length, get_or, take, drop, set, Ok, Err, Some, None, Option, sym, refl, ap, ◌∙◌, subst, inl, inr, ⊎_elim, arith}
use Rattle.std.proofs.lemmas.List.{map_more, length-map, length-take-le, set_at, append_assoc, drop_more}
use Rattle.std.proofs.lemmas.Bool.{both_ways, cond-true, cond-false, eq-eqb, ne_eqb, cases_lt}
use Rattle.std.proofs.Math.Nat.{sub-zero}
use Rattle.std.specs.Option.{option_map}
use Rattle.std.specs.Slice.{IsGetRangeResult}
use denote.Ref.{Bor}
use Rattle.coupling.specs.Wiring.{reached}
use Rattle.coupling.specs.declared.coupling.Source.{Source}
use Rattle.coupling.specs.declared.coupling.Source.TheVariants as source
use Rattle.session.specs.Machine.{Model, Memory, dues, Imminent, NoneDue, First, event_of, deliver, fired, output_of, changed_at}
use Rattle.session.specs.Calls.{Few, BadPins, DueBefore, Next, Puts, Steps, Reached, FiredAlone, told, after_firing}
use Rattle.session.specs.declared.places.Place.{Place}
use Rattle.session.specs.declared.scan.Due.{Due}
use Rattle.session.specs.declared.answers.Refusal.{Refusal}
use Rattle.session.specs.declared.answers.Firing.{Firing}
use Rattle.session.proofs.Deliveries.{delivered_at, delivered_after}
use Rattle.session.proofs.Firings.{changed_at_other, changed_at_length}
use Rattle.session.proofs.Imminence.{none_some}

-- the first n of a list, where it has so many
pub part_got : {X : Type 0} (xs : List X) (n : ℕ) (r : Option (Bor (List X))) (x : Bor (List X)) → IsGetRangeResult xs 0 n r → r ≡ Some x → (x.now ≡ take n xs) × (n ≤ length xs)
part_got xs n None x h e = absurd cc
part_got xs n (Some y) x h e = let same : y ≡ x = cc in (sym (ap (λ z. z.now) same) ∙ h.0.2 ∙ ap (λ k. take k xs) (sub-zero n), h.0.1)

-- a place more is opened
pub start_more : {P X : Type 0} (f : P → X) (starts : List P) (places now : List X) (i : ℕ) (p : P) → i < length starts → i < length places → p ≡ get_or starts i p →
    now ≡ map f (take i starts) ++ drop i places → set now i (f p) ≡ map f (take (i + 1) starts) ++ drop (i + 1) places
start_more f starts [] now i p h l read e = absurd (omega arith)
start_more f starts (q ∷ places) now i p h l read e =
    let long : length (map f (take i starts)) ≡ i = length-map (take i starts) f ∙ length-take-le i starts (omega arith) in
    ap (λ l. set l i (f p)) (e ∙ ap (λ l. map f (take i starts) ++ l) (drop_more (q ∷ places) i q l))
    ∙ set_at (map f (take i starts)) _ (drop (i + 1) (q ∷ places)) (f p) i long
    ∙ sym (append_assoc (map f (take i starts)) (f p ∷ []) (drop (i + 1) (q ∷ places)))
    ∙ ap (λ l. l ++ drop (i + 1) (q ∷ places)) (ap (λ x. map f (take i starts) ++ f x ∷ []) read ∙ sym (map_more f starts i p h))

module _ {P C : Type 0} (M : Model P C) where
  pub put_done : (m : C) (pins v : ℕ) (before after : Memory P C) → (Few M.wiring before.places → ⊥) → M.time.within m ≡ true → (BadPins M.wiring pins → ⊥) →
      M.time.leq before.now m ≡ true → (DueBefore M.time (dues M before.places) m → ⊥) →
      after ≡ record { places = deliver M m source.Board pins v before.places; now = m } → Puts M m pins v before after (Ok tt)
  put_done m pins v before after few within bad past due e =
      inr (few, inr ((λ f. both_ways _ f within), inr (bad, inr ((λ f. both_ways _ f past), inr (due, (refl, e))))))

  pub next_done : (places : List (Place P C)) (o : Option (Due C)) (r : Option C) → (Few M.wiring places → ⊥) → First M.time (dues M places) o → r ≡ option_map (λ d. d.moment) o → Next M places (Ok r)
  next_done places None r few f is = inr (few, inl (f, ap Ok is))
  next_done places (Some d) r few f is = inr (few, inr (d.moment, d.part, f, ap Ok is))

  some_due : (ds : List (Option C)) (m : C) (i : ℕ) → Imminent M.time ds m i → NoneDue ds → ⊥
  some_due ds m i h none = none_some m _ (none i) h.is_due

  pub step_late : (before : Memory P C) (m : C) (i : ℕ) → (Few M.wiring before.places → ⊥) → Imminent M.time (dues M before.places) m i → M.time.within m ≡ false →
      Steps M before before (Err Rattle.session.specs.declared.answers.Refusal.TheVariants.DueBeyondCeiling)
  step_late before m i few h late = inr (few, inr (some_due _ m i h, (m, i, h, inl (late, (refl, refl)))))

  pub step_done : (before after : Memory P C) (m : C) (i : ℕ) (r : Firing C) → (Few M.wiring before.places → ⊥) → Imminent M.time (dues M before.places) m i → M.time.within m ≡ true →
      r ≡ told (event_of M before.places m i) → after ≡ after_firing M before m i → Steps M before after (Ok r)
  step_done before after m i r few h within e f = inr (few, inr (some_due _ m i h, (m, i, h, inr ((λ b. both_ways _ b within), (ap Ok e, f)))))

  pub deliver_reaches : (m : C) (s : Source) (pins v : ℕ) (before after : List (Place P C)) → M.wiring.parts ≤ length before → after ≡ deliver M m s pins v before → Reached M m s pins v before after
  deliver_reaches m s pins v before after fits e = record {
    takes_input = λ j d l r.
        ap (λ x. get_or x j d) e ∙ delivered_at M.time M.kind m v M.wiring.parts (reached M.wiring s pins) before j d l (omega arith)
        ∙ cond-false _ _ _ (ne_eqb (reached M.wiring s pins j) 0 (λ z. omega (arith, z)));
    others_stay = λ j d no_input. ap (λ x. get_or x j d) e ∙ others j d no_input;
  }
    where
      others : (j : ℕ) (d : Place P C) → (j < M.wiring.parts → 0 < reached M.wiring s pins j → ⊥) → get_or (deliver M m s pins v before) j d ≡ get_or before j d
      others j d no_input =
          ⊎_elim
          (λ l. delivered_at M.time M.kind m v M.wiring.parts (reached M.wiring s pins) before j d l (omega arith)
          ∙ cond-true _ _ _ (eq-eqb (reached M.wiring s pins j) 0 (⊎_elim (λ r. absurd (no_input l r)) (λ r. omega arith) (cases_lt 0 (reached M.wiring s pins j)))))
          (λ l. delivered_after M.time M.kind m v M.wiring.parts (reached M.wiring s pins) before j d l)
          (cases_lt j M.wiring.parts)

  pub fired_alone : (before after : List (Place P C)) (m : C) (i : ℕ) → M.wiring.parts ≤ length before → Imminent M.time (dues M before) m i → after ≡ fired M before m i → FiredAlone M before after
  fired_alone before after m i fits h e = record {
    moment = m;
    part = i;
    imminent = h;
    others_stay = λ j d other unreached.
        let mid = changed_at i (λ p. record { part = M.kind.internal p.part; last = m }) before in
        (deliver_reaches m (source.Part i) (output_of M before i).pins (output_of M before i).value mid after
        (subst (λ n. M.wiring.parts ≤ n) (sym (changed_at_length (λ p. record { part = M.kind.internal p.part; last = m }) before i)) fits) e
        ).others_stay j d (λ _ r. omega (arith, r, unreached))
        ∙ changed_at_other (λ p. record { part = M.kind.internal p.part; last = m }) before i j d other;
  }
