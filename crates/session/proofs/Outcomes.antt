-- Each call's relation pins its outcome.
use Rattle.std.proofs.Common.{◌≡◌, ℕ, false, cond, eqb, ◌⊎◌, List, Some, None, Ok, Err, Option, Result, sym, refl, ap, ◌∙◌, subst₂, inl, inr, arith}
use Rattle.asking.proofs.Only.{ask_only}
use Rattle.clock.specs.Time.{Laws}
use Rattle.session.specs.Machine.{Model, Memory, dues, Imminent, NoneDue, event_of}
use Rattle.session.specs.Calls.{Asks, Refuses, Kept, OnlyOutcome, Opens, Next, Puts, Steps, told, after_firing}
use Rattle.session.specs.declared.places.Place.{Place}
use Rattle.session.specs.Numbers.{refusal_number}
use Rattle.session.specs.declared.answers.Refusal.{Refusal}
use Rattle.session.specs.declared.answers.Refusal.TheVariants as refusal
use Rattle.session.specs.declared.answers.Firing.{Firing}
use Rattle.session.proofs.Imminence.{imminent_only, none_some}

-- a number names one refusal
abbrev numbered : ℕ → Refusal
numbered n =
    cond (eqb n 11) refusal.TooFewPlaces (cond (eqb n 12) refusal.BeyondCeiling (cond (eqb n 13) refusal.BadPins
    (cond (eqb n 14) refusal.BeforeNow (cond (eqb n 15) refusal.PartDueBefore (cond (eqb n 16) refusal.NothingDue refusal.DueBeyondCeiling)))))

named : (e : Refusal) → numbered (refusal_number e) ≡ e
named refusal.TooFewPlaces = refl
named refusal.BeyondCeiling = refl
named refusal.BadPins = refl
named refusal.BeforeNow = refl
named refusal.PartDueBefore = refl
named refusal.NothingDue = refl
named refusal.DueBeyondCeiling = refl

refused_is : {T : Type 0} (n : ℕ) (r : Result T Refusal) → Refuses n r → r ≡ Err (numbered n)
refused_is n (Ok x) h = absurd h
refused_is n (Err e) h = ap Err (sym (named e) ∙ ap numbered h)

-- the outcomes of one question
pub asks_only : {T M : Type 0} {bad : Type 0} {before : M} (n : ℕ) (after other : M) (r q : Result T Refusal) {on off : Type 0} →
    Asks bad n before after r on → Asks bad n before other q off → (on → off → (other ≡ after) × (q ≡ r)) → (other ≡ after) × (q ≡ r)
asks_only n after other r q h k go = ask_only (λ a b. (b.1 ∙ sym a.1, refused_is n q b.0 ∙ sym (refused_is n r a.0))) go h k

-- a refusal of a question keeps memory, if what follows does
pub asks_kept : {T M : Type 0} {bad : Type 0} {before : M} (n : ℕ) (after : M) (r : Result T Refusal) {on : Type 0} →
    Asks bad n before after r on → (on → Kept before after r) → Kept before after r
asks_kept n after (Ok x) a go = tt
asks_kept n after (Err e) (inl a) go = a.1.1
asks_kept n after (Err e) (inr a) go = go a.1

pub ok_kept : {T M : Type 0} (before after : M) (r : Result T Refusal) (x : T) → r ≡ Ok x → Kept before after r
ok_kept before after (Ok y) x e = tt
ok_kept before after (Err y) x e = let z : ◌≡◌ {A = ℕ} 0 1 = cc in absurd (omega arith)

module _ {P C : Type 0} (M : Model P C) where
  pub opens_only : (starts : List P) (before after : Memory P C) (r : Result Unit Refusal) → Opens M starts before after r → OnlyOutcome (Opens M starts before) after r
  opens_only starts before after r h other q k = asks_only 11 after other r q h k (λ a b. (b.1 ∙ sym a.1, b.0 ∙ sym a.0))

  pub opens_kept : (starts : List P) (before after : Memory P C) (r : Result Unit Refusal) → Opens M starts before after r → Kept before after r
  opens_kept starts before after r h = asks_kept 11 after r h (λ a. ok_kept before after r tt a.0)

  pub puts_only : (m : C) (pins v : ℕ) (before after : Memory P C) (r : Result Unit Refusal) → Puts M m pins v before after r → OnlyOutcome (Puts M m pins v before) after r
  puts_only m pins v before after r h other q k =
      asks_only 11 after other r q h k (λ a b. asks_only 12 after other r q a b (λ a b. asks_only 13 after other r q a b (λ a b. asks_only 14 after other r q a b (λ a b. asks_only 15 after other r q a b
      (λ a b. (b.1 ∙ sym a.1, b.0 ∙ sym a.0))))))

  pub puts_kept : (m : C) (pins v : ℕ) (before after : Memory P C) (r : Result Unit Refusal) → Puts M m pins v before after r → Kept before after r
  puts_kept m pins v before after r h =
      asks_kept 11 after r h (λ a. asks_kept 12 after r a (λ a. asks_kept 13 after r a (λ a. asks_kept 14 after r a (λ a. asks_kept 15 after r a (λ a. ok_kept before after r tt a.0)))))

  pub steps_kept : (before after : Memory P C) (r : Result (Firing C) Refusal) → Steps M before after r → Kept before after r
  steps_kept before after r h = asks_kept 11 after r h (λ a. asks_kept 16 after r a (λ a. asks_kept 17 after r a.3 (λ a. ok_kept before after r _ a.0)))

  module _ (laws : Laws M.time) where
    pub steps_only : (before after : Memory P C) (r : Result (Firing C) Refusal) → Steps M before after r → OnlyOutcome (Steps M before) after r
    steps_only before after r h other q k =
        asks_only 11 after other r q h k (λ a b. asks_only 16 after other r q a b (λ a b.
        let same = imminent_only M.time laws (dues M before.places) b.0 a.0 b.1 a.1 b.2 a.2 in
        asks_only 17 after other r q a.3
        (subst₂ (λ m i. Asks (M.time.within m ≡ false) 17 before other q ((q ≡ Ok (told (event_of M before.places m i))) × (other ≡ after_firing M before m i))) same.0 same.1 b.3)
        (λ a b. (b.1 ∙ sym a.1, b.0 ∙ sym a.0))))

    pub next_only : (places : List (Place P C)) (r : Result (Option C) Refusal) → Next M places r → (q : Result (Option C) Refusal) → Next M places q → q ≡ r
    next_only places r h q k = (asks_only 11 (tt {0}) (tt {0}) r q h k (λ a b. (refl, either a b))).1
      where
        either : ((NoneDue (dues M places) × (r ≡ Ok None)) ⊎ ((m : C) × (i : ℕ) × Imminent M.time (dues M places) m i × (r ≡ Ok (Some m)))) →
            ((NoneDue (dues M places) × (q ≡ Ok None)) ⊎ ((m : C) × (i : ℕ) × Imminent M.time (dues M places) m i × (q ≡ Ok (Some m)))) → q ≡ r
        either (inl a) (inl b) = b.1 ∙ sym a.1
        either (inl a) (inr b) = absurd (none_some _ _ (a.0 b.1) b.2.is_due)
        either (inr a) (inl b) = absurd (none_some _ _ (b.0 a.1) a.2.is_due)
        either (inr a) (inr b) = b.3 ∙ ap (λ m. Ok (Some m)) (imminent_only M.time laws (dues M places) b.0 a.0 b.1 a.1 b.2 a.2).0 ∙ sym a.3
