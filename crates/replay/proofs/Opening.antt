-- A whole replay: opening, and then the calls.
use Rattle.std.proofs.Common.{◌≡◌, ℕ, ◌-◌, ◌<◌, ◌≤◌, ◌⊎◌, List, ◌++◌, map, length, take, drop, Ok, Err, Result, sym, ap, ◌∙◌, subst, inl, inr, arith}
use Rattle.std.proofs.lemmas.List.{take_at, drop_at, take-append-drop, length-map, length-take-le, length-append, append-nil, drop_all, length-drop}
use Rattle.clock.specs.Time.{Laws}
use Rattle.session.specs.Machine.{Model, Memory, memory}
use Rattle.session.specs.Calls.{Few, Refuses, Opens, OnlyOutcome}
use Rattle.session.specs.declared.places.Place.{Place}
use Rattle.session.specs.declared.places.Event.{Event}
use Rattle.session.specs.declared.answers.Refusal.{Refusal}
use Rattle.session.proofs.Outcomes.{asks_only}
use Rattle.replay.specs.declared.calls.Lent.{Lent}
use Rattle.replay.specs.declared.calls.Answer.{Answer}
use Rattle.replay.specs.declared.replay.Replayed.{Replayed}
use Rattle.replay.specs.Replays.{own, opened, Loan, loan, Replays, Replay, ReplaysFrom, RestKept}
use Rattle.replay.proofs.Once.{replays_only}

-- a write to all that follows n
pub put_last : {X : Type 0} (n k : ℕ) (xs ys : List X) → k ≡ length xs - n → take n xs ++ (ys ++ drop k (drop n xs)) ≡ take n xs ++ ys
put_last n k xs ys is = ap (λ l. take n xs ++ l) (ap (λ l. ys ++ l) (drop_all k (drop n xs) (omega (arith, is, length-drop n xs))) ∙ append-nil ys)

module _ {P C : Type 0} (M : Model P C) (starts : List P) where
  abbrev bad : List (Place P C) → Type 0
  bad places = Few M.wiring places ⊎ Few M.wiring starts

  pub replay_refused : (list : List (Lent C)) (before after : Memory P C) (answers : List (Answer C)) (trace : List (Event C)) (r : Result Unit Refusal) (e : Refusal) → r ≡ Err e → Opens M starts before after r →
      ReplaysFrom M starts list (loan before.places before.now answers trace) (loan after.places after.now answers trace) (Err e)
  replay_refused list before after answers trace r e is (inl h) =
      inl (h.0, (subst (λ x. Refuses 11 x) is h.1.0, (λ i. loan (h.1.1 i).places (h.1.1 i).now answers trace)))
  replay_refused list before after answers trace r e is (inr h) = absurd (cc (h.1.0, is))

  pub refused_kept : (list : List (Lent C)) (before after : Loan P C) (e : Refusal) → ReplaysFrom M starts list before after (Err e) → after ≡ before
  refused_kept list before after e (inl h) = h.1.1
  refused_kept list before after e (inr h) = absurd (cc h.1.1)

  abbrev zeroed : List (Place P C)
  zeroed = map (λ s. record { part = s; last = M.time.zero }) (take M.wiring.parts starts)

  -- what opening leaves
  pub record Opened (before after : Memory P C) : Type 0 where
    pub none_few : bad before.places → ⊥
    pub is_opened : own M after.places after.now ≡ opened M starts
    pub spare_stay : drop M.wiring.parts after.places ≡ drop M.wiring.parts before.places
    pub fits : M.wiring.parts ≤ length after.places

  pub open_done : (before after : Memory P C) (r : Result Unit Refusal) → r ≡ Ok tt → Opens M starts before after r → Opened before after
  open_done before after (Ok x) is (inl h) = absurd h.1.0
  open_done before after (Err e) is (inl h) = absurd cc
  open_done before after r is (inr h) =
      let p = M.wiring.parts in
      let e = h.1.1 in
      let enough : p ≤ length starts = not_less p (length starts) (λ x. h.0 (inr x)) in
      let long : length zeroed ≡ p = length-map (take p starts) (λ s. record { part = s; last = M.time.zero }) ∙ length-take-le p starts enough in
      record {
        none_few = h.0;
        is_opened = ap (λ (m : Memory P C). own M m.places m.now) e ∙ ap (λ l. memory l M.time.zero) (take_at zeroed (drop p before.places) p long);
        spare_stay = ap (λ (m : Memory P C). drop p m.places) e ∙ drop_at zeroed (drop p before.places) p long;
        fits = omega (arith, ap (λ (m : Memory P C). length m.places) e, length-append zeroed (drop p before.places), long);
      }
    where
      not_less : (p n : ℕ) → (n < p → ⊥) → p ≤ n
      not_less p n h = omega (arith, h)

  pub replay_done : (list : List (Lent C)) (before mid : Memory P C) (answers : List (Answer C)) (trace : List (Event C)) (after : Loan P C) (k : Replayed) → Opened before mid →
      Replay M (own M mid.places mid.now) list (loan mid.places mid.now answers trace) after k →
      Replay M (opened M starts) list (loan before.places before.now answers trace) after k
  replay_done list before mid answers trace after k o h = record {
    answers = h.answers;
    events = h.events;
    as_many = h.as_many;
    replays = subst (λ x. Replays M (length trace) x (take k.calls list) h.answers h.events (own M after.places after.now)) o.is_opened h.replays;
    answers_count = h.answers_count;
    events_count = h.events_count;
    answers_written = h.answers_written;
    events_written = h.events_written;
    spare_stay = h.spare_stay ∙ o.spare_stay;
  }

  pub rest_kept : (list : List (Lent C)) (start : Memory P C) (before after : Loan P C) (k : Replayed) → Replay M start list before after k → RestKept M before after (Ok k)
  rest_kept list start before after k h = (
    h.spare_stay,
    ap (drop k.calls) h.answers_written ∙ drop_at h.answers (drop k.calls before.answers) k.calls (sym h.answers_count),
    ap (drop k.events) h.events_written ∙ drop_at h.events (drop k.events before.trace) k.events (sym h.events_count),
  )

  pub from_only : Laws M.time → (list : List (Lent C)) (before after : Loan P C) (r : Result Replayed Refusal) → ReplaysFrom M starts list before after r → OnlyOutcome (ReplaysFrom M starts list before) after r
  from_only laws list before after r h other q g =
      asks_only 11 after other r q h g (λ a b.
      let z = same a.0 b.0 a.2 b.2 in
      (z.0, b.1 ∙ ap Ok z.1 ∙ sym a.1))
    where
      same : (k l : Replayed) → Replay M (opened M starts) list before after k → Replay M (opened M starts) list before other l → (other ≡ after) × (l ≡ k)
      same k l x y =
          let p = M.wiring.parts in
          let calls : l.calls ≡ k.calls = y.as_many ∙ sym x.as_many in
          let (answers, events, machine) =
          replays_only M laws x.replays (subst (λ n. Replays M (length before.trace) (opened M starts) (take n list) y.answers y.events (own M other.places other.now)) calls y.replays) in
          let count : l.events ≡ k.events = y.events_count ∙ ap length events ∙ sym x.events_count in
          let spare : drop p other.places ≡ drop p after.places = y.spare_stay ∙ sym x.spare_stay in
          let places : other.places ≡ after.places = sym (take-append-drop p other.places) ∙ (λ i. (machine i).places ++ spare i) ∙ take-append-drop p after.places in
          let said : other.answers ≡ after.answers = y.answers_written ∙ (λ i. answers i ++ drop (calls i) before.answers) ∙ sym x.answers_written in
          let told : other.trace ≡ after.trace = y.events_written ∙ (λ i. events i ++ drop (count i) before.trace) ∙ sym x.events_written in
          ((λ i. loan (places i) (machine i).now (said i) (told i)), (λ i. record { calls = calls i; events = count i }))
