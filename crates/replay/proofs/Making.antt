-- One call: from a session's relation to the machine's.
use Rattle.std.proofs.Common.{◌≡◌, ℕ, ◌<◌, ◌≤◌, min, List, [], ◌++◌, length, take, drop, Ok, Err, Option, Result, sym, refl, ap, ◌∙◌, subst, inl, inr, arith, MatchResult}
use Rattle.std.proofs.lemmas.List.{take-append-drop, append_assoc, drop-append-le, length-take, length-drop, length-append}
use Rattle.session.specs.Machine.{Model, Memory}
use Rattle.session.specs.Calls as calls
use Rattle.session.specs.Calls.{Asks, Few, Refuses, Puts, Steps, Runs, Run, RunsTo, Traced, traced}
use Rattle.session.specs.declared.places.Event.{Event}
use Rattle.session.specs.declared.answers.Refusal.{Refusal}
use Rattle.session.specs.declared.answers.Firing.{Firing}
use Rattle.session.specs.declared.answers.Ran.{Ran}
use Rattle.replay.specs.declared.calls.Call.{Call}
use Rattle.replay.specs.declared.calls.Call.TheVariants as call
use Rattle.replay.specs.declared.calls.Lent.{Lent}
use Rattle.replay.specs.declared.calls.Answer.{Answer}
use Rattle.replay.specs.declared.calls.Answer.TheVariants as answer
use Rattle.replay.specs.Replays.{answered, tells, left, MakesCall, Made, RunIn, RunsIn}
use Rattle.replay.proofs.Own.{asks_map}

-- only a run tells events
silent : {T C : Type 0} (f : T → Answer C) → ((x : T) → tells (f x) ≡ 0) → (r : Result T Refusal) → tells (answered f r) ≡ 0
silent f none (Ok x) = none x
silent f none (Err e) = refl

silent_refused : {T C : Type 0} (f : T → Answer C) (n : ℕ) (r : Result T Refusal) → Refuses n r → tells (answered f r) ≡ 0
silent_refused f n (Ok x) h = absurd h
silent_refused f n (Err e) h = refl

-- the answer of an input, done or refused
pub done_answers : {C : Type 0} (outcome : Result Unit Refusal) (r : Result (Answer C) Refusal) → MatchResult outcome (λ _. r ≡ Ok answer.Done) (λ e. r ≡ Err e) →
    answered (λ a. a) r ≡ answered (λ _. answer.Done) outcome
done_answers (Ok x) r h = ap (answered (λ a. a)) h
done_answers (Err e) r h = ap (answered (λ a. a)) h

-- a call that is lent all the places of a memory
asked : {T P C : Type 0} {bad on rules : Type 0} (n : ℕ) (before after : Memory P C) (r : Result T Refusal) →
    Asks bad n before after r on → ((bad → ⊥) → on → rules) → Asks bad n (left before []) (left after []) r rules
asked n before after r (inl a) go = inl (a.0, (a.1.0, ap (λ m. left m []) a.1.1))
asked n before after r (inr a) go = inr (a.0, go a.0 a.1)

module _ {P C : Type 0} (M : Model P C) (before : Memory P C) (trace : List (Event C)) (c : Call C) where
  abbrev whole : Lent C
  whole = record { call = c; places = length before.places }

  pub put_made : (m : C) (pins v : ℕ) (after : Memory P C) (r : Result Unit Refusal) (a : Answer C) → c ≡ call.Put m pins v → a ≡ answered (λ _. answer.Done) r →
      Puts M m pins v before after r → Made M whole (traced before trace) (traced after trace) a
  put_made m pins v after r a e is h = record {
    events = [];
    makes_it =
        subst (λ x. MakesCall M (length trace) before (length before.places) x a (left after [])) (sym e)
        (r, is, asked 11 before after r h (λ no on. (inr (no, on), refl)));
    count = ap tells is ∙ silent {C = C} (λ _. answer.Done) (λ _. refl) r;
    written = refl;
  }

  pub step_made : (after : Memory P C) (r : Result (Firing C) Refusal) (a : Answer C) → c ≡ call.Step → a ≡ answered answer.Fired r →
      Steps M before after r → Made M whole (traced before trace) (traced after trace) a
  step_made after r a e is h = record {
    events = [];
    makes_it =
        subst (λ x. MakesCall M (length trace) before (length before.places) x a (left after [])) (sym e)
        (r, is, asked 11 before after r h (λ no on. (inr (no, on), refl)));
    count = ap tells is ∙ silent answer.Fired (λ _. refl) r;
    written = refl;
  }

  pub next_made : (r : Result (Option C) Refusal) (a : Answer C) → c ≡ call.Next → a ≡ answered answer.Earliest r →
      calls.Next M before.places r → Made M whole (traced before trace) (traced before trace) a
  next_made r a e is h = record {
    events = [];
    makes_it =
        subst (λ x. MakesCall M (length trace) before (length before.places) x a (left before [])) (sym e) (r, is, put_in h);
    count = ap tells is ∙ silent answer.Earliest (λ _. refl) r;
    written = refl;
  }
    where
      put_in : calls.Next M before.places r →
          Asks (length before.places < M.wiring.parts) 11 (left before []) (left before []) r (calls.Next M before.places r × (left before [] ≡ left before []))
      put_in (inl a) = inl (a.0, (a.1.0, refl))
      put_in (inr a) = inr (a.0, (inr a, refl))

  pub run_made : (horizon : C) (budget room : ℕ) (after : Traced P C) (r : Result Ran Refusal) (a : Answer C) → c ≡ call.Run horizon budget room → a ≡ answered answer.Ran r →
      RunsIn M horizon budget room (traced before trace) after r → Made M whole (traced before trace) after a
  run_made horizon budget room after r a e is (inl h) = record {
    events = [];
    makes_it =
        subst (λ x. MakesCall M (length trace) before (length before.places) x a (left after.memory [])) (sym e)
        (r, is, inl (h.0, (h.1.0, ap (λ (t : Traced P C). left t.memory []) h.1.1)));
    count = ap tells is ∙ silent_refused answer.Ran 11 r h.1.0;
    written = ap (λ (t : Traced P C). t.trace) h.1.1;
  }
  run_made horizon budget room after r a e is (inr (few, inl h)) = record {
    events = [];
    makes_it =
        subst (λ x. MakesCall M (length trace) before (length before.places) x a (left after.memory [])) (sym e)
        (r, is, inr (few, inl (h.0, (h.1.0, ap (λ (t : Traced P C). left t.memory []) h.1.1))));
    count = ap tells is ∙ silent_refused answer.Ran 12 r h.1.0;
    written = ap (λ (t : Traced P C). t.trace) h.1.1;
  }
  run_made horizon budget room after r a e is (inr (few, inr (late, (k, ok, h)))) = record {
    events = h.events;
    makes_it =
        subst (λ x. MakesCall M (length trace) before (length before.places) x a (left after.memory h.events)) (sym e)
        (r, is, inr (few, inr (late, (k, ok, h.count, h.runs))));
    count = ap tells (is ∙ ap (answered answer.Ran) ok) ∙ h.count;
    written = h.written;
  }

-- a run that is lent the first n records of a trace
pub run_in : {P C : Type 0} (M : Model P C) (horizon : C) (budget room n : ℕ) (before after : Memory P C) (trace part lent whole : List (Event C)) (r : Result Ran Refusal) →
    n ≡ min room (length trace) → lent ≡ take n trace → length part ≡ length lent → whole ≡ part ++ drop n trace →
    RunsTo M horizon budget (traced before lent) (traced after part) r → RunsIn M horizon budget room (traced before trace) (traced after whole) r
run_in {P} {C} M horizon budget room n before after trace part lent whole r is is_lent long back h =
    (asks_map 11 B A B' A' r (λ x. x) (λ x. x) same (asks_map 12 B A B' A' r (λ x. x) (λ x. x) same (λ k. ((k.0, k.1, ran k.0 k.2), tt))) h).0
  where
    B : Traced P C
    B = traced before lent

    A : Traced P C
    A = traced after part

    B' : Traced P C
    B' = traced before trace

    A' : Traced P C
    A' = traced after whole

    same : A ≡ B → (A' ≡ B') × Unit {0}
    same e =
        let t : part ≡ take n trace = ap (λ (x : Traced P C). x.trace) e ∙ is_lent in
        let w : whole ≡ trace = back ∙ ap (λ l. l ++ drop n trace) t ∙ take-append-drop n trace in
        ((λ i. traced (e i).memory (w i)), tt)

    ran : (k : Ran) → Run M horizon budget B A k → RunIn M horizon budget room B' A' k
    ran k h =
        let m = length h.events in
        let size : length lent ≡ n = ap length is_lent ∙ length-take n trace ∙ omega (arith, is) in
        let sum = ap length h.written ∙ length-append h.events (drop m lent) in
        let fits : m ≤ length (take n trace) = omega (arith, sum, ap length is_lent, length-drop m lent, long) in
        record {
          events = h.events;
          runs = subst (λ x. Runs M horizon budget x before k.steps h.events k.stop after) (size ∙ is) h.runs;
          count = h.count;
          written =
              back ∙ ap (λ l. l ++ drop n trace) (h.written ∙ ap (λ l. h.events ++ drop m l) is_lent)
              ∙ append_assoc h.events (drop m (take n trace)) (drop n trace)
              ∙ ap (λ l. h.events ++ l) (sym (drop-append-le m (take n trace) (drop n trace) fits) ∙ ap (drop m) (take-append-drop n trace));
        }
