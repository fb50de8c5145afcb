-- The machine has one outcome.
use Rattle.std.proofs.Common.{◌≡◌, ℕ, ◌-◌, List, ◌∷◌, ◌++◌, length, Ok, Result, sym, refl, ap, ◌∙◌, subst}
use Rattle.clock.specs.Time.{Laws}
use Rattle.session.specs.Machine.{Model, Memory}
use Rattle.session.specs.declared.places.Event.{Event}
use Rattle.session.specs.declared.answers.Refusal.{Refusal}
use Rattle.session.proofs.Outcomes.{asks_only, puts_only, steps_only, next_only}
use Rattle.session.proofs.Verdicts.{runs_only}
use Rattle.replay.specs.declared.calls.Call.{Call}
use Rattle.replay.specs.declared.calls.Call.TheVariants as call
use Rattle.replay.specs.declared.calls.Lent.{Lent}
use Rattle.replay.specs.declared.calls.Answer.{Answer}
use Rattle.replay.specs.declared.calls.Answer.TheVariants as answer
use Rattle.replay.specs.Replays.{answered, Left, left, Lends, MakesCall, Replays, ends, makes}

module _ {P C : Type 0} (M : Model P C) (laws : Laws M.time) where
  lends_only : {T : Type 0} (rules rules' : Result T Refusal → Type 0) (before : Memory P C) (n : ℕ) (after other : Left P C) (f : T → Answer C) (a b : Answer C) →
      ((r q : Result T Refusal) → rules r → rules' q → (other ≡ after) × (q ≡ r)) →
      Lends M before n after f a rules → Lends M before n other f b rules' → (other ≡ after) × (b ≡ a)
  lends_only rules rules' before n after other f a b go h k =
      let (r, is, x) = h in
      let (q, is', y) = k in
      let z = asks_only 11 after other r q x y (go r q) in
      (z.0, is' ∙ ap (answered f) z.1 ∙ sym is)

  pub makes_only : (free : ℕ) (before : Memory P C) (n : ℕ) (c : Call C) (a b : Answer C) (after other : Left P C) →
      MakesCall M free before n c a after → MakesCall M free before n c b other → (other ≡ after) × (b ≡ a)
  makes_only free before n (call.Put m pins v) a b after other h k =
      lends_only _ _ before n after other (λ _. answer.Done) a b
      (λ r q x y.
      let z = puts_only M m pins v before after.machine r x.0 other.machine q y.0 in
      ((λ i. left (z.0 i) ((y.1 ∙ sym x.1) i)), z.1)) h k
  makes_only free before n call.Step a b after other h k =
      lends_only _ _ before n after other answer.Fired a b
      (λ r q x y.
      let z = steps_only M laws before after.machine r x.0 other.machine q y.0 in
      ((λ i. left (z.0 i) ((y.1 ∙ sym x.1) i)), z.1)) h k
  makes_only free before n call.Next a b after other h k =
      lends_only _ _ before n after other answer.Earliest a b (λ r q x y. (y.1 ∙ sym x.1, next_only M laws before.places r x.0 q y.0)) h k
  makes_only free before n (call.Run horizon budget room) a b after other h k =
      lends_only _ _ before n after other answer.Ran a b
      (λ r q x y.
      asks_only 12 after other r q x y (λ x y.
      let z = runs_only M horizon laws x.3 y.3 in
      let count : y.0.events ≡ x.0.events = y.2 ∙ ap length z.same_events ∙ sym x.2 in
      let ran : y.0 ≡ x.0 = λ i. record { steps = z.same_steps i; events = count i; stop = z.same_reason i } in
      ((λ i. left (z.same_memory i) (z.same_events i)), y.1 ∙ ap Ok ran ∙ sym x.1))) h k

  pub replays_only : {free : ℕ} {start : Memory P C} {calls : List (Lent C)} {answers answers' : List (Answer C)} {events events' : List (Event C)} {after after' : Memory P C} →
      Replays M free start calls answers events after → Replays M free start calls answers' events' after' → (answers' ≡ answers) × (events' ≡ events) × (after' ≡ after)
  replays_only ends ends = (refl, refl, refl)
  replays_only {free} {start} (makes {after = x} {lent} {calls} {a} here h rest) (makes {after = y} {a = b} {answers = said} {events = es} there k more) =
      let z = makes_only free start lent.places lent.call a b here there h k in
      let next = replays_only rest (subst (λ (l : Left P C). Replays M (free - length l.events) l.machine calls said es y) z.0 more) in
      ((λ i. z.1 i ∷ next.0 i), (λ i. (z.0 i).events ++ next.1 i), next.2)
