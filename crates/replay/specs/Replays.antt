-- The classic machine of a flattened network, call after call from opening. It holds a place for each part, and now. It is given each
-- call's arguments and how many places and records the call is lent, and no answer.
use Rattle.std.specs.Prelude.{◌≡◌, ℕ, ◌-◌, ◌<◌, min, false, ◌⊎◌, List, [], ◌∷◌, ◌++◌, map, length, take, drop, Ok, Err, Result}
use Rattle.session.specs.Machine.{Model, Memory, memory}
use Rattle.session.specs.Calls as calls
use Rattle.session.specs.Calls.{Asks, Few, Puts, Steps, Runs, Traced}
use Rattle.session.specs.declared.places.Place.{Place}
use Rattle.session.specs.declared.places.Event.{Event}
use Rattle.session.specs.declared.answers.Refusal.{Refusal}
use Rattle.session.specs.declared.answers.Ran.{Ran}
use Rattle.replay.specs.declared.calls.Call.{Call}
use Rattle.replay.specs.declared.calls.Call.TheVariants as call
use Rattle.replay.specs.declared.calls.Lent.{Lent}
use Rattle.replay.specs.declared.calls.Answer.{Answer}
use Rattle.replay.specs.declared.calls.Answer.TheVariants as answer
use Rattle.replay.specs.declared.replay.Replayed.{Replayed}

-- the machine in a session's places: those of the parts alone
abbrev pub own : {P C : Type 0} → Model P C → List (Place P C) → C → Memory P C
own M places t = memory (take M.wiring.parts places) t

-- the machine as opening sets it
abbrev pub opened : {P C : Type 0} → Model P C → List P → Memory P C
opened M starts = memory (map (λ s. record { part = s; last = M.time.zero }) (take M.wiring.parts starts)) M.time.zero

-- a call's result as an answer
abbrev pub answered : {T C : Type 0} → (T → Answer C) → Result T Refusal → Answer C
answered f (Ok x) = f x
answered f (Err e) = answer.Refused e

-- how many events the call with this answer tells in the trace
abbrev pub tells : {C : Type 0} → Answer C → ℕ
tells answer.Done = 0
tells (answer.Earliest m) = 0
tells (answer.Fired f) = 0
tells (answer.Ran k) = k.events
tells (answer.Refused e) = 0

-- what a call leaves: the machine, and the events told in the trace
pub record Left (P C : Type 0) : Type 0 where
  pub machine : Memory P C
  pub events : List (Event C)

abbrev pub left : {P C : Type 0} → Memory P C → List (Event C) → Left P C
left m es = record { machine = m; events = es }

module _ {P C : Type 0} (M : Model P C) where
  -- A call that is lent n places: fewer than the parts, and it is refused; else it goes by its own rules.
  abbrev pub Lends : {T : Type 0} → Memory P C → ℕ → Left P C → (T → Answer C) → Answer C → (Result T Refusal → Type 0) → Type 0
  Lends {T} before n after f a rules =
      (r : Result T Refusal) × (a ≡ answered f r) × Asks (n < M.wiring.parts) 11 (left before []) after r (rules r)

  -- The calls, with so many records of the trace free. Only a run tells events in it.
  abbrev pub MakesCall : ℕ → Memory P C → ℕ → Call C → Answer C → Left P C → Type 0
  MakesCall free before n (call.Put m pins v) a after =
      Lends before n after (λ _. answer.Done) a (λ r. Puts M m pins v before after.machine r × (after.events ≡ []))
  MakesCall free before n call.Step a after =
      Lends before n after answer.Fired a (λ r. Steps M before after.machine r × (after.events ≡ []))
  MakesCall free before n call.Next a after =
      Lends before n after answer.Earliest a (λ r. calls.Next M before.places r × (after ≡ left before []))
  MakesCall free before n (call.Run horizon budget room) a after =
      Lends before n after answer.Ran a (λ r.
      Asks (M.time.within horizon ≡ false) 12 (left before []) after r
      ((k : Ran) × (r ≡ Ok k) × (k.events ≡ length after.events)
      × Runs M horizon budget (min room free) before k.steps after.events k.stop after.machine))

  abbrev pub Makes : ℕ → Memory P C → Lent C → Answer C → Left P C → Type 0
  Makes free before lent a after = MakesCall free before lent.places lent.call a after

  -- The calls of a list, one after another: the answers, the events in the trace, and the machine after the last call.
  pub data Replays : ℕ → Memory P C → List (Lent C) → List (Answer C) → List (Event C) → Memory P C → Type 0 where
    ends : {free : ℕ} {machine : Memory P C} → Replays free machine [] [] [] machine
    makes : {free : ℕ} {before after : Memory P C} {lent : Lent C} {calls : List (Lent C)} {a : Answer C} {answers : List (Answer C)} {events : List (Event C)} (here : Left P C) →
        Makes free before lent a here →
        Replays (free - length here.events) here.machine calls answers events after →
        Replays free before (lent ∷ calls) (a ∷ answers) (here.events ++ events) after

-- a call in memory: its events are written in order to the first records, and to no others
pub record Made {P C : Type 0} (M : Model P C) (lent : Lent C) (before after : Traced P C) (a : Answer C) : Type 0 where
  pub events : List (Event C)
  pub makes_it : Makes M (length before.trace) before.memory lent a (left after.memory events)
  pub count : tells a ≡ length events
  pub written : after.trace ≡ events ++ drop (length events) before.trace

-- a run with the first `room` records of the trace
pub record RunIn {P C : Type 0} (M : Model P C) (horizon : C) (budget room : ℕ) (before after : Traced P C) (k : Ran) : Type 0 where
  pub events : List (Event C)
  pub runs : Runs M horizon budget (min room (length before.trace)) before.memory k.steps events k.stop after.memory
  pub count : k.events ≡ length events
  pub written : after.trace ≡ events ++ drop (length events) before.trace

abbrev pub RunsIn : {P C : Type 0} → Model P C → C → ℕ → ℕ → Traced P C → Traced P C → Result Ran Refusal → Type 0
RunsIn M horizon budget room before after r =
    Asks (Few M.wiring before.memory.places) 11 before after r
    (Asks (M.time.within horizon ≡ false) 12 before after r
    ((k : Ran) × (r ≡ Ok k) × RunIn M horizon budget room before after k))

-- what a replay is lent, with the session's now
pub record Loan (P C : Type 0) : Type 0 where
  pub places : List (Place P C)
  pub now : C
  pub answers : List (Answer C)
  pub trace : List (Event C)

abbrev pub loan : {P C : Type 0} → List (Place P C) → C → List (Answer C) → List (Event C) → Loan P C
loan ps t answers trace = record { places = ps; now = t; answers = answers; trace = trace }

-- As many calls as have an answer record, in order: the answers and events are the machine's, and are written to the first records.
-- Spare places and all other records are as they were.
pub record Replay {P C : Type 0} (M : Model P C) (start : Memory P C) (calls : List (Lent C)) (before after : Loan P C) (k : Replayed) : Type 0 where
  pub answers : List (Answer C)
  pub events : List (Event C)
  pub as_many : k.calls ≡ min (length calls) (length before.answers)
  pub replays : Replays M (length before.trace) start (take k.calls calls) answers events (own M after.places after.now)
  pub answers_count : k.calls ≡ length answers
  pub events_count : k.events ≡ length events
  pub answers_written : after.answers ≡ answers ++ drop k.calls before.answers
  pub events_written : after.trace ≡ events ++ drop k.events before.trace
  pub spare_stay : drop M.wiring.parts after.places ≡ drop M.wiring.parts before.places

-- a replay: opening, and then the calls
abbrev pub ReplaysFrom : {P C : Type 0} → Model P C → List P → List (Lent C) → Loan P C → Loan P C → Result Replayed Refusal → Type 0
ReplaysFrom M starts list before after r =
    Asks (Few M.wiring before.places ⊎ Few M.wiring starts) 11 before after r
    ((k : Replayed) × (r ≡ Ok k) × Replay M (opened M starts) list before after k)

-- the same calls from the same machine have the same answers and events, and leave the same machine
abbrev pub OneOutcome : {P C : Type 0} → Model P C → Type 0
OneOutcome {P} {C} M =
    (free : ℕ) (start : Memory P C) (list : List (Lent C)) (answers others : List (Answer C)) (events told : List (Event C)) (after left_by : Memory P C) →
    Replays M free start list answers events after → Replays M free start list others told left_by → (others ≡ answers) × (told ≡ events) × (left_by ≡ after)

-- spare places, and the records that are not written, are as they were
abbrev pub RestKept : {P C : Type 0} → Model P C → Loan P C → Loan P C → Result Replayed Refusal → Type 0
RestKept M before after (Ok k) =
    (drop M.wiring.parts after.places ≡ drop M.wiring.parts before.places)
    × (drop k.calls after.answers ≡ drop k.calls before.answers)
    × (drop k.events after.trace ≡ drop k.events before.trace)
RestKept M before after (Err e) = after ≡ before
