-- What each call of a session answers, and what it leaves in memory.
use Rattle.std.specs.Prelude.{◌≡◌, ℕ, suc, ◌-◌, ◌^◌, ◌<◌, ◌≤◌, true, false, cond, ◌⊎◌, List, [], ◌∷◌, ◌++◌, map, length, get_or, take, drop, Some, None, Ok, Err, Option, Result, ◌==◌, ◌≢◌, slice_index_or}
use Rattle.asking.specs.Asking.{Ask}
use Rattle.clock.specs.Time.{Time}
use Rattle.coupling.specs.Wiring.{Wiring, reached}
use Rattle.coupling.specs.declared.coupling.Source.{Source}
use Rattle.coupling.specs.declared.coupling.Source.TheVariants as source
use Rattle.session.specs.Machine.{Model, Memory, dues, Imminent, NoneDue, deliver, event_of, fired, output_of}
use Rattle.session.specs.Numbers.{refusal_number, stop_number}
use Rattle.session.specs.declared.places.Place.{Place}
use Rattle.session.specs.declared.places.Event.{Event}
use Rattle.session.specs.declared.answers.Refusal.{Refusal}
use Rattle.session.specs.declared.answers.Stop.{Stop}
use Rattle.session.specs.declared.answers.Ran.{Ran}
use Rattle.session.specs.declared.scan.Due.{Due}
use Rattle.session.specs.declared.answers.Firing.{Firing}
use Rattle.session.specs.declared.answers.Firing.TheVariants.{Output, Silent}

-- the answer is the refusal of this number
abbrev pub Refuses : {T : Type 0} → ℕ → Result T Refusal → Type 0
Refuses n (Ok x) = ⊥
Refuses n (Err e) = refusal_number e ≡ n

-- A question. Where its answer is bad, the call ends with this number and changes nothing; else the call goes on.
abbrev pub Asks : {T M : Type 0} → Type 0 → ℕ → M → M → Result T Refusal → Type 0 → Type 0
Asks bad n before after r = Ask bad (Refuses n r × (after ≡ before))

-- a refusal leaves memory as it was
abbrev pub Kept : {T M : Type 0} → M → M → Result T Refusal → Type 0
Kept before after (Ok x) = Unit {0}
Kept before after (Err e) = after ≡ before

-- a call on one memory has one outcome
abbrev pub OnlyOutcome : {T M : Type 0} → (M → Result T Refusal → Type 0) → M → Result T Refusal → Type 0
OnlyOutcome {T} {M} call after r = (other : M) (q : Result T Refusal) → call other q → (other ≡ after) × (q ≡ r)

-- and one answer
abbrev pub OnlyAnswer : {T : Type 0} → (Result T Refusal → Type 0) → Result T Refusal → Type 0
OnlyAnswer {T} call r = (q : Result T Refusal) → call q → q ≡ r

-- some part has no place
abbrev pub Few : {X : Type 0} → Wiring → List X → Type 0
Few w places = length places < w.parts

-- the pin set is empty, or has a pin that is no input of the board
abbrev pub BadPins : Wiring → ℕ → Type 0
BadPins w pins = (pins ≡ 0) ⊎ (2 ^ w.inputs ≤ pins)

-- some part is due before m
abbrev pub DueBefore : {C : Type 0} → Time C → List (Option C) → C → Type 0
DueBefore {C} time ds m = (j : ℕ) × (t : C) × (slice_index_or ds j None ≡ Some t) × (time.leq m t ≡ false)

-- open: every part's place gets its start state and last moment zero, and now is zero
abbrev pub Opens : {P C : Type 0} → Model P C → List P → Memory P C → Memory P C → Result Unit Refusal → Type 0
Opens M starts before after r =
    Asks (Few M.wiring before.places ⊎ Few M.wiring starts) 11 before after r
    ((r ≡ Ok tt) × (after ≡ record {
      places = map (λ s. record { part = s; last = M.time.zero }) (take M.wiring.parts starts) ++ drop M.wiring.parts before.places;
      now = M.time.zero;
    }))

-- next: the earliest moment at which a part is due, or never
abbrev pub Next : {P C : Type 0} → Model P C → List (Place P C) → Result (Option C) Refusal → Type 0
Next {P} {C} M places r =
    Asks (Few M.wiring places) 11 (tt {0}) (tt {0}) r
    ((NoneDue (dues M places) × (r ≡ Ok None))
    ⊎ ((m : C) × (i : ℕ) × Imminent M.time (dues M places) m i × (r ≡ Ok (Some m))))

-- put: an input from outside
abbrev pub Puts : {P C : Type 0} → Model P C → C → ℕ → ℕ → Memory P C → Memory P C → Result Unit Refusal → Type 0
Puts M m pins v before after r =
    Asks (Few M.wiring before.places) 11 before after r
    (Asks (M.time.within m ≡ false) 12 before after r
    (Asks (BadPins M.wiring pins) 13 before after r
    (Asks (M.time.leq before.now m ≡ false) 14 before after r
    (Asks (DueBefore M.time (dues M before.places) m) 15 before after r
    ((r ≡ Ok tt) × (after ≡ record { places = deliver M m source.Board pins v before.places; now = m }))))))

-- a delivery changes exactly the places that are reached
pub record Reached {P C : Type 0} (M : Model P C) (m : C) (s : Source) (pins v : ℕ) (before after : List (Place P C)) : Type 0 where
  pub takes_input : (j : ℕ) (d : Place P C) → j < M.wiring.parts → 0 < reached M.wiring s pins j →
      slice_index_or after j d ≡ record {
        part = M.kind.external (get_or before j d).part (M.time.gap (get_or before j d).last m) (reached M.wiring s pins j) v;
        last = m;
      }
  pub others_stay : (j : ℕ) (d : Place P C) → (j < M.wiring.parts → 0 < reached M.wiring s pins j → ⊥) → slice_index_or after j d ≡ slice_index_or before j d

-- a firing with no output pins is silent
abbrev pub told : {C : Type 0} → Event C → Firing C
told e = cond (e.pins == 0) (Silent e.moment) (Output e)

-- memory after part i fires at m
abbrev pub after_firing : {P C : Type 0} → Model P C → Memory P C → C → ℕ → Memory P C
after_firing M before m i = record { places = fired M before.places m i; now = m }

-- a firing changes the place of the imminent part, and the places that its output reaches
pub record FiredAlone {P C : Type 0} (M : Model P C) (before after : List (Place P C)) : Type 0 where
  pub moment : C
  pub part : ℕ
  pub imminent : Imminent M.time (dues M before) moment part
  pub others_stay : (j : ℕ) (d : Place P C) → (j ≢ part) → reached M.wiring (source.Part part) (output_of M before part).pins j ≡ 0 → slice_index_or after j d ≡ slice_index_or before j d

-- step: the imminent part fires
abbrev pub Steps : {P C : Type 0} → Model P C → Memory P C → Memory P C → Result (Firing C) Refusal → Type 0
Steps {P} {C} M before after r =
    Asks (Few M.wiring before.places) 11 before after r
    (Asks (NoneDue (dues M before.places)) 16 before after r
    ((m : C) × (i : ℕ) × Imminent M.time (dues M before.places) m i
    × Asks (M.time.within m ≡ false) 17 before after r
    ((r ≡ Ok (told (event_of M before.places m i))) × (after ≡ after_firing M before m i))))

-- Whether a run stops, with so much budget left and so many records free: each reason is asked after those above it.
module _ {P C : Type 0} (M : Model P C) (horizon : C) where
  -- part i is due at m, and none of the first four reasons holds
  pub record Ready (budget : ℕ) (places : List (Place P C)) (m : C) (i : ℕ) : Type 0 where
    pub some_budget : 0 < budget
    pub imminent : Imminent M.time (dues M places) m i
    pub by_horizon : M.time.leq m horizon ≡ true
    pub by_ceiling : M.time.within m ≡ true

  -- the reasons, by their numbers from 1
  abbrev pub reasons : ℕ → ℕ → List (Place P C) → List (Type 0)
  reasons budget room places =
      (budget ≡ 0)
      ∷ ((0 < budget) × NoneDue (dues M places))
      ∷ ((0 < budget) × ((m : C) × (i : ℕ) × Imminent M.time (dues M places) m i × (M.time.leq m horizon ≡ false)))
      ∷ ((0 < budget) × ((m : C) × (i : ℕ) × Imminent M.time (dues M places) m i × (M.time.leq m horizon ≡ true) × (M.time.within m ≡ false)))
      ∷ ((m : C) × (i : ℕ) × Ready budget places m i × (0 < (event_of M places m i).pins) × (room ≡ 0))
      ∷ []

  abbrev pub Halts : ℕ → ℕ → List (Place P C) → Stop → Type 0
  Halts budget room places why = slice_index_or (⊥ ∷ reasons budget room places) (stop_number why) ⊥

  -- what a run does next
  abbrev pub Decided : ℕ → ℕ → List (Place P C) → Result (Due C) Stop → Type 0
  Decided budget room places (Err why) = Halts budget room places why
  Decided budget room places (Ok d) =
      Ready budget places d.moment d.part × (room ≡ 0 → (event_of M places d.moment d.part).pins ≡ 0)

  -- A run from memory `before` with so much budget and so many free records: it takes so many steps, tells these
  -- events, stops for this reason, and leaves memory `after`.
  pub data Runs : ℕ → ℕ → Memory P C → ℕ → List (Event C) → Stop → Memory P C → Type 0 where
    halts : {budget room : ℕ} {before : Memory P C} {why : Stop} →
        Halts budget room before.places why → Runs budget room before 0 [] why before
    silent : {budget room steps : ℕ} {events : List (Event C)} {why : Stop} {before after : Memory P C} (m : C) (i : ℕ) →
        Ready budget before.places m i → (event_of M before.places m i).pins ≡ 0 →
        Runs (budget - 1) room (after_firing M before m i) steps events why after →
        Runs budget room before (suc steps) events why after
    event : {budget room steps : ℕ} {events : List (Event C)} {why : Stop} {before after : Memory P C} (m : C) (i : ℕ) →
        Ready budget before.places m i → 0 < (event_of M before.places m i).pins → 0 < room →
        Runs (budget - 1) (room - 1) (after_firing M before m i) steps events why after →
        Runs budget room before (suc steps) (event_of M before.places m i ∷ events) why after

-- a session's memory and the trace lent to a run
pub record Traced (P C : Type 0) : Type 0 where
  pub memory : Memory P C
  pub trace : List (Event C)

abbrev pub traced : {P C : Type 0} → Memory P C → List (Event C) → Traced P C
traced m t = record { memory = m; trace = t }

-- the events of a run are written in order to the first records, and to no others
pub record Run {P C : Type 0} (M : Model P C) (horizon : C) (budget : ℕ) (before after : Traced P C) (r : Ran) : Type 0 where
  pub events : List (Event C)
  pub runs : Runs M horizon budget (length before.trace) before.memory r.steps events r.stop after.memory
  pub count : r.events ≡ length events
  pub written : after.trace ≡ events ++ drop (length events) before.trace

-- the records after those of the events are as they were
abbrev pub LaterKept : {C : Type 0} → Result Ran Refusal → List (Event C) → List (Event C) → Type 0
LaterKept {C} (Ok k) before after = (j : ℕ) (d : Event C) → k.events ≤ j → slice_index_or after j d ≡ slice_index_or before j d
LaterKept (Err e) before after = after ≡ before

-- run: steps are repeated
abbrev pub RunsTo : {P C : Type 0} → Model P C → C → ℕ → Traced P C → Traced P C → Result Ran Refusal → Type 0
RunsTo M horizon budget before after r =
    Asks (Few M.wiring before.memory.places) 11 before after r
    (Asks (M.time.within horizon ≡ false) 12 before after r
    ((k : Ran) × (r ≡ Ok k) × Run M horizon budget before after k))
