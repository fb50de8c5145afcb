-- Classic DEVS with ports, over what the caller's memory holds: which part fires, and what a firing and an input do.
use Rattle.std.specs.Prelude.{◌≡◌, ℕ, zero, suc, ◌<◌, true, cond, List, [], ◌∷◌, map, get_or, take, Some, None, Option, ◌==◌, ◌≢◌, slice_index_or}
use Rattle.std.specs.Option.{option_map}
use Rattle.clock.specs.Time.{Time}
use Rattle.part.specs.Kind.{Kind}
use Rattle.part.specs.declared.part.Output.{Output}
use Rattle.coupling.specs.Wiring.{Wiring, reached, reached_board}
use Rattle.coupling.specs.declared.coupling.Source.{Source}
use Rattle.coupling.specs.declared.coupling.Source.TheVariants as source
use Rattle.session.specs.declared.places.Place.{Place}
use Rattle.session.specs.declared.places.Event.{Event}
use Rattle.session.specs.declared.scan.Due.{Due}

-- A flattened network of parts of one kind, over a clock.
pub record Model (P C : Type 0) : Type 0 where
  pub time : Time C
  pub kind : Kind C P
  pub wiring : Wiring

abbrev pub model : {P C : Type 0} → Time C → Kind C P → Wiring → Model P C
model t k w = record { time = t; kind = k; wiring = w }

-- What a session holds: the places lent to it, those of the parts first, and now.
pub record Memory (P C : Type 0) : Type 0 where
  pub places : List (Place P C)
  pub now : C

abbrev pub memory : {P C : Type 0} → List (Place P C) → C → Memory P C
memory ps t = record { places = ps; now = t }

-- a part is due at its last moment plus its advance, or never
abbrev pub due : {P C : Type 0} → Time C → Kind C P → Place P C → Option C
due time kind p = option_map (time.sum p.last) (kind.advance p.part)

-- when each part is due, by its number
abbrev pub dues : {P C : Type 0} → Model P C → List (Place P C) → List (Option C)
dues M places = map (due M.time M.kind) (take M.wiring.parts places)

-- part i is due at m, no part is due earlier, and none with a lower number is due then
pub record Imminent {C : Type 0} (time : Time C) (ds : List (Option C)) (m : C) (i : ℕ) : Type 0 where
  pub is_due : get_or ds i None ≡ Some m
  pub earliest : (j : ℕ) (t : C) → slice_index_or ds j None ≡ Some t → time.leq m t ≡ true
  pub lowest : (j : ℕ) → j < i → slice_index_or ds j None ≢ Some m

-- no part will ever fire
abbrev pub NoneDue : {C : Type 0} → List (Option C) → Type 0
NoneDue ds = (j : ℕ) → slice_index_or ds j None ≡ None

-- whether a part will fire, and which one is the first
abbrev pub First : {C : Type 0} → Time C → List (Option C) → Option (Due C) → Type 0
First time ds None = NoneDue ds
First time ds (Some d) = Imminent time ds d.moment d.part

-- a part that is reached by a non-empty pin set takes it with the time since its last event
abbrev pub given : {P C : Type 0} → Time C → Kind C P → C → ℕ → ℕ → Place P C → Place P C
given time kind m pins v p =
    cond (pins == 0) p (record { part = kind.external p.part (time.gap p.last m) pins v; last = m })

-- each of the first n places is given its pin set
abbrev pub delivered : {P C : Type 0} → Time C → Kind C P → C → ℕ → ℕ → (ℕ → ℕ) → List (Place P C) → List (Place P C)
delivered time kind m v zero sets places = places
delivered time kind m v (suc n) sets [] = []
delivered time kind m v (suc n) sets (p ∷ places) = given time kind m (sets 0) v p ∷ delivered time kind m v n (λ i. sets (suc i)) places

-- what a pin set of a source delivers at a moment
abbrev pub deliver : {P C : Type 0} → Model P C → C → Source → ℕ → ℕ → List (Place P C) → List (Place P C)
deliver M m s pins v places = delivered M.time M.kind m v M.wiring.parts (reached M.wiring s pins) places

-- the place at i changed by f
abbrev pub changed_at : {X : Type 0} → ℕ → (X → X) → List X → List X
changed_at i f [] = []
changed_at zero f (x ∷ xs) = f x ∷ xs
changed_at (suc i) f (x ∷ xs) = x ∷ changed_at i f xs

-- the output of part i; an absent part puts out nothing
abbrev pub output_at : {P C : Type 0} → Kind C P → List (Place P C) → ℕ → Output
output_at kind places i = slice_index_or (map (λ p. kind.output p.part) places) i (record { pins = 0; value = 0 })

abbrev pub output_of : {P C : Type 0} → Model P C → List (Place P C) → ℕ → Output
output_of M places i = output_at M.kind places i

-- part i fires at m: its event
abbrev pub event_of : {P C : Type 0} → Model P C → List (Place P C) → C → ℕ → Event C
event_of M places m i =
    let o = output_of M places i in
    record { moment = m; part = i; pins = o.pins; value = o.value; board = reached_board M.wiring (source.Part i) o.pins }

-- part i fires at m: it takes internal, and then its output is delivered
abbrev pub fired : {P C : Type 0} → Model P C → List (Place P C) → C → ℕ → List (Place P C)
fired M places m i =
    let o = output_of M places i in
    deliver M m (source.Part i) o.pins o.value (changed_at i (λ p. record { part = M.kind.internal p.part; last = m }) places)
