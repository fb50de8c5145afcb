-- What a kind of part means, and the part rules.
use Rattle.std.specs.Prelude.{◌≡◌, ℕ, true, Some, None, Option}
use Rattle.clock.specs.Time.{Time}
use Rattle.part.specs.declared.part.Output.{Output}

-- Four functions of a part's state S, over the values C of a clock. A pin set is a byte, bit k for pin k.
pub record Kind (C S : Type 0) : Type 0 where
  -- how long after its last event the part fires, or never
  pub advance : S → Option C
  -- what it puts out when it fires
  pub output : S → Output
  -- the next state when it fires
  pub internal : S → S
  -- the next state from the time elapsed since its last event, the pins reached and the value
  pub external : S → C → ℕ → ℕ → S

-- an advance that a part may have: a span, or never
abbrev pub Spans : {C : Type 0} → Time C → Option C → Type 0
Spans time None = Unit {0}
Spans time (Some d) = time.span d ≡ true

-- the time elapsed at an input that comes before the part fires, or just then
abbrev pub Timely : {C : Type 0} → Time C → Option C → C → Type 0
Timely time None e = Unit {0}
Timely time (Some d) e = time.leq e d ≡ true

-- From a sound state on, whatever timely events come, advance is a span or never.
pub record Rules {C S : Type 0} (time : Time C) (kind : Kind C S) (sound : S → Type 0) : Type 0 where
  pub spans : (s : S) → sound s → Spans time (kind.advance s)
  pub fires : (s : S) (d : C) → sound s → kind.advance s ≡ Some d → sound (kind.internal s)
  pub takes : (s : S) (e : C) (pins value : ℕ) → sound s → Timely time (kind.advance s) e → sound (kind.external s e pins value)
