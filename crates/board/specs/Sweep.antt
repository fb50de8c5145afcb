-- How a board is flattened: the wires are taken in the order of the ranks of their sources, the last first, and each
-- adds to its source's row its target and what the target's row reaches.
use Rattle.std.specs.Prelude.{◌≡◌, ℕ, ◌+◌, ◌*◌, ◌<◌, ◌⊎◌, List, length, slice_set}
use Rattle.coupling.specs.Rows.{row_at, set_of, Joins}
use Rattle.coupling.specs.declared.rows.Row.{Row}
use Rattle.board.specs.Paths.{Leads, Has}
use Rattle.board.specs.Ranks.{rank, place}
use Rattle.board.specs.Wires.{wire_at}
use Rattle.board.specs.declared.pins.Pin.{Pin}
use Rattle.board.specs.declared.pins.Pin.TheVariants.{PartIn, PartOut, BlockIn, BlockOut}
use Rattle.board.specs.declared.pins.Wire.{Wire}

-- a pin that has a row
abbrev pub InTable : ℕ → ℕ → Pin → Type 0
InTable parts blocks (PartIn i k) = ⊥
InTable parts blocks (PartOut i k) = (i < parts) × (k < 8)
InTable parts blocks (BlockIn b k) = (b < blocks) × (k < 8)
InTable parts blocks (BlockOut b k) = (b < blocks) × (k < 8)

-- a pin that a row tells of
abbrev pub Target : Pin → Type 0
Target (PartIn i p) = i < 64
Target (PartOut i p) = ⊥
Target (BlockIn b p) = ⊥
Target (BlockOut b p) = b ≡ 0

-- the row reaches the pin
abbrev pub Hits : Row → Pin → Type 0
Hits r (PartIn i p) = (i < 64) × Has (set_of r i) p
Hits r (PartOut i p) = ⊥
Hits r (BlockIn b p) = ⊥
Hits r (BlockOut b p) = (b ≡ 0) × Has r.board p

-- a pin whose numbers are in range
abbrev pub Small : Pin → Type 0
Small (PartIn i k) = (i < 64) × (k < 8)
Small (PartOut i k) = (i < 64) × (k < 8)
Small (BlockIn b k) = (b < 32) × (k < 8)
Small (BlockOut b k) = (b < 32) × (k < 8)

-- the row reaches this pin alone, or nothing where no row tells of it
pub record Only (to : Pin) (r : Row) : Type 0 where
  pub itself : Target to → Hits r to
  pub no_other : (x : Pin) → Hits r x → to ≡ x

-- a wire from the row at one place to a pin, whose own row is at another place, is added
pub record Extended (rows : List Row) (from_place to_place : ℕ) (to : Pin) (after : List Row) : Type 0 where
  pub alone : Row
  pub onto : Row
  pub joined : Row
  pub is_alone : Only to alone
  pub is_onto : Joins alone (row_at rows to_place) onto
  pub is_joined : Joins (row_at rows from_place) onto joined
  pub whole : length joined.sets ≡ 64
  pub stored : after ≡ slice_set rows from_place joined

-- after so many turns, and so many wires of the next: each row is right about the wires that were taken
pub record Swept (wires : List Wire) (parts blocks turn count : ℕ) (rows : List Row) : Type 0 where
  pub long : length rows ≡ 8 * (parts + blocks + blocks) + 1
  pub whole : (r : ℕ) → length (row_at rows r).sets ≡ 64
  pub none_last : (x : Pin) → Hits (row_at rows (8 * (parts + blocks + blocks))) x → ⊥
  pub sound : (p : Pin) → InTable parts blocks p → (x : Pin) → Hits (row_at rows (place parts blocks p)) x → Leads wires p x
  pub complete : (m : ℕ) → m < length wires →
      (blocks + blocks < rank blocks (wire_at wires m).from + turn) ⊎ ((rank blocks (wire_at wires m).from + turn ≡ blocks + blocks) × (m < count)) →
      (x : Pin) → Target x → ((wire_at wires m).to ≡ x) ⊎ Leads wires (wire_at wires m).to x →
      Hits (row_at rows (place parts blocks (wire_at wires m).from)) x
