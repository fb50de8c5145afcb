-- What a network value says, and what it is to make and to wire one.
use Rattle.std.specs.Prelude.{◌≡◌, ℕ, ◌+◌, ◌*◌, ◌^◌, ◌<◌, ◌≤◌, Bool, true, false, not, ◌&&◌, vec_items, ◌==◌, ◌≢◌, bit_or, nat_lt, slice_index, slice_set}
use Rattle.coupling.specs.Rows.{row_at, set_of}
use Rattle.coupling.specs.Wiring.{Wiring}
use Rattle.coupling.specs.declared.coupling.Source.{Source}
use Rattle.coupling.specs.declared.coupling.Source.TheVariants as source
use Rattle.coupling.specs.declared.network.Network.{Network}
use Rattle.coupling.specs.declared.rows.Row.{Row}
use Rattle.coupling.specs.declared.wires.Target.{Target}
use Rattle.coupling.specs.declared.wires.Target.TheVariants.{Part, Board}
use Rattle.coupling.specs.declared.wires.BuildFault.{BuildFault}
use Rattle.coupling.specs.declared.wires.BuildFault.TheVariants.{TooManyParts, TooManyInputs, Memory}
use Rattle.coupling.specs.declared.wires.WireFault.{WireFault}
use Rattle.coupling.specs.declared.wires.WireFault.TheVariants.{NoSource, NoTarget, OwnPart}

-- the place of a source's first row
abbrev pub first_row : Source → ℕ
first_row source.Board = 0
first_row (source.Part i) = 8 * (i + 1)

abbrev pub wired : Network → Wiring
wired n = record {
  parts = n.parts;
  inputs = n.inputs;
  row = λ s k i. set_of (row_at (vec_items n.rows) (first_row s + k)) i;
  board = λ s k. (row_at (vec_items n.rows) (first_row s + k)).board;
}

-- a network of so many parts and board inputs, with no wires
pub record Bare (parts inputs : ℕ) (n : Network) : Type 0 where
  pub part_count : n.parts ≡ parts
  pub input_count : n.inputs ≡ inputs
  pub rows : (s : Source) (k i : ℕ) → (wired n).row s k i ≡ 0
  pub boards : (s : Source) (k : ℕ) → (wired n).board s k ≡ 0

abbrev pub Unbuildable : ℕ → ℕ → BuildFault → Type 0
Unbuildable parts inputs TooManyParts = 64 < parts
Unbuildable parts inputs TooManyInputs = (parts ≤ 64) × (8 < inputs)
Unbuildable parts inputs Memory = (parts ≤ 64) × (inputs ≤ 8)

-- the source has this pin
abbrev pub HasSource : Wiring → Source → ℕ → Bool
HasSource w source.Board k = nat_lt k w.inputs
HasSource w (source.Part i) k = nat_lt i w.parts && nat_lt k 8

-- the target is there
abbrev pub HasTarget : Wiring → Target → Bool
HasTarget w (Part i p) = nat_lt i w.parts && nat_lt p 8
HasTarget w (Board p) = nat_lt p 8

-- the wire does not lead from a part to itself
abbrev pub Apart : Source → Target → Bool
Apart source.Board t = true
Apart (source.Part i) (Board p) = true
Apart (source.Part i) (Part j p) = not (i == j)

abbrev pub Unwirable : Wiring → Source → ℕ → Target → WireFault → Type 0
Unwirable w s k t NoSource = HasSource w s k ≡ false
Unwirable w s k t NoTarget = (HasSource w s k ≡ true) × (HasTarget w t ≡ false)
Unwirable w s k t OwnPart = (HasSource w s k ≡ true) × (HasTarget w t ≡ true) × (Apart s t ≡ false)

-- a pin set that gained a pin of a part; every other set is as it was
pub record WiredPart (w v : Wiring) (s : Source) (k i p : ℕ) : Type 0 where
  pub here : v.row s k i ≡ bit_or (w.row s k i) (2 ^ p)
  pub rows : (t : Source) (m j : ℕ) → m < 8 → (t ≡ s → m ≡ k → j ≢ i) → v.row t m j ≡ w.row t m j
  pub boards : (t : Source) (m : ℕ) → m < 8 → v.board t m ≡ w.board t m

-- a pin set that gained a pin of the board; every other set is as it was
pub record WiredBoard (w v : Wiring) (s : Source) (k p : ℕ) : Type 0 where
  pub here : v.board s k ≡ bit_or (w.board s k) (2 ^ p)
  pub rows : (t : Source) (m j : ℕ) → m < 8 → v.row t m j ≡ w.row t m j
  pub boards : (t : Source) (m : ℕ) → m < 8 → (t ≡ s → m ≢ k) → v.board t m ≡ w.board t m

abbrev pub Gains : Wiring → Wiring → Source → ℕ → Target → Type 0
Gains w v s k (Part i p) = WiredPart w v s k i p
Gains w v s k (Board p) = WiredBoard w v s k p

-- w became v by a wire from pin k of the source to the target
pub record Wired (w v : Wiring) (s : Source) (k : ℕ) (t : Target) : Type 0 where
  pub source : HasSource w s k ≡ true
  pub target : HasTarget w t ≡ true
  pub apart : Apart s t ≡ true
  pub parts : v.parts ≡ w.parts
  pub inputs : v.inputs ≡ w.inputs
  pub gains : Gains w v s k t

-- a row with one target more
abbrev pub added : Row → Target → Row
added r (Part i p) = record { sets = slice_set r.sets i (bit_or (slice_index r.sets i) (2 ^ p)); board = r.board }
added r (Board p) = record { sets = r.sets; board = bit_or r.board (2 ^ p) }

abbrev pub target_fits : Target → Type 0
target_fits (Part i p) = (i < 64) × (p < 8)
target_fits (Board p) = p < 8
