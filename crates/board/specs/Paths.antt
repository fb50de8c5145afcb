-- Paths of wires, and the flattened network of a board.
use Rattle.std.specs.Prelude.{◌≡◌, ℕ, ◌/◌, ◌%◌, ◌^◌, ◌<◌, ◌↔◌, List, length}
use Rattle.coupling.specs.Wiring.{Wiring}
use Rattle.coupling.specs.declared.coupling.Source.{Source}
use Rattle.coupling.specs.declared.coupling.Source.TheVariants as source
use Rattle.board.specs.Wires.{wire_at}
use Rattle.board.specs.declared.pins.Pin.{Pin}
use Rattle.board.specs.declared.pins.Pin.TheVariants.{PartIn, PartOut, BlockIn, BlockOut}
use Rattle.board.specs.declared.pins.Wire.{Wire}

-- one of the wires leads from p to q
abbrev pub Joined : List Wire → Pin → Pin → Type 0
Joined wires p q = (n : ℕ) × (n < length wires) × ((wire_at wires n).from ≡ p) × ((wire_at wires n).to ≡ q)

-- A path of wires leads from pin to pin. It passes through block pins and never through a part,
-- since no wire leads from a part's input or to a part's output.
pub data Leads (wires : List Wire) : Pin → Pin → Type 0 where
  wire : {p q : Pin} → Joined wires p q → Leads wires p q
  onwards : {p q r : Pin} → Joined wires p q → Leads wires q r → Leads wires p r

-- the pin that a source's row is of
abbrev pub pin_of : Source → ℕ → Pin
pin_of source.Board k = BlockIn 0 k
pin_of (source.Part i) k = PartOut i k

-- pin p belongs to the set
abbrev pub Has : ℕ → ℕ → Type 0
Has pins p = pins / 2 ^ p % 2 ≡ 1

-- w is the flattened network: a pin belongs to a row's set exactly when a path leads to it
pub record Flattened (wires : List Wire) (parts inputs : ℕ) (w : Wiring) : Type 0 where
  pub part_count : w.parts ≡ parts
  pub input_count : w.inputs ≡ inputs
  pub to_part : (s : Source) (k i p : ℕ) → k < 8 → i < parts → Has (w.row s k i) p ↔ Leads wires (pin_of s k) (PartIn i p)
  pub to_board : (s : Source) (k p : ℕ) → k < 8 → Has (w.board s k) p ↔ Leads wires (pin_of s k) (BlockOut 0 p)

-- two flattened networks of one board have the same rows
pub record Agrees (parts : ℕ) (w v : Wiring) : Type 0 where
  pub same_rows : (s : Source) (k i : ℕ) → k < 8 → i < parts → v.row s k i ≡ w.row s k i
  pub same_boards : (s : Source) (k : ℕ) → k < 8 → v.board s k ≡ w.board s k

-- no path leads from a part to itself
abbrev pub NeverItself : List Wire → Type 0
NeverItself wires = (i k l : ℕ) → Leads wires (PartOut i k) (PartIn i l) → ⊥
