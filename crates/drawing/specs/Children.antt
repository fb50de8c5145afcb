-- The children of a block, and the pins that a wire end names.
use Rattle.std.specs.Prelude.{◌≡◌, ℕ, ◌+◌, ◌<◌, ◌≤◌, List, length, slice_index_or}
use Rattle.names.specs.declared.name.Name.{Name}
use Rattle.names.specs.Names.{name_text}
use Rattle.board.specs.declared.parts.Block.{Block}
use Rattle.board.specs.declared.parts.Component.{Component}
use Rattle.board.specs.declared.pins.Pin.{Pin}
use Rattle.board.specs.declared.pins.Pin.TheVariants.{PartIn, PartOut, BlockIn, BlockOut}
use Rattle.board.specs.declared.pins.Wire.{Wire}
use Rattle.board.specs.Wires.{block_at, component_at, wire_at}
use Rattle.drawing.specs.declared.ends.Wanted.{Wanted}
use Rattle.drawing.specs.declared.ends.Found.{Found}
use Rattle.drawing.specs.declared.ends.Found.TheVariants as found
use Rattle.drawing.specs.declared.ends.Side.{Side}
use Rattle.drawing.specs.declared.ends.Side.TheVariants as side
use Rattle.drawing.specs.declared.ends.WireEnd.{WireEnd}
use Rattle.drawing.specs.declared.ends.WireEnd.TheVariants.{Own, Child}

-- a thing in this block, of this name and with so many pins, is what is wanted
pub record Fits (w : Wanted) (block : ℕ) (name : Name) (ins outs : ℕ) : Type 0 where
  pub inside : w.block ≡ block
  pub some_ins : w.ins ≤ ins
  pub some_outs : w.outs ≤ outs
  pub spelled : name_text name ≡ name_text w.name

abbrev pub PartFits : Wanted → Component → Type 0
PartFits w p = Fits w p.block p.name p.ins p.outs

abbrev pub BlockFits : Wanted → Block → Type 0
BlockFits w b = Fits w b.parent b.name b.ins b.outs

-- what asks for just this part, or for just this block
abbrev pub wanted_part : Component → Wanted
wanted_part p = record { block = p.block; name = p.name; ins = p.ins; outs = p.outs }

abbrev pub wanted_block : Block → Wanted
wanted_block b = record { block = b.parent; name = b.name; ins = b.ins; outs = b.outs }

-- thing i, from the first that may be a child, is the wanted child
abbrev pub IsWanted : {C : Type 0} → (C → Wanted) → C → List C → ℕ → Wanted → ℕ → Type 0
IsWanted asks absent things first w i =
    let its = asks (slice_index_or things i absent) in
    (first ≤ i) × (i < length things) × Fits w its.block its.name its.ins its.outs

-- part i is the wanted child
abbrev pub IsPart : List Component → Wanted → ℕ → Type 0
IsPart parts w i = (i < length parts) × PartFits w (component_at parts i)

-- block b is the wanted child; the board is no child
abbrev pub IsBlock : List Block → Wanted → ℕ → Type 0
IsBlock blocks w b = (0 < b) × (b < length blocks) × BlockFits w (block_at blocks b)

abbrev pub IsChild : List Block → List Component → Wanted → Found → Type 0
IsChild blocks parts w (found.Part i) = IsPart parts w i
IsChild blocks parts w (found.Block b) = IsBlock blocks w b

-- the child of block b of this name, whatever its pins
abbrev pub called : ℕ → Name → Wanted
called b name = record { block = b; name = name; ins = 0; outs = 0 }

-- a child of the block has this name
abbrev pub Taken : List Block → List Component → ℕ → Name → Type 0
Taken blocks parts b name = (f : Found) × IsChild blocks parts (called b name) f

abbrev pub end_pin : WireEnd → ℕ
end_pin (Own k) = k
end_pin (Child name k) = k

abbrev pub output : Found → ℕ → Pin
output (found.Part i) k = PartOut i k
output (found.Block b) k = BlockOut b k

abbrev pub input : Found → ℕ → Pin
input (found.Part i) k = PartIn i k
input (found.Block b) k = BlockIn b k

-- the pin at which a wire in block b begins: an input of the block itself, or an output of a child
abbrev pub FindsFrom : List Block → List Component → ℕ → WireEnd → Pin → Type 0
FindsFrom blocks parts b (Own k) p = (k < (block_at blocks b).ins) × (p ≡ BlockIn b k)
FindsFrom blocks parts b (Child name k) p =
    (f : Found) × IsChild blocks parts (record { block = b; name = name; ins = 0; outs = k + 1 }) f × (p ≡ output f k)

-- the pin at which it ends: an output of the block itself, or an input of a child
abbrev pub FindsTo : List Block → List Component → ℕ → WireEnd → Pin → Type 0
FindsTo blocks parts b (Own k) p = (k < (block_at blocks b).outs) × (p ≡ BlockOut b k)
FindsTo blocks parts b (Child name k) p =
    (f : Found) × IsChild blocks parts (record { block = b; name = name; ins = k + 1; outs = 0 }) f × (p ≡ input f k)

-- the pin of a child on this side of a wire: a wire begins at an output, and ends at an input
abbrev pub child_pin : Side → Found → ℕ → Pin
child_pin side.From = output
child_pin side.To = input

-- the pin at which a wire in block b begins, or ends
abbrev pub Finds : Side → List Block → List Component → ℕ → WireEnd → Pin → Type 0
Finds side.From = FindsFrom
Finds side.To = FindsTo

-- the wire is among the wires
abbrev pub Stands : List Wire → Wire → Type 0
Stands wires w = (n : ℕ) × (n < length wires) × (wire_at wires n ≡ w)
