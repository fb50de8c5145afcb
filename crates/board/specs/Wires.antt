-- Which wires a board may have.
use Rattle.std.specs.Prelude.{ℕ, Bool, true, false, not, ◌&&◌, List, length, replicate, ◌==◌, nat_lt, slice_index_or}
use Rattle.std.proofs.Common.{arith}
use Rattle.names.specs.declared.name.Name.{Name}
use Rattle.board.specs.declared.parts.Block.{Block}
use Rattle.board.specs.declared.parts.Component.{Component}
use Rattle.board.specs.declared.pins.Pin.{Pin}
use Rattle.board.specs.declared.pins.Pin.TheVariants.{PartIn, PartOut, BlockIn, BlockOut}
use Rattle.board.specs.declared.pins.Wire.{Wire}

-- what stands for a block, a part or a wire that is absent
abbrev nameless : Name
nameless = record { letters = replicate 8 0; len = 1; some = omega arith; few = omega arith }

abbrev pub no_block : Block
no_block = record { name = nameless; parent = 0; depth = 0; ins = 0; outs = 0 }

abbrev pub no_component : Component
no_component = record { name = nameless; block = 0; ins = 0; outs = 0 }

abbrev pub no_wire : Wire
no_wire = record { from = PartIn 0 0; to = PartIn 0 0 }

abbrev pub block_at : List Block → ℕ → Block
block_at blocks b = slice_index_or blocks b no_block

abbrev pub component_at : List Component → ℕ → Component
component_at parts i = slice_index_or parts i no_component

abbrev pub wire_at : List Wire → ℕ → Wire
wire_at wires n = slice_index_or wires n no_wire

-- the pin is there, and a wire may lead from it: an output of a child, or an input of the block itself
abbrev pub leads : List Block → List Component → Pin → Bool
leads blocks parts (PartIn i k) = false
leads blocks parts (PartOut i k) = nat_lt i (length parts) && nat_lt k (component_at parts i).outs
leads blocks parts (BlockIn b k) = nat_lt b (length blocks) && nat_lt k (block_at blocks b).ins
leads blocks parts (BlockOut c k) = nat_lt 0 c && nat_lt c (length blocks) && nat_lt k (block_at blocks c).outs

-- the pin is there, and a wire may lead to it: an input of a child, or an output of the block itself
abbrev pub takes : List Block → List Component → Pin → Bool
takes blocks parts (PartIn i k) = nat_lt i (length parts) && nat_lt k (component_at parts i).ins
takes blocks parts (PartOut i k) = false
takes blocks parts (BlockIn c k) = nat_lt 0 c && nat_lt c (length blocks) && nat_lt k (block_at blocks c).ins
takes blocks parts (BlockOut b k) = nat_lt b (length blocks) && nat_lt k (block_at blocks b).outs

-- the block inside which a wire from this pin runs
abbrev pub inside_from : List Block → List Component → Pin → ℕ
inside_from blocks parts (PartIn i k) = 0
inside_from blocks parts (PartOut i k) = (component_at parts i).block
inside_from blocks parts (BlockIn b k) = b
inside_from blocks parts (BlockOut c k) = (block_at blocks c).parent

-- the block inside which a wire to this pin runs
abbrev pub inside_to : List Block → List Component → Pin → ℕ
inside_to blocks parts (PartIn i k) = (component_at parts i).block
inside_to blocks parts (PartOut i k) = 0
inside_to blocks parts (BlockIn c k) = (block_at blocks c).parent
inside_to blocks parts (BlockOut b k) = b

-- the wire joins neither a child to itself nor the block to itself
abbrev pub apart : Pin → Pin → Bool
apart (PartIn i k) q = false
apart (PartOut i k) (PartIn j l) = not (i == j)
apart (PartOut i k) (PartOut j l) = false
apart (PartOut i k) (BlockIn c l) = true
apart (PartOut i k) (BlockOut b l) = true
apart (BlockIn b k) (PartIn j l) = true
apart (BlockIn b k) (PartOut j l) = false
apart (BlockIn b k) (BlockIn c l) = true
apart (BlockIn b k) (BlockOut d l) = false
apart (BlockOut c k) (PartIn j l) = true
apart (BlockOut c k) (PartOut j l) = false
apart (BlockOut c k) (BlockIn d l) = not (c == d)
apart (BlockOut c k) (BlockOut b l) = true

abbrev pub sound_wire : List Block → List Component → Wire → Bool
sound_wire blocks parts w =
    leads blocks parts w.from && takes blocks parts w.to
    && inside_from blocks parts w.from == inside_to blocks parts w.to
    && apart w.from w.to
