-- How far along a path a pin comes, and where the row of a pin stands while a board is flattened.
use Rattle.std.specs.Prelude.{ℕ, zero, suc, ◌+◌, ◌-◌, ◌*◌}
use Rattle.board.specs.declared.pins.Pin.{Pin}
use Rattle.board.specs.declared.pins.Pin.TheVariants.{PartIn, PartOut, BlockIn, BlockOut}

-- part outputs; block outputs from the last block down to the board; block inputs from the board up; part inputs
abbrev pub rank : ℕ → Pin → ℕ
rank blocks (PartOut i k) = 0
rank blocks (BlockOut b k) = blocks - b
rank blocks (BlockIn b k) = blocks + 1 + b
rank blocks (PartIn i k) = blocks + blocks + 1

-- board inputs first, then part outputs, the inputs of the other blocks, and block outputs; a part's input has no row
abbrev pub input_place : ℕ → ℕ → ℕ → ℕ
input_place parts zero k = k
input_place parts (suc b) k = 8 * (parts + suc b) + k

abbrev pub place : ℕ → ℕ → Pin → ℕ
place parts blocks (PartOut i k) = 8 * (i + 1) + k
place parts blocks (BlockIn b k) = input_place parts b k
place parts blocks (BlockOut b k) = 8 * (parts + blocks + b) + k
place parts blocks (PartIn i k) = 8 * (parts + blocks + blocks)
