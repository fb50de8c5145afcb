-- Rows of pin sets, and their union.
use Rattle.std.specs.Prelude.{◌≡◌, ℕ, zero, suc, ◌/◌, ◌%◌, ◌^◌, ◌<◌, cond, List, replicate, ◌==◌, bit_or, slice_index, slice_index_or}
use Rattle.coupling.specs.declared.rows.Row.{Row}

abbrev pub nothing : Row
nothing = record { sets = replicate 64 0; board = 0 }

-- the input pins of part i that a row reaches
abbrev pub set_of : Row → ℕ → ℕ
set_of row i = slice_index row.sets i

-- r reaches what a or b reaches
pub record Joins (a b r : Row) : Type 0 where
  pub sets : (i : ℕ) → i < 64 → set_of r i ≡ bit_or (set_of a i) (set_of b i)
  pub board : r.board ≡ bit_or a.board b.board

-- the union of f k over the pins k below n that stand in the set
abbrev pub union_below : ℕ → (ℕ → ℕ) → ℕ → ℕ
union_below zero f pins = 0
union_below (suc k) f pins = bit_or (union_below k f pins) (cond (pins / 2 ^ k % 2 == 1) (f k) 0)

-- a pin set reaches the union of what its pins reach
unfoldable pub union : (ℕ → ℕ) → ℕ → ℕ
union f pins = union_below 8 f pins

-- a row by its place; past the last nothing is reached
abbrev pub row_at : List Row → ℕ → Row
row_at rows r = slice_index_or rows r nothing

-- r is what the pins of a set reach, by the rows of pins 0 to 7
pub record UnionOf (rows : List Row) (pins : ℕ) (r : Row) : Type 0 where
  pub sets : (i : ℕ) → i < 64 → set_of r i ≡ union (λ k. set_of (row_at rows k) i) pins
  pub board : r.board ≡ union (λ k. (row_at rows k).board) pins
