-- The text of a line: 1 to 80 bytes, fields of bytes 33 to 126, with single spaces only between fields.
use Rattle.std.specs.Prelude.{ℕ, ◌<◌, ◌≤◌, List, length, slice_index}
use Rattle.std.specs.List.{AllByRecursion}
use Rattle.grammar.specs.Pieces.{split}

-- a field: not empty, and of bytes 33 to 126
pub record Word (text : List ℕ) : Type 0 where
  pub some : 0 < length text
  pub printable : (k : ℕ) → k < length text → (33 ≤ slice_index text k) × (slice_index text k ≤ 126)

abbrev pub Words : List (List ℕ) → Type 0
Words = AllByRecursion Word

-- what stands between the spaces are fields
pub record Tidy (line : List ℕ) : Type 0 where
  pub short : length line ≤ 80
  pub words : Words (split 32 line)
