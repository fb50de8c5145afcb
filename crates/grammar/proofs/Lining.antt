-- The words of a line, one by one.
use Rattle.std.proofs.Common.{◌≡◌, ℕ, ◌+◌, List, length, Option, Bor}
use Rattle.grammar.specs.Pieces.{split, left}
use Rattle.grammar.specs.Lines.{Words}

-- while fields are counted: what is left are the fields after those that are passed
pub record Sofar (line : List ℕ) (rest : Option (Bor (List ℕ))) (count : ℕ) : Type 0 where
  pub counted : length (split 32 line) ≡ count + length (left 32 rest)
  pub to_here : Words (split 32 line) → Words (left 32 rest)
  pub from_here : Words (left 32 rest) → Words (split 32 line)
