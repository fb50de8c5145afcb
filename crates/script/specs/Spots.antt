-- Where a piece of a text stands.
use Rattle.std.specs.Prelude.{◌≡◌, ℕ, ◌+◌, List, [], ◌∷◌, ◌++◌, length}
use Rattle.grammar.specs.Pieces.{split}

-- the bytes of the pieces, each with the separator after it
abbrev pub bytes : List (List ℕ) → ℕ
bytes [] = 0
bytes (p ∷ ps) = length p + 1 + bytes ps

pub record Stands (separator : ℕ) (text : List ℕ) (number : ℕ) (piece : List ℕ) (start : ℕ) : Type 0 where
  pub before : List (List ℕ)
  pub after : List (List ℕ)
  pub pieces : split separator text ≡ before ++ piece ∷ after
  pub counted : length before ≡ number
  pub starts : start ≡ bytes before
