-- The pieces of a text between separators: a file's lines, and a line's fields.
use Rattle.std.specs.Prelude.{◌≡◌, ℕ, ◌+◌, cond, List, [], ◌∷◌, length, Some, None, Option, ◌==◌}
use Rattle.std.specs.Borrow.{Bor}

-- one more byte at the front of the first piece
abbrev pub onto : ℕ → List (List ℕ) → List (List ℕ)
onto b [] = (b ∷ []) ∷ []
onto b (piece ∷ pieces) = (b ∷ piece) ∷ pieces

-- the pieces of a text between separators
abbrev pub split : ℕ → List ℕ → List (List ℕ)
split separator [] = [] ∷ []
split separator (b ∷ text) = cond (b == separator) ([] ∷ split separator text) (onto b (split separator text))

-- the pieces of what is left, if anything is
abbrev pub left : ℕ → Option (Bor (List ℕ)) → List (List ℕ)
left separator None = []
left separator (Some rest) = split separator rest.now

-- how many bytes are left after a separator, with that
abbrev pub more : Option (Bor (List ℕ)) → ℕ
more None = 0
more (Some rest) = length rest.now + 1

-- the first piece of a text, and what is left
pub record Parts (separator : ℕ) (text piece : List ℕ) (rest : Option (Bor (List ℕ))) : Type 0 where
  pub pieces : split separator text ≡ piece ∷ left separator rest
  pub bytes : length text ≡ length piece + more rest
