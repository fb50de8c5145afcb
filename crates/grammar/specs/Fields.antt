-- What a field writes: a number, a kind word, a name or a wire end.
use Rattle.std.specs.Prelude.{◌≡◌, ℕ, ◌+◌, ◌<◌, ◌≤◌, List, [], ◌∷◌, ◌++◌, decimal}
use Rattle.names.specs.declared.name.Name.{Name}
use Rattle.names.specs.Names.{name_text, Spelled}
use Rattle.drawing.specs.declared.ends.WireEnd.{WireEnd}
use Rattle.drawing.specs.declared.ends.WireEnd.TheVariants.{Own, Child}
use Rattle.drawing.specs.Children.{end_pin}
use Rattle.grammar.specs.declared.kinds.KindWord.{KindWord}
use Rattle.grammar.specs.declared.kinds.KindWord.TheVariants.{Gen, Uart, Line}

-- the text is the name's, which is made of it alone
pub record IsName (n : Name) (text : List ℕ) : Type 0 where
  pub spelled : Spelled n
  pub written : name_text n ≡ text

-- the text writes v, which is between low and high, without a leading zero
pub record Numeral (low high v : ℕ) (text : List ℕ) : Type 0 where
  pub at_least : low ≤ v
  pub at_most : v ≤ high
  pub written : decimal v ≡ text

-- gen, uart and line
abbrev pub kind_word : KindWord → List ℕ
kind_word Gen = 103 ∷ 101 ∷ 110 ∷ []
kind_word Uart = 117 ∷ 97 ∷ 114 ∷ 116 ∷ []
kind_word Line = 108 ∷ 105 ∷ 110 ∷ 101 ∷ []

-- a child's name, or a hyphen for the block itself; a point; and the pin's digit
abbrev pub end_text : WireEnd → List ℕ
end_text (Own k) = (45 ∷ []) ++ 46 ∷ (48 + k) ∷ []
end_text (Child name k) = name_text name ++ 46 ∷ (48 + k) ∷ []

-- a text, a point, and the digit of a pin from 0 to 7
pub record Pointed (child : List ℕ) (k : ℕ) (text : List ℕ) : Type 0 where
  pub pin : k < 8
  pub written : child ++ 46 ∷ (48 + k) ∷ [] ≡ text

-- the name of a child is made of a text alone
abbrev pub EndSpelled : WireEnd → Type 0
EndSpelled (Own k) = Unit {0}
EndSpelled (Child name k) = Spelled name

-- the text writes the wire end, whose pin is 0 to 7
pub record EndOf (e : WireEnd) (text : List ℕ) : Type 0 where
  pub spelled : EndSpelled e
  pub pin : end_pin e < 8
  pub written : end_text e ≡ text
