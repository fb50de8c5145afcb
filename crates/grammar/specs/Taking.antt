-- How the fields of a line are taken one by one.
use Rattle.std.specs.Prelude.{◌≡◌, ℕ, ◌+◌, List, ◌∷◌, Result}
use Rattle.names.specs.declared.name.Name.{Name}
use Rattle.drawing.specs.declared.ends.WireEnd.{WireEnd}
use Rattle.grammar.specs.declared.fault.LineFault.{LineFault}
use Rattle.grammar.specs.declared.field.Fields.{Fields}
use Rattle.grammar.specs.Fields.{IsName, Numeral, EndOf}
use Rattle.grammar.specs.Pieces.{left}
use Rattle.grammar.specs.Reading.{Reads}
use Rattle.grammar.specs.Rules.{first}

-- the next field of the line, which has the text
pub record Takes (before : Fields) (text : List ℕ) (after : Fields) : Type 0 where
  pub cut : left 32 before.words.rest ≡ text ∷ left 32 after.words.rest
  pub line : after.line ≡ before.line
  pub count : after.read ≡ before.read + 1

-- the letter of the line of number n is taken
pub record Begun (all : List (List ℕ)) (n : ℕ) (fields : Fields) : Type 0 where
  pub cut : all ≡ first all ∷ left 32 fields.words.rest
  pub line : fields.line ≡ n
  pub count : fields.read ≡ 1

-- the next field is taken and read
pub record Next {T : Type 0} (Writes : T → List ℕ → Type 0) (before after : Fields) (r : Result T LineFault) : Type 0 where
  pub text : List ℕ
  pub takes : Takes before text after
  pub reads : Reads Writes text after.line after.read r

abbrev pub ReadsName : Fields → Fields → Result Name LineFault → Type 0
ReadsName = Next IsName

abbrev pub ReadsNumber : ℕ → ℕ → Fields → Fields → Result ℕ LineFault → Type 0
ReadsNumber low high = Next (Numeral low high)

abbrev pub ReadsEnd : Fields → Fields → Result WireEnd LineFault → Type 0
ReadsEnd = Next EndOf
