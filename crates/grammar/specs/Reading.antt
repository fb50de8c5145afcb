-- What a field is read as.
use Rattle.std.specs.Prelude.{◌≡◌, ℕ, List, Err, Result, MatchResult}
use Rattle.names.specs.declared.name.Name.{Name}
use Rattle.drawing.specs.declared.ends.WireEnd.{WireEnd}
use Rattle.grammar.specs.declared.fault.LineFault.{LineFault}
use Rattle.grammar.specs.declared.fault.LineFault.TheVariants.{BadField}
use Rattle.grammar.specs.declared.field.Placed.{Placed}
use Rattle.grammar.specs.declared.field.Field.{Field}
use Rattle.grammar.specs.declared.field.Field.TheVariants as field
use Rattle.grammar.specs.Fields.{IsName, Numeral, EndOf}

abbrev pub fault_at : Placed → LineFault
fault_at p = BadField p.line p.field

-- a value that the text writes, or the fault at its place where there is none
abbrev pub Reads : {T : Type 0} → (T → List ℕ → Type 0) → List ℕ → ℕ → ℕ → Result T LineFault → Type 0
Reads {T} Writes text line k r = MatchResult r (λ x. Writes x text) (λ e. ((x : T) → Writes x text → ⊥) × (e ≡ BadField line k))

abbrev pub NameIn : Field → Result Name LineFault → Type 0
NameIn (field.Name p) r = Reads IsName p.text.now p.line p.field r
NameIn (field.Number p) r = r ≡ Err (fault_at p)
NameIn (field.End p) r = r ≡ Err (fault_at p)

abbrev pub NumberIn : Field → ℕ → ℕ → Result ℕ LineFault → Type 0
NumberIn (field.Name p) low high r = r ≡ Err (fault_at p)
NumberIn (field.Number p) low high r = Reads (Numeral low high) p.text.now p.line p.field r
NumberIn (field.End p) low high r = r ≡ Err (fault_at p)

abbrev pub EndIn : Field → Result WireEnd LineFault → Type 0
EndIn (field.Name p) r = r ≡ Err (fault_at p)
EndIn (field.Number p) r = r ≡ Err (fault_at p)
EndIn (field.End p) r = Reads EndOf p.text.now p.line p.field r
