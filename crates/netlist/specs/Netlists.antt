-- Which files write which boards. A drawing is a list of statements; its text is a line for each, after a first line
-- that counts its blocks, parts and wires.
use Rattle.std.specs.Prelude.{◌≡◌, ℕ, List, [], ◌∷◌, ◌++◌, length, Ok}
use Rattle.std.specs.List.{join_with_byte}
use Rattle.clock.specs.Time.{Time}
use Rattle.part.specs.Catalogue.{Stocked}
use Rattle.part.specs.declared.catalogue.Catalogue.{Catalogue}
use Rattle.drawing.specs.Calls.{Sheet, blank}
use Rattle.grammar.specs.declared.statement.Header.{Header}
use Rattle.grammar.specs.declared.statement.Statement.{Statement}
use Rattle.grammar.specs.Statements.{InRange, written, header_fields}
use Rattle.netlist.specs.Drawings.{Takes}
use Rattle.netlist.specs.Files.{Reading, Closed, Sized}

-- the statements, one after another, are in range, and the builder accepts each
abbrev pub Draws : {C : Type 0} → Time C → List Statement → Sheet (Catalogue C) → Sheet (Catalogue C) → Type 0
Draws time [] before after = after ≡ before
Draws {C} time (st ∷ more) before after =
    InRange st × ((between : Sheet (Catalogue C)) × Takes time st before between (Ok tt) × Draws time more between after)

-- a line for each statement
abbrev pub lines_of : List Statement → List ℕ
lines_of [] = []
lines_of (st ∷ more) = written st ++ 10 ∷ lines_of more

abbrev pub counts_of : {C : Type 0} → Sheet (Catalogue C) → Header
counts_of s = record { blocks = length s.plan.blocks; parts = length s.plan.components; wires = length s.plan.wires }

-- the text of a drawing
abbrev pub text_of : {C : Type 0} → List Statement → Sheet (Catalogue C) → List ℕ
text_of drawing s = join_with_byte 32 (header_fields (counts_of s)) ++ 10 ∷ lines_of drawing

-- The file writes the drawing: its first bytes are the text of the drawing, which keeps all the rules.
pub record Writes {C : Type 0} (time : Time C) (file : List ℕ) (drawing : List Statement) (d : Reading C) : Type 0 where
  pub sized : Sized file
  pub drawn : Draws time drawing blank d.sheet
  pub closed : Closed d.sheet
  pub rest : List ℕ
  pub begins : file ≡ text_of drawing d.sheet ++ rest
  pub bytes : d.bytes ≡ length (text_of drawing d.sheet)

-- from each of the start states on, advance is a span or never
abbrev pub Sound : {C : Type 0} → Time C → List (Catalogue C) → Type 0
Sound time [] = Unit {0}
Sound time (p ∷ ps) = Stocked time p × Sound time ps
