-- What a line does to the drawing.
use Rattle.std.specs.Prelude.{◌≡◌, ℕ, ◌<◌, ◌⊎◌, List, Some, None, Ok, Err, Option, Result}
use Rattle.clock.specs.Time.{Time}
use Rattle.part.specs.Gen.{generator_starts}
use Rattle.part.specs.Uart.{uart_starts}
use Rattle.part.specs.Line.{line_starts}
use Rattle.part.specs.declared.catalogue.Catalogue.{Catalogue}
use Rattle.part.specs.declared.catalogue.Catalogue.TheVariants as catalogue
use Rattle.drawing.specs.Calls.{Sheet, OpensBlock, AddsPart, AddsWire, ClosesBlock}
use Rattle.drawing.specs.Faults.{fault_number}
use Rattle.drawing.specs.declared.fault.Fault.{Fault}
use Rattle.grammar.specs.declared.fault.Verdict.{Verdict}
use Rattle.grammar.specs.declared.statement.PartKind.{PartKind}
use Rattle.grammar.specs.declared.statement.PartKind.TheVariants as kind
use Rattle.grammar.specs.declared.statement.Statement.{Statement}
use Rattle.grammar.specs.declared.statement.Statement.TheVariants.{Open, Part, Wire, Close}
use Rattle.grammar.specs.Rules.{ItemLine, BoardLine}
use Rattle.netlist.specs.Verdicts.{refused}

-- the pins of a kind
abbrev pub ins_of : PartKind → ℕ
ins_of (kind.Gen p v s) = 1
ins_of (kind.Uart b) = 1
ins_of (kind.Line d) = 1

abbrev pub outs_of : PartKind → ℕ
outs_of (kind.Gen p v s) = 1
outs_of (kind.Uart b) = 2
outs_of (kind.Line d) = 1

-- its start state
abbrev pub start_of : {C : Type 0} → Time C → PartKind → Catalogue C
start_of time (kind.Gen p v s) = catalogue.Gen (generator_starts time p v s)
start_of time (kind.Uart b) = catalogue.Uart (uart_starts time b)
start_of time (kind.Line d) = catalogue.Line (line_starts time d)

-- what a line says, as a call of the builder
abbrev pub Takes : {C : Type 0} → Time C → Statement → Sheet (Catalogue C) → Sheet (Catalogue C) → Result Unit Fault → Type 0
Takes time (Open name ins outs) before after r = OpensBlock name ins outs before after r
Takes time (Part name k) before after r = AddsPart name (ins_of k) (outs_of k) (start_of time k) before after r
Takes time (Wire from to) before after r = AddsWire from to before after r
Takes time Close before after r = ClosesBlock before after r

-- the rule of a line: outside the board, and in a block
abbrev pub LineSays : Option ℕ → List ℕ → ℕ → Result Statement Verdict → Type 0
LineSays None line n q = BoardLine line n q
LineSays (Some b) line n q = ItemLine line n q

-- what line n says is drawn, or refused by a numbered question
abbrev pub Drawn : {C : Type 0} → Time C → Result Statement Verdict → ℕ → Sheet (Catalogue C) → Result (Sheet (Catalogue C)) Verdict → Type 0
Drawn time (Err v) n before r = r ≡ Err v
Drawn {C} time (Ok st) n before r =
    ((after : Sheet (Catalogue C)) × Takes time st before after (Ok tt) × (r ≡ Ok after))
    ⊎ ((f : Fault) × Takes time st before before (Err f) × (0 < fault_number f) × (r ≡ Err (refused f n)))

-- line n: the drawing after it, or the verdict
abbrev pub LineGives : {C : Type 0} → Time C → List ℕ → ℕ → Sheet (Catalogue C) → Result (Sheet (Catalogue C)) Verdict → Type 0
LineGives time line n before r = (q : Result Statement Verdict) × LineSays before.current line n q × Drawn time q n before r
