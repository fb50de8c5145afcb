-- The number, the line, the field and the layer of each fault of a text or a line.
use Rattle.std.specs.Prelude.{ℕ, List, Ok, Err, Result, codes}
use Rattle.grammar.specs.declared.fault.Verdict.{Verdict}
use Rattle.grammar.specs.declared.fault.TextFault.{TextFault}
use Rattle.grammar.specs.declared.fault.TextFault.TheVariants.{BadSize, BadText}
use Rattle.grammar.specs.declared.fault.LineFault.{LineFault}
use Rattle.grammar.specs.declared.fault.LineFault.TheVariants as fault
use Rattle.grammar.specs.declared.fault.Layer.{Layer}
use Rattle.grammar.specs.declared.fault.Layer.TheVariants as layer

-- how a layer is printed
abbrev pub layer_word : Layer → List ℕ
layer_word layer.Text = codes "text"
layer_word layer.Line = codes "line"
layer_word layer.Block = codes "block"
layer_word layer.Board = codes "board"

-- questions 1 and 2
abbrev pub of_text : ℕ → ℕ → ℕ → Verdict
of_text number line field = record { number = number; line = line; field = field; layer = layer.Text }

-- questions 3 and 4
abbrev pub of_line : ℕ → ℕ → ℕ → Verdict
of_line number line field = record { number = number; line = line; field = field; layer = layer.Line }

-- questions 5 to 9
abbrev pub of_block : ℕ → ℕ → ℕ → Verdict
of_block number line field = record { number = number; line = line; field = field; layer = layer.Block }

-- question 10, of line 1
abbrev pub of_board : ℕ → Verdict
of_board field = record { number = 10; line = 1; field = field; layer = layer.Board }

abbrev pub text_verdict : TextFault → Verdict
text_verdict BadSize = of_text 1 0 0
text_verdict (BadText n) = of_text 2 n 0

abbrev pub line_verdict : LineFault → Verdict
line_verdict (fault.Text e) = text_verdict e
line_verdict (fault.Missing n) = of_line 3 n 0
line_verdict (fault.BadLetter n) = of_line 3 n 1
line_verdict (fault.FieldCount n) = of_line 3 n 0
line_verdict (fault.BadKind n) = of_line 4 n 3
line_verdict (fault.NumberCount n) = of_line 4 n 0
line_verdict (fault.BadField n k) = of_line 4 n k

-- an answer, with the verdict in place of the fault
abbrev pub judged : {T E : Type 0} → (E → Verdict) → Result T E → Result T Verdict
judged verdict (Ok x) = Ok x
judged verdict (Err e) = Err (verdict e)
