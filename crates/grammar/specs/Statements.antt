-- The written form of what a line says: its fields, with single spaces between them.
use Rattle.std.specs.Prelude.{ℕ, ◌<◌, ◌≤◌, List, [], ◌∷◌, decimal}
use Rattle.std.specs.List.{join_with_byte}
use Rattle.names.specs.Names.{name_text, Spelled}
use Rattle.drawing.specs.Children.{end_pin}
use Rattle.grammar.specs.Fields.{kind_word, end_text, EndSpelled}
use Rattle.grammar.specs.declared.kinds.KindWord.TheVariants as word
use Rattle.grammar.specs.declared.statement.Header.{Header}
use Rattle.grammar.specs.declared.statement.PartKind.{PartKind}
use Rattle.grammar.specs.declared.statement.PartKind.TheVariants as kind
use Rattle.grammar.specs.declared.statement.Statement.{Statement}
use Rattle.grammar.specs.declared.statement.Statement.TheVariants.{Open, Part, Wire, Close}

-- the letters N, B, P, W and E, as fields
abbrev pub letter_N : List ℕ
letter_N = 78 ∷ []

abbrev pub letter_B : List ℕ
letter_B = 66 ∷ []

abbrev pub letter_P : List ℕ
letter_P = 80 ∷ []

abbrev pub letter_W : List ℕ
letter_W = 87 ∷ []

abbrev pub letter_E : List ℕ
letter_E = 69 ∷ []

-- the kind word, and its numbers
abbrev pub kind_fields : PartKind → List (List ℕ)
kind_fields (kind.Gen p v s) = kind_word word.Gen ∷ decimal p ∷ decimal v ∷ decimal s ∷ []
kind_fields (kind.Uart b) = kind_word word.Uart ∷ decimal b ∷ []
kind_fields (kind.Line d) = kind_word word.Line ∷ decimal d ∷ []

abbrev pub fields_of : Statement → List (List ℕ)
fields_of (Open name ins outs) = letter_B ∷ name_text name ∷ decimal ins ∷ decimal outs ∷ []
fields_of (Part name k) = letter_P ∷ name_text name ∷ kind_fields k
fields_of (Wire from to) = letter_W ∷ end_text from ∷ end_text to ∷ []
fields_of Close = letter_E ∷ []

abbrev pub header_fields : Header → List (List ℕ)
header_fields h = letter_N ∷ decimal h.blocks ∷ decimal h.parts ∷ decimal h.wires ∷ []

-- the line that says it
abbrev pub written : Statement → List ℕ
written st = join_with_byte 32 (fields_of st)

-- numbers that a netlist can write
abbrev pub KindInRange : PartKind → Type 0
KindInRange (kind.Gen p v s) = (1 ≤ p) × (p ≤ 65535) × (v ≤ 255) × (s ≤ 255)
KindInRange (kind.Uart b) = (1 ≤ b) × (b ≤ 65535)
KindInRange (kind.Line d) = d ≤ 65535

-- and names that are made of a text alone
abbrev pub InRange : Statement → Type 0
InRange (Open name ins outs) = (ins ≤ 8) × (outs ≤ 8) × Spelled name
InRange (Part name k) = KindInRange k × Spelled name
InRange (Wire from to) = (end_pin from < 8) × (end_pin to < 8) × EndSpelled from × EndSpelled to
InRange Close = Unit {0}

abbrev pub HeaderInRange : Header → Type 0
HeaderInRange h = (h.blocks ≤ 256) × (h.parts ≤ 256) × (h.wires ≤ 256)
