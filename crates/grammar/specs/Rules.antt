-- The questions that are asked of a line, in their order.
use Rattle.std.specs.Prelude.{◌≡◌, ℕ, ◌+◌, ◌<◌, ◌⊎◌, List, [], ◌∷◌, length, drop, Ok, Err, Result, ◌≢◌, slice_index_or}
use Rattle.asking.specs.Asking.{Ask}
use Rattle.names.specs.declared.name.Name.{Name}
use Rattle.drawing.specs.declared.ends.WireEnd.{WireEnd}
use Rattle.grammar.specs.declared.fault.Verdict.{Verdict}
use Rattle.grammar.specs.declared.kinds.KindWord.{KindWord}
use Rattle.grammar.specs.declared.kinds.KindWord.TheVariants as word
use Rattle.grammar.specs.declared.statement.Header.{Header}
use Rattle.grammar.specs.declared.statement.PartKind.{PartKind}
use Rattle.grammar.specs.declared.statement.Statement.{Statement}
use Rattle.grammar.specs.Fields.{IsName, Numeral, EndOf, kind_word}
use Rattle.grammar.specs.Lines.{Tidy}
use Rattle.grammar.specs.Pieces.{split}
use Rattle.grammar.specs.Statements.{letter_N, letter_B, letter_P, letter_W, letter_E, kind_fields, fields_of, header_fields, KindInRange, InRange, HeaderInRange}
use Rattle.grammar.specs.Verdicts.{of_text, of_line}

-- what a field has to be
pub data Form : Type 0 where
  a_name : Form
  a_number : ℕ → ℕ → Form
  an_end : Form

abbrev pub Meets : Form → List ℕ → Type 0
Meets a_name f = (n : Name) × IsName n f
Meets (a_number low high) f = (v : ℕ) × Numeral low high v f
Meets an_end f = (e : WireEnd) × EndOf e f

-- the fields from number k on, in their order
abbrev pub Formed : {T : Type 0} → List Form → List (List ℕ) → ℕ → ℕ → Result T Verdict → Type 0 → Type 0
Formed [] fs k n r goes_on = goes_on
Formed (form ∷ forms) [] k n r goes_on = ⊥
Formed (form ∷ forms) (f ∷ fs) k n r goes_on =
    Ask (Meets form f → ⊥) (r ≡ Err (of_line 4 n k)) (Formed forms fs (k + 1) n r goes_on)

-- so many fields
abbrev pub Counted : {T : Type 0} → ℕ → List (List ℕ) → ℕ → Result T Verdict → Type 0 → Type 0
Counted count fs n r goes_on = Ask (length fs ≢ count) (r ≡ Err (of_line 3 n 0)) goes_on

-- what follows the letter of a block, of a wire and of the header
abbrev pub block_forms : List Form
block_forms = a_name ∷ a_number 0 8 ∷ a_number 0 8 ∷ []

abbrev pub wire_forms : List Form
wire_forms = an_end ∷ an_end ∷ []

abbrev pub count_forms : List Form
count_forms = a_number 0 256 ∷ a_number 0 256 ∷ a_number 0 256 ∷ []

-- the line says what has these fields
abbrev pub Says : List (List ℕ) → Result Statement Verdict → Type 0
Says fs r = (st : Statement) × InRange st × (fields_of st ≡ fs) × (r ≡ Ok st)

abbrev pub Heads : List (List ℕ) → Result Header Verdict → Type 0
Heads fs r = (h : Header) × HeaderInRange h × (header_fields h ≡ fs) × (r ≡ Ok h)

-- the numbers that follow a kind word
abbrev pub numbers_of : KindWord → List Form
numbers_of word.Gen = a_number 1 65535 ∷ a_number 0 255 ∷ a_number 0 255 ∷ []
numbers_of word.Uart = a_number 1 65535 ∷ []
numbers_of word.Line = a_number 0 65535 ∷ []

-- the numbers after a kind word, in their order, and the kind that they make
abbrev pub KindSays : KindWord → List (List ℕ) → ℕ → Result PartKind Verdict → Type 0
KindSays w fs n r =
    Formed (numbers_of w) fs 4 n r ((k : PartKind) × KindInRange k × (kind_fields k ≡ kind_word w ∷ fs) × (r ≡ Ok k))

abbrev pub BlockLine : List (List ℕ) → ℕ → Result Statement Verdict → Type 0
BlockLine fs n r = Counted 4 fs n r (Formed block_forms (drop 1 fs) 2 n r (Says fs r))

-- after the kind word: the count of its numbers, then each field
abbrev pub Kinded : List (List ℕ) → ℕ → KindWord → Result Statement Verdict → Type 0
Kinded fs n k r =
    Ask (length fs ≢ 3 + length (numbers_of k)) (r ≡ Err (of_line 4 n 0))
    (Formed (a_name ∷ []) (drop 1 fs) 2 n r (Formed (numbers_of k) (drop 3 fs) 4 n r (Says fs r)))

-- the kind word first
abbrev pub PartLine : List (List ℕ) → ℕ → Result Statement Verdict → Type 0
PartLine fs n r =
    Ask (length fs < 3) (r ≡ Err (of_line 3 n 0))
    (Ask ((k : KindWord) → kind_word k ≢ slice_index_or fs 2 []) (r ≡ Err (of_line 4 n 3))
    ((k : KindWord) × (kind_word k ≡ slice_index_or fs 2 []) × Kinded fs n k r))

abbrev pub WireLine : List (List ℕ) → ℕ → Result Statement Verdict → Type 0
WireLine fs n r = Counted 3 fs n r (Formed wire_forms (drop 1 fs) 2 n r (Says fs r))

abbrev pub EndLine : List (List ℕ) → ℕ → Result Statement Verdict → Type 0
EndLine fs n r = Counted 1 fs n r (Says fs r)

abbrev pub first : List (List ℕ) → List ℕ
first fs = slice_index_or fs 0 []

-- its text first
abbrev pub TidyLine : {T : Type 0} → List ℕ → ℕ → Result T Verdict → Type 0 → Type 0
TidyLine line n r goes_on = Ask (Tidy line → ⊥) (r ≡ Err (of_text 2 n 0)) goes_on

-- a line in a block: B, P, W or E
abbrev pub ByLetter : List (List ℕ) → ℕ → Result Statement Verdict → Type 0
ByLetter fs n r =
    ((first fs ≡ letter_B) × BlockLine fs n r)
    ⊎ ((first fs ≡ letter_P) × PartLine fs n r)
    ⊎ ((first fs ≡ letter_W) × WireLine fs n r)
    ⊎ ((first fs ≡ letter_E) × EndLine fs n r)
    ⊎ ((first fs ≢ letter_B) × (first fs ≢ letter_P) × (first fs ≢ letter_W) × (first fs ≢ letter_E) × (r ≡ Err (of_line 3 n 1)))

abbrev pub ItemLine : List ℕ → ℕ → Result Statement Verdict → Type 0
ItemLine line n r = TidyLine line n r (ByLetter (split 32 line) n r)

-- the line that opens the board: B
abbrev pub BoardLine : List ℕ → ℕ → Result Statement Verdict → Type 0
BoardLine line n r =
    TidyLine line n r
    (Ask (first (split 32 line) ≢ letter_B) (r ≡ Err (of_line 3 n 1))
    (BlockLine (split 32 line) n r))

abbrev pub CountsLine : List (List ℕ) → ℕ → Result Header Verdict → Type 0
CountsLine fs n r = Counted 4 fs n r (Formed count_forms (drop 1 fs) 2 n r (Heads fs r))

-- the first line: N
abbrev pub HeaderLine : List ℕ → ℕ → Result Header Verdict → Type 0
HeaderLine line n r =
    TidyLine line n r
    (Ask (first (split 32 line) ≢ letter_N) (r ≡ Err (of_line 3 n 1))
    (CountsLine (split 32 line) n r))
