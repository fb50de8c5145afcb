-- What a file gives, line by line.
use Rattle.std.specs.Prelude.{◌≡◌, ℕ, ◌+◌, ◌-◌, ◌<◌, ◌⊎◌, List, [], ◌∷◌, length, None, Ok, Err, Result, ◌≢◌, slice_index_or}
use Rattle.asking.specs.Asking.{Ask}
use Rattle.clock.specs.Time.{Time}
use Rattle.part.specs.declared.catalogue.Catalogue.{Catalogue}
use Rattle.drawing.specs.Calls.{Sheet, blank}
use Rattle.grammar.specs.declared.fault.Verdict.{Verdict}
use Rattle.grammar.specs.declared.statement.Header.{Header}
use Rattle.grammar.specs.Pieces.{split}
use Rattle.grammar.specs.Rules.{HeaderLine}
use Rattle.grammar.specs.Verdicts.{of_text, of_line, of_board}
use Rattle.netlist.specs.Drawings.{LineGives}

-- what is read: the drawing, and how many bytes write it
pub record Reading (C : Type 0) : Type 0 where
  pub sheet : Sheet (Catalogue C)
  pub bytes : ℕ

-- the board is drawn and closed
abbrev pub Closed : {C : Type 0} → Sheet (Catalogue C) → Type 0
Closed s = (s.current ≡ None) × (0 < length s.plan.blocks)

-- The lines from number n on, with so many bytes before them. Reading stops when the board is closed;
-- what stands after the last byte 10 is no line.
abbrev pub Goes : {C : Type 0} → Time C → List (List ℕ) → ℕ → ℕ → Sheet (Catalogue C) → Result (Reading C) Verdict → Type 0
Goes time [] n bytes s out = Ask (Closed s) (out ≡ Ok (record { sheet = s; bytes = bytes })) (out ≡ Err (of_line 3 n 0))
Goes time (last ∷ []) n bytes s out = Ask (Closed s) (out ≡ Ok (record { sheet = s; bytes = bytes })) (out ≡ Err (of_line 3 n 0))
Goes {C} time (line ∷ next ∷ more) n bytes s out =
    Ask (Closed s) (out ≡ Ok (record { sheet = s; bytes = bytes }))
    (((v : Verdict) × LineGives time line n s (Err v) × (out ≡ Err v))
    ⊎ ((t : Sheet (Catalogue C)) × LineGives time line n s (Ok t) × Goes time (next ∷ more) (n + 1) (bytes + (length line + 1)) t out))

-- the first line agrees with the board
abbrev pub Agrees : {C : Type 0} → Header → Reading C → Result (Reading C) Verdict → Type 0
Agrees h d out =
    Ask (h.blocks ≢ length d.sheet.plan.blocks) (out ≡ Err (of_board 2))
    (Ask (h.parts ≢ length d.sheet.plan.components) (out ≡ Err (of_board 3))
    (Ask (h.wires ≢ length d.sheet.plan.wires) (out ≡ Err (of_board 4))
    (out ≡ Ok d)))

-- 1 to 32,768 bytes, the last being 10
pub record Sized (file : List ℕ) : Type 0 where
  pub some : 0 < length file
  pub few : length file < 32769
  pub ended : slice_index_or file (length file - 1) 0 ≡ 10

-- the first line, then the board
abbrev pub LinesGive : {C : Type 0} → Time C → List (List ℕ) → Result (Reading C) Verdict → Type 0
LinesGive time [] out = ⊥
LinesGive {C} time (line ∷ more) out =
    ((v : Verdict) × HeaderLine line 1 (Err v) × (out ≡ Err v))
    ⊎ ((h : Header) × HeaderLine line 1 (Ok h)
    × (((v : Verdict) × Goes time more 2 (length line + 1) blank (Err v) × (out ≡ Err v))
    ⊎ ((d : Reading C) × Goes time more 2 (length line + 1) blank (Ok d) × Agrees h d out)))

-- a file: what it writes, or the first question that it fails, and where
abbrev pub FileGives : {C : Type 0} → Time C → List ℕ → Result (Reading C) Verdict → Type 0
FileGives time file out = Ask (Sized file → ⊥) (out ≡ Err (of_text 1 0 0)) (LinesGive time (split 10 file) out)
