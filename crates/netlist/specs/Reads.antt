-- What the reader answers.
use Rattle.std.specs.Prelude.{◌≡◌, ℕ, ◌⊎◌, List, [], ◌∷◌, length, IfOk, Some, None, Ok, Err, vec_items, Result, MatchResult, ◌≢◌}
use Rattle.asking.specs.Asking.{Ask}
use Rattle.clock.specs.Time.{Time}
use Rattle.drawing.specs.Calls.{sheet}
use Rattle.drawing.specs.Lists.{Lists, lists}
use Rattle.grammar.specs.declared.fault.LineFault.{LineFault}
use Rattle.grammar.specs.declared.fault.LineFault.TheVariants.{Missing}
use Rattle.grammar.specs.declared.fault.Verdict.{Verdict}
use Rattle.grammar.specs.declared.statement.Header.{Header}
use Rattle.grammar.specs.declared.statement.Statement.{Statement}
use Rattle.grammar.specs.Pieces.{split}
use Rattle.grammar.specs.Rules.{HeaderLine}
use Rattle.grammar.specs.Verdicts.{judged, line_verdict}
use Rattle.netlist.specs.declared.blocks.Reader.{Reader}
use Rattle.netlist.specs.declared.fault.BlockFault.{BlockFault}
use Rattle.netlist.specs.declared.fault.BlockFault.TheVariants.{Memory}
use Rattle.netlist.specs.declared.fault.BoardFault.{BoardFault}
use Rattle.netlist.specs.declared.fault.BoardFault.TheVariants.{Block, Disagrees}
use Rattle.netlist.specs.declared.lines.Lines.{Lines}
use Rattle.netlist.specs.declared.reader.Drawn.{Drawn}
use Rattle.netlist.specs.declared.reader.Netlist.{Netlist}
use Rattle.netlist.specs.Files.{Reading, Closed, Agrees, FileGives}
use Rattle.netlist.specs.Netlists.{Writes}
use Rattle.netlist.specs.Steps.{Line, place, undrawn, Continues, Stops}
use Rattle.netlist.specs.Verdicts.{block_verdict, board_verdict}

-- what a netlist that was read holds
abbrev pub reading : {C : Type 0} → Netlist C → Reading C
reading n = record { sheet = record { plan = lists n.board.plan; starts = vec_items n.board.starts; current = None }; bytes = n.bytes }

-- the first line is read, or missing
abbrev pub HeaderRead : Lines → Lines → Result Header LineFault → Type 0
HeaderRead before after r =
    ((line : List ℕ) × Line before line after × HeaderLine line before.number (judged line_verdict r))
    ⊎ ((last : List ℕ) × (split 10 before.rest.now ≡ last ∷ []) × (r ≡ Err (Missing before.number)))

-- the board is read to its end, after the first line
abbrev pub BoardRead : {C : Type 0} → Time C → Lines → Result (Reader C) BlockFault → Type 0
BoardRead time lines r = MatchResult r (λ end. Closed (sheet end.drawing) × Continues time (undrawn lines) (place end)) (λ e. Stops time (undrawn lines) e)

-- the file gives a verdict, or memory lacks
abbrev pub FileStops : {C : Type 0} → Time C → List ℕ → BlockFault → Type 0
FileStops time file e = (e ≡ Memory) ⊎ ((v : Verdict) × (block_verdict e ≡ Some v) × FileGives time file (Err v))

-- the first line and the board are read: what the file gives is left to the counts of the first line
abbrev pub AllRead : {C : Type 0} → Time C → List ℕ → Result (Drawn C) BlockFault → Type 0
AllRead {C} time file r =
    MatchResult r
    (λ d. Closed (sheet d.drawing) × ((out : Result (Reading C) Verdict) → Agrees d.header (record { sheet = sheet d.drawing; bytes = d.bytes }) out → FileGives time file out))
    (λ e. FileStops time file e)

-- the counts of the first line are asked about in their order
abbrev pub Agreed : Header → Lists → Result Unit BoardFault → Type 0
Agreed h l r =
    Ask (h.blocks ≢ length l.blocks) (r ≡ Err (Disagrees 2))
    (Ask (h.parts ≢ length l.components) (r ≡ Err (Disagrees 3))
    (Ask (h.wires ≢ length l.wires) (r ≡ Err (Disagrees 4))
    (r ≡ Ok tt)))

-- the answer is what the file gives, want of memory aside
abbrev pub Gives : {C : Type 0} → Time C → List ℕ → Result (Netlist C) BoardFault → Type 0
Gives time file r =
    MatchResult r (λ n. FileGives time file (Ok (reading n)))
    (λ e. (e ≡ Block Memory) ⊎ ((v : Verdict) × (board_verdict e ≡ Some v) × FileGives time file (Err v)))

-- what is accepted is written by the file: its first bytes, so many as are told, are the text of a drawing of this board
abbrev pub AcceptsOnly : {C : Type 0} → Time C → List ℕ → Result (Netlist C) BoardFault → Type 0
AcceptsOnly time file r = IfOk r (λ n. (drawing : List Statement) × Writes time file drawing (reading n))

-- every drawing that the file writes is accepted, and is the one that is answered
abbrev pub AcceptsEvery : {C : Type 0} → Time C → List ℕ → Result (Netlist C) BoardFault → Type 0
AcceptsEvery {C} time file r = (drawing : List Statement) (d : Reading C) → Writes time file drawing d → MatchResult r (λ n. reading n ≡ d) (λ e. e ≡ Block Memory)

-- a refusal names the first question that fails, and no drawing has this text
abbrev pub Refuses : {C : Type 0} → Time C → List ℕ → Result (Netlist C) BoardFault → Type 0
Refuses {C} time file r =
    MatchResult r (λ n. Unit {0})
    (λ e. (e ≡ Block Memory)
    ⊎ ((v : Verdict) × (board_verdict e ≡ Some v) × FileGives time file (Err v) × ((drawing : List Statement) (d : Reading C) → Writes time file drawing d → ⊥)))

-- whatever the file gives is the answer
abbrev pub OneOutcome : {C : Type 0} → Time C → List ℕ → Result (Netlist C) BoardFault → Type 0
OneOutcome {C} time file r =
    (out : Result (Reading C) Verdict) → FileGives time file out →
    MatchResult r (λ n. out ≡ Ok (reading n)) (λ e. (e ≡ Block Memory) ⊎ ((v : Verdict) × (board_verdict e ≡ Some v) × (out ≡ Err v)))
