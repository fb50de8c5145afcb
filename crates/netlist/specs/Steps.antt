-- How the reader goes on, line by line.
use Rattle.std.specs.Prelude.{◌≡◌, ℕ, ◌+◌, ◌<◌, ◌⊎◌, List, ◌∷◌, ◌++◌, length, Some, None, Ok, Err, Option, Result, MatchResult, IsErrAnd}
use Rattle.asking.specs.Asking.{Ask}
use Rattle.std.specs.declared.ops.ControlFlow.{ControlFlow}
use Rattle.std.specs.declared.ops.ControlFlow.TheVariants.{Continue, Break}
use Rattle.clock.specs.Time.{Time}
use Rattle.part.specs.declared.catalogue.Catalogue.{Catalogue}
use Rattle.board.specs.Wires.{block_at}
use Rattle.board.specs.declared.parts.Block.{Block}
use Rattle.drawing.specs.Calls.{Sheet, Kept, sheet, blank, outer}
use Rattle.drawing.specs.declared.fault.Fault.{Fault}
use Rattle.drawing.specs.declared.fault.Fault.TheVariants as fault
use Rattle.grammar.specs.declared.fault.Verdict.{Verdict}
use Rattle.grammar.specs.declared.statement.Statement.{Statement}
use Rattle.grammar.specs.Pieces.{split}
use Rattle.netlist.specs.declared.blocks.Reader.{Reader}
use Rattle.netlist.specs.declared.fault.BlockFault.{BlockFault}
use Rattle.netlist.specs.declared.fault.BlockFault.TheVariants.{Refused, Memory}
use Rattle.netlist.specs.declared.lines.Lines.{Lines}
use Rattle.netlist.specs.Drawings.{Takes}
use Rattle.netlist.specs.Files.{Reading, Goes, Sized}
use Rattle.netlist.specs.Verdicts.{block_verdict}

-- the first line is the next
pub record Begins (file : List ℕ) (lines : Lines) : Type 0 where
  pub sized : Sized file
  pub rest : lines.rest.now ≡ file
  pub number : lines.number ≡ 1
  pub taken : lines.taken ≡ 0

-- one line is taken
pub record Line (before : Lines) (line : List ℕ) (after : Lines) : Type 0 where
  pub pieces : split 10 before.rest.now ≡ line ∷ split 10 after.rest.now
  pub number : after.number ≡ before.number + 1
  pub taken : after.taken ≡ before.taken + (length line + 1)
  pub fewer : length after.rest.now < length before.rest.now

-- why line n is refused, where the drawing refuses what it says
abbrev pub RefusedAs : Fault → ℕ → BlockFault → Type 0
RefusedAs f n e = Ask (f ≡ fault.Memory) (e ≡ Memory) (e ≡ Refused f n)

-- a statement is carried out
abbrev pub Applies : {C : Type 0} → Time C → Statement → ℕ → Sheet (Catalogue C) → Sheet (Catalogue C) → Result Unit BlockFault → Type 0
Applies time st n before after r =
    (a : Result Unit Fault) × Takes time st before after a × Kept before after a
    × MatchResult a (λ _. r ≡ Ok tt) (λ f. IsErrAnd r (λ e. RefusedAs f n e))

-- block b is open, and so many more levels fit in it
pub record Inside {C : Type 0} (s : Sheet (Catalogue C)) (levels : ℕ) : Type 0 where
  pub block : ℕ
  pub open_block : s.current ≡ Some block
  pub there : block < length s.plan.blocks
  pub deep : (block_at s.plan.blocks block).depth + levels ≡ 8

-- the blocks that were drawn stay
abbrev pub Grown : {C : Type 0} → Sheet (Catalogue C) → Sheet (Catalogue C) → Type 0
Grown s t = (more : List Block) × (t.plan.blocks ≡ s.plan.blocks ++ more)

-- where the reader stands: the lines that are left, and what is drawn
pub record Place (C : Type 0) : Type 0 where
  pub lines : Lines
  pub drawn : Sheet (Catalogue C)

abbrev pub place : {C : Type 0} → Reader C → Place C
place r = record { lines = r.lines; drawn = sheet r.drawing }

-- before these lines nothing is drawn
abbrev pub undrawn : {C : Type 0} → Lines → Place C
undrawn lines = record { lines = lines; drawn = blank }

-- what the file gives from here
abbrev pub FromHere : {C : Type 0} → Time C → Place C → Result (Reading C) Verdict → Type 0
FromHere time here out = Goes time (split 10 here.lines.rest.now) here.lines.number here.lines.taken here.drawn out

-- whatever the file gives from there, it gives from here
abbrev pub Continues : {C : Type 0} → Time C → Place C → Place C → Type 0
Continues {C} time here there = (out : Result (Reading C) Verdict) → FromHere time there out → FromHere time here out

-- the reader stops here with a verdict, or for want of memory
abbrev pub Stops : {C : Type 0} → Time C → Place C → BlockFault → Type 0
Stops time here e = (e ≡ Memory) ⊎ ((v : Verdict) × (block_verdict e ≡ Some v) × FromHere time here (Err v))

-- a statement was read and carried out
pub record Stated {C : Type 0} (time : Time C) (here there : Place C) (st : Statement) : Type 0 where
  pub takes : Takes time st here.drawn there.drawn (Ok tt)
  pub continues : Continues time here there
  pub fewer : length there.lines.rest.now < length here.lines.rest.now

abbrev pub StatementRead : {C : Type 0} → Time C → Place C → Place C → Result Statement BlockFault → Type 0
StatementRead time here there r = MatchResult r (λ st. Stated time here there st) (λ e. Stops time here e)

-- it was read to there: this block is open then
pub record Read {C : Type 0} (time : Time C) (here there : Place C) (current : Option ℕ) : Type 0 where
  pub continues : Continues time here there
  pub grown : Grown here.drawn there.drawn
  pub open_now : there.drawn.current ≡ current
  pub fewer : length there.lines.rest.now < length here.lines.rest.now

-- the open block after block b, if it is open, is closed
abbrev pub around : {C : Type 0} → Sheet (Catalogue C) → Option ℕ → Option ℕ
around s None = None
around s (Some b) = outer s.plan.blocks b

-- the open block after an item: the block goes on, or ends
abbrev pub after_item : {C : Type 0} → Sheet (Catalogue C) → ControlFlow Unit Unit → Option ℕ
after_item s (Continue x) = s.current
after_item s (Break x) = around s s.current

abbrev pub ItemRead : {C : Type 0} → Time C → Place C → Place C → Result (ControlFlow Unit Unit) BlockFault → Type 0
ItemRead time here there r = MatchResult r (λ goes. Read time here there (after_item here.drawn goes)) (λ e. Stops time here e)

abbrev pub BlockRead : {C : Type 0} → Time C → Place C → Place C → Result Unit BlockFault → Type 0
BlockRead time here there r = MatchResult r (λ _. Read time here there (around here.drawn here.drawn.current)) (λ e. Stops time here e)
