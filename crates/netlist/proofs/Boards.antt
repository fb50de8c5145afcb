-- How the reader of a board goes on.
use Rattle.std.proofs.Common.{◌≡◌, ◌+◌, length, None, ap, ◌∙◌, subst, arith}
use Rattle.std.proofs.lemmas.List.{length-append}
use Rattle.clock.specs.Time.{Time}
use Rattle.part.specs.declared.catalogue.Catalogue.{Catalogue}
use Rattle.board.specs.Wires.{block_at}
use Rattle.board.specs.declared.parts.Block.{Block}
use Rattle.drawing.specs.Calls.{Sheet, blank}
use Rattle.grammar.specs.declared.statement.Statement.{Statement}
use Rattle.netlist.specs.declared.fault.BlockFault.{BlockFault}
use Rattle.netlist.specs.declared.lines.Lines.{Lines}
use Rattle.netlist.specs.Files.{Closed}
use Rattle.netlist.specs.Steps.{Inside, around, Place, undrawn, Continues, Stops, Stated, Read}
use Rattle.netlist.proofs.Rings.{stops_before}
use Rattle.netlist.proofs.Taking.{BoardOpen, board_open}

-- the board is the open block
board_inside : {C : Type 0} (t : Sheet (Catalogue C)) → BoardOpen t → Inside t 7 × (around t t.current ≡ None)
board_inside t o =
    let first : block_at t.plan.blocks 0 ≡ o.board = ap (λ bs. block_at bs 0) o.blocks in
    let depth_is : (block_at t.plan.blocks 0).depth ≡ o.board.depth = ap (λ (b : Block). b.depth) first in
    let deep = o.deep in
    (record { block = 0; open_block = o.open_now; there = omega (arith, ap length o.blocks); deep = omega arith }, ap (around t) o.open_now)

-- the reader begins where nothing is drawn
module _ {C : Type 0} (time : Time C) (lines : Lines) (s : Sheet (Catalogue C)) (nothing : s ≡ blank) where
  module _ (there : Place C) (st : Statement) (h : Stated time (record { lines = lines; drawn = s }) there st) where
    opened : Stated time (undrawn lines) there st
    opened = subst (λ s. Stated time (record { lines = lines; drawn = s }) there st) nothing h

    pub board_there : Inside there.drawn 7 × (around there.drawn there.drawn.current ≡ None)
    board_there = board_inside there.drawn (board_open time st there.drawn opened.takes)

    -- an item of the board is refused
    pub items_stop : (e : BlockFault) → Stops time there e → Stops time (undrawn lines) e
    items_stop e stop = stops_before time (undrawn lines) there e opened.continues stop

    -- the items of the board are read
    pub board_read : (end : Place C) → Read time there end (around there.drawn there.drawn.current) → Closed end.drawn × Continues time (undrawn lines) end
    board_read end r =
        let there_is = board_there.0.there in
        let grown = r.grown in
        let long : length end.drawn.plan.blocks ≡ length there.drawn.plan.blocks + length grown.0 = ap length grown.1 ∙ length-append there.drawn.plan.blocks grown.0 in
        ((r.open_now ∙ board_there.1, omega arith), λ out g. opened.continues out (r.continues out g))
