use Rattle.std.proofs.Common.{◌+◌, ◌*◌, length}
use Rattle.drawing.specs.Calls.{sheet}
use Rattle.netlist.specs.Steps.{Inside, place}
use Rattle.netlist.proofs.Going.{Sofar}
use Rattle.netlist.proofs.blocks.Reader.+read_block_read_item.Given as goal

abbrev pub decreases-read_block : goal.decreases-read_block
decreases-read_block g l = 2 * l.levels + 1

abbrev pub decreases-read_item : goal.decreases-read_item
decreases-read_item g l = 2 * l.levels

abbrev pub invariant-read_block-items : goal.invariant-read_block-items
invariant-read_block-items g l =
    Inside (sheet l.self.drawing) l.levels
    × Sofar g.C.Clock.time (place l.initial.self) (place l.self)

abbrev pub decreases-read_block-items : goal.decreases-read_block-items
decreases-read_block-items g l = length l.self.lines.rest.now
