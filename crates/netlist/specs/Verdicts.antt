-- The number, the line, the field and the layer of each fault of a netlist. Want of memory has none.
use Rattle.std.specs.Prelude.{ℕ, Some, None, Option}
use Rattle.drawing.specs.Faults.{fault_number}
use Rattle.drawing.specs.declared.fault.Fault.{Fault}
use Rattle.drawing.specs.declared.fault.Fault.TheVariants as drawing
use Rattle.grammar.specs.declared.fault.Verdict.{Verdict}
use Rattle.grammar.specs.Verdicts.{of_block, of_board, line_verdict}
use Rattle.netlist.specs.declared.fault.BlockFault.{BlockFault}
use Rattle.netlist.specs.declared.fault.BlockFault.TheVariants.{Line, Refused, Memory}
use Rattle.netlist.specs.declared.fault.BoardFault.{BoardFault}
use Rattle.netlist.specs.declared.fault.BoardFault.TheVariants.{Block, Disagrees}

-- the name, or the wire end, that is at fault
abbrev pub fault_field : Fault → ℕ
fault_field drawing.BadName = 0
fault_field drawing.BadPins = 0
fault_field drawing.NameTaken = 2
fault_field drawing.TooManyBlocks = 0
fault_field drawing.TooManyParts = 0
fault_field drawing.TooManyWires = 0
fault_field drawing.TooDeep = 0
fault_field drawing.NoFrom = 2
fault_field drawing.NoTo = 3
fault_field drawing.Loop = 0
fault_field drawing.Twice = 0
fault_field drawing.Misplaced = 0
fault_field drawing.Memory = 0

-- what the drawing refuses in line n
abbrev pub refused : Fault → ℕ → Verdict
refused f n = of_block (fault_number f) n (fault_field f)

abbrev pub block_verdict : BlockFault → Option Verdict
block_verdict (Line e) = Some (line_verdict e)
block_verdict (Refused f n) = Some (refused f n)
block_verdict Memory = None

abbrev pub board_verdict : BoardFault → Option Verdict
board_verdict (Block e) = block_verdict e
board_verdict (Disagrees k) = Some (of_board k)
