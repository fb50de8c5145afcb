use Rattle.board.specs.Sweep.{Swept}
use Rattle.board.proofs.flatten.sweep.Given as goal

abbrev pub invariant-wires : goal.invariant-wires
invariant-wires l = Swept l.wire-items l.layout.parts l.layout.blocks l.turn l.wire-index l.rows
