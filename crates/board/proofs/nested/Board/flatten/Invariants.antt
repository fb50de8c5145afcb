use Rattle.std.proofs.Common.{vec_items, vec_len}
use Rattle.board.specs.Sweep.{Swept}
use Rattle.board.proofs.nested.Board.flatten.Given as goal

abbrev pub invariant-turns : goal.invariant-turns
invariant-turns g l = Swept (vec_items l.self.plan.wires) (vec_len l.self.plan.components) (vec_len l.self.plan.blocks) l.turn 0 (vec_items l.rows)
