use Rattle.std.proofs.Common.{sym, subst}
use Rattle.grammar.specs.Verdicts.{judged, line_verdict}
use Rattle.netlist.specs.Drawings.{LineSays}
use Rattle.netlist.proofs.blocks.statement_of.Goals as goal

pub returns-in-None : goal.returns-in-None
returns-in-None c = record { asks_in_order = subst (λ current. LineSays current c.args.line.now c.args.number (judged line_verdict c.board_line.result)) (sym c.in-None.is) c.board_line.ensures.asks_in_order }

pub returns-in-Some : goal.returns-in-Some
returns-in-Some c = record { asks_in_order = subst (λ current. LineSays current c.args.line.now c.args.number (judged line_verdict c.item_line.result)) (sym c.in-Some.is) c.item_line.ensures.asks_in_order }
