use Rattle.std.proofs.Common.{sym, subst}
use Rattle.drawing.specs.Calls.{sheet}
use Rattle.netlist.specs.Steps.{place, Stops}
use Rattle.netlist.specs.declared.fault.BlockFault.TheVariants.{Line}
use Rattle.netlist.proofs.Accepted.{says_written}
use Rattle.netlist.proofs.Going.{hands_on, none_left, line_refused, statement_refused, statement_done}
use Rattle.netlist.proofs.blocks.Reader.next_statement.Goals as goal

pub returns-in_err-line : goal.returns-in_err-line
returns-in_err-line g c =
    let time = g.C.Clock.time in
    let here = place c.args.self.now in
    let missed = c.in_err-line.ensures.takes_one_or_misses in
    let here_stops = none_left time here c.requires.not_closed missed.0.0 missed.0.1 in
    record { takes_it_or_refuses = hands_on _ (Stops time here) (Line c.in_err-line.field-0.0) c.from_residual.result c.from_residual.ensures.1 (subst (λ e. Stops time here (Line e)) (sym missed.1) here_stops) }

pub returns-in_err-statement : goal.returns-in_err-statement
returns-in_err-statement g c =
    let time = g.C.Clock.time in
    let here = place c.args.self.now in
    let e = c.in_err-statement.field-0.0 in
    let here_stops = line_refused time here c.requires.not_closed c.next_line.new.self c.in_ok-line.line.now e c.in_ok-line.ensures.takes_one_or_misses c.in_err-statement.ensures.asks_in_order in
    record { takes_it_or_refuses = hands_on _ (Stops time here) (Line e) c.from_residual-in_err-statement.result c.from_residual-in_err-statement.ensures.1 here_stops }

pub apply-requires : goal.apply-requires
apply-requires g c = record { in_range = (says_written c.args.self.now.drawing.current c.in_ok-line.line.now c.args.self.now.lines.number c.in_ok-statement.statement c.in_ok-statement.ensures.asks_in_order).0 }

pub returns-in_err-apply : goal.returns-in_err-apply
returns-in_err-apply g c =
    let time = g.C.Clock.time in
    let here = place c.args.self.now in
    let e = c.in_err-apply.field-0.0 in
    let here_stops = statement_refused time here c.requires.not_closed c.next_line.new.self c.in_ok-line.line.now c.in_ok-statement.statement c.in_ok-line.ensures.takes_one_or_misses c.in_ok-statement.ensures.asks_in_order (sheet c.apply.new.drawing) e c.in_err-apply.ensures.carries_it_out in
    record { takes_it_or_refuses = hands_on _ (Stops time here) e c.from_residual-in_err-apply.result c.from_residual-in_err-apply.ensures.1 here_stops }

pub returns : goal.returns
returns g c =
    record {
      takes_it_or_refuses = statement_done g.C.Clock.time (place c.args.self.now) c.requires.not_closed c.next_line.new.self c.in_ok-line.line.now c.in_ok-statement.statement c.in_ok-line.ensures.takes_one_or_misses c.in_ok-statement.ensures.asks_in_order (sheet c.apply.new.drawing) c.in_ok-apply.ensures.carries_it_out;
    }
