use Rattle.drawing.specs.Calls.{sheet}
use Rattle.netlist.specs.Steps.{place, undrawn, Stops}
use Rattle.netlist.proofs.Going.{hands_on}
use Rattle.netlist.proofs.Boards.{board_there, items_stop, board_read}
use Rattle.netlist.proofs.reader.read_drawing.Goals as goal

pub read_block-requires : goal.read_block-requires
read_block-requires g c =
    record {
      inside = (board_there g.C.Clock.time c.args.lines (sheet c.new-drawing.result) c.new-drawing.ensures.is_blank (place c.next_statement.new.self) c.in_ok-next_statement.field-0 c.in_ok-next_statement.ensures.takes_it_or_refuses).0;
    }

pub returns-in_err-read_block : goal.returns-in_err-read_block
returns-in_err-read_block g c =
    let time = g.C.Clock.time in
    let e = c.in_err-read_block.field-0.0 in
    let stop = items_stop time c.args.lines (sheet c.new-drawing.result) c.new-drawing.ensures.is_blank (place c.next_statement.new.self) c.in_ok-next_statement.field-0 c.in_ok-next_statement.ensures.takes_it_or_refuses e c.in_err-read_block.ensures.reads_or_refuses in
    record { reads_or_refuses = hands_on _ (Stops time (undrawn c.args.lines)) e c.from_residual-in_err-read_block.result c.from_residual-in_err-read_block.ensures.1 stop }

pub returns : goal.returns
returns g c =
    record {
      reads_or_refuses =
          board_read g.C.Clock.time c.args.lines (sheet c.new-drawing.result) c.new-drawing.ensures.is_blank (place c.next_statement.new.self) c.in_ok-next_statement.field-0 c.in_ok-next_statement.ensures.takes_it_or_refuses (place c.read_block.new.self)
          c.in_ok-read_block.ensures.reads_or_refuses;
    }
