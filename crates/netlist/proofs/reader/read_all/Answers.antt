use Rattle.netlist.specs.declared.fault.BlockFault.TheVariants.{Line}
use Rattle.netlist.specs.Reads.{FileStops}
use Rattle.netlist.proofs.Going.{hands_on}
use Rattle.netlist.proofs.Whole.{size_stops, header_stops, board_stops, all_read}
use Rattle.netlist.proofs.reader.read_all.Goals as goal

pub returns-in_err-lines : goal.returns-in_err-lines
returns-in_err-lines g c =
    let time = g.C.Clock.time in
    let file = c.args.file.now in
    let e = c.in_err-lines.field-0.0 in
    let refused = size_stops time file e c.in_err-lines.ensures.begins_or_refuses.0 c.in_err-lines.ensures.begins_or_refuses.1 in
    record { reads_or_refuses = hands_on _ (FileStops time file) (Line e) c.from_residual.result c.from_residual.ensures.1 refused }

pub returns-in_err-header : goal.returns-in_err-header
returns-in_err-header g c =
    let time = g.C.Clock.time in
    let file = c.args.file.now in
    let e = c.in_err-header.field-0.0 in
    let starts = c.in_ok-lines.ensures.begins_or_refuses in
    let refused = header_stops time file c.in_ok-lines.lines c.read_header.new.lines starts e c.in_err-header.ensures.reads_or_refuses in
    record { reads_or_refuses = hands_on _ (FileStops time file) (Line e) c.from_residual-in_err-header.result c.from_residual-in_err-header.ensures.1 refused }

pub returns-in_err-lines-2 : goal.returns-in_err-lines-2
returns-in_err-lines-2 g c =
    let time = g.C.Clock.time in
    let file = c.args.file.now in
    let e = c.in_err-lines-2.field-0.0 in
    let starts = c.in_ok-lines.ensures.begins_or_refuses in
    let refused = board_stops time file c.in_ok-lines.lines c.read_header.new.lines starts c.in_ok-header.header e c.in_ok-header.ensures.reads_or_refuses c.in_err-lines-2.ensures.reads_or_refuses in
    record { reads_or_refuses = hands_on _ (FileStops time file) e c.from_residual-in_err-lines-2.result c.from_residual-in_err-lines-2.ensures.1 refused }

pub returns : goal.returns
returns g c =
    let time = g.C.Clock.time in
    let file = c.args.file.now in
    let starts = c.in_ok-lines.ensures.begins_or_refuses in
    record {
      reads_or_refuses =
          all_read time file c.in_ok-lines.lines c.read_header.new.lines starts c.in_ok-header.header c.in_ok-lines-2.field-0 c.in_ok-header.ensures.reads_or_refuses c.in_ok-lines-2.ensures.reads_or_refuses;
    }
