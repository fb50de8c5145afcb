use Rattle.std.proofs.Common.{inl}
use Rattle.netlist.proofs.reader.read_header.Goals as goal

pub returns : goal.returns
returns c = record { reads_or_refuses = inl (c.in_ok-line.line.now, c.in_ok-line.ensures.takes_one_or_misses, c.header_line.ensures.asks_in_order) }
