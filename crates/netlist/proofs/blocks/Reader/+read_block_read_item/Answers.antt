use Rattle.netlist.specs.Steps.{place}
use Rattle.netlist.proofs.Rings.{inside_stays, block_goes_on, block_ends, sofar_more, sofar_closes}
use Rattle.netlist.proofs.blocks.Reader.+read_block_read_item.Goals as goal

pub read_block-items-preserved : goal.read_block-items-preserved
read_block-items-preserved g t c =
    let time = g.C.Clock.time in
    let there = place c.items.self in
    let end = place c.read_item.new.self in
    let read = block_goes_on time there end c.in_ok-read_item.field-0 c.is_continue.result c.is_continue.ensures c.if-is_continue.true c.in_ok-read_item.ensures.reads_or_refuses in (
      inside_stays there.drawn end.drawn c.args.levels c.items.invariant.0 read.grown read.open_now,
      sofar_more time (place c.args.self.now) there end c.items.invariant.1 read,
    )

pub read_block-returns : goal.read_block-returns
read_block-returns g t c =
    let time = g.C.Clock.time in
    let there = place c.items.self in
    let end = place c.read_item.new.self in
    let read = block_ends time there end c.in_ok-read_item.field-0 c.is_continue.result c.is_continue.ensures c.if-is_continue.false c.in_ok-read_item.ensures.reads_or_refuses in
    record { reads_or_refuses = sofar_closes time (place c.args.self.now) there end c.args.levels c.requires.inside c.items.invariant.1 read }
