use Rattle.bench.proofs.Wires.{lone_wired}
use Rattle.bench.proofs.boards.lone.Goals as goal

pub returns : goal.returns
returns c =
    record {
      is_wired_or_finds_no_memory = lone_wired c.in_ok-board.board c.wire.new.self c.wire-2.new.self c.wire-3.new.self c.in_ok-board.ensures.has_no_wires_or_refuses
          c.in_ok-wire.ensures.adds_the_wire_or_refuses c.in_ok-wire-2.ensures.adds_the_wire_or_refuses c.in_ok-wire-3.ensures.adds_the_wire_or_refuses;
    }
