use Rattle.bench.proofs.Wires.{chain_wired}
use Rattle.bench.proofs.boards.chain.Goals as goal

pub returns : goal.returns
returns c =
    record {
      is-wired-or-finds-no-memory = chain_wired c.in-ok-board.board c.wire.new.self c.wire-2.new.self c.in-ok-board.ensures.has-no-wires-or-refuses
          c.in-ok-wire.ensures.adds-the-wire-or-refuses c.in-ok-wire-2.ensures.adds-the-wire-or-refuses;
    }
