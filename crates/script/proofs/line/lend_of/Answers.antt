use Rattle.std.proofs.Common.{refl, arith}
use Rattle.script.proofs.Lines.{one_number}
use Rattle.script.proofs.line.lend_of.Goals as goal

pub returns : goal.returns
returns g c =
    let read = c.in_ok-places.ensures.reads_or_refuses in
    record { reads_or_refuses = (refl, (c.args.text.now, one_number 0 80 _ _ (omega arith) read, read)) }
