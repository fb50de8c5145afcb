use Rattle.script.proofs.Passing.{Passed}
use Rattle.script.proofs.spot.piece_at.Given as goal

abbrev pub invariant-pieces : goal.invariant-pieces
invariant-pieces l = Passed l.separator l.text l.counter l.cut.piece.now l.cut.rest l.start
