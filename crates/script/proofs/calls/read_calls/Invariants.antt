use Rattle.std.proofs.Common.{length, vec_items}
use Rattle.script.proofs.Passing.{Sofar}
use Rattle.script.proofs.calls.read_calls.Given as goal

abbrev pub invariant-lines : goal.invariant-lines
invariant-lines g l = Sofar g.C.Display.output l.file l.rest (vec_items l.calls)

abbrev pub decreases-lines : goal.decreases-lines
decreases-lines g l = length l.rest
