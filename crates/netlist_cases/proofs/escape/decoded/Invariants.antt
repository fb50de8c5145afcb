use Rattle.std.proofs.Common.{length}
use Rattle.netlist_cases.proofs.escape.decoded.Given as goal

abbrev pub decreases-runs : goal.decreases-runs
decreases-runs l = length l.left
