use Rattle.std.proofs.Common.{length}
use Rattle.boardsim.proofs.arguments.settings.Given as goal

abbrev pub decreases-options : goal.decreases-options
decreases-options l = length l.reading.rest.now
