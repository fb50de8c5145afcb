use Rattle.std.proofs.Common.{rules}
use Rattle.grammar.proofs.Pointing.{end_pointed, no_end}
use Rattle.grammar.proofs.ends.wire_end.Goals as goal

pub returns-in_err-child : goal.returns-in_err-child
returns-in_err-child c = rw c.from_residual.ensures record { reads_or_refuses = λ e h. c.in_err-child.ensures.parts_it_or_refuses _ _ (end_pointed e _ h) }

pub returns-in_err-name : goal.returns-in_err-name
returns-in_err-name c = rw c.from_residual-in_err-name.ensures record { reads_or_refuses = no_end _ _ _ c.in_ok-child.ensures.parts_it_or_refuses (search rules) c.in_err-name.ensures.spells_it_or_refuses }
