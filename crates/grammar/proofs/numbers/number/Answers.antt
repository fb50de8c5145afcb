use Rattle.std.proofs.Common.{rules}
use Rattle.grammar.proofs.Counting.{read_number}
use Rattle.grammar.proofs.numbers.number.Goals as goal

pub returns-in_err-value : goal.returns-in_err-value
returns-in_err-value c =
    rw c.from_residual-in_err-value.ensures
    record { reads_or_refuses = λ v n. let same = read_number _ _ v _ _ c.in_ok-natural.ensures.reads_or_refuses n (search rules) in let high = n.at_most in search rules }

pub returns-then-value-low : goal.returns-then-value-low
returns-then-value-low c =
    record { reads_or_refuses = λ v n. let same = read_number _ _ v _ _ c.in_ok-natural.ensures.reads_or_refuses n (search rules) in let high = n.at_most in let low = n.at_least in search rules }
