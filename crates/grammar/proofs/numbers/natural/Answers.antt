use Rattle.std.proofs.Common.{rules}
use Rattle.grammar.proofs.Counting.{more, small, shape, no_digit, done}
use Rattle.grammar.proofs.numbers.natural.Goals as goal

pub returns-then-is_empty : goal.returns-then-is_empty
returns-then-is_empty c = record { reads_or_refuses = λ v l e. let s = shape v c.args.text.now l e in search rules }

pub returns-in-48 : goal.returns-in-48
returns-in-48 c = record { reads_or_refuses = λ v l e. let s = shape v c.args.text.now l e in search rules }

pub returns-then-not-is_ascii_digit : goal.returns-then-not-is_ascii_digit
returns-then-not-is_ascii_digit c = record { reads_or_refuses = no_digit c.args.text.now c.digits.digit-index (search rules) (search rules) }

pub overflow_mul-value : goal.overflow_mul-value
overflow_mul-value c = let s = small _ _ _ c.digits.invariant (search rules) (search rules) in search rules

pub overflow_add-value : goal.overflow_add-value
overflow_add-value c = let s = small _ _ _ c.digits.invariant (search rules) (search rules) in search rules

pub digits-preserved : goal.digits-preserved
digits-preserved c = more _ _ _ _ c.digits.invariant (search rules) (search rules) (search rules) (search rules)

pub returns : goal.returns
returns c = record { reads_or_refuses = done _ _ _ c.digits.invariant (search rules) (search rules) (search rules) (search rules) }
