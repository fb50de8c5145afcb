use Rattle.grammar.proofs.Counting.{Sofar}
use Rattle.grammar.proofs.numbers.natural.Given as goal

abbrev pub invariant-digits : goal.invariant-digits
invariant-digits l = Sofar l.text l.digit-index l.value
