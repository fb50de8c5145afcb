use Rattle.grammar.proofs.Lining.{Sofar}
use Rattle.grammar.proofs.text.fields_in.Given as goal

abbrev pub invariant-fields : goal.invariant-fields
invariant-fields l = Sofar l.text l.word-iterator.rest l.count
