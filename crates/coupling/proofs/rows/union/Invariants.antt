use Rattle.coupling.proofs.Unions.{Sofar}
use Rattle.coupling.proofs.rows.union.Given as goal

abbrev pub invariant-pins : goal.invariant-pins
invariant-pins l = Sofar l.rows l.pins l.pin l.all
