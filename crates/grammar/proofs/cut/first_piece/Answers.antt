use Rattle.std.proofs.Common.{refl}
use Rattle.std.proofs.lemmas.List.{take_rest}
use Rattle.grammar.proofs.Splitting.{cut_at, cut_nowhere}
use Rattle.grammar.proofs.cut.first_piece.Goals as goal

pub returns-in-Some : goal.returns-in-Some
returns-in-Some c = record { takes_the_first_piece = cut_at _ c.args.text.now _ _ _ c.in-Some.ensures.finds_the_first refl (take_rest c.args.text.now _) }

pub returns-in-None : goal.returns-in-None
returns-in-None c = record { takes_the_first_piece = cut_nowhere _ _ c.in-None.ensures.finds_the_first }
