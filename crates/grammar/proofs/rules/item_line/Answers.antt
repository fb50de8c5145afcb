use Rattle.std.proofs.Common.{◌≡◌, subst, inl, inr, rules}
use Rattle.grammar.specs.Pieces.{split}
use Rattle.grammar.specs.Rules.{first, PartLine}
use Rattle.grammar.specs.Statements.{letter_P}
use Rattle.grammar.specs.Verdicts.{judged, line_verdict}
use Rattle.grammar.proofs.rules.item_line.Goals as goal

pub returns-in-Some-P : goal.returns-in-Some-P
returns-in-Some-P c =
    let line = c.in_ok-line.ensures.passes_or_refuses in
    let r = judged line_verdict c.part_line.result in
    let letter : first (split 32 c.args.line.now) ≡ letter_P = search rules in
    let part = subst (λ n. PartLine (split 32 c.args.line.now) n r) line.2 (subst (λ t. PartLine (split 32 t) c.in_ok-line.line.number r) line.1 c.part_line.ensures.asks_in_order) in
    record { asks_in_order = inr ((λ bad. bad line.0), inr (inl (letter, part))) }
