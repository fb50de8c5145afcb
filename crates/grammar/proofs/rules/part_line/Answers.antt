use Rattle.std.proofs.Common.{◌≡◌, Ok, Err, ap, ◌∙◌, rules}
use Rattle.std.proofs.lemmas.Result.{err_from_is_err_and}
use Rattle.grammar.specs.Pieces.{split}
use Rattle.grammar.specs.Verdicts.{judged, line_verdict}
use Rattle.grammar.proofs.LineRules.{part_goes}
use Rattle.grammar.proofs.rules.part_line.Goals as goal

pub returns-in_err-kind : goal.returns-in_err-kind
returns-in_err-kind c =
    let all = split 32 c.args.line.text.now in
    let begun = c.fields-fields.ensures.are_the_rest in
    let fault = c.in_err-kind.field-0.0 in
    let p = err_from_is_err_and c.from_residual-in_err-kind.result c.from_residual-in_err-kind.ensures.1 in
    let q : judged line_verdict c.from_residual-in_err-kind.result ≡ Err (line_verdict fault) = ap (judged line_verdict) p.1 ∙ ap (λ x. Err (line_verdict x)) p.2 in
    record {
      asks_in_order =
          part_goes _ all _ _ _ _ _ c.in_ok-name.name c.in_ok-word.word (Err (line_verdict fault)) _ begun c.requires.letter c.next.ensures.takes_one.0 c.next-2.ensures.takes_one.0 (search rules) (search rules)
          c.in_ok-name.ensures.reads_or_refuses (λ v e. let same : line_verdict fault ≡ v = cc in q ∙ ap Err same) (λ x e. (cc)) c.in_err-kind.ensures.asks_in_order;
    }

pub returns : goal.returns
returns c =
    let all = split 32 c.args.line.text.now in
    let begun = c.fields-fields.ensures.are_the_rest in
    record {
      asks_in_order =
          part_goes _ all _ _ _ _ _ c.in_ok-name.name c.in_ok-word.word (Ok c.in_ok-kind.kind) _ begun c.requires.letter c.next.ensures.takes_one.0 c.next-2.ensures.takes_one.0 (search rules) (search rules)
          c.in_ok-name.ensures.reads_or_refuses (λ v e. (cc)) (λ x e. (cc)) c.in_ok-kind.ensures.asks_in_order;
    }
