use Rattle.std.proofs.Common.{[], ◌∷◌, Err, ap, ◌∙◌, arith}
use Rattle.std.proofs.lemmas.Result.{err_from_is_err_and}
use Rattle.grammar.specs.Pieces.{split}
use Rattle.grammar.specs.Rules.{a_number, Says}
use Rattle.grammar.specs.Verdicts.{judged, line_verdict}
use Rattle.grammar.proofs.LineRules.{block_named, number_read, no_number, block_said}
use Rattle.grammar.proofs.rules.block_line.Goals as goal

pub returns-in_err-ins : goal.returns-in_err-ins
returns-in_err-ins c =
    let all = split 32 c.args.line.text.now in
    let begun = c.in_ok-fields.ensures.counts_or_refuses in
    let first = begun.1.count in
    let name = c.in_ok-name.ensures.reads_or_refuses in
    let second = name.takes.count in
    let fault = err_from_is_err_and c.from_residual-in_err-ins.result c.from_residual-in_err-ins.ensures.1 in
    record {
      asks_in_order =
          block_named _ all _ _ _ _ begun.0 begun.1 name
          (no_number 0 8 _ _ (a_number 0 8 ∷ []) 3 _ (Says all _) _ c.in_err-ins.ensures.reads_or_refuses (omega arith) (ap (judged line_verdict) fault.1 ∙ ap (λ x. Err (line_verdict x)) fault.2));
    }

pub returns-in_err-outs : goal.returns-in_err-outs
returns-in_err-outs c =
    let all = split 32 c.args.line.text.now in
    let begun = c.in_ok-fields.ensures.counts_or_refuses in
    let first = begun.1.count in
    let name = c.in_ok-name.ensures.reads_or_refuses in
    let ins = c.in_ok-ins.ensures.reads_or_refuses in
    let second = name.takes.count in
    let third = ins.takes.count in
    let fault = err_from_is_err_and c.from_residual-in_err-outs.result c.from_residual-in_err-outs.ensures.1 in
    record {
      asks_in_order =
          block_named _ all _ _ _ _ begun.0 begun.1 name
          (number_read 0 8 _ _ (a_number 0 8 ∷ []) 3 _ (Says all _) _ ins
          (no_number 0 8 _ _ [] 4 _ (Says all _) _ c.in_err-outs.ensures.reads_or_refuses (omega arith) (ap (judged line_verdict) fault.1 ∙ ap (λ x. Err (line_verdict x)) fault.2)));
    }

pub returns : goal.returns
returns c =
    let all = split 32 c.args.line.text.now in
    let begun = c.in_ok-fields.ensures.counts_or_refuses in
    let name = c.in_ok-name.ensures.reads_or_refuses in
    let ins = c.in_ok-ins.ensures.reads_or_refuses in
    let outs = c.in_ok-outs.ensures.reads_or_refuses in
    record {
      asks_in_order =
          block_named _ all _ _ _ _ begun.0 begun.1 name
          (number_read 0 8 _ _ (a_number 0 8 ∷ []) 3 _ (Says all _) _ ins
          (number_read 0 8 _ _ [] 4 _ (Says all _) _ outs (block_said _ all _ _ _ _ _ _ _ begun.0 begun.1 c.requires.letter name ins outs)));
    }
