use Rattle.std.proofs.Common.{set, ap, rules}
use Rattle.board.proofs.Sweeping.{row_same, joins_first, joins_second}
use Rattle.board.proofs.flatten.extend.Goals as goal

pub returns : goal.returns
returns c = record {
  extends = record {
    alone = c.alone.result;
    onto = c.join-onto.result;
    joined = c.join.result;
    is_alone = c.alone.ensures.reaches_it_alone;
    is_onto = joins_second _ _ _ _ (row_same c.args.rows.now _ _ _ c.place_of-to.ensures.is_the_place c.requires.have_rows.1) c.join-onto.ensures.reaches_what_either_does;
    is_joined = joins_first _ _ _ _ (row_same c.args.rows.now _ _ _ c.place_of-from.ensures.is_the_place c.requires.have_rows.0) c.join.ensures.reaches_what_either_does;
    whole = search rules;
    stored = ap (λ n. set c.args.rows.now n c.join.result) c.place_of-from.ensures.is_the_place;
  };
}
