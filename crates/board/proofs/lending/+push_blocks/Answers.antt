use Rattle.std.proofs.Common.{◌<◌, is_ok, vec_items, ap, arith}
use Rattle.std.proofs.ResultArms.{chosen}
use Rattle.board.proofs.Ways.{read_block, added_none, added_block}
use Rattle.board.proofs.lending.+push_blocks.Goals as goal

pub returns-then-block-eq0 : goal.returns-then-block-eq0
returns-then-block-eq0 t c = record { adds_the_way = added_none _ _ _ c.if-block-eq0.true }

pub returns : goal.returns
returns t c =
    let plan = c.args.plan.now in
    let some : 0 < c.args.block = omega (arith, c.if-block-eq0.false) in
    let x = read_block (vec_items plan.blocks) c.args.block _ c.index.ensures (omega (arith, c.requires.is_there, plan.blocks.ok.0)) in
    let pushed = chosen _ _ _ _ c.push.ensures.items (ap is_ok c.in_ok-push.was) in
    record {
      adds_the_way = added_block _ c.args.block c.index.result.now _ _ _ _ some (omega (arith, c.requires.is_there, plan.blocks.ok.0)) x
          c.in_ok-push_blocks.ensures.adds_the_way c.in_ok-push_name.ensures.adds_the_name pushed;
    }
