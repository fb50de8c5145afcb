use Rattle.std.proofs.Common.{◌+◌, ◌≡◌, length, vec_len, sym, ap, ◌∙◌, subst, arith}
use Rattle.board.specs.Sweep.{Swept}
use Rattle.board.proofs.Flattening.{adds, skips, swept_moved}
use Rattle.board.proofs.flatten.sweep.Goals as goal
use Rattle.board.proofs.flatten.sweep.Goals.{then-rank_of-turn, else-rank_of-turn}

pub wires-preserved : goal.wires-preserved
wires-preserved c =
    let plan = c.args.plan.now in
    let lent = c.deref-wire-items.ensures.value in
    let counts = c.of-layout.ensures in
    elim c.if-rank_of-turn.branch [
      | then-rank_of-turn w ↦
          subst (Swept _ _ _ _ _) (sym w.rows-is)
          (adds plan _ lent _ _ counts.counts_the_parts counts.counts_the_blocks c.args.turn c.wires.wire-index c.wires.rows _ c.wires-test.true c.wires.invariant
          (ap (λ k. k + c.args.turn) (sym c.rank_of.ensures.is_the_rank) ∙ w.if-rank_of-turn.true) w.extend.ensures.extends)
      | else-rank_of-turn w ↦
          subst (Swept _ _ _ _ _) (sym w.rows-is)
          (skips plan _ lent _ _ counts.counts_the_parts counts.counts_the_blocks c.args.turn c.wires.wire-index c.wires.rows c.wires.invariant
          (λ e. w.if-rank_of-turn.false (ap (λ k. k + c.args.turn) c.rank_of.ensures.is_the_rank ∙ e)))
    ]

pub returns : goal.returns
returns c =
    let counts = c.of-layout.ensures in
    let lent = c.deref-wire-items.ensures.value in
    let last : c.wires.wire-index ≡ length c.args.plan.now.wires.items = omega (arith, ap length lent) in
    let plan = c.args.plan.now in
    let swept = swept_moved _ _ _ _ _ _ _ _ _ lent counts.counts_the_parts counts.counts_the_blocks c.wires.invariant in
    record { after = subst (λ k. Swept plan.wires.items (vec_len plan.components) (vec_len plan.blocks) c.args.turn k c.wires.rows) last swept }
