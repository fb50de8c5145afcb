use Rattle.std.proofs.Common.{◌≡◌, ℕ, ◌<◌, true, vec_items, arith}
use Rattle.board.specs.declared.parts.Block.{Block}
use Rattle.board.specs.Wires.{no_block, wire_at, sound_wire}
use Rattle.drawing.proofs.Plans.{pushed, Throughout, throughout_more, FewPins, few_pins_more, sound_more}
use Rattle.drawing.proofs.put.put_block.Goals as goal

pub invariant_of-plan-clause-block_pins : goal.invariant_of-plan-clause-block_pins
invariant_of-plan-clause-block_pins c =
    let p = c.args.plan.now in pushed FewPins _ _ _ _ c.push.ensures.items p.block_pins (few_pins_more _ c.args.block p.block_pins c.requires.pins)

pub invariant_of-plan-clause-parents_first : goal.invariant_of-plan-clause-parents_first
invariant_of-plan-clause-parents_first c b h =
    let p = c.args.plan.now in
    let n = p.blocks.ok.0 in
    let Before : ℕ → Block → Type 0 = λ i x. 0 < i → x.parent < i in
    let old : Throughout Before no_block (vec_items p.blocks) = λ i l some. p.parents_first i (some, omega (arith, l, n)) in
    let new = throughout_more Before no_block (vec_items p.blocks) c.args.block old (λ some. omega (arith, c.requires.parent_first (omega (arith, some, n)), n)) in
    pushed (Throughout Before no_block) _ _ _ _ c.push.ensures.items old new b (omega (arith, h.1, c.push.new.self.ok.0)) h.0

pub invariant_of-plan-clause-sound_wires : goal.invariant_of-plan-clause-sound_wires
invariant_of-plan-clause-sound_wires c n l =
    let p = c.args.plan.now in
    let w = wire_at (vec_items p.wires) n in
    let h = p.sound_wires n l in
    pushed (λ bs. sound_wire bs (vec_items p.components) w ≡ true) _ _ _ _ c.push.ensures.items h (sound_more (vec_items p.blocks) (vec_items p.components) c.args.block w h)
