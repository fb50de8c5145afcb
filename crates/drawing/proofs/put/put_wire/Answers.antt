use Rattle.std.proofs.Common.{◌≡◌, ℕ, true, vec_items, arith}
use Rattle.board.specs.declared.pins.Wire.{Wire}
use Rattle.board.specs.Wires.{no_wire, sound_wire}
use Rattle.drawing.proofs.Plans.{pushed, Throughout, throughout_more, Once, once_more}
use Rattle.drawing.proofs.put.put_wire.Goals as goal

pub invariant_of-plan-clause-sound_wires : goal.invariant_of-plan-clause-sound_wires
invariant_of-plan-clause-sound_wires c n l =
    let p = c.args.plan.now in
    let IsSound : ℕ → Wire → Type 0 = λ _ w. sound_wire (vec_items p.blocks) (vec_items p.components) w ≡ true in
    let old : Throughout IsSound no_wire (vec_items p.wires) = λ i m. p.sound_wires i (omega (arith, m, p.wires.ok.0)) in
    pushed (Throughout IsSound no_wire) _ _ _ _ c.push.ensures.items old (throughout_more IsSound no_wire (vec_items p.wires) c.args.wire old c.requires.sound) n (omega (arith, l, c.push.new.self.ok.0))

pub invariant_of-plan-clause-wires_once : goal.invariant_of-plan-clause-wires_once
invariant_of-plan-clause-wires_once c n k h =
    let p = c.args.plan.now in
    let old : Once (vec_items p.wires) = λ i j l. p.wires_once i j (l.0, omega (arith, l.1, p.wires.ok.0)) in
    pushed Once _ _ _ _ c.push.ensures.items old (once_more (vec_items p.wires) c.args.wire old c.requires.once) n k (h.0, omega (arith, h.1, c.push.new.self.ok.0))
