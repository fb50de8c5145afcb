use Rattle.std.proofs.Common.{◌≡◌, ◌≤◌, ◌⊎◌, length, Some, Option, vec_items, subst, inr, ⊎_elim, arith, MatchOption}
use Rattle.board.specs.declared.pins.Pin.{Pin}
use Rattle.board.specs.declared.pins.Wire.{Wire}
use Rattle.drawing.specs.Children.{end_pin}
use Rattle.drawing.specs.Questions.{JoinAsked}
use Rattle.drawing.proofs.inside.Inside.wire.Goals as goal

-- what was found is there
found : (o : Option Pin) (p : Pin) (P : Pin → Type 0) → MatchOption o ((q : Pin) → P q → ⊥) P → o ≡ Some p → P p
found o p P h e = let Holds : Option Pin → Type 0 = λ x. MatchOption x ((q : Pin) → P q → ⊥) P in subst Holds e h

pub returns : goal.returns
returns c =
    let p = c.args.self.plan.now in
    let w : Wire = record { from = c.in_ok-from.from; to = c.in_ok-to.to } in
    let from = found _ w.from _ c.pin_at.ensures.finds_it c.in_ok-from.ensures.ok_part in
    let to = found _ w.to _ c.pin_at-2.ensures.finds_it c.in_ok-to.ensures.ok_part in
    let few_pins : (8 ≤ end_pin c.args.from) ⊎ (8 ≤ end_pin c.args.to) → ⊥ = ⊎_elim (λ k. omega (arith, k, c.pin.ensures.is_the_pin)) (λ k. omega (arith, k, c.pin-else-pin-ge8.ensures.is_the_pin)) in
    let room : 256 ≤ length (vec_items p.wires) → ⊥ = λ h. omega (arith, h, c.len.ensures, p.wires.ok.0) in
    let join = subst (λ ws. JoinAsked ws w c.joined.result) c.deref.ensures.value c.joined.ensures.asks_in_order in
    record { asks_in_order = inr (few_pins, inr (room, inr ((λ none. none w.from from), inr ((λ none. none w.to to), (w, from, to, join))))) }
