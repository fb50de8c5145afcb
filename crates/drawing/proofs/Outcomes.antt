-- Each call has one outcome, want of memory aside.
use Rattle.std.proofs.Common.{◌≡◌, ℕ, Some, None, Ok, Err, Option, Result, sym, ap, ◌∙◌, subst, inl, inr, arith}
use Rattle.names.specs.declared.name.Name.{Name}
use Rattle.drawing.specs.Calls.{Sheet, Adds, Placed, OpensBlock, AddsPart, AddsWire, ClosesBlock, outer}
use Rattle.drawing.specs.Unique.{Unique, OnlyOutcome}
use Rattle.drawing.specs.declared.ends.WireEnd.{WireEnd}
use Rattle.drawing.specs.declared.fault.Fault.{Fault}
use Rattle.drawing.specs.declared.fault.Fault.TheVariants.{Memory}
use Rattle.drawing.proofs.Naming.{block_asked_only, part_asked_only, wire_asked_only}

none_some : {X : Type 0} (o : Option X) (x : X) → o ≡ None → o ≡ Some x → ⊥
none_some o x e f = let z : ◌≡◌ {A = ℕ} 0 1 = cc in omega arith

some_same : {X : Type 0} (o : Option X) (x y : X) → o ≡ Some x → o ≡ Some y → y ≡ x
some_same o x y e f = cc

adds_only : {P T : Type 0} (add : T → Sheet P) (x : Result T Fault) (before after other : Sheet P) (r q : Result Unit Fault) →
    Adds add x before after r → Adds add x before other q → (r ≡ Err Memory → ⊥) → (q ≡ Err Memory → ⊥) → (other ≡ after) × (q ≡ r)
adds_only add (Ok x) before after other r q (inl a) k mr mq = absurd (mr a.0)
adds_only add (Ok x) before after other r q (inr a) (inl b) mr mq = absurd (mq b.0)
adds_only add (Ok x) before after other r q (inr a) (inr b) mr mq = (b.1 ∙ sym a.1, b.0 ∙ sym a.0)
adds_only add (Err e) before after other r q a b mr mq = (b.1 ∙ sym a.1, b.0 ∙ sym a.0)

placed_only : {P A T : Type 0} (place : Option A) (asked : A → Result T Fault → Type 0) (add : T → Sheet P) (before after : Sheet P) (r : Result Unit Fault) →
    ((a : A) (x y : Result T Fault) → asked a x → asked a y → y ≡ x) → Placed place asked add before after r → OnlyOutcome (Placed place asked add before) after r
placed_only place asked add before after r one (inl a) other q (inl b) mr mq = (b.2 ∙ sym a.2, b.1 ∙ sym a.1)
placed_only place asked add before after r one (inl a) other q (inr b) mr mq = absurd (none_some place b.0 a.0 b.2)
placed_only place asked add before after r one (inr a) other q (inl b) mr mq = absurd (none_some place a.0 b.0 a.2)
placed_only place asked add before after r one (inr a) other q (inr b) mr mq =
    let there : b.0 ≡ a.0 = some_same place a.0 b.0 a.2 b.2 in
    let same : b.1 ≡ a.1 = one a.0 a.1 b.1 a.3 (subst (λ s. asked s b.1) there b.3) in
    adds_only add a.1 before after other r q a.4 (subst (λ x. Adds add x before other q) same b.4) mr mq

module _ {P : Type 0} (before after : Sheet P) (r : Result Unit Fault) where
  pub opens_only : (name : Name) (ins outs : ℕ) → OpensBlock name ins outs before after r → OnlyOutcome (OpensBlock name ins outs before) after r
  opens_only name ins outs h = placed_only _ _ _ before after r (λ site x y. block_asked_only before.plan site name ins outs x y) h

  pub part_only : (name : Name) (ins outs : ℕ) (start : P) → AddsPart name ins outs start before after r → OnlyOutcome (AddsPart name ins outs start before) after r
  part_only name ins outs start h = placed_only _ _ _ before after r (λ b x y. part_asked_only before.plan b name ins outs x y) h

  pub wire_only : (from to : WireEnd) → Unique before.plan → AddsWire from to before after r → OnlyOutcome (AddsWire from to before) after r
  wire_only from to u h = placed_only _ _ _ before after r (λ b x y. wire_asked_only before.plan u b from to x y) h

  pub closes_only : ClosesBlock before after r → OnlyOutcome (ClosesBlock before) after r
  closes_only (inl a) other q (inl b) mr mq = (b.2 ∙ sym a.2, b.1 ∙ sym a.1)
  closes_only (inl a) other q (inr b) mr mq = absurd (none_some before.current b.0 a.0 b.1)
  closes_only (inr a) other q (inl b) mr mq = absurd (none_some before.current a.0 b.0 a.1)
  closes_only (inr a) other q (inr b) mr mq =
      let there : b.0 ≡ a.0 = some_same before.current a.0 b.0 a.1 b.1 in
      (b.3 ∙ ap (λ n. record { plan = before.plan; starts = before.starts; current = outer before.plan.blocks n }) there ∙ sym a.3, b.2 ∙ sym a.2)
