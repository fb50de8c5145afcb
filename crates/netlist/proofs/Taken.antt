-- What follows where the builder accepts a statement.
use Rattle.std.proofs.Common.{◌≡◌, ℕ, ◌<◌, Some, None, Ok, Err, Option, Result, sym, ap, subst, inl, inr, arith}
use Rattle.clock.specs.Time.{Time}
use Rattle.part.specs.declared.catalogue.Catalogue.{Catalogue}
use Rattle.drawing.specs.Calls.{Sheet, Adds, Placed}
use Rattle.drawing.specs.Unique.{OnlyOutcome}
use Rattle.drawing.specs.Faults.{fault_number}
use Rattle.drawing.specs.Unique.{Unique}
use Rattle.drawing.specs.declared.fault.Fault.{Fault}
use Rattle.drawing.specs.declared.fault.Fault.TheVariants.{Memory}
use Rattle.drawing.proofs.Naming.{asked_block_unique, asked_component_unique, wire_unique}
use Rattle.drawing.proofs.Outcomes.{opens_only, part_only, wire_only, closes_only}
use Rattle.grammar.proofs.Asking.{ok_err}
use Rattle.grammar.specs.declared.statement.Statement.{Statement}
use Rattle.grammar.specs.declared.statement.Statement.TheVariants.{Open, Part, Wire, Close}
use Rattle.netlist.specs.Drawings.{Takes, ins_of, outs_of, start_of}

pub ok_same : {T E : Type 0} (x y : T) → ◌≡◌ {A = Result T E} (Ok y) (Ok x) → y ≡ x
ok_same x y e = cc

pub err_same : {T E : Type 0} (x y : E) → ◌≡◌ {A = Result T E} (Err y) (Err x) → y ≡ x
err_same x y e = cc

pub none_some : {X : Type 0} (x : X) → ◌≡◌ {A = Option X} None (Some x) → ⊥
none_some x same = let z : ◌≡◌ {A = ℕ} 0 1 = cc in omega arith

-- want of memory has no number
pub not_memory : (f : Fault) → 0 < fault_number f → ◌≡◌ {A = Result Unit Fault} (Err f) (Err Memory) → ⊥
not_memory f l e = let same : f ≡ Memory = cc in omega (arith, ap fault_number same)

-- an accepted call had a place, passed its questions, and was added
pub record Added {P A T : Type 0} (place : Option A) (asked : A → Result T Fault → Type 0) (add : T → Sheet P) (after : Sheet P) : Type 0 where
  pub where_to : A
  pub what : T
  pub placed : place ≡ Some where_to
  pub passed : asked where_to (Ok what)
  pub is : after ≡ add what

adds_ok : {P A T : Type 0} (place : Option A) (asked : A → Result T Fault → Type 0) (add : T → Sheet P) (before after : Sheet P) (a : A) (q : Result T Fault) →
    place ≡ Some a → asked a q → Adds add q before after (Ok tt) → Added place asked add after
adds_ok place asked add before after a (Ok x) there well (inl h) = absurd (ok_err tt Memory h.0)
adds_ok place asked add before after a (Ok x) there well (inr h) = record { where_to = a; what = x; placed = there; passed = well; is = h.1 }
adds_ok place asked add before after a (Err e) there well h = absurd (ok_err tt e h.0)

pub placed_ok : {P A T : Type 0} (place : Option A) (asked : A → Result T Fault → Type 0) (add : T → Sheet P) (before after : Sheet P) →
    Placed place asked add before after (Ok tt) → Added place asked add after
placed_ok place asked add before after (inl h) = absurd (ok_err tt _ h.1)
placed_ok place asked add before after (inr h) = adds_ok place asked add before after h.0 h.1 h.2 h.3 h.4

module _ {C : Type 0} (time : Time C) where
  -- a statement has one outcome, want of memory aside
  pub takes_only : (st : Statement) (before after : Sheet (Catalogue C)) (r : Result Unit Fault) → Unique before.plan → Takes time st before after r → OnlyOutcome (Takes time st before) after r
  takes_only (Open name ins outs) before after r u h = opens_only before after r name ins outs h
  takes_only (Part name k) before after r u h = part_only before after r name (ins_of k) (outs_of k) (start_of time k) h
  takes_only (Wire from to) before after r u h = wire_only before after r from to u h
  takes_only Close before after r u h = closes_only before after r h

  -- what is accepted keeps names unique
  pub takes_unique : (st : Statement) (before after : Sheet (Catalogue C)) → Unique before.plan → Takes time st before after (Ok tt) → Unique after.plan
  takes_unique (Open name ins outs) before after u h =
      let added = placed_ok _ _ _ before after h in
      subst (λ (s : Sheet (Catalogue C)). Unique s.plan) (sym added.is) (asked_block_unique before.plan added.where_to name ins outs added.what u added.passed)
  takes_unique (Part name k) before after u h =
      let added = placed_ok _ _ _ before after h in
      subst (λ (s : Sheet (Catalogue C)). Unique s.plan) (sym added.is) (asked_component_unique before.plan added.where_to name (ins_of k) (outs_of k) added.what u added.passed)
  takes_unique (Wire from to) before after u h =
      let added = placed_ok _ _ _ before after h in
      subst (λ (s : Sheet (Catalogue C)). Unique s.plan) (sym added.is) (wire_unique before.plan added.what u)
  takes_unique Close before after u (inl h) = absurd (ok_err tt _ h.1)
  takes_unique Close before after u (inr h) = subst (λ (s : Sheet (Catalogue C)). Unique s.plan) (sym h.3) u
