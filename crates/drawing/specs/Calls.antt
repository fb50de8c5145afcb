-- What each call answers, and what becomes of the drawing.
use Rattle.std.specs.Prelude.{◌≡◌, ℕ, ◌<◌, cond, ◌⊎◌, List, [], ◌∷◌, ◌++◌, length, Some, None, Ok, Err, vec_items, Option, Result, ◌==◌, ◌≢◌}
use Rattle.names.specs.declared.name.Name.{Name}
use Rattle.board.specs.declared.nested.Board.{Board}
use Rattle.board.specs.declared.parts.Block.{Block}
use Rattle.board.specs.Wires.{block_at}
use Rattle.drawing.specs.declared.drawing.Drawing.{Drawing}
use Rattle.drawing.specs.declared.ends.Site.{Site}
use Rattle.drawing.specs.declared.ends.WireEnd.{WireEnd}
use Rattle.drawing.specs.declared.fault.Fault.{Fault}
use Rattle.drawing.specs.declared.fault.Fault.TheVariants.{Misplaced, Memory}
use Rattle.drawing.specs.Lists.{Lists, lists, nothing, with_block, with_component, with_wire}
use Rattle.drawing.specs.Questions.{BlockAsked, PartAsked, WireAsked}

-- what a drawing holds
pub record Sheet (P : Type 0) : Type 0 where
  pub plan : Lists
  pub starts : List P
  pub current : Option ℕ

abbrev pub sheet : {P : Type 0} → Drawing P → Sheet P
sheet d = record { plan = lists d.plan; starts = vec_items d.starts; current = d.current }

-- nothing is drawn
abbrev pub blank : {P : Type 0} → Sheet P
blank = record { plan = nothing; starts = []; current = None }

-- where the next block goes: into the open block, or first of all as the board; nowhere once the board is closed
abbrev pub next_site : List Block → Option ℕ → Option Site
next_site blocks (Some b) = Some (record { parent = b; depth = (block_at blocks b).depth })
next_site [] None = Some (record { parent = 0; depth = 0 })
next_site (b ∷ blocks) None = None

-- the open block after block b is closed
abbrev pub outer : List Block → ℕ → Option ℕ
outer blocks b = cond (b == 0) None (Some (block_at blocks b).parent)

-- A refusal changes nothing. What passed the questions is added, unless memory lacks.
abbrev pub Adds : {P T : Type 0} → (T → Sheet P) → Result T Fault → Sheet P → Sheet P → Result Unit Fault → Type 0
Adds add (Ok x) before after r = ((r ≡ Err Memory) × (after ≡ before)) ⊎ ((r ≡ Ok tt) × (after ≡ add x))
Adds add (Err e) before after r = (r ≡ Err e) × (after ≡ before)

-- a call that is misplaced where it has no place, and asks its questions of the place that it has
abbrev pub Placed : {P A T : Type 0} → Option A → (A → Result T Fault → Type 0) → (T → Sheet P) → Sheet P → Sheet P → Result Unit Fault → Type 0
Placed {P} {A} {T} place asked add before after r =
    ((place ≡ None) × (r ≡ Err Misplaced) × (after ≡ before))
    ⊎ ((a : A) × (q : Result T Fault) × (place ≡ Some a) × asked a q × Adds add q before after r)

abbrev pub OpensBlock : {P : Type 0} → Name → ℕ → ℕ → Sheet P → Sheet P → Result Unit Fault → Type 0
OpensBlock name ins outs before after r =
    Placed (next_site before.plan.blocks before.current) (λ site q. BlockAsked before.plan site name ins outs q)
    (λ b. record { plan = with_block before.plan b; starts = before.starts; current = Some (length before.plan.blocks) })
    before after r

abbrev pub AddsPart : {P : Type 0} → Name → ℕ → ℕ → P → Sheet P → Sheet P → Result Unit Fault → Type 0
AddsPart name ins outs start before after r =
    Placed before.current (λ b q. PartAsked before.plan b name ins outs q)
    (λ c. record { plan = with_component before.plan c; starts = before.starts ++ start ∷ []; current = before.current })
    before after r

abbrev pub AddsWire : {P : Type 0} → WireEnd → WireEnd → Sheet P → Sheet P → Result Unit Fault → Type 0
AddsWire from to before after r =
    Placed before.current (λ b q. WireAsked before.plan b from to q)
    (λ w. record { plan = with_wire before.plan w; starts = before.starts; current = before.current })
    before after r

abbrev pub ClosesBlock : {P : Type 0} → Sheet P → Sheet P → Result Unit Fault → Type 0
ClosesBlock before after r =
    ((before.current ≡ None) × (r ≡ Err Misplaced) × (after ≡ before))
    ⊎ ((b : ℕ) × (before.current ≡ Some b) × (r ≡ Ok tt)
    × (after ≡ record { plan = before.plan; starts = before.starts; current = outer before.plan.blocks b }))

-- a refusal leaves the drawing as it was
abbrev pub Kept : {P : Type 0} → Sheet P → Sheet P → Result Unit Fault → Type 0
Kept before after (Ok x) = Unit {0}
Kept before after (Err e) = after ≡ before

-- the board is drawn and closed, and the drawing's plan and starts are its own
pub record Finished {P : Type 0} (d : Drawing P) (b : Board P) : Type 0 where
  pub drawn : 0 < length (sheet d).plan.blocks
  pub closed : d.current ≡ None
  pub plan : b.plan ≡ d.plan
  pub starts : b.starts ≡ d.starts

-- nothing is drawn, or a block is open
abbrev pub Unfinished : {P : Type 0} → Drawing P → Type 0
Unfinished d = (length (sheet d).plan.blocks ≡ 0) ⊎ (d.current ≢ None)
