-- What becomes of a drawing when a statement is carried out, and which faults have a number.
use Rattle.std.proofs.Common.{◌≡◌, ℕ, ◌+◌, ◌<◌, List, [], ◌∷◌, length, Some, None, Ok, Err, Option, Result, sym, refl, ap, ◌∙◌, subst, inl, inr, ⊎_elim, arith}
use Rattle.std.proofs.lemmas.Bool.{cases_lt}
use Rattle.clock.specs.Time.{Time}
use Rattle.part.specs.declared.catalogue.Catalogue.{Catalogue}
use Rattle.names.specs.declared.name.Name.{Name}
use Rattle.board.specs.declared.parts.Block.{Block}
use Rattle.board.specs.declared.pins.Wire.{Wire}
use Rattle.drawing.specs.Calls.{Sheet, blank, Placed, next_site, OpensBlock}
use Rattle.drawing.specs.Faults.{fault_number}
use Rattle.drawing.specs.Lists.{Lists, nothing}
use Rattle.drawing.specs.Questions.{Asks, BlockAsked, PartAsked, JoinAsked, WireAsked}
use Rattle.drawing.proofs.Added.{passed}
use Rattle.drawing.specs.declared.ends.Site.{Site}
use Rattle.drawing.specs.declared.ends.WireEnd.{WireEnd}
use Rattle.drawing.specs.declared.fault.Fault.{Fault}
use Rattle.drawing.specs.declared.fault.Fault.TheVariants.{Misplaced, Memory}
use Rattle.grammar.proofs.Asking.{ok_err}
use Rattle.grammar.proofs.Spoken.{board_says}
use Rattle.grammar.specs.declared.statement.Statement.{Statement}
use Rattle.grammar.specs.declared.statement.Statement.TheVariants as says
use Rattle.netlist.specs.Drawings.{Takes, LineSays}
use Rattle.netlist.specs.Files.{Closed}
use Rattle.netlist.proofs.Taken.{none_some, placed_ok}

-- a question with a number, and what follows it
numbered_ask : {T : Type 0} (bad : Type 0) (fault e : Fault) (on : Type 0) → 0 < fault_number fault → Asks {T = T} bad fault (Err e) on → (on → 0 < fault_number e) → 0 < fault_number e
numbered_ask bad fault e on some (inl h) goes = subst (λ f. 0 < fault_number f) (let p = h.1 in cc) some
numbered_ask bad fault e on some (inr h) goes = goes h.1

block_numbered : (l : Lists) (site : Site) (name : Name) (ins outs : ℕ) (e : Fault) → BlockAsked l site name ins outs (Err e) → 0 < fault_number e
block_numbered l site name ins outs e h =
    numbered_ask _ _ e _ (omega arith) h (λ h. numbered_ask _ _ e _ (omega arith) h (λ h. numbered_ask _ _ e _ (omega arith) h (λ h. numbered_ask _ _ e _ (omega arith) h (λ p. absurd (ok_err _ e (sym p))))))

part_numbered : (l : Lists) (block : ℕ) (name : Name) (ins outs : ℕ) (e : Fault) → PartAsked l block name ins outs (Err e) → 0 < fault_number e
part_numbered l block name ins outs e h =
    numbered_ask _ _ e _ (omega arith) h (λ h. numbered_ask _ _ e _ (omega arith) h (λ h. numbered_ask _ _ e _ (omega arith) h (λ p. absurd (ok_err _ e (sym p)))))

join_numbered : (wires : List Wire) (w : Wire) (e : Fault) → JoinAsked wires w (Err e) → 0 < fault_number e
join_numbered wires w e h = numbered_ask _ _ e _ (omega arith) h (λ h. numbered_ask _ _ e _ (omega arith) h (λ p. absurd (ok_err _ e (sym p))))

wire_numbered : (l : Lists) (block : ℕ) (from to : WireEnd) (e : Fault) → WireAsked l block from to (Err e) → 0 < fault_number e
wire_numbered l block from to e h =
    numbered_ask _ _ e _ (omega arith) h
    (λ h. numbered_ask _ _ e _ (omega arith) h (λ h. numbered_ask _ _ e _ (omega arith) h (λ h. numbered_ask _ _ e _ (omega arith) h (λ h. join_numbered l.wires h.0 e h.3))))

-- a call that has its place
placed_numbered : {P A T : Type 0} (place : Option A) (asked : A → Result T Fault → Type 0) (add : T → Sheet P) (before after : Sheet P) (f : Fault) →
    (place ≡ None → ⊥) → ((a : A) (e : Fault) → asked a (Err e) → 0 < fault_number e) → (f ≡ Memory → ⊥) → Placed place asked add before after (Err f) → 0 < fault_number f
placed_numbered place asked add before after f has faults other (inl h) = absurd (has h.0)
placed_numbered place asked add before after f has faults other (inr (a, Ok x, p, q, inl h)) = absurd (other (let e = h.0 in cc))
placed_numbered place asked add before after f has faults other (inr (a, Ok x, p, q, inr h)) = absurd (ok_err _ f (sym h.0))
placed_numbered place asked add before after f has faults other (inr (a, Err e, p, q, h)) = subst (λ f. 0 < fault_number f) (let k = h.0 in cc) (faults a e q)

-- the next block has a place, unless the board is closed
has_site : (blocks : List Block) (current : Option ℕ) → ((current ≡ None) × (0 < length blocks) → ⊥) → next_site blocks current ≡ None → ⊥
has_site blocks (Some b) open_now e = none_some _ (sym e)
has_site [] None open_now e = none_some _ (sym e)
has_site (b ∷ blocks) None open_now e = open_now (refl, omega arith)

-- outside the board, a line opens a block
in_block : (current : Option ℕ) (line : List ℕ) (n : ℕ) (st : Statement) → ((name : Name) (ins outs : ℕ) → st ≡ says.Open name ins outs → ⊥) → LineSays current line n (Ok st) → current ≡ None → ⊥
in_block None line n st other said e = let o = (board_says line n st said).2 in other o.0 o.1 o.2 o.3
in_block (Some b) line n st other said e = none_some b (sym e)

-- a fault that is not want of memory has a number
pub numbered : {C : Type 0} (time : Time C) (st : Statement) (before after : Sheet (Catalogue C)) (line : List ℕ) (n : ℕ) (f : Fault) → (Closed before → ⊥) → LineSays before.current line n (Ok st) →
    (f ≡ Memory → ⊥) → Takes time st before after (Err f) → 0 < fault_number f
numbered time (says.Open name ins outs) before after line n f open_now said other h =
    placed_numbered _ _ _ before after f (has_site before.plan.blocks before.current open_now) (λ site x q. block_numbered before.plan site name ins outs x q) other h
numbered time (says.Part name k) before after line n f open_now said other h =
    placed_numbered _ _ _ before after f (in_block before.current line n (says.Part name k) (λ name ins outs p. cc) said) (λ c x q. part_numbered before.plan c name _ _ x q) other h
numbered time (says.Wire from to) before after line n f open_now said other h =
    placed_numbered _ _ _ before after f (in_block before.current line n (says.Wire from to) (λ name ins outs p. cc) said) (λ c x q. wire_numbered before.plan c from to x q) other h
numbered time says.Close before after line n f open_now said other (inl h) = absurd (in_block before.current line n says.Close (λ name ins outs p. cc) said h.0)
numbered time says.Close before after line n f open_now said other (inr h) = absurd (ok_err _ f (sym h.2))

-- the last answer of the questions about a block
block_passed : (l : Lists) (site : Site) (name : Name) (ins outs : ℕ) (x : Block) → BlockAsked l site name ins outs (Ok x) → (site.depth < 8) × (x ≡ record { name = name; parent = site.parent; depth = site.depth + 1; ins = ins; outs = outs })
block_passed l site name ins outs x h =
    let pins = passed _ x h in
    let free = passed _ x pins.1 in
    let few = passed _ x free.1 in
    let deep = passed _ x few.1 in
    (⊎_elim (λ k. k) (λ k. absurd (deep.0 k)) (cases_lt site.depth 8), (let p = deep.1 in cc))

-- the board is open
pub record BoardOpen {P : Type 0} (after : Sheet P) : Type 0 where
  pub board : Block
  pub deep : board.depth ≡ 1
  pub blocks : after.plan.blocks ≡ board ∷ []
  pub open_now : after.current ≡ Some 0

pub opens_board : {P : Type 0} (name : Name) (ins outs : ℕ) (after : Sheet P) → OpensBlock name ins outs blank after (Ok tt) → BoardOpen after
opens_board name ins outs after h =
    let a = placed_ok _ _ _ blank after h in
    let site : a.where_to ≡ record { parent = 0; depth = 0 } = let p = a.placed in cc in
    let made = block_passed nothing a.where_to name ins outs a.what a.passed in
    record {
      board = a.what;
      deep = ap (λ (x : Block). x.depth) made.1 ∙ ap (λ (x : Site). x.depth + 1) site;
      blocks = ap (λ (s : Sheet _). s.plan.blocks) a.is;
      open_now = ap (λ (s : Sheet _). s.current) a.is;
    }

-- where nothing is drawn, only a block is accepted
pub board_open : {C : Type 0} (time : Time C) (st : Statement) (after : Sheet (Catalogue C)) → Takes time st blank after (Ok tt) → BoardOpen after
board_open time (says.Open name ins outs) after h = opens_board name ins outs after h
board_open time (says.Part name k) after h = absurd (none_some _ (placed_ok _ _ _ blank after h).placed)
board_open time (says.Wire from to) after h = absurd (none_some _ (placed_ok _ _ _ blank after h).placed)
board_open time says.Close after (inl h) = absurd (ok_err _ Misplaced h.1)
board_open time says.Close after (inr h) = absurd (none_some h.0 h.1)
