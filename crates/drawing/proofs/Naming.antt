-- Names stay unique, and so each question has one answer.
use Rattle.std.proofs.Common.{◌≡◌, ℕ, ◌+◌, ◌≤◌, ◌⊎◌, List, [], ◌∷◌, ◌++◌, length, Ok, Result, sym, refl, ap, ◌∙◌, subst, inl, inr, ⊎_elim, arith}
use Rattle.asking.proofs.Only.{ask_only}
use Rattle.std.proofs.lemmas.List.{get_or_append_left, get_or_push, length_push}
use Rattle.std.proofs.lemmas.Bool.{cases_lt, cases_eq}
use Rattle.names.specs.declared.name.Name.{Name}
use Rattle.names.specs.Names.{name_text}
use Rattle.board.specs.declared.parts.Block.{Block}
use Rattle.board.specs.declared.parts.Component.{Component}
use Rattle.board.specs.declared.pins.Pin.{Pin}
use Rattle.board.specs.declared.pins.Wire.{Wire}
use Rattle.board.specs.Wires.{no_block, no_component}
use Rattle.drawing.specs.Children.{Fits, PartFits, BlockFits, IsChild, Taken, FindsFrom, FindsTo, output, input, called}
use Rattle.drawing.specs.Lists.{Lists, nothing, with_block, with_component, with_wire}
use Rattle.drawing.specs.Questions.{Asks, BlockAsked, PartAsked, JoinAsked, WireAsked}
use Rattle.drawing.specs.Unique.{Unique}
use Rattle.drawing.specs.declared.ends.Found.{Found}
use Rattle.drawing.specs.declared.ends.Found.TheVariants as found
use Rattle.drawing.specs.declared.ends.Site.{Site}
use Rattle.drawing.specs.declared.ends.Wanted.{Wanted}
use Rattle.drawing.specs.declared.ends.WireEnd.{WireEnd}
use Rattle.drawing.specs.declared.ends.WireEnd.TheVariants.{Own, Child}
use Rattle.drawing.specs.declared.fault.Fault.{Fault}
use Rattle.drawing.proofs.Added.{passed}

-- two children are the same, or are not
same_or_not : (f g : Found) → (f ≡ g) ⊎ (f ≡ g → ⊥)
same_or_not (found.Part i) (found.Part j) = ⊎_elim (λ e. inl (ap found.Part e)) (λ n. inr (λ e. let k : i ≡ j = cc in n k)) (cases_eq i j)
same_or_not (found.Part i) (found.Block j) = inr (λ e. let z : ◌≡◌ {A = ℕ} 0 1 = cc in omega arith)
same_or_not (found.Block i) (found.Part j) = inr (λ e. let z : ◌≡◌ {A = ℕ} 0 1 = cc in omega arith)
same_or_not (found.Block i) (found.Block j) = ⊎_elim (λ e. inl (ap found.Block e)) (λ n. inr (λ e. let k : i ≡ j = cc in n k)) (cases_eq i j)

-- what fits, fits whoever asks less
looser : (bs : List Block) (cs : List Component) (w v : Wanted) (f : Found) → w.block ≡ v.block → name_text w.name ≡ name_text v.name → v.ins ≤ w.ins → v.outs ≤ w.outs →
    IsChild bs cs w f → IsChild bs cs v f
looser bs cs w v (found.Part i) eb en ei eo h =
    let p = h.1 in (h.0, record { inside = sym eb ∙ p.inside; some_ins = omega (arith, p.some_ins); some_outs = omega (arith, p.some_outs); spelled = p.spelled ∙ en })
looser bs cs w v (found.Block i) eb en ei eo h =
    let p = h.2 in (h.0, h.1, record { inside = sym eb ∙ p.inside; some_ins = omega (arith, p.some_ins); some_outs = omega (arith, p.some_outs); spelled = p.spelled ∙ en })

-- where names are unique, at most one child is the wanted one
pub only_child : (l : Lists) → Unique l → (w : Wanted) (f g : Found) → IsChild l.blocks l.components w f → IsChild l.blocks l.components w g → f ≡ g
only_child l u w f g hf hg =
    let less : (k : Found) → IsChild l.blocks l.components w k → IsChild l.blocks l.components (called w.block w.name) k =
    λ k h. looser l.blocks l.components w (called w.block w.name) k refl refl (omega arith) (omega arith) h in
    ⊎_elim (λ e. e) (λ n. absurd (u f g (record { block = w.block; name = w.name; first = less f hf; second = less g hg }) n)) (same_or_not f g)

-- a child after one more block: an old one, or that block
block_child : (bs : List Block) (cs : List Component) (x : Block) (w : Wanted) (f : Found) → IsChild (bs ++ x ∷ []) cs w f → IsChild bs cs w f ⊎ ((f ≡ found.Block (length bs)) × BlockFits w x)
block_child bs cs x w (found.Part i) h = inl h
block_child bs cs x w (found.Block i) h =
    ⊎_elim
    (λ l. inl (h.0, l, subst (BlockFits w) (get_or_append_left bs (x ∷ []) no_block i l) h.2))
    (λ l.
    let e : i ≡ length bs = omega (arith, h.1, length_push bs x) in
    inr (ap found.Block e, subst (BlockFits w) (get_or_push bs x no_block i (sym e)) h.2))
    (cases_lt i (length bs))

-- a child after one more part: an old one, or that part
part_child : (bs : List Block) (cs : List Component) (x : Component) (w : Wanted) (f : Found) → IsChild bs (cs ++ x ∷ []) w f → IsChild bs cs w f ⊎ ((f ≡ found.Part (length cs)) × PartFits w x)
part_child bs cs x w (found.Block i) h = inl h
part_child bs cs x w (found.Part i) h =
    ⊎_elim
    (λ l. inl (l, subst (PartFits w) (get_or_append_left cs (x ∷ []) no_component i l) h.1))
    (λ l.
    let e : i ≡ length cs = omega (arith, h.0, length_push cs x) in
    inr (ap found.Part e, subst (PartFits w) (get_or_push cs x no_component i (sym e)) h.1))
    (cases_lt i (length cs))

pub nothing_unique : Unique nothing
nothing_unique (found.Part i) g h n = omega (arith, h.first.0)
nothing_unique (found.Block i) g h n = omega (arith, h.first.1)

-- one child more, whose name was not taken
grown_unique : (l m : Lists) (new : Found) (block : ℕ) (its : Name) (ins outs : ℕ) →
    ((w : Wanted) (f : Found) → IsChild m.blocks m.components w f → IsChild l.blocks l.components w f ⊎ ((f ≡ new) × Fits w block its ins outs)) →
    Unique l → (Taken l.blocks l.components block its → ⊥) → Unique m
grown_unique l m new block its ins outs split u free f g h n =
    let w = called h.block h.name in
    let taken : (k : Found) → Fits w block its ins outs → IsChild l.blocks l.components w k → ⊥ =
    λ k fits old. free (k, looser l.blocks l.components w (called block its) k fits.inside (sym fits.spelled) (omega arith) (omega arith) old) in
    ⊎_elim
    (λ old. ⊎_elim (λ also. u f g (record { block = h.block; name = h.name; first = old; second = also }) n) (λ one. taken f one.1 old) (split w g h.second))
    (λ one. ⊎_elim (λ old. taken g one.1 old) (λ also. n (one.0 ∙ sym also.0)) (split w g h.second))
    (split w f h.first)

pub block_unique : (l : Lists) (x : Block) → Unique l → (Taken l.blocks l.components x.parent x.name → ⊥) → Unique (with_block l x)
block_unique l x = grown_unique l (with_block l x) (found.Block (length l.blocks)) x.parent x.name x.ins x.outs (block_child l.blocks l.components x)

pub component_unique : (l : Lists) (x : Component) → Unique l → (Taken l.blocks l.components x.block x.name → ⊥) → Unique (with_component l x)
component_unique l x = grown_unique l (with_component l x) (found.Part (length l.components)) x.block x.name x.ins x.outs (part_child l.blocks l.components x)

-- what is added after the questions keeps names unique
pub asked_block_unique : (l : Lists) (site : Site) (name : Name) (ins outs : ℕ) (x : Block) → Unique l → BlockAsked l site name ins outs (Ok x) → Unique (with_block l x)
asked_block_unique l site name ins outs x u h =
    let pins = passed _ x h in
    let free = passed _ x pins.1 in
    let few = passed _ x free.1 in
    let shallow = passed _ x few.1 in
    let is : x ≡ record { name = name; parent = site.parent; depth = site.depth + 1; ins = ins; outs = outs } = let same = shallow.1 in cc in
    block_unique l x u (λ t. free.0 (subst (λ (y : Block). Taken l.blocks l.components y.parent y.name) is t))

pub asked_component_unique : (l : Lists) (block : ℕ) (name : Name) (ins outs : ℕ) (x : Component) → Unique l → PartAsked l block name ins outs (Ok x) → Unique (with_component l x)
asked_component_unique l block name ins outs x u h =
    let pins = passed _ x h in
    let free = passed _ x pins.1 in
    let few = passed _ x free.1 in
    let is : x ≡ record { name = name; block = block; ins = ins; outs = outs } = let same = few.1 in cc in
    component_unique l x u (λ t. free.0 (subst (λ (y : Component). Taken l.blocks l.components y.block y.name) is t))

pub wire_unique : (l : Lists) (w : Wire) → Unique l → Unique (with_wire l w)
wire_unique l w u f g h = u f g (record { block = h.block; name = h.name; first = h.first; second = h.second })

-- the answers of one question
asks_only : {T bad on off : Type 0} (fault : Fault) (r q : Result T Fault) → Asks bad fault r on → Asks bad fault q off → (on → off → q ≡ r) → q ≡ r
asks_only fault r q h k go = ask_only (λ a b. b ∙ sym a) go h k

pub block_asked_only : (l : Lists) (site : Site) (name : Name) (ins outs : ℕ) (r q : Result Block Fault) → BlockAsked l site name ins outs r → BlockAsked l site name ins outs q → q ≡ r
block_asked_only l site name ins outs r q h k =
    asks_only _ r q h k (λ h k. asks_only _ r q h k (λ h k. asks_only _ r q h k (λ h k. asks_only _ r q h k (λ a b. b ∙ sym a))))

pub part_asked_only : (l : Lists) (block : ℕ) (name : Name) (ins outs : ℕ) (r q : Result Component Fault) → PartAsked l block name ins outs r → PartAsked l block name ins outs q → q ≡ r
part_asked_only l block name ins outs r q h k = asks_only _ r q h k (λ h k. asks_only _ r q h k (λ h k. asks_only _ r q h k (λ a b. b ∙ sym a)))

join_asked_only : (ws : List Wire) (w : Wire) (r q : Result Wire Fault) → JoinAsked ws w r → JoinAsked ws w q → q ≡ r
join_asked_only ws w r q h k = asks_only _ r q h k (λ h k. asks_only _ r q h k (λ a b. b ∙ sym a))

-- a wire end names at most one pin
pub from_only : (l : Lists) → Unique l → (b : ℕ) (end : WireEnd) (p q : Pin) → FindsFrom l.blocks l.components b end p → FindsFrom l.blocks l.components b end q → q ≡ p
from_only l u b (Own k) p q h g = g.1 ∙ sym h.1
from_only l u b (Child name k) p q h g = g.2 ∙ ap (λ f. output f k) (only_child l u (record { block = b; name = name; ins = 0; outs = k + 1 }) g.0 h.0 g.1 h.1) ∙ sym h.2

pub to_only : (l : Lists) → Unique l → (b : ℕ) (end : WireEnd) (p q : Pin) → FindsTo l.blocks l.components b end p → FindsTo l.blocks l.components b end q → q ≡ p
to_only l u b (Own k) p q h g = g.1 ∙ sym h.1
to_only l u b (Child name k) p q h g = g.2 ∙ ap (λ f. input f k) (only_child l u (record { block = b; name = name; ins = k + 1; outs = 0 }) g.0 h.0 g.1 h.1) ∙ sym h.2

pub wire_asked_only : (l : Lists) → Unique l → (block : ℕ) (from to : WireEnd) (r q : Result Wire Fault) → WireAsked l block from to r → WireAsked l block from to q → q ≡ r
wire_asked_only l u block from to r q h k =
    asks_only _ r q h k (λ h k. asks_only _ r q h k (λ h k. asks_only _ r q h k (λ h k. asks_only _ r q h k (λ a b.
    let first = from_only l u block from a.0.from b.0.from a.1 b.1 in
    let second = to_only l u block to a.0.to b.0.to a.2 b.2 in
    let same : b.0 ≡ a.0 = λ i. record { from = first i; to = second i } in
    join_asked_only l.wires a.0 r q a.3 (subst (λ w. JoinAsked l.wires w q) same b.3)))))
