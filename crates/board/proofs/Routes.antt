-- Paths of wires in a sound plan.
use Rattle.std.proofs.Common.{◌≡◌, ℕ, ◌<◌, ◌≤◌, true, ◌&&◌, ltb, ◌⊎◌, List, length, sym, refl, ap, ◌∙◌, subst, subst₂, inl, inr, ⊎_elim, arith}
use Rattle.std.proofs.lemmas.Bool.{and_parts, ltb-true, eqb-true, eqb-false, not-true, false≢true}
use Rattle.board.specs.Wires.{leads, takes, inside_from, inside_to, apart, sound_wire, block_at, component_at, wire_at}
use Rattle.board.specs.Paths.{Joined, Leads, wire, onwards}
use Rattle.board.specs.Ranks.{rank}
use Rattle.board.specs.declared.parts.Block.{Block}
use Rattle.board.specs.declared.parts.Component.{Component}
use Rattle.board.specs.declared.pins.Pin.{Pin}
use Rattle.board.specs.declared.pins.Pin.TheVariants.{PartIn, PartOut, BlockIn, BlockOut}
use Rattle.board.specs.declared.pins.Wire.{Wire}

pub record Sound (blocks : List Block) (parts : List Component) (wires : List Wire) : Type 0 where
  pub parents : (b : ℕ) → 0 < b → b < length blocks → (block_at blocks b).parent < b
  pub in_blocks : (i : ℕ) → i < length parts → (component_at parts i).block < length blocks
  pub block_pins : (b : ℕ) → ((block_at blocks b).ins ≤ 8) × ((block_at blocks b).outs ≤ 8)
  pub part_pins : (i : ℕ) → ((component_at parts i).ins ≤ 8) × ((component_at parts i).outs ≤ 8)
  pub wires_sound : (n : ℕ) → n < length wires → sound_wire blocks parts (wire_at wires n) ≡ true

module _ (blocks : List Block) (parts : List Component) where
  -- what it is for a wire to be sound
  pub record Fine (p q : Pin) : Type 0 where
    pub from_there : leads blocks parts p ≡ true
    pub to_there : takes blocks parts q ≡ true
    pub one_block : inside_from blocks parts p ≡ inside_to blocks parts q
    pub two_things : apart p q ≡ true

  pub fine : (w : Wire) → sound_wire blocks parts w ≡ true → Fine w.from w.to
  fine w h =
      let a = and_parts _ _ h in
      let b = and_parts _ _ a.0 in
      let c = and_parts _ _ b.0 in
      record { from_there = c.0; to_there = c.1; one_block = eqb-true _ _ b.1; two_things = a.1 }

  two_tests : (a b c d : ℕ) → (ltb a b && ltb c d) ≡ true → (a < b) × (c < d)
  two_tests a b c d h = let t = and_parts (ltb a b) (ltb c d) h in (ltb-true a b t.0, ltb-true c d t.1)

  three_tests : (a b c d e f : ℕ) → (ltb a b && ltb c d && ltb e f) ≡ true → (a < b) × (c < d) × (e < f)
  three_tests a b c d e f h =
      let t = and_parts (ltb a b && ltb c d) (ltb e f) h in
      let u = two_tests a b c d t.0 in
      (u.0, u.1, ltb-true e f t.1)

  pub part_out : (i k : ℕ) → leads blocks parts (PartOut i k) ≡ true → (i < length parts) × (k < (component_at parts i).outs)
  part_out i k h = two_tests i (length parts) k (component_at parts i).outs h

  pub own_in : (b k : ℕ) → leads blocks parts (BlockIn b k) ≡ true → (b < length blocks) × (k < (block_at blocks b).ins)
  own_in b k h = two_tests b (length blocks) k (block_at blocks b).ins h

  pub child_out : (c k : ℕ) → leads blocks parts (BlockOut c k) ≡ true → (0 < c) × (c < length blocks) × (k < (block_at blocks c).outs)
  child_out c k h = three_tests 0 c c (length blocks) k (block_at blocks c).outs h

  pub part_in : (i k : ℕ) → takes blocks parts (PartIn i k) ≡ true → (i < length parts) × (k < (component_at parts i).ins)
  part_in i k h = two_tests i (length parts) k (component_at parts i).ins h

  pub child_in : (c k : ℕ) → takes blocks parts (BlockIn c k) ≡ true → (0 < c) × (c < length blocks) × (k < (block_at blocks c).ins)
  child_in c k h = three_tests 0 c c (length blocks) k (block_at blocks c).ins h

  pub own_out : (b k : ℕ) → takes blocks parts (BlockOut b k) ≡ true → (b < length blocks) × (k < (block_at blocks b).outs)
  own_out b k h = two_tests b (length blocks) k (block_at blocks b).outs h

  module _ (parents : (b : ℕ) → 0 < b → b < length blocks → (block_at blocks b).parent < b) where
    -- every wire leads onwards
    pub rank_up : (p q : Pin) → Fine p q → rank (length blocks) p < rank (length blocks) q
    rank_up (PartIn i k) q h = absurd (false≢true h.from_there)
    rank_up (PartOut i k) (PartIn j l) h = omega arith
    rank_up (PartOut i k) (PartOut j l) h = absurd (false≢true h.to_there)
    rank_up (PartOut i k) (BlockIn c l) h = omega arith
    rank_up (PartOut i k) (BlockOut b l) h = omega (arith, (own_out b l h.to_there).0)
    rank_up (BlockIn b k) (PartIn j l) h = omega (arith, (own_in b k h.from_there).0)
    rank_up (BlockIn b k) (PartOut j l) h = absurd (false≢true h.to_there)
    rank_up (BlockIn b k) (BlockIn c l) h =
        let t = child_in c l h.to_there in
        omega (arith, h.one_block, parents c t.0 t.1)
    rank_up (BlockIn b k) (BlockOut d l) h = absurd (false≢true h.two_things)
    rank_up (BlockOut c k) (PartIn j l) h = omega arith
    rank_up (BlockOut c k) (PartOut j l) h = absurd (false≢true h.to_there)
    rank_up (BlockOut c k) (BlockIn d l) h = omega arith
    rank_up (BlockOut c k) (BlockOut b l) h =
        let t = child_out c k h.from_there in
        omega (arith, h.one_block, t.1, parents c t.0 t.1)

-- block x is block b, or lies in it
pub data Within (blocks : List Block) (b : ℕ) : ℕ → Type 0 where
  itself : Within blocks b b
  deeper : {x : ℕ} → 0 < x → x < length blocks → Within blocks b (block_at blocks x).parent → Within blocks b x

module _ (blocks : List Block) (parents : (b : ℕ) → 0 < b → b < length blocks → (block_at blocks b).parent < b) where
  within_up : {b x : ℕ} → Within blocks b x → b ≤ x
  within_up itself = omega arith
  within_up (deeper {x = x} h l w) = omega (arith, within_up w, parents x h l)

  within_trans : {a b x : ℕ} → 0 < b → b < length blocks → (block_at blocks b).parent ≡ a → Within blocks b x → Within blocks a x
  within_trans {a} {b} h l e itself = deeper h l (subst (λ n. Within blocks a n) (sym e) itself)
  within_trans h l e (deeper k m w) = deeper k m (within_trans h l e w)

  -- of two blocks that hold a third, one holds the other
  linear : {b c x : ℕ} → Within blocks b x → Within blocks c x → Within blocks b c ⊎ Within blocks c b
  linear itself v = inr v
  linear (deeper h l w) itself = inl (deeper h l w)
  linear (deeper h l w) (deeper k m v) = linear w v

  -- two children of one block hold nothing in common
  disjoint : (b c x : ℕ) → 0 < b → b < length blocks → 0 < c → c < length blocks → (block_at blocks b).parent ≡ (block_at blocks c).parent → (b ≡ c → ⊥) →
      Within blocks b x → Within blocks c x → ⊥
  disjoint b c x hb lb hc lc e ne w v =
      ⊎_elim (λ u. inner b c hb lb hc lc e ne u) (λ u. inner c b hc lc hb lb (sym e) (λ z. ne (sym z)) u) (linear w v)
    where
      inner : (b c : ℕ) → 0 < b → b < length blocks → 0 < c → c < length blocks → (block_at blocks b).parent ≡ (block_at blocks c).parent → (b ≡ c → ⊥) → Within blocks b c → ⊥
      inner b c hb lb hc lc e ne itself = ne refl
      inner b c hb lb hc lc e ne (deeper h l w) = omega (arith, within_up w, e, parents b hb lb)

  module _ (parts : List Component) (i : ℕ) where
    -- where a path from part i can be: at an output of a block that holds it, at an input of one that does not, or at another part
    abbrev Away : Pin → Type 0
    Away (PartIn j k) = j ≡ i → ⊥
    Away (PartOut j k) = ⊥
    Away (BlockIn c k) = Within blocks c (component_at parts i).block → ⊥
    Away (BlockOut b k) = Within blocks b (component_at parts i).block

    -- the first wire
    leaves : (k : ℕ) (q : Pin) → Fine blocks parts (PartOut i k) q → Away q
    leaves k (PartIn j l) h = λ e. eqb-false i j (not-true _ h.two_things) (sym e)
    leaves k (PartOut j l) h = absurd (false≢true h.to_there)
    leaves k (BlockIn c l) h = λ w.
        let t = child_in blocks parts c l h.to_there in
        omega (arith, within_up w, h.one_block, parents c t.0 t.1)
    leaves k (BlockOut b l) h = subst (λ n. Within blocks b n) (sym h.one_block) itself

    goes : (p q : Pin) → Away p → Fine blocks parts p q → Away q
    goes (PartIn j k) q a h = absurd (false≢true h.from_there)
    goes (PartOut j k) q a h = absurd a
    goes (BlockIn b k) (PartIn j l) a h = λ e. a (subst (λ n. Within blocks b n) (h.one_block ∙ ap (λ n. (component_at parts n).block) e) itself)
    goes (BlockIn b k) (PartOut j l) a h = absurd (false≢true h.to_there)
    goes (BlockIn b k) (BlockIn c l) a h = λ w.
        let t = child_in blocks parts c l h.to_there in
        a (within_trans t.0 t.1 (sym h.one_block) w)
    goes (BlockIn b k) (BlockOut d l) a h = absurd (false≢true h.two_things)
    goes (BlockOut c k) (PartIn j l) a h = λ e.
        let t = child_out blocks parts c k h.from_there in
        omega (arith, within_up a, h.one_block, ap (λ n. (component_at parts n).block) e, parents c t.0 t.1)
    goes (BlockOut c k) (PartOut j l) a h = absurd (false≢true h.to_there)
    goes (BlockOut c k) (BlockIn d l) a h = λ w.
        let t = child_out blocks parts c k h.from_there in
        let u = child_in blocks parts d l h.to_there in
        disjoint c d _ t.0 t.1 u.0 u.1 h.one_block (eqb-false c d (not-true _ h.two_things)) a w
    goes (BlockOut c k) (BlockOut b l) a h =
        let t = child_out blocks parts c k h.from_there in
        within_trans t.0 t.1 h.one_block a

module _ (blocks : List Block) (parts : List Component) (wires : List Wire) (sound : Sound blocks parts wires) where
  pub joined_fine : (p q : Pin) → Joined wires p q → Fine blocks parts p q
  joined_fine p q (m, l, e, f) = subst₂ (Fine blocks parts) e f (fine blocks parts (wire_at wires m) (sound.wires_sound m l))

  away : (i : ℕ) {p q : Pin} → Away blocks sound.parents parts i p → Leads wires p q → Away blocks sound.parents parts i q
  away i {p} a (wire {q = q} j) = goes blocks sound.parents parts i p q a (joined_fine p q j)
  away i {p} a (onwards {q = q} j path) = away i (goes blocks sound.parents parts i p q a (joined_fine p q j)) path

  -- no path leads from a part to itself
  pub never_itself : (i k l : ℕ) → Leads wires (PartOut i k) (PartIn i l) → ⊥
  never_itself i k l (wire j) = leaves blocks sound.parents parts i k (PartIn i l) (joined_fine (PartOut i k) (PartIn i l) j) refl
  never_itself i k l (onwards {q = q} j path) = away i (leaves blocks sound.parents parts i k q (joined_fine (PartOut i k) q j)) path refl

  -- a path ends at a pin that is there
  pub ends_there : {p q : Pin} → Leads wires p q → takes blocks parts q ≡ true
  ends_there {p} {q} (wire j) = (joined_fine p q j).to_there
  ends_there (onwards j path) = ends_there path
