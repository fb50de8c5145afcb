-- What a plan promises still holds where a block or a wire is added to it.
use Rattle.std.proofs.Common.{◌≡◌, ℕ, zero, suc, ◌<◌, ◌≤◌, Bool, true, false, cond, ◌⊎◌, List, [], ◌∷◌, ◌++◌, length, get_or, sym, ◌∙◌, subst, inl, inr, ⊎_elim, arith}
use Rattle.std.proofs.lemmas.List.{get_or_append_left, get_or_push, length_push}
use Rattle.std.proofs.lemmas.Bool.{cases_lt}
use Rattle.std.proofs.lemmas.Grind.{common_steps}
use Rattle.board.specs.declared.parts.Block.{Block}
use Rattle.board.specs.declared.parts.Component.{Component}
use Rattle.board.specs.declared.pins.Pin.{Pin}
use Rattle.board.specs.declared.pins.Pin.TheVariants.{PartIn, PartOut, BlockIn, BlockOut}
use Rattle.board.specs.declared.pins.Wire.{Wire}
use Rattle.board.specs.Wires.{block_at, wire_at, no_wire, leads, takes, inside_from, inside_to, sound_wire}
use Rattle.drawing.specs.Children.{Stands}

-- what holds before a push and after it, whether it adds or lacks memory
pub pushed : {X : Type 0} (P : List X → Type 0) (ok : Bool) (xs ys new : List X) → new ≡ cond ok ys xs → P xs → P ys → P new
pushed P true xs ys new e p q = subst P (sym e) q
pushed P false xs ys new e p q = subst P (sym e) p

-- an index of the longer list
at_more : {X : Type 0} (xs : List X) (x : X) (i : ℕ) → i < length (xs ++ x ∷ []) → (i < length xs) ⊎ (i ≡ length xs)
at_more xs x i h = ⊎_elim inl (λ l. inr (omega (arith, length_push xs x))) (cases_lt i (length xs))

-- what holds of each element at its index
abbrev pub Throughout : {X : Type 0} → (ℕ → X → Type 0) → X → List X → Type 0
Throughout P d xs = (i : ℕ) → i < length xs → P i (get_or xs i d)

pub throughout_more : {X : Type 0} (P : ℕ → X → Type 0) (d : X) (xs : List X) (x : X) → Throughout P d xs → P (length xs) x → Throughout P d (xs ++ x ∷ [])
throughout_more P d xs x h p i l =
    ⊎_elim
    (λ k. subst (P i) (sym (get_or_append_left xs (x ∷ []) d i k)) (h i k))
    (λ e. subst (P i) (sym (get_or_push xs x d i (sym e))) (subst (λ n. P n x) (sym e) p))
    (at_more xs x i l)

-- the pins of each block are few
abbrev pub FewPins : List Block → Type 0
FewPins bs = (i : ℕ) → ((block_at bs i).ins ≤ 8) × ((block_at bs i).outs ≤ 8)

pub few_pins_more : (bs : List Block) (b : Block) → FewPins bs → (b.ins ≤ 8) × (b.outs ≤ 8) → FewPins (bs ++ b ∷ [])
few_pins_more [] b h p zero = p
few_pins_more [] b h p (suc i) = h zero
few_pins_more (x ∷ bs) b h p zero = h zero
few_pins_more (x ∷ bs) b h p (suc i) = few_pins_more bs b (λ k. h (suc k)) p i

-- the wires of a plan are sound with one more block
module _ (bs : List Block) (cs : List Component) (b : Block) where
  leads_more : (p : Pin) → leads bs cs p ≡ true → (leads (bs ++ b ∷ []) cs p ≡ true) × (inside_from (bs ++ b ∷ []) cs p ≡ inside_from bs cs p)
  leads_more (PartIn i k) e = grind (arith, common_steps)
  leads_more (PartOut i k) e = grind (arith, common_steps)
  leads_more (BlockIn i k) e = grind (arith, common_steps)
  leads_more (BlockOut i k) e = grind (arith, common_steps)

  takes_more : (p : Pin) → takes bs cs p ≡ true → (takes (bs ++ b ∷ []) cs p ≡ true) × (inside_to (bs ++ b ∷ []) cs p ≡ inside_to bs cs p)
  takes_more (PartIn i k) e = grind (arith, common_steps)
  takes_more (PartOut i k) e = grind (arith, common_steps)
  takes_more (BlockIn i k) e = grind (arith, common_steps)
  takes_more (BlockOut i k) e = grind (arith, common_steps)

  pub sound_more : (w : Wire) → sound_wire bs cs w ≡ true → sound_wire (bs ++ b ∷ []) cs w ≡ true
  sound_more w e = grind (arith, common_steps, leads_more, takes_more)

-- no wire stands twice
abbrev pub Once : List Wire → Type 0
Once ws = (n k : ℕ) → (n < k) × (k < length ws) → wire_at ws n ≡ wire_at ws k → ⊥

pub once_more : (ws : List Wire) (w : Wire) → Once ws → (Stands ws w → ⊥) → Once (ws ++ w ∷ [])
once_more ws w h new n k l same =
    let old : (i : ℕ) → i < length ws → wire_at (ws ++ w ∷ []) i ≡ wire_at ws i = λ i m. get_or_append_left ws (w ∷ []) no_wire i m in
    ⊎_elim
    (λ m. h n k (l.0, m) (sym (old n (omega (arith, l.0))) ∙ same ∙ old k m))
    (λ e. new (n, omega (arith, l.0), sym (old n (omega (arith, l.0))) ∙ same ∙ get_or_push ws w no_wire k (sym e)))
    (at_more ws w k l.1)
