-- The union of rows, pin by pin.
use Rattle.std.proofs.Common.{◌≡◌, ℕ, zero, suc, ◌+◌, ◌/◌, ◌%◌, ◌^◌, ◌<◌, ◌≤◌, Bool, true, false, cond, eqb, List, length, get_or, sym, refl, ap, ◌∙◌, subst, add-one, arith}
use lib.Bits.{bit_or, or_zero_r}
use Rattle.std.proofs.lemmas.List.{get_or-replicate, get_or_default}
use Rattle.std.proofs.lemmas.Bool.{cond-true, cond-false, eq-eqb, ne_eqb}
use Rattle.coupling.specs.Rows.{union, union_below, nothing, set_of, row_at, Joins, UnionOf}
use Rattle.coupling.specs.declared.rows.Row.{Row}

abbrev row_board : Row → ℕ
row_board r = r.board

-- r is what the pins below k of a set reach
pub record Sofar (rows : List Row) (pins k : ℕ) (r : Row) : Type 0 where
  pub sets : (i : ℕ) → i < 64 → set_of r i ≡ union_below k (λ p. set_of (row_at rows p) i) pins
  pub board : r.board ≡ union_below k (λ p. (row_at rows p).board) pins

takes_pin : (k : ℕ) (f : ℕ → ℕ) (pins : ℕ) → eqb (pins / 2 ^ k % 2) 1 ≡ true → bit_or (union_below k f pins) (f k) ≡ union_below (k + 1) f pins
takes_pin k f pins t = sym (ap (λ n. union_below n f pins) (add-one k) ∙ ap (bit_or (union_below k f pins)) (cond-true _ (f k) 0 t))

skips_pin : (k : ℕ) (f : ℕ → ℕ) (pins : ℕ) → eqb (pins / 2 ^ k % 2) 1 ≡ false → union_below k f pins ≡ union_below (k + 1) f pins
skips_pin k f pins t = sym (ap (λ n. union_below n f pins) (add-one k) ∙ ap (bit_or (union_below k f pins)) (cond-false _ (f k) 0 t) ∙ or_zero_r _)

pub sofar_none : (rows : List Row) (pins : ℕ) (r : Row) → r ≡ nothing → Sofar rows pins 0 r
sofar_none rows pins r e = record { sets = λ i h. ap (λ x. set_of x i) e ∙ get_or-replicate 64 i 0 0 h; board = ap row_board e }

pub sofar_takes : (rows : List Row) (pins k : ℕ) (r s d : Row) → Sofar rows pins k r → pins / 2 ^ k % 2 ≡ 1 → k < length rows → Joins r (get_or rows k d) s → Sofar rows pins (k + 1) s
sofar_takes rows pins k r s d h one l j = let t = eq-eqb _ 1 one in let e = get_or_default rows k d nothing l in record {
  sets = λ i l. j.sets i l ∙ (λ n. bit_or (h.sets i l n) (set_of (e n) i)) ∙ takes_pin k (λ p. set_of (row_at rows p) i) pins t;
  board = j.board ∙ (λ n. bit_or (h.board n) (e n).board) ∙ takes_pin k (λ p. (row_at rows p).board) pins t;
}

pub sofar_skips : (rows : List Row) (pins k : ℕ) (r : Row) → Sofar rows pins k r → (pins / 2 ^ k % 2 ≡ 1 → ⊥) → Sofar rows pins (k + 1) r
sofar_skips rows pins k r h other = let t = ne_eqb _ 1 other in record {
  sets = λ i l. h.sets i l ∙ skips_pin k (λ p. set_of (row_at rows p) i) pins t;
  board = h.board ∙ skips_pin k (λ p. (row_at rows p).board) pins t;
}

pub sofar_all : (rows : List Row) (pins k : ℕ) (r : Row) → 8 ≤ k → k ≤ 8 → Sofar rows pins k r → UnionOf rows pins r
unfolding union
sofar_all rows pins k r a b h = let e : k ≡ 8 = omega arith in let g = subst (λ n. Sofar rows pins n r) e h in record { sets = g.sets; board = g.board }

either : (b : Bool) → bit_or 0 (cond b 0 0) ≡ 0
either true = refl
either false = refl

none_below : (n : ℕ) (f : ℕ → ℕ) (pins : ℕ) → ((k : ℕ) → f k ≡ 0) → union_below n f pins ≡ 0
none_below zero f pins h = refl
none_below (suc k) f pins h = (λ i. bit_or (none_below k f pins h i) (cond (eqb (pins / 2 ^ k % 2) 1) (h k i) 0)) ∙ either _

pub union_none : (f : ℕ → ℕ) (pins : ℕ) → ((k : ℕ) → f k ≡ 0) → union f pins ≡ 0
unfolding union
union_none f pins h = none_below 8 f pins h

same_below : (n : ℕ) (f g : ℕ → ℕ) (pins : ℕ) → ((k : ℕ) → k < n → f k ≡ g k) → union_below n f pins ≡ union_below n g pins
same_below zero f g pins h = refl
same_below (suc k) f g pins h =
    let below : union_below k f pins ≡ union_below k g pins = same_below k f g pins (λ j l. h j (omega arith)) in
    let here : f k ≡ g k = h k (omega arith) in
    λ i. bit_or (below i) (cond (eqb (pins / 2 ^ k % 2) 1) (here i) 0)

-- a union looks at eight pins
pub union_same : (f g : ℕ → ℕ) (pins : ℕ) → ((k : ℕ) → k < 8 → f k ≡ g k) → union f pins ≡ union g pins
unfolding union
union_same f g pins h = same_below 8 f g pins h
