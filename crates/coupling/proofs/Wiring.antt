-- Reading and wiring a network.
use Rattle.std.proofs.Common.{◌≡◌, ℕ, ◌+◌, ◌-◌, ◌*◌, ◌<◌, ◌≤◌, List, get_or, take, drop, replicate, vec_items, sym, ap, ◌∙◌, ⊎_elim, arith}
use Rattle.std.proofs.lemmas.List.{get_or_past, get_or-take, get_or-drop, get_or-replicate, length-replicate}
use Rattle.std.proofs.lemmas.Bool.{cases_lt}
use Rattle.coupling.specs.Rows.{row_at, set_of, nothing, UnionOf}
use Rattle.coupling.specs.Wiring.{Reaches}
use Rattle.coupling.specs.Networks.{wired, first_row}
use Rattle.coupling.specs.declared.coupling.Source.{Source}
use Rattle.coupling.specs.declared.coupling.Source.TheVariants.{Part}
use Rattle.coupling.specs.declared.network.Network.{Network}
use Rattle.coupling.specs.declared.rows.Row.{Row}
use Rattle.coupling.proofs.Unions.{union_none, union_same}

abbrev board_of : Row → ℕ
board_of r = r.board

pub nothing_set : (i : ℕ) → set_of nothing i ≡ 0
nothing_set i = ⊎_elim (λ h. get_or-replicate 64 i 0 0 h) (λ h. get_or_past (replicate 64 0) i 0 h) (cases_lt i 64)

-- past the last row nothing is reached
pub row_past : (n : Network) (r : ℕ) → 8 * (n.parts + 1) ≤ r → row_at (vec_items n.rows) r ≡ nothing
row_past n r h = get_or_past (vec_items n.rows) r nothing (omega (arith, n.a_row_for_each_pin, n.rows.ok.0))

-- nothing is reached from a part that is absent
pub absent_reaches : (n : Network) (i pins : ℕ) (r : Row) → n.parts ≤ i → r ≡ nothing → Reaches (wired n) (Part i) pins r
absent_reaches n i pins r h e =
    let past : (k : ℕ) → row_at (vec_items n.rows) (8 * (i + 1) + k) ≡ nothing = λ k. row_past n (8 * (i + 1) + k) (omega arith) in
    record {
      parts = λ j l. ap (λ x. set_of x j) e ∙ nothing_set j ∙ sym (union_none _ pins (λ k. ap (λ x. set_of x j) (past k) ∙ nothing_set j));
      outputs = ap board_of e ∙ sym (union_none _ pins (λ k. ap board_of (past k)));
    }

-- what the eight rows of a source reach
pub lent_reaches : (n : Network) (s t : Source) (pins : ℕ) (lent : List Row) (r : Row) → t ≡ s →
    lent ≡ take (first_row t + 8 - first_row t) (drop (first_row t) (vec_items n.rows)) → UnionOf lent pins r → Reaches (wired n) s pins r
lent_reaches n s t pins lent r et el h =
    let row : (k : ℕ) → k < 8 → row_at lent k ≡ row_at (vec_items n.rows) (first_row s + k) =
    λ k l. ap (λ rows. row_at rows k) el ∙ get_or-take (first_row t + 8 - first_row t) (drop (first_row t) (vec_items n.rows)) k nothing (omega arith)
    ∙ get_or-drop (first_row t) (vec_items n.rows) k nothing ∙ ap (λ x. row_at (vec_items n.rows) (first_row x + k)) et in
    record {
      parts = λ j l. h.sets j (omega (arith, n.few_parts)) ∙ union_same _ _ pins (λ k q. ap (λ x. set_of x j) (row k q));
      outputs = h.board ∙ union_same _ _ pins (λ k q. ap board_of (row k q));
    }

-- rows that reach nothing
pub blank_row : (n r : ℕ) → get_or (replicate n nothing) r nothing ≡ nothing
blank_row n r = ⊎_elim (λ h. get_or-replicate n r nothing nothing h) (λ h. get_or_past (replicate n nothing) r nothing (simp length-replicate h)) (cases_lt r n)

blank_at : (rows : List Row) (n : ℕ) → rows ≡ replicate n nothing → (r : ℕ) → row_at rows r ≡ nothing
blank_at rows n e r = ap (λ l. get_or l r nothing) e ∙ blank_row n r

pub blank_set : (rows : List Row) (n : ℕ) → rows ≡ replicate n nothing → (r i : ℕ) → set_of (row_at rows r) i ≡ 0
blank_set rows n e r i = ap (λ x. set_of x i) (blank_at rows n e r) ∙ nothing_set i

pub blank_board : (rows : List Row) (n : ℕ) → rows ≡ replicate n nothing → (r : ℕ) → (row_at rows r).board ≡ 0
blank_board rows n e r = ap board_of (blank_at rows n e r)
