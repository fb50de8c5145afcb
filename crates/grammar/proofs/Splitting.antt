-- How a text is split.
use Rattle.std.proofs.Common.{◌≡◌, ℕ, zero, suc, ◌+◌, ◌<◌, ◌≤◌, eqb, List, [], ◌∷◌, length, get_or, take, drop, Some, None, sym, refl, ap, ◌∙◌, ⊎_elim, add-one, arith, Bor}
use Rattle.std.proofs.lemmas.Bool.{cases_lt, both_ways, lt-ltb, eq-eqb, eqb-true, ne_eqb, cond-true, cond-false}
use Rattle.std.proofs.lemmas.List.Quantifiers.{position-Some}
use Rattle.std.specs.Prelude.{Bool, not, ◌==◌}
use Rattle.std.specs.List.{position, prefix_len}
use Rattle.std.proofs.lemmas.List.Sums.{prefix_len_passes}
use Rattle.std.proofs.lemmas.Option.{none-some}
use Rattle.std.proofs.lemmas.List.{length-take-le, length-drop}
use Rattle.grammar.specs.Pieces.{onto, split, Parts}

abbrev pub Lacks : ℕ → List ℕ → ℕ → Type 0
Lacks separator text n = (k : ℕ) → k < n → get_or text k 0 ≡ separator → ⊥

-- a byte that is no separator goes to the first piece
pub split_onto : (separator b : ℕ) (text : List ℕ) → (b ≡ separator → ⊥) → split separator (b ∷ text) ≡ onto b (split separator text)
split_onto separator b text ne = cond-false (eqb b separator) _ _ (ne_eqb b separator ne)

pub split_here : (separator b : ℕ) (text : List ℕ) → b ≡ separator → split separator (b ∷ text) ≡ [] ∷ split separator text
split_here separator b text e = cond-true (eqb b separator) _ _ (eq-eqb b separator e)

-- the first separator ends the first piece
pub split_at : (separator : ℕ) (text : List ℕ) (i : ℕ) → i < length text → Lacks separator text i → get_or text i 0 ≡ separator →
    split separator text ≡ take i text ∷ split separator (drop (suc i) text)
split_at separator [] i l none here = absurd (omega arith)
split_at separator (b ∷ text) zero l none here = split_here separator b text here
split_at separator (b ∷ text) (suc i) l none here =
    split_onto separator b text (none zero (omega arith)) ∙ ap (onto b) (split_at separator text i (omega arith) (λ k h. none (suc k) (omega arith)) here)

-- without a separator there is one piece
pub split_none : (separator : ℕ) (text : List ℕ) → Lacks separator text (length text) → split separator text ≡ text ∷ []
split_none separator [] none = refl
split_none separator (b ∷ text) none = split_onto separator b text (none zero (omega arith)) ∙ ap (onto b) (split_none separator text (λ k h. none (suc k) (omega arith)))

-- the first piece is what stands before the first separator
pub cut_at : (separator : ℕ) (text : List ℕ) (i : ℕ) (piece : List ℕ) (rest : Bor (List ℕ)) → Some i ≡ position (λ b. b == separator) text →
    piece ≡ take i text → rest.now ≡ drop (i + 1) text → Parts separator text piece (Some rest)
cut_at separator text i piece rest first e f =
    let p = position-Some (λ b. b == separator) text i 0 (sym first) in
    let none : Lacks separator text i = λ k h same. both_ways (eqb (get_or text k 0) separator) (p.2 k h) (eq-eqb _ _ same) in
    let l = p.0 in
    record {
      pieces = split_at separator text i l none (eqb-true _ _ p.1) ∙ (λ j. sym e j ∷ split separator (drop (sym (add-one i) j) text)) ∙ ap (λ t. piece ∷ split separator t) (sym f);
      bytes = omega (arith, ap length e, ap length f, length-take-le i text (omega arith), length-drop (i + 1) text);
    }

none_at : (separator : ℕ) (text : List ℕ) → None ≡ position (λ b. b == separator) text → Lacks separator text (length text)
none_at separator text none k l e =
    let other : ℕ → Bool = λ b. not (b == separator) in
    ⊎_elim
    (λ (h : k < prefix_len other text). both_ways (other (get_or text k 0)) (ap not (eq-eqb _ _ e)) (prefix_len_passes other text k 0 h))
    (λ (h : prefix_len other text ≤ k). none-some _ (none ∙ cond-true _ _ _ (lt-ltb (prefix_len other text) (length text) (omega arith))))
    (cases_lt k (prefix_len other text))

pub cut_nowhere : (separator : ℕ) (text : List ℕ) → None ≡ position (λ b. b == separator) text → Parts separator text text None
cut_nowhere separator text none = record { pieces = split_none separator text (none_at separator text none); bytes = omega arith }
