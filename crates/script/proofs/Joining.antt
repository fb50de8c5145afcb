-- Texts that are joined of pieces.
use Rattle.std.proofs.Common.{◌≡◌, ℕ, ◌^◌, ◌<◌, ◌⊎◌, List, [], ◌∷◌, ◌++◌, length, Some, decimal, ⊎_elim, sym, refl, ap, ◌∙◌, arith, Bor}
use Rattle.std.specs.List.{join_with_byte}
use Rattle.std.proofs.lemmas.Str.Parse.{digit_at}
use Rattle.std.proofs.lemmas.Fmt.{decimal_is_IsNumeral}
use Rattle.grammar.specs.Pieces.{split, Parts}
use Rattle.grammar.proofs.Rejoining.{rejoined_split, split_some}
use Rattle.grammar.proofs.Splitting.{Lacks}

rejoined_cons : (s : ℕ) (p : List ℕ) (ps : List (List ℕ)) → 0 < length ps → join_with_byte s (p ∷ ps) ≡ p ++ s ∷ join_with_byte s ps
rejoined_cons s p [] some = absurd (omega arith)
rejoined_cons s p (q ∷ ps) some = refl

-- the first piece and what is left are joined by the separator
pub parted : (s : ℕ) (text piece : List ℕ) (rest : Bor (List ℕ)) → Parts s text piece (Some rest) → text ≡ piece ++ s ∷ rest.now
parted s text piece rest h =
    sym (rejoined_split s text) ∙ ap (join_with_byte s) h.pieces ∙ rejoined_cons s piece (split s rest.now) (split_some s rest.now) ∙ ap (λ t. piece ++ s ∷ t) (rejoined_split s rest.now)

-- a text of one piece
pub only : (s : ℕ) (text piece : List ℕ) → split s text ≡ piece ∷ [] → text ≡ piece
only s text piece e = sym (rejoined_split s text) ∙ ap (join_with_byte s) e

-- the text of a number has no byte but digits
pub numeral_lacks : (s n : ℕ) → (s < 48) ⊎ (57 < s) → n < 2 ^ 64 → Lacks s (decimal n) (length (decimal n))
numeral_lacks s n out l k h e = let d = digit_at (decimal n) k (decimal_is_IsNumeral n l).0.1 h in ⊎_elim (λ o. omega arith) (λ o. omega arith) out
