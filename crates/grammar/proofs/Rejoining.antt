-- Pieces put together again.
use Rattle.std.proofs.Common.{◌≡◌, ℕ, ◌+◌, ◌*◌, ◌<◌, ◌≤◌, List, [], ◌∷◌, ◌++◌, length, get_or, sym, refl, ap, ◌∙◌, ⊎_elim, arith}
use Rattle.std.specs.List.{join_with_byte, AllByRecursion as Each}
use Rattle.std.proofs.lemmas.List.Elements.{All-append, All-get_or, All-from_get_or, All-weaker, All-from_recursion, recursion_from_All}
use Rattle.std.proofs.lemmas.List.{length-append}
use Rattle.std.proofs.lemmas.Bool.{cases_eq}
use Rattle.grammar.specs.Pieces.{onto, split}
use Rattle.grammar.proofs.Splitting.{Lacks, split_onto, split_here}

-- what holds of each element, one after another
pub each_append : {X : Type 0} (P : X → Type 0) (xs ys : List X) → Each P xs → Each P ys → Each P (xs ++ ys)
each_append P xs ys h k = recursion_from_All P (xs ++ ys) (All-append P xs ys (All-from_recursion P xs h) (All-from_recursion P ys k))

pub each_at : {X : Type 0} (P : X → Type 0) (xs : List X) (i : ℕ) (d : X) → i < length xs → Each P xs → P (get_or xs i d)
each_at P xs i d l h = All-get_or P xs i d l (All-from_recursion P xs h)

pub each_from : {X : Type 0} (P : X → Type 0) (xs : List X) (d : X) → ((i : ℕ) → i < length xs → P (get_or xs i d)) → Each P xs
each_from P xs d h = recursion_from_All P xs (All-from_get_or P xs d h)

pub each_weaker : {X : Type 0} (P Q : X → Type 0) → ((x : X) → P x → Q x) → (xs : List X) → Each P xs → Each Q xs
each_weaker P Q more xs h = recursion_from_All Q xs (All-weaker P Q more xs (All-from_recursion P xs h))

-- no byte of the text is the separator
abbrev pub Free : ℕ → List ℕ → Type 0
Free sep text = Each (λ b. b ≡ sep → ⊥) text

pub free_from_lacks : (sep : ℕ) (text : List ℕ) → Lacks sep text (length text) → Free sep text
free_from_lacks sep text none = each_from (λ b. b ≡ sep → ⊥) text 0 none

pub lacks_from_free : (sep : ℕ) (text : List ℕ) → Free sep text → Lacks sep text (length text)
lacks_from_free sep text free k l = each_at (λ b. b ≡ sep → ⊥) text k 0 l free

-- what stands before a separator, and has none, is the first piece
pub split_line : (sep : ℕ) (line rest : List ℕ) → Free sep line → split sep (line ++ sep ∷ rest) ≡ line ∷ split sep rest
split_line sep [] rest free = split_here sep sep rest refl
split_line sep (b ∷ line) rest free = split_onto sep b (line ++ sep ∷ rest) free.0 ∙ ap (onto b) (split_line sep line rest free.1)

pub split_free : (sep : ℕ) (text : List ℕ) → Free sep text → split sep text ≡ text ∷ []
split_free sep [] free = refl
split_free sep (b ∷ text) free = split_onto sep b text free.0 ∙ ap (onto b) (split_free sep text free.1)

pub split_rejoined : (sep : ℕ) (f : List ℕ) (fs : List (List ℕ)) → Each (Free sep) (f ∷ fs) → split sep (join_with_byte sep (f ∷ fs)) ≡ f ∷ fs
split_rejoined sep f [] free = split_free sep f free.0
split_rejoined sep f (g ∷ fs) free = split_line sep f (join_with_byte sep (g ∷ fs)) free.0 ∙ ap (λ t. f ∷ t) (split_rejoined sep g fs free.1)

pub split_back : (sep : ℕ) (fs : List (List ℕ)) → 0 < length fs → Each (Free sep) fs → split sep (join_with_byte sep fs) ≡ fs
split_back sep [] some free = absurd (omega arith)
split_back sep (f ∷ fs) some free = split_rejoined sep f fs free

rejoined_onto : (sep b : ℕ) (fs : List (List ℕ)) → join_with_byte sep (onto b fs) ≡ b ∷ join_with_byte sep fs
rejoined_onto sep b [] = refl
rejoined_onto sep b (f ∷ []) = refl
rejoined_onto sep b (f ∷ g ∷ fs) = refl

rejoined_here : (sep : ℕ) (fs : List (List ℕ)) → 0 < length fs → join_with_byte sep ([] ∷ fs) ≡ sep ∷ join_with_byte sep fs
rejoined_here sep [] some = absurd (omega arith)
rejoined_here sep (f ∷ fs) some = refl

onto_some : (b : ℕ) (fs : List (List ℕ)) → 0 < length (onto b fs)
onto_some b [] = omega arith
onto_some b (f ∷ fs) = omega arith

onto_few : (b : ℕ) (fs : List (List ℕ)) → length (onto b fs) ≤ length fs + 1
onto_few b [] = omega arith
onto_few b (f ∷ fs) = omega arith

-- there is always a piece
pub split_some : (sep : ℕ) (text : List ℕ) → 0 < length (split sep text)
split_some sep [] = omega arith
split_some sep (b ∷ text) =
    ⊎_elim
    (λ e. omega (arith, ap length (split_here sep b text e)))
    (λ ne. omega (arith, ap length (split_onto sep b text ne), onto_some b (split sep text)))
    (cases_eq b sep)

-- and no more than the separators and one
pub split_few : (sep : ℕ) (text : List ℕ) → length (split sep text) ≤ length text + 1
split_few sep [] = omega arith
split_few sep (b ∷ text) =
    ⊎_elim
    (λ e. omega (arith, ap length (split_here sep b text e), split_few sep text))
    (λ ne. omega (arith, ap length (split_onto sep b text ne), onto_few b (split sep text), split_few sep text))
    (cases_eq b sep)

pub rejoined_split : (sep : ℕ) (text : List ℕ) → join_with_byte sep (split sep text) ≡ text
rejoined_split sep [] = refl
rejoined_split sep (b ∷ text) =
    ⊎_elim
    (λ e. ap (join_with_byte sep) (split_here sep b text e) ∙ rejoined_here sep (split sep text) (split_some sep text) ∙ (λ i. sym e i ∷ rejoined_split sep text i))
    (λ ne. ap (join_with_byte sep) (split_onto sep b text ne) ∙ rejoined_onto sep b (split sep text) ∙ ap (λ t. b ∷ t) (rejoined_split sep text))
    (cases_eq b sep)

free_onto : (sep b : ℕ) (fs : List (List ℕ)) → (b ≡ sep → ⊥) → Each (Free sep) fs → Each (Free sep) (onto b fs)
free_onto sep b [] ne free = ((ne, tt), tt)
free_onto sep b (f ∷ fs) ne free = ((ne, free.0), free.1)

-- no piece has a separator
pub split_frees : (sep : ℕ) (text : List ℕ) → Each (Free sep) (split sep text)
split_frees sep [] = (tt, tt)
split_frees sep (b ∷ text) =
    ⊎_elim
    (λ e. rw (split_here sep b text e) (tt, split_frees sep text))
    (λ ne. rw (split_onto sep b text ne) (free_onto sep b (split sep text) ne (split_frees sep text)))
    (cases_eq b sep)

-- what holds of the separator and of each byte of the pieces holds of each byte of the whole
pub all_rejoined : (P : ℕ → Type 0) (sep : ℕ) (fs : List (List ℕ)) → P sep → Each (Each P) fs → Each P (join_with_byte sep fs)
all_rejoined P sep [] at each = tt
all_rejoined P sep (f ∷ []) at each = each.0
all_rejoined P sep (f ∷ g ∷ fs) at each = each_append P f (sep ∷ join_with_byte sep (g ∷ fs)) each.0 (at, all_rejoined P sep (g ∷ fs) at each.1)

-- pieces of at most so many bytes, each with a separator
pub rejoined_short : (sep most : ℕ) (fs : List (List ℕ)) → Each (λ f. length f ≤ most) fs → length (join_with_byte sep fs) ≤ length fs * (most + 1)
rejoined_short sep most [] few = omega arith
rejoined_short sep most (f ∷ []) few = let h = few.0 in omega arith
rejoined_short sep most (f ∷ g ∷ fs) few =
    let h = few.0 in
    let rest : length (join_with_byte sep (g ∷ fs)) ≤ length (g ∷ fs) * (most + 1) = rejoined_short sep most (g ∷ fs) few.1 in
    omega (arith, length-append f (sep ∷ join_with_byte sep (g ∷ fs)))
