-- A delivery, one place after another.
use Rattle.std.proofs.Common.{◌≡◌, ℕ, zero, suc, ◌+◌, ◌<◌, ◌≤◌, List, [], ◌∷◌, ◌++◌, length, get_or, take, drop, set, sym, refl, ap, ◌∙◌, le_of_suc-le-suc, not-suc-le-zero, add-one, arith}
use Rattle.clock.specs.Time.{Time}
use Rattle.part.specs.Kind.{Kind}
use Rattle.session.specs.declared.places.Place.{Place}
use Rattle.session.specs.Machine.{given, delivered}

module _ {P C : Type 0} (time : Time C) (kind : Kind C P) (m : C) (v : ℕ) where
  pub delivered_length : (n : ℕ) (sets : ℕ → ℕ) (xs : List (Place P C)) → length (delivered time kind m v n sets xs) ≡ length xs
  delivered_length zero sets xs = refl
  delivered_length (suc n) sets [] = refl
  delivered_length (suc n) sets (x ∷ xs) = ap suc (delivered_length n (λ i. sets (suc i)) xs)

  -- what is not reached yet is as it was
  pub delivered_after : (n : ℕ) (sets : ℕ → ℕ) (xs : List (Place P C)) (j : ℕ) (d : Place P C) → n ≤ j → get_or (delivered time kind m v n sets xs) j d ≡ get_or xs j d
  delivered_after zero sets xs j d h = refl
  delivered_after (suc n) sets [] j d h = refl
  delivered_after (suc n) sets (x ∷ xs) zero d h = absurd (not-suc-le-zero h)
  delivered_after (suc n) sets (x ∷ xs) (suc j) d h = delivered_after n (λ i. sets (suc i)) xs j d (le_of_suc-le-suc h)

  -- each place among the first n is given its set
  pub delivered_at : (n : ℕ) (sets : ℕ → ℕ) (xs : List (Place P C)) (j : ℕ) (d : Place P C) → j < n → j < length xs →
      get_or (delivered time kind m v n sets xs) j d ≡ given time kind m (sets j) v (get_or xs j d)
  delivered_at zero sets xs j d h l = absurd (not-suc-le-zero h)
  delivered_at (suc n) sets [] j d h l = absurd (not-suc-le-zero l)
  delivered_at (suc n) sets (x ∷ xs) zero d h l = refl
  delivered_at (suc n) sets (x ∷ xs) (suc j) d h l = delivered_at n (λ i. sets (suc i)) xs j d (le_of_suc-le-suc h) (le_of_suc-le-suc l)

  delivered_suc : (n : ℕ) (sets : ℕ → ℕ) (xs : List (Place P C)) (d : Place P C) → n < length xs →
      delivered time kind m v (suc n) sets xs ≡ set (delivered time kind m v n sets xs) n (given time kind m (sets n) v (get_or xs n d))
  delivered_suc n sets [] d h = absurd (not-suc-le-zero h)
  delivered_suc zero sets (x ∷ xs) d h = refl
  delivered_suc (suc n) sets (x ∷ xs) d h = ap (λ l. given time kind m (sets 0) v x ∷ l) (delivered_suc n (λ i. sets (suc i)) xs d (le_of_suc-le-suc h))

  -- one place more
  pub delivered_more : (n : ℕ) (sets : ℕ → ℕ) (xs ys : List (Place P C)) (d q : Place P C) →
      n < length xs → ys ≡ delivered time kind m v n sets xs → q ≡ given time kind m (sets n) v (get_or ys n d) →
      set ys n q ≡ delivered time kind m v (n + 1) sets xs
  delivered_more n sets xs ys d q h e is =
      let old : get_or ys n d ≡ get_or xs n d = ap (λ l. get_or l n d) e ∙ delivered_after n sets xs n d (omega arith) in
      (λ i. set (e i) n (is i)) ∙ ap (λ p. set (delivered time kind m v n sets xs) n (given time kind m (sets n) v p)) old
      ∙ sym (delivered_suc n sets xs d h) ∙ ap (λ k. delivered time kind m v k sets xs) (sym (add-one n))

  -- the first n places, and those after them
  pub delivered_part : (n : ℕ) (sets : ℕ → ℕ) (xs : List (Place P C)) → delivered time kind m v n sets (take n xs) ++ drop n xs ≡ delivered time kind m v n sets xs
  delivered_part zero sets [] = refl
  delivered_part zero sets (x ∷ xs) = refl
  delivered_part (suc n) sets [] = refl
  delivered_part (suc n) sets (x ∷ xs) = ap (λ l. given time kind m (sets 0) v x ∷ l) (delivered_part n (λ i. sets (suc i)) xs)
