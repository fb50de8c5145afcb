-- Moments as they are written and read.
use Rattle.std.proofs.Common.{◌≡◌, ℕ, ◌<◌, List, [], ◌∷◌, ◌++◌, length, Some, None, decimal, Result, Ok, Err, inr, sym, ap, ◌∙◌, arith, Bor}
use Rattle.std.specs.Result.{OkIff, result_ok}
use Rattle.std.proofs.lemmas.Fmt.{decimal_injective}
use Rattle.clock.specs.declared.dense.Dense.{Dense}
use Rattle.grammar.specs.Pieces.{split, Parts}
use Rattle.grammar.proofs.Splitting.{split_none}
use Rattle.script.specs.Moments.{dense_text}
use Rattle.grammar.proofs.Rejoining.{split_line, free_from_lacks}
use Rattle.script.proofs.Joining.{parted, only, numeral_lacks}

-- the pieces of a pair's text
pub pieces_of : (m : Dense) (text : List ℕ) → dense_text m ≡ text → split 58 text ≡ decimal m.tick ∷ decimal m.micro ∷ []
pieces_of m text e =
    let tick = m.held_tick in
    let micro = m.held_micro in
    ap (split 58) (sym e) ∙ split_line 58 (decimal m.tick) (decimal m.micro) (free_from_lacks 58 _ (numeral_lacks 58 m.tick (inr (omega arith)) (omega arith))) ∙ ap (λ ps. decimal m.tick ∷ ps) (split_none 58 (decimal m.micro) (numeral_lacks 58 m.micro (inr (omega arith)) (omega arith)))

pub whole_is_none : (text piece : List ℕ) → Parts 58 text piece None → (m : Dense) → dense_text m ≡ text → ⊥
whole_is_none text piece h m e = let long = ap length (sym h.pieces ∙ pieces_of m text e) in omega arith

module _ (text piece : List ℕ) (rest : Bor (List ℕ)) (h : Parts 58 text piece (Some rest)) where
  pub first_is : (m : Dense) → dense_text m ≡ text → decimal m.tick ≡ piece
  first_is m e = let same = sym h.pieces ∙ pieces_of m text e in cc

  pub second_is : (m : Dense) → dense_text m ≡ text → decimal m.micro ≡ rest.now
  second_is m e =
      let same = sym h.pieces ∙ pieces_of m text e in
      let one : split 58 rest.now ≡ decimal m.micro ∷ [] = cc in
      sym (only 58 rest.now (decimal m.micro) one)

  pub tick_is : (n : ℕ) → n < 10000000000 → decimal n ≡ piece → (m : Dense) → dense_text m ≡ text → m.tick ≡ n
  tick_is n l w m e = let held = m.held_tick in decimal_injective m.tick n (omega arith) (omega arith) (first_is m e ∙ sym w)

  pub micro_is : (n : ℕ) → n < 10000000000 → decimal n ≡ rest.now → (m : Dense) → dense_text m ≡ text → m.micro ≡ n
  micro_is n l w m e = let held = m.held_micro in decimal_injective m.micro n (omega arith) (omega arith) (second_is m e ∙ sym w)

  pub writes : (a b : ℕ) → decimal a ≡ piece → decimal b ≡ rest.now → (m : Dense) → m.tick ≡ a → m.micro ≡ b → dense_text m ≡ text
  writes a b v w m p q =
      ap (λ n. decimal n ++ 58 ∷ decimal m.micro) p ∙ ap (λ n. decimal a ++ 58 ∷ decimal n) q ∙ ap (λ t. t ++ 58 ∷ decimal b) v ∙ ap (λ t. piece ++ 58 ∷ t) w ∙ sym (parted 58 text piece rest h)

-- a number that is narrowed, and one that is too large for it
pub narrowed : {E : Type 0} (r : Result ℕ E) (P : Type 0) (n k : ℕ) → OkIff r P n → result_ok r ≡ Some k → k ≡ n
narrowed (Ok x) P n k h e = grind arith
narrowed (Err d) P n k h e = grind arith

pub too_large : {E : Type 0} (r : Result ℕ E) (P : Type 0) (n : ℕ) → OkIff r P n → result_ok r ≡ None → P → ⊥
too_large (Ok x) P n h e p = grind arith
too_large (Err d) P n h e p = h p

-- what is known of a text that is read as a pair
pub ruleset pairs_are_read = (whole_is_none, first_is, second_is, tick_is, micro_is, writes, narrowed, too_large)
