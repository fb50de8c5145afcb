-- The calls that lines say.
use Rattle.std.proofs.Common.{◌≡◌, ℕ, ◌^◌, ◌<◌, List, [], ◌∷◌, length, decimal, Some, Option, inl, sym, ap, ◌∙◌, subst, arith, Bor}
use Rattle.grammar.specs.Fields.{Numeral}
use Rattle.grammar.specs.Pieces.{split, left}
use Rattle.grammar.proofs.Splitting.{split_none}
use Rattle.script.specs.Calls.{Args, word_of}
use Rattle.script.specs.declared.call.Call.{Call}
use Rattle.script.specs.declared.call.Call.TheVariants as call
use Rattle.script.specs.declared.call_word.CallWord.{CallWord}
use Rattle.script.specs.declared.call_word.CallWord.TheVariants as word
use Rattle.grammar.proofs.Rejoining.{split_some}
use Rattle.script.proofs.Joining.{numeral_lacks, only}

-- a number is one field
pub one_number : (low high v : ℕ) (text : List ℕ) → high < 2 ^ 64 → Numeral low high v text → split 32 text ≡ text ∷ []
one_number low high v text l n =
    let most = n.at_most in
    let w = n.written in
    subst (λ t. split 32 t ≡ t ∷ []) w (split_none 32 (decimal v) (numeral_lacks 32 v (inl (omega arith)) (omega arith)))

module _ {C : Type 0} (shown : C → Option (List ℕ)) where
  pub no_lend : (text : List ℕ) → ((v : ℕ) → Numeral 0 80 v text → ⊥) → (c : Call C) → word_of c ≡ word.Lend → Args shown c (split 32 text) → ⊥
  no_lend text none (call.Lend k) e a = none k (subst (Numeral 0 80 k) (sym (only 32 text a.0 a.1)) a.2)
  no_lend text none c e a = let z : ◌≡◌ {A = ℕ} 0 1 = cc in omega arith

  -- a step has no fields, and neither has a next
  step_alone : (c : Call C) (fs : List (List ℕ)) → word_of c ≡ word.Step → Args shown c fs → fs ≡ []
  step_alone call.Step fs e a = a
  step_alone c fs e a = let z : ◌≡◌ {A = ℕ} 0 1 = cc in absurd (omega arith)

  next_alone : (c : Call C) (fs : List (List ℕ)) → word_of c ≡ word.Next → Args shown c fs → fs ≡ []
  next_alone call.Next fs e a = a
  next_alone c fs e a = let z : ◌≡◌ {A = ℕ} 0 1 = cc in absurd (omega arith)

  module _ (said : CallWord) (rest : Option (Bor (List ℕ))) (text : Bor (List ℕ)) where
    pub no_step : said ≡ word.Step → rest ≡ Some text → (c : Call C) → word_of c ≡ said → Args shown c (left 32 rest) → ⊥
    no_step s r c e a =
        let some = split_some 32 text.now in
        omega (arith, ap length (step_alone c _ (e ∙ s) a), ap (λ o. length (left 32 o)) r)

    pub no_next : said ≡ word.Next → rest ≡ Some text → (c : Call C) → word_of c ≡ said → Args shown c (left 32 rest) → ⊥
    no_next s r c e a =
        let some = split_some 32 text.now in
        omega (arith, ap length (next_alone c _ (e ∙ s) a), ap (λ o. length (left 32 o)) r)
