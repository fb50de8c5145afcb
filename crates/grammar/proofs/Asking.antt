-- Questions in their order.
use Rattle.std.proofs.Common.{◌≡◌, ℕ, ◌+◌, List, [], ◌∷◌, Ok, Err, Result, sym, ◌∙◌, inl, inr, arith}
use Rattle.asking.proofs.Only.{ask_only}
use Rattle.asking.specs.Asking.{Ask}
use Rattle.grammar.specs.Rules.{Form, Meets, Formed}
use Rattle.grammar.specs.Verdicts.{of_line}
use Rattle.grammar.specs.declared.fault.Verdict.{Verdict}

-- each field is what it has to be
abbrev pub Met : List Form → List (List ℕ) → Type 0
Met [] fs = Unit {0}
Met (form ∷ forms) [] = ⊥
Met (form ∷ forms) (f ∷ fs) = Meets form f × Met forms fs

pub formed_met : {T : Type 0} (forms : List Form) (fs : List (List ℕ)) (k n : ℕ) (r : Result T Verdict) (on : Type 0) → Met forms fs → on → Formed forms fs k n r on
formed_met [] fs k n r on met h = h
formed_met (form ∷ forms) [] k n r on met h = absurd met
formed_met (form ∷ forms) (f ∷ fs) k n r on met h = inr ((λ bad. bad met.0), formed_met forms fs (k + 1) n r on met.1 h)

-- an answer is no fault
pub ok_err : {T E : Type 0} (x : T) (e : E) → ◌≡◌ {A = Result T E} (Ok x) (Err e) → ⊥
ok_err x e same = let z : ◌≡◌ {A = ℕ} 0 1 = cc in omega arith

-- where the outcome is no fault, the questions go on
pub asks_ok : {T bad on : Type 0} (x : T) (v : Verdict) → Ask bad (◌≡◌ {A = Result T Verdict} (Ok x) (Err v)) on → on
asks_ok x v (inl h) = absurd (ok_err x v h.1)
asks_ok x v (inr h) = h.1

pub asks_well : {T bad on : Type 0} (x : T) (v : Verdict) → Ask bad (◌≡◌ {A = Result T Verdict} (Ok x) (Err v)) on → bad → ⊥
asks_well x v (inl h) b = ok_err x v h.1
asks_well x v (inr h) b = h.0 b

pub formed_ok : {T : Type 0} (forms : List Form) (fs : List (List ℕ)) (k n : ℕ) (x : T) (on : Type 0) → Formed forms fs k n (Ok x) on → on
formed_ok [] fs k n x on h = h
formed_ok (form ∷ forms) [] k n x on h = absurd h
formed_ok (form ∷ forms) (f ∷ fs) k n x on h = formed_ok forms fs (k + 1) n x on (asks_ok x (of_line 4 n k) h)

-- two outcomes of the same questions are the same
module _ {T : Type 0} (r q : Result T Verdict) where
  pub asks_only : {bad on more : Type 0} (v : Verdict) → (on → more → q ≡ r) → Ask bad (r ≡ Err v) on → Ask bad (q ≡ Err v) more → q ≡ r
  asks_only v = ask_only (λ g h. h ∙ sym g)

  pub formed_only : (forms : List Form) (fs : List (List ℕ)) (k n : ℕ) (on more : Type 0) → (on → more → q ≡ r) → Formed forms fs k n r on → Formed forms fs k n q more → q ≡ r
  formed_only [] fs k n on more rest g h = rest g h
  formed_only (form ∷ forms) [] k n on more rest g h = absurd g
  formed_only (form ∷ forms) (f ∷ fs) k n on more rest g h = asks_only (of_line 4 n k) (formed_only forms fs (k + 1) n on more rest) g h
