-- What follows from the questions and from what is added.
use Rattle.std.proofs.Common.{◌≡◌, ℕ, ◌⊎◌, List, Ok, Err, Option, Result, refl, ap, inl, inr, arith, MatchResult}
use Rattle.drawing.specs.Calls.{Sheet}
use Rattle.drawing.specs.Lists.{Lists}
use Rattle.drawing.specs.Questions.{Asks}
use Rattle.drawing.specs.declared.fault.Fault.{Fault}
use Rattle.drawing.specs.declared.fault.Fault.TheVariants.{Memory}

-- a put either lacks memory, or adds
module _ {P : Type 0} (starts : List P) (current : Option ℕ) where
  abbrev pub planned : Lists → Sheet P
  planned l = record { plan = l; starts = starts; current = current }

  pub put_outcome : (l k before : Lists) (r : Result Unit Fault) → MatchResult r (λ _. l ≡ k) (λ e. (e ≡ Memory) × (l ≡ before)) →
      ((r ≡ Err Memory) × (planned l ≡ planned before)) ⊎ ((r ≡ Ok tt) × (planned l ≡ planned k))
  put_outcome l k before (Ok x) h = inr (refl, ap planned h)
  put_outcome l k before (Err e) h = inl (ap Err h.0, ap planned h.1)

-- a question that went well
pub passed : {T bad goes_on : Type 0} (fault : Fault) (x : T) → Asks bad fault (Ok x) goes_on → (bad → ⊥) × goes_on
passed fault x (inl h) = let e = h.1 in let z : ◌≡◌ {A = ℕ} 0 1 = cc in absurd (omega arith)
passed fault x (inr h) = h
