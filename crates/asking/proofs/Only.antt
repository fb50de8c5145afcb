-- A question is answered in one way only.
use Rattle.std.proofs.Common.{◌⊎◌, inl, inr}
use Rattle.asking.specs.Asking.{Ask}

-- what follows of two outcomes that settle one question, and of two that go on after it, follows of any two
pub ask_only : {bad one other on more claim : Type 0} → (one → other → claim) → (on → more → claim) → Ask bad one on → Ask bad other more → claim
ask_only here rest (inl g) (inl h) = here g.1 h.1
ask_only here rest (inl g) (inr h) = absurd (h.0 g.0)
ask_only here rest (inr g) (inl h) = absurd (g.0 h.0)
ask_only here rest (inr g) (inr h) = rest g.1 h.1
