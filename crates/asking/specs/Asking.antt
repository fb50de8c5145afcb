-- Questions, asked in order.
use Rattle.std.specs.Prelude.{◌⊎◌}

-- A question. Where its answer is bad, the outcome is this one; else the call goes on.
abbrev pub Ask : Type 0 → Type 0 → Type 0 → Type 0
Ask bad outcome goes_on = (bad × outcome) ⊎ ((bad → ⊥) × goes_on)
