-- What a clock means, and the laws that it keeps.
use Rattle.std.specs.Prelude.{◌≡◌, ℕ, ◌≤◌, Bool, true, ◌⊎◌}

-- A clock's values are moments, counted from opening, and spans.
pub record Time (C : Type 0) : Type 0 where
  -- the order: no later than
  pub leq : C → C → Bool
  pub zero : C
  -- the span that a part waits which waits so many ticks
  pub wait : ℕ → C
  pub sum : C → C → C
  -- the true sum of the two can be held, so that `sum` is that sum
  pub fits : C → C → Bool
  -- from the first to the second
  pub gap : C → C → C
  -- the spans that a part may wait
  pub span : C → Bool
  -- within the ceiling: the moments at which a call may be made and a part may fire
  pub within : C → Bool

-- The clock laws. Every value of C is held; where a sum is named, the law asks that it fits.
pub record Laws {C : Type 0} (t : Time C) : Type 0 where
  pub total : (a b : C) → (t.leq a b ≡ true) ⊎ (t.leq b a ≡ true)
  pub transitive : (a b c : C) → t.leq a b ≡ true → t.leq b c ≡ true → t.leq a c ≡ true
  pub antisymmetric : (a b : C) → t.leq a b ≡ true → t.leq b a ≡ true → a ≡ b
  -- where (a + d) + e can be held, so can the other grouping, and the two are equal
  pub associative : (a d e : C) → t.fits a d ≡ true → t.fits (t.sum a d) e ≡ true →
      (t.fits d e ≡ true) × (t.fits a (t.sum d e) ≡ true) × (t.sum (t.sum a d) e ≡ t.sum a (t.sum d e))
  pub zero_left : (a : C) → (t.fits t.zero a ≡ true) × (t.sum t.zero a ≡ a)
  pub zero_right : (a : C) → (t.fits a t.zero ≡ true) × (t.sum a t.zero ≡ a)
  -- a value is never after its sum with another
  pub grows : (a d : C) → t.fits a d ≡ true → t.leq a (t.sum a d) ≡ true
  -- a + d is no later than a + e exactly when d is no later than e
  pub keeps_order : (a d e : C) → t.fits a d ≡ true → t.fits a e ≡ true → t.leq (t.sum a d) (t.sum a e) ≡ t.leq d e
  -- where a is no later than b, the gap can be held, added to a gives b, and is the only value that does
  pub gap_exists : (a b : C) → t.leq a b ≡ true → (t.fits a (t.gap a b) ≡ true) × (t.sum a (t.gap a b) ≡ b)
  pub gap_only : (a b d : C) → t.leq a b ≡ true → t.fits a d ≡ true → t.sum a d ≡ b → d ≡ t.gap a b
  pub zero_span : t.span t.zero ≡ true
  pub wait_span : (k : ℕ) → k ≤ 655350 → t.span (t.wait k) ≡ true
  -- a moment within the ceiling plus a span can be held
  pub ceiling_span : (a d : C) → t.within a ≡ true → t.span d ≡ true → t.fits a d ≡ true
  pub gap_span : (a d : C) → t.span d ≡ true → t.span (t.gap a d) ≡ true
