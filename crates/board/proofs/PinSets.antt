-- Pin sets by their pins.
use Rattle.std.proofs.Common.{◌≡◌, ℕ, zero, suc, ◌+◌, ◌-◌, ◌*◌, ◌/◌, ◌%◌, ◌^◌, ◌<◌, max, ◌⊎◌, sym, ap, ◌∙◌, inl, inr, ⊎_elim, lt_of_lt_of_le, pow-suc, div-one, arith, pow_pos, pow-add}
use native.Mathlib.Nat.{zero-div, div_self, div-eq_of_lt, pow-le-pow_right}
use lib.Pow.{pow-lt}
use Rattle.std.proofs.lemmas.Nat.{shl-shr, shr-shr}
use lib.Bits.{bit_or, or_shr, or_step}
use Rattle.std.proofs.lemmas.Bool.{cases_order, cases_eq}
use Rattle.board.specs.Paths.{Has}

mod_two : (n : ℕ) → (n % 2 ≡ 0) ⊎ (n % 2 ≡ 1)
mod_two n = ⊎_elim inl (λ h. inr (omega arith)) (cases_eq (n % 2) 0)

or_last : (a b : ℕ) → bit_or a b % 2 ≡ max (a % 2) (b % 2)
or_last a b = omega (arith, or_step a b)

-- the union has the pins of both sets
pub has_or : (a b p : ℕ) → Has (bit_or a b) p → Has a p ⊎ Has b p
has_or a b p h =
    let e : max (a / 2 ^ p % 2) (b / 2 ^ p % 2) ≡ 1 = sym (ap (λ n. n % 2) (or_shr a b p) ∙ or_last (a / 2 ^ p) (b / 2 ^ p)) ∙ h in
    ⊎_elim (λ z. inr (omega arith)) inl (mod_two (a / 2 ^ p))

pub or_has_left : (a b p : ℕ) → Has a p → Has (bit_or a b) p
or_has_left a b p h = ap (λ n. n % 2) (or_shr a b p) ∙ or_last (a / 2 ^ p) (b / 2 ^ p) ∙ omega (arith, h, mod_two (b / 2 ^ p))

pub or_has_right : (a b p : ℕ) → Has b p → Has (bit_or a b) p
or_has_right a b p h = ap (λ n. n % 2) (or_shr a b p) ∙ or_last (a / 2 ^ p) (b / 2 ^ p) ∙ omega (arith, h, mod_two (a / 2 ^ p))

pub none_has : (p : ℕ) → Has 0 p → ⊥
none_has p h = omega (arith, sym (ap (λ n. n % 2) (zero-div (2 ^ p))) ∙ h)

-- the set of one pin
pub has_one : (p : ℕ) → Has (2 ^ p) p
has_one p = ap (λ n. n % 2) (div_self (pow_pos p))

pub one_has : (p q : ℕ) → Has (2 ^ p) q → p ≡ q
one_has p q h =
    ⊎_elim (λ e. e)
    (⊎_elim
    (λ l. let z : 2 ^ p / 2 ^ q % 2 ≡ 0 = ap (λ n. n % 2) (div-eq_of_lt (pow-lt l)) in absurd (omega (arith, z, h)))
    (λ l.
    let d = p - q - 1 in
    let split : p ≡ suc d + q = omega arith in
    let z : 2 ^ p / 2 ^ q ≡ 2 ^ d * 2 =
    ap (λ n. 2 ^ n / 2 ^ q) split ∙ ap (λ n. n / 2 ^ q) (pow-add 2 (suc d) q) ∙ shl-shr (2 ^ suc d) q ∙ pow-suc 2 d in
    absurd (omega (arith, ap (λ n. n % 2) z, h))))
    (cases_order p q)

-- a set is known by its pins
half_has : (a p : ℕ) → a / 2 / 2 ^ p ≡ a / 2 ^ (1 + p)
half_has a p = shr-shr a 1 p

same_below : (k a b : ℕ) → a < 2 ^ k → b < 2 ^ k → ((p : ℕ) → a / 2 ^ p % 2 ≡ b / 2 ^ p % 2) → a ≡ b
same_below zero a b ha hb h = omega arith
same_below (suc k) a b ha hb h =
    let ga : a / 2 < 2 ^ k = omega (arith, ha, pow-suc 2 k) in
    let gb : b / 2 < 2 ^ k = omega (arith, hb, pow-suc 2 k) in
    let half = same_below k (a / 2) (b / 2) ga gb (λ p. ap (λ n. n % 2) (half_has a p) ∙ h (1 + p) ∙ sym (ap (λ n. n % 2) (half_has b p))) in
    omega (arith, half, h 0, div-one a, div-one b)

below_pow : (n : ℕ) → n < 2 ^ n
below_pow zero = omega arith
below_pow (suc n) = omega (arith, below_pow n, pow-suc 2 n)

pub same_set : (a b : ℕ) → ((p : ℕ) → Has a p → Has b p) → ((p : ℕ) → Has b p → Has a p) → a ≡ b
same_set a b f g =
    same_below (a + b) a b
    (lt_of_lt_of_le (below_pow a) (pow-le-pow_right (omega arith) (omega arith)))
    (lt_of_lt_of_le (below_pow b) (pow-le-pow_right (omega arith) (omega arith)))
    (λ p. ⊎_elim
    (λ z. ⊎_elim (λ w. z ∙ sym w) (λ w. absurd (omega (arith, z, g p w))) (mod_two (b / 2 ^ p)))
    (λ z. z ∙ sym (f p z))
    (mod_two (a / 2 ^ p)))

pub empty_set : (a : ℕ) → ((p : ℕ) → Has a p → ⊥) → a ≡ 0
empty_set a f = same_set a 0 (λ p h. absurd (f p h)) (λ p h. absurd (none_has p h))
