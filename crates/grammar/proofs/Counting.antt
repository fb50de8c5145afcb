-- A number, digit by digit.
use Rattle.std.proofs.Common.{◌≡◌, ℕ, ◌+◌, ◌-◌, ◌*◌, ◌^◌, ◌<◌, ◌≤◌, ◌⊎◌, List, length, get_or, take, decimal, sym, ap, ◌∙◌, subst, ⊎_elim, arith}
use native.Mathlib.Nat.{pow-le-pow_right}
use Rattle.std.proofs.lemmas.Bool.Decides.{nat_tests}
use Rattle.std.specs.Str.Parse.{AllDigits, digits_value}
use Rattle.std.specs.Char.{digit_value as digitValue}
use Rattle.std.proofs.lemmas.List.{take_all, length-take-le}
use Rattle.std.proofs.lemmas.Str.Parse.{IsNumeralModel, numerals_by_value, tells_digits, digit_at}
use Rattle.std.proofs.lemmas.Int.Digits.{digits_value_more, digits_more, digits_value-lt}
use Rattle.grammar.specs.Fields.{Numeral}
use Rattle.std.proofs.lemmas.Fmt.{decimal_injective, decimal-digits_value, decimal_is_IsNumeral, decimal_digit, length-decimal-le, first_decimal, decimal_nonempty}
use Rattle.std.proofs.lemmas.Bool.{cases_lt}

-- the bytes below i are digits, and value is the number that they write
pub record Sofar (text : List ℕ) (i n : ℕ) : Type 0 where
  pub digits : AllDigits 10 (take i text)
  pub read : n ≡ digits_value 10 (take i text)

own : IsNumeralModel (AllDigits 10) (digits_value 10)
own = numerals_by_value (AllDigits 10) tells_digits

digit_value : (b : ℕ) → 48 ≤ b → b ≤ 57 → digitValue b ≡ b - 48
digit_value b low high = grind (arith, nat_tests)

pub more : (text : List ℕ) (i n digit : ℕ) → Sofar text i n → i < length text → 48 ≤ get_or text i 0 → get_or text i 0 ≤ 57 → digit ≡ get_or text i 0 - 48 → Sofar text (i + 1) (10 * n + digit)
more text i n digit h l low high e =
    let d = digit_value (get_or text i 0) low high in
    let read = h.read in
    record { digits = digits_more 10 text i l h.digits (omega arith); read = omega (arith, digits_value_more 10 text i l) }

-- a number of fewer than ten digits so far is small
pub small : (text : List ℕ) (i n : ℕ) → Sofar text i n → i < length text → length text ≤ 10 → n < 1000000000
small text i n h l few =
    let below : digits_value 10 (take i text) < 10 ^ length (take i text) = digits_value-lt 10 (take i text) h.digits in
    let long : length (take i text) ≡ i = length-take-le i text (omega arith) in
    let positive : 0 < 10 = omega arith in
    let le : i ≤ 9 = omega arith in
    let bound : 10 ^ i ≤ 10 ^ 9 = pow-le-pow_right positive le in
    let read = h.read in
    omega (arith, ap (λ k. 10 ^ k) long)

-- what the text of a number looks like
pub record Shape (text : List ℕ) : Type 0 where
  pub some : 0 < length text
  pub few : length text ≤ 10
  pub no_zero : get_or text 0 0 ≡ 48 → length text ≡ 1
  pub digits : AllDigits 10 text

pub shape : (v : ℕ) (text : List ℕ) → v < 10000000000 → decimal v ≡ text → Shape text
shape v text l e =
    subst Shape e
    record {
      some = decimal_nonempty v (omega arith);
      few = length-decimal-le 10 v (omega arith) (omega arith) (omega arith);
      no_zero = λ z. ⊎_elim (λ (h : v < 10). ap length (decimal_digit v h)) (λ (h : 10 ≤ v). absurd (let f = first_decimal v (omega arith) (omega arith) in omega arith)) (cases_lt v 10);
      digits = (decimal_is_IsNumeral v (omega arith)).0.1;
    }

-- a byte that is no digit
pub no_digit : (text : List ℕ) (i : ℕ) → i < length text → (get_or text i 0 < 48) ⊎ (57 < get_or text i 0) → (v : ℕ) → v < 10000000000 → decimal v ≡ text → ⊥
no_digit text i l bad v small e =
    let d = digit_at text i (shape v text small e).digits l in
    ⊎_elim (λ h. omega arith) (λ h. omega arith) bad

-- all the bytes are read
pub done : (text : List ℕ) (i n : ℕ) → Sofar text i n → length text ≤ i → 0 < length text → length text ≤ 10 → (get_or text 0 0 ≡ 48 → length text ≤ 1) → (n < 10000000000) × (decimal n ≡ text)
done text i n h all some few first =
    let whole : take i text ≡ text = take_all i text all in
    let digits : AllDigits 10 text = subst (AllDigits 10) whole h.digits in
    let read : n ≡ digits_value 10 text = h.read ∙ ap (digits_value 10) whole in
    let positive : 0 < 10 = omega arith in
    let bound : 10 ^ length text ≤ 10 ^ 10 = pow-le-pow_right positive few in
    let below : digits_value 10 text < 10000000000 = omega (arith, digits_value-lt 10 text digits) in
    (omega arith, ap decimal read ∙ decimal-digits_value own text digits some (λ z. omega (arith, first z)) (omega arith))

-- a text writes one number
pub read_number : (low high v w : ℕ) (text : List ℕ) → (w < 10000000000) × (decimal w ≡ text) → Numeral low high v text → high ≤ 65535 → v ≡ w
read_number low high v w text read n fits =
    let most = n.at_most in
    let few = read.0 in
    decimal_injective v w (omega arith) (omega arith) (n.written ∙ sym read.1)
