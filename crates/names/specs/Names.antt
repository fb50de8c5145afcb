-- Names of blocks and parts: 1 to 8 letters a to z and digits, a letter first.
use Rattle.std.specs.Prelude.{◌≡◌, ℕ, ◌-◌, Bool, true, ◌&&◌, ◌||◌, List, length, take, drop, replicate, nat_le, nat_lt, slice_index}
use Rattle.std.specs.List.{list_all}
use Rattle.names.specs.declared.name.Name.{Name}

abbrev pub letter : ℕ → Bool
letter b = nat_le 97 b && nat_le b 122

abbrev pub letter_or_digit : ℕ → Bool
letter_or_digit b = letter b || (nat_le 48 b && nat_le b 57)

abbrev pub all_letters_or_digits : List ℕ → Bool
all_letters_or_digits text = list_all letter_or_digit text

abbrev pub well_named : List ℕ → Bool
well_named text = nat_lt 0 (length text) && nat_le (length text) 8 && letter (slice_index text 0) && all_letters_or_digits text

abbrev pub name_text : Name → List ℕ
name_text n = take n.len n.letters

-- the name is made of a text alone: it is well named, and zeros stand after it
pub record Spelled (n : Name) : Type 0 where
  pub well : well_named (name_text n) ≡ true
  pub padded : drop n.len n.letters ≡ replicate (8 - n.len) 0
  pub whole : length n.letters ≡ 8
