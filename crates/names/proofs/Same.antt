-- A text spells one name.
use Rattle.std.proofs.Common.{◌≡◌, ◌-◌, ◌<◌, ◌≤◌, ◌++◌, length, replicate, sym, ap, ap₂, ◌∙◌, arith}
use Rattle.std.proofs.lemmas.List.{take-append-drop, length-take-le}
use mathlib.Core.HLevel.{is_prop→PathP}
use Rattle.std.proofs.Math.Bridge.{le_prop}
use Rattle.names.specs.Names.{name_text, Spelled}
use Rattle.names.specs.declared.name.Name.{Name}

text_length : (n : Name) → Spelled n → length (name_text n) ≡ n.len
text_length n h = length-take-le n.len n.letters (omega (arith, n.few, h.whole))

letters_are : (n : Name) → Spelled n → name_text n ++ replicate (8 - n.len) 0 ≡ n.letters
letters_are n h = ap (λ l. name_text n ++ l) (sym h.padded) ∙ take-append-drop n.len n.letters

pub same_name : (m n : Name) → Spelled m → Spelled n → name_text m ≡ name_text n → m ≡ n
same_name m n a b e =
    let long : m.len ≡ n.len = sym (text_length m a) ∙ ap length e ∙ text_length n b in
    let same : m.letters ≡ n.letters = sym (letters_are m a) ∙ ap₂ (λ t k. t ++ replicate (8 - k) 0) e long ∙ letters_are n b in
    λ i. record {
      letters = same i;
      len = long i;
      some = is_prop→PathP (λ j. 0 < long j) (λ j. le_prop) m.some n.some i;
      few = is_prop→PathP (λ j. long j ≤ 8) (λ j. le_prop) m.few n.few i;
    }
