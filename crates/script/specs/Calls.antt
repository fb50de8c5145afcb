-- Calls as the lines of a call file say them: a word, and its fields.
use Rattle.std.specs.Prelude.{◌≡◌, ℕ, ◌+◌, ◌/◌, ◌%◌, ◌≤◌, cond, List, [], ◌∷◌, Some, Option, nat_lt}
use Rattle.grammar.specs.Fields.{Numeral}
use Rattle.script.specs.Words.{call_word}
use Rattle.script.specs.declared.call.Call.{Call}
use Rattle.script.specs.declared.call.Call.TheVariants as call
use Rattle.script.specs.declared.call_word.CallWord.{CallWord}
use Rattle.script.specs.declared.call_word.CallWord.TheVariants as word

-- 0 to 9 and a to f
abbrev pub hex_digit : ℕ → ℕ
hex_digit n = cond (nat_lt n 10) (48 + n) (87 + n)

-- the text writes the pin set by two digits
pub record PinSet (pins : ℕ) (text : List ℕ) : Type 0 where
  pub at_most : pins ≤ 255
  pub written : hex_digit (pins / 16) ∷ hex_digit (pins % 16) ∷ [] ≡ text

-- a moment as it is printed, and two further fields
pub record Fields {C : Type 0} (shown : C → Option (List ℕ)) (m : C) (Second Third : List ℕ → Type 0) (fs : List (List ℕ)) : Type 0 where
  pub first : List ℕ
  pub second : List ℕ
  pub third : List ℕ
  pub fields : fs ≡ first ∷ second ∷ third ∷ []
  pub moment : shown m ≡ Some first
  pub is_second : Second second
  pub is_third : Third third

abbrev pub word_of : {C : Type 0} → Call C → CallWord
word_of (call.Put m p v) = word.Put
word_of call.Step = word.Step
word_of call.Next = word.Next
word_of (call.Run h b n) = word.Run
word_of (call.Lend k) = word.Lend

-- the fields after the word
abbrev pub Args : {C : Type 0} → (C → Option (List ℕ)) → Call C → List (List ℕ) → Type 0
Args shown (call.Put m p v) fs = Fields shown m (PinSet p) (Numeral 0 255 v) fs
Args shown call.Step fs = fs ≡ []
Args shown call.Next fs = fs ≡ []
Args shown (call.Run h b n) fs = Fields shown h (Numeral 0 65535 b) (Numeral 0 65535 n) fs
Args shown (call.Lend k) fs = (field : List ℕ) × (fs ≡ field ∷ []) × Numeral 0 80 k field

-- the fields of a line that says the call
pub record Says {C : Type 0} (shown : C → Option (List ℕ)) (c : Call C) (fs : List (List ℕ)) : Type 0 where
  pub rest : List (List ℕ)
  pub begins : fs ≡ call_word (word_of c) ∷ rest
  pub args : Args shown c rest
