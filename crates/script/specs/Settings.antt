-- What an option sets.
use Rattle.std.specs.Prelude.{◌≡◌, ℕ, ◌<◌, false, List, Some, None, decimal, ◌≢◌}
use Rattle.std.specs.Borrow.{Bor}
use Rattle.script.specs.Words.{clock_word}
use Rattle.script.specs.declared.options.Settings.{Settings}
use Rattle.script.specs.declared.clock_word.ClockWord.{ClockWord}
use Rattle.script.specs.declared.clock_word.ClockWord.TheVariants.{Superdense}
use Rattle.script.specs.declared.option_word.OptionWord.{OptionWord}
use Rattle.script.specs.declared.option_word.OptionWord.TheVariants.{Until, Budget, Clock, Summary}

-- the superdense clock, to its ceiling, a million steps, with all events
abbrev pub untold : Settings
untold = record { until = None; budget = 1000000; clock = Superdense; summary = false }

-- the other settings stay
abbrev pub Sets : OptionWord → Settings → Bor (List ℕ) → Settings → Type 0
Sets Until old value new = new ≡ record { until = Some value; budget = old.budget; clock = old.clock; summary = old.summary }
Sets Budget old value new = (n : ℕ) × (n < 10000000000) × (decimal n ≡ value.now) × (new ≡ record { until = old.until; budget = n; clock = old.clock; summary = old.summary })
Sets Clock old value new = (k : ClockWord) × (clock_word k ≡ value.now) × (new ≡ record { until = old.until; budget = old.budget; clock = k; summary = old.summary })
Sets Summary old value new = ⊥

-- the value is none that the option takes
abbrev pub Unsettable : OptionWord → List ℕ → Type 0
Unsettable Until value = ⊥
Unsettable Budget value = (n : ℕ) → n < 10000000000 → decimal n ≢ value
Unsettable Clock value = (k : ClockWord) → clock_word k ≢ value
Unsettable Summary value = Unit {0}
