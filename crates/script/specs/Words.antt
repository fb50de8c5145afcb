-- The words of calls and commands, as texts.
use Rattle.std.specs.Prelude.{ℕ, List, [], ◌∷◌}
use Rattle.script.specs.declared.call_word.CallWord.{CallWord}
use Rattle.script.specs.declared.call_word.CallWord.TheVariants as call
use Rattle.script.specs.declared.command.Command.{Command}
use Rattle.script.specs.declared.command.Command.TheVariants as command
use Rattle.script.specs.declared.option_word.OptionWord.{OptionWord}
use Rattle.script.specs.declared.option_word.OptionWord.TheVariants as option
use Rattle.script.specs.declared.clock_word.ClockWord.{ClockWord}
use Rattle.script.specs.declared.clock_word.ClockWord.TheVariants as clock

-- put, step, next, run, lend
abbrev pub call_word : CallWord → List ℕ
call_word call.Put = 112 ∷ 117 ∷ 116 ∷ []
call_word call.Step = 115 ∷ 116 ∷ 101 ∷ 112 ∷ []
call_word call.Next = 110 ∷ 101 ∷ 120 ∷ 116 ∷ []
call_word call.Run = 114 ∷ 117 ∷ 110 ∷ []
call_word call.Lend = 108 ∷ 101 ∷ 110 ∷ 100 ∷ []

-- check, run, play, --help
abbrev pub command_word : Command → List ℕ
command_word command.Check = 99 ∷ 104 ∷ 101 ∷ 99 ∷ 107 ∷ []
command_word command.Run = 114 ∷ 117 ∷ 110 ∷ []
command_word command.Play = 112 ∷ 108 ∷ 97 ∷ 121 ∷ []
command_word command.Help = 45 ∷ 45 ∷ 104 ∷ 101 ∷ 108 ∷ 112 ∷ []

-- --until, --budget, --clock, --summary
abbrev pub option_word : OptionWord → List ℕ
option_word option.Until = 45 ∷ 45 ∷ 117 ∷ 110 ∷ 116 ∷ 105 ∷ 108 ∷ []
option_word option.Budget = 45 ∷ 45 ∷ 98 ∷ 117 ∷ 100 ∷ 103 ∷ 101 ∷ 116 ∷ []
option_word option.Clock = 45 ∷ 45 ∷ 99 ∷ 108 ∷ 111 ∷ 99 ∷ 107 ∷ []
option_word option.Summary = 45 ∷ 45 ∷ 115 ∷ 117 ∷ 109 ∷ 109 ∷ 97 ∷ 114 ∷ 121 ∷ []

-- superdense, plain
abbrev pub clock_word : ClockWord → List ℕ
clock_word clock.Superdense = 115 ∷ 117 ∷ 112 ∷ 101 ∷ 114 ∷ 100 ∷ 101 ∷ 110 ∷ 115 ∷ 101 ∷ []
clock_word clock.Plain = 112 ∷ 108 ∷ 97 ∷ 105 ∷ 110 ∷ []
