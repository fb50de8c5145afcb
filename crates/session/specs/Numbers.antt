-- The number of each refusal and of each reason why a run stops, and the words of each reason.
use Rattle.std.specs.Prelude.{ℕ, List, codes}
use Rattle.session.specs.declared.answers.Refusal.{Refusal}
use Rattle.session.specs.declared.answers.Refusal.TheVariants as refusal
use Rattle.session.specs.declared.answers.Stop.{Stop}
use Rattle.session.specs.declared.answers.Stop.TheVariants as stop

abbrev pub refusal_number : Refusal → ℕ
refusal_number refusal.TooFewPlaces = 11
refusal_number refusal.BeyondCeiling = 12
refusal_number refusal.BadPins = 13
refusal_number refusal.BeforeNow = 14
refusal_number refusal.PartDueBefore = 15
refusal_number refusal.NothingDue = 16
refusal_number refusal.DueBeyondCeiling = 17

abbrev pub stop_number : Stop → ℕ
stop_number stop.Budget = 1
stop_number stop.NothingDue = 2
stop_number stop.Horizon = 3
stop_number stop.Ceiling = 4
stop_number stop.TraceFull = 5

-- what is printed
abbrev pub stop_words : Stop → List ℕ
stop_words stop.Budget = codes "the budget of steps is spent"
stop_words stop.NothingDue = codes "no part will ever fire again"
stop_words stop.Horizon = codes "the next firing comes after the horizon"
stop_words stop.Ceiling = codes "the next firing is beyond the clock's ceiling"
stop_words stop.TraceFull = codes "the trace has no free record for the next event"
