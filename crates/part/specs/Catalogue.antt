-- The catalogue's kind acts as the part that it holds.
use Rattle.std.specs.Prelude.{ℕ, Option}
use Rattle.clock.specs.Time.{Time}
use Rattle.part.specs.Kind.{Kind}
use Rattle.part.specs.Gen.{generator, Generates}
use Rattle.part.specs.Uart.{serial, Transmits}
use Rattle.part.specs.Line.{delay_line, Delays}
use Rattle.part.specs.declared.part.Output.{Output}
use Rattle.part.specs.declared.catalogue.Catalogue.{Catalogue}
use Rattle.part.specs.declared.catalogue.Catalogue.TheVariants.{Gen, Uart, Line}

abbrev pub any_advance : {C : Type 0} → Time C → Catalogue C → Option C
any_advance time (Gen p) = (generator time).advance p
any_advance time (Uart p) = (serial time).advance p
any_advance time (Line p) = (delay_line time).advance p

abbrev pub any_output : {C : Type 0} → Time C → Catalogue C → Output
any_output time (Gen p) = (generator time).output p
any_output time (Uart p) = (serial time).output p
any_output time (Line p) = (delay_line time).output p

abbrev pub any_internal : {C : Type 0} → Time C → Catalogue C → Catalogue C
any_internal time (Gen p) = Gen ((generator time).internal p)
any_internal time (Uart p) = Uart ((serial time).internal p)
any_internal time (Line p) = Line ((delay_line time).internal p)

abbrev pub any_external : {C : Type 0} → Time C → Catalogue C → C → ℕ → ℕ → Catalogue C
any_external time (Gen p) e pins v = Gen ((generator time).external p e pins v)
any_external time (Uart p) e pins v = Uart ((serial time).external p e pins v)
any_external time (Line p) e pins v = Line ((delay_line time).external p e pins v)

abbrev pub catalogue : {C : Type 0} → Time C → Kind C (Catalogue C)
catalogue time = record { advance = any_advance time; output = any_output time; internal = any_internal time; external = any_external time }

abbrev pub Stocked : {C : Type 0} → Time C → Catalogue C → Type 0
Stocked time (Gen p) = Generates time p
Stocked time (Uart p) = Transmits time p
Stocked time (Line p) = Delays time p
