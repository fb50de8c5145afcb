-- The delay line: line d, with one input pin and one output pin.
use Rattle.std.specs.Prelude.{ℕ, ◌≤◌, Some, None, Option}
use Rattle.clock.specs.Time.{Time}
use Rattle.part.specs.Kind.{Kind, Spans}
use Rattle.part.specs.declared.part.Output.{Output}
use Rattle.part.specs.declared.line.Line.{Line}

-- it starts at never, with value 0
abbrev pub line_starts : {C : Type 0} → Time C → ℕ → Line C
line_starts time d = record { delay = d; value = 0; left = None }

-- at never it puts out no pins and value 0
abbrev pub line_output : {C : Type 0} → Option C → ℕ → Output
line_output None v = record { pins = 0; value = 0 }
line_output (Some left) v = record { pins = 1; value = v }

-- It takes an input as its value, replacing any earlier one, and waits d.
-- It fires the value on pin 0 and returns to never, the value kept.
abbrev pub delay_line : {C : Type 0} → Time C → Kind C (Line C)
delay_line time = record {
  advance = λ l. l.left;
  output = λ l. line_output l.left l.value;
  internal = λ l. record { delay = l.delay; value = l.value; left = None };
  external = λ l e pins v. record { delay = l.delay; value = v; left = Some (time.wait l.delay) };
}

-- its delay is one that a netlist can write, and the time left is a span or never
pub record Delays {C : Type 0} (time : Time C) (l : Line C) : Type 0 where
  pub delay : l.delay ≤ 65535
  pub left : Spans time l.left
