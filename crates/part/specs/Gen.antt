-- The generator: gen p v s, with one input pin and one output pin.
use Rattle.std.specs.Prelude.{◌≡◌, ℕ, ◌+◌, ◌%◌, ◌≤◌, true, Some}
use Rattle.clock.specs.Time.{Time}
use Rattle.part.specs.Kind.{Kind}
use Rattle.part.specs.declared.generator.Gen.{Gen}

-- it starts with the wait of p
abbrev pub generator_starts : {C : Type 0} → Time C → ℕ → ℕ → ℕ → Gen C
generator_starts time p v s = record { period = p; value = v; step = s; left = time.wait p }

-- It fires v on pin 0, adds s to v modulo 256, and waits p. An input replaces v and keeps time.
abbrev pub generator : {C : Type 0} → Time C → Kind C (Gen C)
generator time = record {
  advance = λ g. Some g.left;
  output = λ g. record { pins = 1; value = g.value };
  internal = λ g. generator_starts time g.period ((g.value + g.step) % 256) g.step;
  external = λ g e pins v. record { period = g.period; value = v; step = g.step; left = time.gap e g.left };
}

-- its period is one that a netlist can write, and the time left is a span
pub record Generates {C : Type 0} (time : Time C) (g : Gen C) : Type 0 where
  pub period : g.period ≤ 65535
  pub left : time.span g.left ≡ true
