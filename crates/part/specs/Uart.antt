-- The UART: uart b, with one input pin and two output pins.
use Rattle.std.specs.Prelude.{ℕ, ◌+◌, ◌*◌, ◌≤◌, min, cond, Some, None, Option, nat_lt}
use Rattle.clock.specs.Time.{Time}
use Rattle.part.specs.Kind.{Kind, Spans}
use Rattle.part.specs.declared.part.Output.{Output}
use Rattle.part.specs.declared.uart.Uart.{Uart}
use Rattle.part.specs.declared.uart.Phase.{Phase}
use Rattle.part.specs.declared.uart.Phase.TheVariants.{Idle, Sending, Telling}
use Rattle.part.specs.declared.uart.Event.{Event}
use Rattle.part.specs.declared.uart.Event.TheVariants.{Fires, Byte}

-- idle, nothing held, lost 0
abbrev pub uart_starts : {C : Type 0} → Time C → ℕ → Uart C
uart_starts time b = record { baud = b; phase = Idle; held = None; lost = 0 }

-- a byte on the wire takes 10 times b
abbrev pub sending : {C : Type 0} → Time C → ℕ → ℕ → Phase C
sending time b byte = Sending byte (time.wait (10 * b))

-- with nothing lost: a held byte is sent next, else it is idle
abbrev pub next : {C : Type 0} → Time C → ℕ → Option ℕ → Uart C
next time b None = uart_starts time b
next time b (Some byte) = record { baud = b; phase = sending time b byte; held = None; lost = 0 }

-- a byte goes to an empty holding place, else lost rises by 1 and stops at 255
abbrev pub takes : {C : Type 0} → ℕ → Phase C → Option ℕ → ℕ → ℕ → Uart C
takes b phase None lost byte = record { baud = b; phase = phase; held = Some byte; lost = lost }
takes b phase (Some first) lost byte = record { baud = b; phase = phase; held = Some first; lost = min (lost + 1) 255 }

abbrev pub uart_advance : {C : Type 0} → Phase C → Option C
uart_advance Idle = None
uart_advance (Sending byte left) = Some left
uart_advance (Telling left) = Some left

-- sending fires the byte on pin 0, telling fires lost on pin 1; idle puts out nothing
abbrev pub uart_output : {C : Type 0} → Phase C → ℕ → Output
uart_output Idle lost = record { pins = 0; value = 0 }
uart_output (Sending byte left) lost = record { pins = 1; value = byte }
uart_output (Telling left) lost = record { pins = 2; value = lost }

-- after sending with lost above 0 it is telling with the wait of 0; telling clears lost
abbrev pub uart_internal : {C : Type 0} → Time C → Uart C → Phase C → Uart C
uart_internal time u Idle = u
uart_internal time u (Sending byte left) =
    cond (nat_lt 0 u.lost) (record { baud = u.baud; phase = Telling (time.wait 0); held = u.held; lost = u.lost }) (next time u.baud u.held)
uart_internal time u (Telling left) = next time u.baud u.held

-- idle, a byte is sent; sending or telling, it is held or lost, and both keep time
abbrev pub uart_external : {C : Type 0} → Time C → Uart C → Phase C → C → ℕ → Uart C
uart_external time u Idle e v = record { baud = u.baud; phase = sending time u.baud v; held = u.held; lost = u.lost }
uart_external time u (Sending byte left) e v = takes u.baud (Sending byte (time.gap e left)) u.held u.lost v
uart_external time u (Telling left) e v = takes u.baud (Telling (time.gap e left)) u.held u.lost v

abbrev pub serial : {C : Type 0} → Time C → Kind C (Uart C)
serial time = record {
  advance = λ u. uart_advance u.phase;
  output = λ u. uart_output u.phase u.lost;
  internal = λ u. uart_internal time u u.phase;
  external = λ u e pins v. uart_external time u u.phase e v;
}

-- either event, by name
abbrev pub happens : {C : Type 0} → Time C → Uart C → Event C → Uart C
happens time u Fires = (serial time).internal u
happens time u (Byte e v) = (serial time).external u e 1 v

-- its time for a bit is one that a netlist can write, and the time left is a span or never
pub record Transmits {C : Type 0} (time : Time C) (u : Uart C) : Type 0 where
  pub baud : u.baud ≤ 65535
  pub left : Spans time (uart_advance u.phase)
