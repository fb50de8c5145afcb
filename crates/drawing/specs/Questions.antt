-- The questions that a call asks, in their order. The first that goes badly gives the fault.
use Rattle.std.specs.Prelude.{◌≡◌, ℕ, ◌+◌, ◌<◌, ◌≤◌, false, ◌⊎◌, List, length, Ok, Err, Result}
use Rattle.asking.specs.Asking.{Ask}
use Rattle.names.specs.declared.name.Name.{Name}
use Rattle.board.specs.declared.parts.Block.{Block}
use Rattle.board.specs.declared.parts.Component.{Component}
use Rattle.board.specs.declared.pins.Pin.{Pin}
use Rattle.board.specs.declared.pins.Wire.{Wire}
use Rattle.board.specs.Wires.{apart}
use Rattle.drawing.specs.declared.ends.Site.{Site}
use Rattle.drawing.specs.declared.ends.WireEnd.{WireEnd}
use Rattle.drawing.specs.declared.fault.Fault.{Fault}
use Rattle.drawing.specs.declared.fault.Fault.TheVariants.{BadPins, NameTaken, TooManyBlocks, TooManyParts, TooManyWires, TooDeep, NoFrom, NoTo, Loop, Twice}
use Rattle.drawing.specs.Children.{Taken, FindsFrom, FindsTo, Stands, end_pin}
use Rattle.drawing.specs.Lists.{Lists}

-- A question. Where it goes badly, the fault is the answer; else the questions go on.
abbrev pub Asks : {T : Type 0} → Type 0 → Fault → Result T Fault → Type 0 → Type 0
Asks bad fault r = Ask bad (r ≡ Err fault)

-- of any new child of this block: its pins and its name
abbrev pub ChildAsked : {T : Type 0} → Lists → ℕ → Name → ℕ → ℕ → Result T Fault → Type 0 → Type 0
ChildAsked l block name ins outs r goes_on =
    Asks ((8 < ins) ⊎ (8 < outs)) BadPins r
    (Asks (Taken l.blocks l.components block name) NameTaken r
    goes_on)

-- of a block at this site: the block that is to be added
abbrev pub BlockAsked : Lists → Site → Name → ℕ → ℕ → Result Block Fault → Type 0
BlockAsked l site name ins outs r =
    ChildAsked l site.parent name ins outs r
    (Asks (32 ≤ length l.blocks) TooManyBlocks r
    (Asks (8 ≤ site.depth) TooDeep r
    (r ≡ Ok (record { name = name; parent = site.parent; depth = site.depth + 1; ins = ins; outs = outs }))))

-- of a part in this block: the component that is to be added
abbrev pub PartAsked : Lists → ℕ → Name → ℕ → ℕ → Result Component Fault → Type 0
PartAsked l block name ins outs r =
    ChildAsked l block name ins outs r
    (Asks (64 ≤ length l.components) TooManyParts r
    (r ≡ Ok (record { name = name; block = block; ins = ins; outs = outs })))

-- of a wire between two pins: whether it may be added
abbrev pub JoinAsked : List Wire → Wire → Result Wire Fault → Type 0
JoinAsked wires w r =
    Asks (apart w.from w.to ≡ false) Loop r
    (Asks (Stands wires w) Twice r
    (r ≡ Ok w))

-- of a wire in this block: the wire that is to be added
abbrev pub WireAsked : Lists → ℕ → WireEnd → WireEnd → Result Wire Fault → Type 0
WireAsked l block from to r =
    Asks ((8 ≤ end_pin from) ⊎ (8 ≤ end_pin to)) BadPins r
    (Asks (256 ≤ length l.wires) TooManyWires r
    (Asks ((p : Pin) → FindsFrom l.blocks l.components block from p → ⊥) NoFrom r
    (Asks ((q : Pin) → FindsTo l.blocks l.components block to q → ⊥) NoTo r
    ((w : Wire) × FindsFrom l.blocks l.components block from w.from × FindsTo l.blocks l.components block to w.to × JoinAsked l.wires w r))))
