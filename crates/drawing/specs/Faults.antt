-- The numbers of faults.
use Rattle.std.specs.Prelude.{ℕ}
use Rattle.drawing.specs.declared.fault.Fault.{Fault}
use Rattle.drawing.specs.declared.fault.Fault.TheVariants.{BadName, BadPins, NameTaken, TooManyBlocks, TooManyParts, TooManyWires, TooDeep, NoFrom, NoTo, Loop, Twice, Misplaced, Memory}

abbrev pub fault_number : Fault → ℕ
fault_number BadName = 4
fault_number BadPins = 4
fault_number NameTaken = 5
fault_number TooManyBlocks = 6
fault_number TooManyParts = 6
fault_number TooManyWires = 6
fault_number TooDeep = 6
fault_number NoFrom = 7
fault_number NoTo = 7
fault_number Loop = 8
fault_number Twice = 9
fault_number Misplaced = 0
fault_number Memory = 0
