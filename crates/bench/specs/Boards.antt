-- The boards of the bench, wire by wire, and the one reason for which none is made.
use Rattle.std.specs.Prelude.{◌≡◌}
use Rattle.coupling.specs.Networks.{wired}
use Rattle.coupling.specs.declared.coupling.Source.TheVariants.{Board, Part}
use Rattle.coupling.specs.declared.network.Network.{Network}
use Rattle.coupling.specs.declared.wires.BuildFault.TheVariants.{Memory}
use Rattle.bench.specs.declared.boards.BoardFault.{BoardFault}
use Rattle.bench.specs.declared.boards.BoardFault.TheVariants.{Build}

-- the one refusal: there is no memory
abbrev pub NoMemory : BoardFault → Type 0
NoMemory e = e ≡ Build Memory

-- one part, between board input 0 and the board's outputs 0 and 1
pub record Lone (n : Network) : Type 0 where
  pub parts : n.parts ≡ 1
  pub inputs : n.inputs ≡ 1
  pub input : (wired n).row Board 0 0 ≡ 1
  pub first : (wired n).board (Part 0) 0 ≡ 1
  pub second : (wired n).board (Part 0) 1 ≡ 2

-- two parts: part 1 leads to part 0, and that to the board's output 0
pub record Chain (n : Network) : Type 0 where
  pub parts : n.parts ≡ 2
  pub inputs : n.inputs ≡ 0
  pub between : (wired n).row (Part 1) 0 0 ≡ 1
  pub out : (wired n).board (Part 0) 0 ≡ 1

-- two parts, both fed by board input 0
pub record Fork (n : Network) : Type 0 where
  pub parts : n.parts ≡ 2
  pub inputs : n.inputs ≡ 1
  pub first : (wired n).row Board 0 0 ≡ 1
  pub second : (wired n).row Board 0 1 ≡ 1
