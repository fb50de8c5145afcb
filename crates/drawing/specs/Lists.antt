-- What a plan holds, as lists.
use Rattle.std.specs.Prelude.{List, [], ◌∷◌, ◌++◌, vec_items}
use Rattle.board.specs.declared.parts.Block.{Block}
use Rattle.board.specs.declared.parts.Component.{Component}
use Rattle.board.specs.declared.pins.Wire.{Wire}
use Rattle.board.specs.declared.plan.Plan.{Plan}

pub record Lists : Type 0 where
  pub blocks : List Block
  pub components : List Component
  pub wires : List Wire

abbrev pub lists : Plan → Lists
lists p = record { blocks = vec_items p.blocks; components = vec_items p.components; wires = vec_items p.wires }

abbrev pub nothing : Lists
nothing = record { blocks = []; components = []; wires = [] }

-- one more at the end
abbrev pub with_block : Lists → Block → Lists
with_block l b = record { blocks = l.blocks ++ b ∷ []; components = l.components; wires = l.wires }

abbrev pub with_component : Lists → Component → Lists
with_component l c = record { blocks = l.blocks; components = l.components ++ c ∷ []; wires = l.wires }

abbrev pub with_wire : Lists → Wire → Lists
with_wire l w = record { blocks = l.blocks; components = l.components; wires = l.wires ++ w ∷ [] }
