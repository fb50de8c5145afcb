-- The paths of parts as programs print them: the names of the blocks below the board and the part's name, with slashes between.
use Rattle.std.specs.Prelude.{◌≡◌, ℕ, ◌<◌, ◌≤◌, List, [], ◌∷◌, ◌++◌, length}
use Rattle.names.specs.Names.{name_text}
use Rattle.board.specs.Wires.{block_at, component_at}
use Rattle.board.specs.declared.parts.Block.{Block}
use Rattle.board.specs.declared.parts.Component.{Component}

-- the text leads from the board down into block b
pub data Into (blocks : List Block) : ℕ → List ℕ → Type 0 where
  board : Into blocks 0 []
  block : {b : ℕ} {text : List ℕ} → 0 < b → b < length blocks → Into blocks (block_at blocks b).parent text →
      Into blocks b (text ++ (name_text (block_at blocks b).name ++ 47 ∷ []))

-- the path of part i; a part that the board lacks has an empty path
pub record PathOf (blocks : List Block) (parts : List Component) (i : ℕ) (path : List ℕ) : Type 0 where
  pub here : i < length parts → (text : List ℕ) × Into blocks (component_at parts i).block text × (path ≡ text ++ name_text (component_at parts i).name)
  pub absent : length parts ≤ i → path ≡ []
