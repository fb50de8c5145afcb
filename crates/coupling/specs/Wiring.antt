-- What a flattened network says: which pins each pin reaches.
use Rattle.std.specs.Prelude.{◌≡◌, ℕ, ◌<◌}
use Rattle.coupling.specs.Rows.{set_of, union}
use Rattle.coupling.specs.declared.coupling.Source.{Source}
use Rattle.coupling.specs.declared.rows.Row.{Row}

pub record Wiring : Type 0 where
  pub parts : ℕ
  -- the board has the input pins 0 up to this number
  pub inputs : ℕ
  -- the input pins of a part that a source's pin reaches
  pub row : Source → ℕ → ℕ → ℕ
  -- the board output pins that a source's pin reaches
  pub board : Source → ℕ → ℕ

-- a pin set of a source reaches the union of its pins' rows, at each part
abbrev pub reached : Wiring → Source → ℕ → ℕ → ℕ
reached w source pins i = union (λ k. w.row source k i) pins

-- and at the board's outputs
abbrev pub reached_board : Wiring → Source → ℕ → ℕ
reached_board w source pins = union (λ k. w.board source k) pins

pub record Reaches (w : Wiring) (source : Source) (pins : ℕ) (r : Row) : Type 0 where
  pub parts : (i : ℕ) → i < w.parts → set_of r i ≡ reached w source pins i
  pub outputs : r.board ≡ reached_board w source pins
