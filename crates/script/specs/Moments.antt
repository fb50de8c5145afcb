-- Moments as they are written.
use Rattle.std.specs.Prelude.{ℕ, List, ◌∷◌, ◌++◌, decimal}
use Rattle.clock.specs.declared.dense.Dense.{Dense}
use Rattle.clock.specs.declared.ticks.Ticks.{Ticks}

abbrev pub ticks_text : Ticks → List ℕ
ticks_text t = decimal t.count

-- the two numbers, with a colon between them
abbrev pub dense_text : Dense → List ℕ
dense_text t = decimal t.tick ++ 58 ∷ decimal t.micro
