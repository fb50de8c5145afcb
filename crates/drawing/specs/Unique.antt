-- Names are unique in a block, and a call has one outcome.
use Rattle.std.specs.Prelude.{◌≡◌, ℕ, Err, Result, ◌≢◌}
use Rattle.names.specs.declared.name.Name.{Name}
use Rattle.drawing.specs.declared.ends.Found.{Found}
use Rattle.drawing.specs.declared.fault.Fault.{Fault}
use Rattle.drawing.specs.declared.fault.Fault.TheVariants.{Memory}
use Rattle.drawing.specs.Calls.{Sheet}
use Rattle.drawing.specs.Children.{IsChild, called}
use Rattle.drawing.specs.Lists.{Lists}

-- both are children of one block, and have one name
pub record Namesakes (l : Lists) (f g : Found) : Type 0 where
  pub block : ℕ
  pub name : Name
  pub first : IsChild l.blocks l.components (called block name) f
  pub second : IsChild l.blocks l.components (called block name) g

-- no two children of a block have one name
abbrev pub Unique : Lists → Type 0
Unique l = (f g : Found) → Namesakes l f g → (f ≢ g) → ⊥

-- A call on one drawing has one outcome, want of memory aside: two outcomes of which neither lacks memory are equal.
abbrev pub OnlyOutcome : {P : Type 0} → (Sheet P → Result Unit Fault → Type 0) → Sheet P → Result Unit Fault → Type 0
OnlyOutcome {P} call after r =
    (other : Sheet P) (q : Result Unit Fault) → call other q → (r ≢ Err Memory) → (q ≢ Err Memory) → (other ≡ after) × (q ≡ r)
