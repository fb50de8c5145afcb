use Rattle.std.proofs.Common.{◌≡◌, ℕ, ◌<◌, ◌≤◌, get_or}
use lib.Bits.{bit_or}
use Rattle.coupling.proofs.rows.Row.join.Given as goal

abbrev pub invariant-parts : goal.invariant-parts
invariant-parts l =
    ((j : ℕ) → j < l.part → get_or l.set-items j 0 ≡ bit_or (get_or l.self.sets j 0) (get_or l.other.sets j 0))
    × ((j : ℕ) → l.part ≤ j → get_or l.set-items j 0 ≡ get_or l.self.sets j 0)
