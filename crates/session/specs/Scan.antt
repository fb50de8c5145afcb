-- The sooner of two due moments.
use Rattle.std.specs.Prelude.{ℕ, cond, Some, None, Option}
use Rattle.clock.specs.Time.{Time}
use Rattle.session.specs.declared.scan.Due.{Due}

abbrev pub sooner : {C : Type 0} → Time C → Option (Due C) → ℕ → Option C → Option (Due C)
sooner time best i None = best
sooner time None i (Some m) = Some (record { moment = m; part = i })
sooner time (Some d) i (Some m) = cond (time.leq d.moment m) (Some d) (Some (record { moment = m; part = i }))
