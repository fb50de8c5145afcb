-- Places whose parts are due alike and have the same outputs; the places of the parts alone are such.
use Rattle.std.proofs.Common.{◌≡◌, ℕ, ◌<◌, true, false, List, map, get_or, take, sym, ap, ◌∙◌, subst, arith}
use Rattle.std.proofs.lemmas.List.{take-take, take-map, get_or-take}
use Rattle.part.specs.declared.part.Output.{Output}
use Rattle.coupling.specs.Wiring.{reached_board}
use Rattle.coupling.specs.declared.coupling.Source.TheVariants as source
use Rattle.session.specs.Machine.{Model, due, dues, Imminent, NoneDue, output_of, event_of}
use Rattle.session.specs.Calls.{Ready, Halts}
use Rattle.session.specs.declared.places.Place.{Place}
use Rattle.session.specs.declared.answers.Stop.{Stop}
use Rattle.session.specs.declared.answers.Stop.TheVariants as stop
use Rattle.session.proofs.Running.{ready_inside}

module _ {P C : Type 0} (M : Model P C) where
  pub dues_own : (xs : List (Place P C)) → dues M xs ≡ dues M (take M.wiring.parts xs)
  dues_own xs = ap (map (due M.time M.kind)) (sym (take-take M.wiring.parts M.wiring.parts xs (omega arith)))

  pub output_own : (xs : List (Place P C)) (i : ℕ) → i < M.wiring.parts → output_of M xs i ≡ output_of M (take M.wiring.parts xs) i
  output_own xs i h =
      let f = λ (p : Place P C). M.kind.output p.part in
      let o : Output = record { pins = 0; value = 0 } in
      sym (get_or-take M.wiring.parts (map f xs) i o h) ∙ ap (λ l. get_or l i o) (take-map f M.wiring.parts xs)

  pub event_own : (xs : List (Place P C)) (m : C) (i : ℕ) → i < M.wiring.parts → event_of M xs m i ≡ event_of M (take M.wiring.parts xs) m i
  event_own xs m i h =
      ap (λ (o : Output). record { moment = m; part = i; pins = o.pins; value = o.value; board = reached_board M.wiring (source.Part i) o.pins }) (output_own xs i h)

  -- places whose parts are due alike and have the same outputs
  module _ (horizon : C) (xs ys : List (Place P C)) (same : dues M xs ≡ dues M ys) (events : (m : C) (i : ℕ) → i < M.wiring.parts → event_of M xs m i ≡ event_of M ys m i) where
    pub ready_same : (budget : ℕ) (m : C) (i : ℕ) → Ready M horizon budget xs m i → Ready M horizon budget ys m i
    ready_same budget m i h = record {
      some_budget = h.some_budget;
      imminent = subst (λ ds. Imminent M.time ds m i) same h.imminent;
      by_horizon = h.by_horizon;
      by_ceiling = h.by_ceiling;
    }

    pub halts_same : (budget room : ℕ) (why : Stop) → Halts M horizon budget room xs why → Halts M horizon budget room ys why
    halts_same budget room stop.Budget h = h
    halts_same budget room stop.NothingDue h = (h.0, subst NoneDue same h.1)
    halts_same budget room stop.Horizon h =
        (h.0, subst (λ ds. (m : C) × (i : ℕ) × Imminent M.time ds m i × (M.time.leq m horizon ≡ false)) same h.1)
    halts_same budget room stop.Ceiling h =
        (h.0, subst (λ ds. (m : C) × (i : ℕ) × Imminent M.time ds m i × (M.time.leq m horizon ≡ true) × (M.time.within m ≡ false)) same h.1)
    halts_same budget room stop.TraceFull h =
        let (m, i, ready, some, full) = h in
        (m, i, ready_same budget m i ready, subst (λ e. 0 < e.pins) (events m i (ready_inside M horizon budget xs m i ready)) some, full)
