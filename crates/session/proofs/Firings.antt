-- A firing: the output, internal, and the delivery.
use Rattle.std.proofs.Common.{◌≡◌, ℕ, zero, suc, ◌<◌, ◌≤◌, List, [], ◌∷◌, ◌++◌, length, get_or, take, drop, set, sym, refl, ap, ◌∙◌, subst, le_of_suc-le-suc, not-suc-le-zero, arith}
use Rattle.std.proofs.lemmas.List.{get_or-map, length-take-le, length-set}
use Rattle.clock.specs.Time.{Time}
use Rattle.part.specs.Kind.{Kind}
use Rattle.part.specs.declared.part.Output.{Output}
use Rattle.coupling.specs.Rows.{set_of}
use Rattle.coupling.specs.Wiring.{Reaches, reached, reached_board}
use Rattle.coupling.specs.declared.coupling.Source.{Source}
use Rattle.coupling.specs.declared.coupling.Source.TheVariants.{Part}
use Rattle.coupling.specs.declared.rows.Row.{Row}
use Rattle.session.specs.declared.places.Place.{Place}
use Rattle.session.specs.declared.places.Event.{Event}
use Rattle.session.specs.Machine.{Model, given, delivered, deliver, changed_at, output_at, output_of, event_of, fired}
use Rattle.session.proofs.Deliveries.{delivered_part}

pub changed_at_set : {X : Type 0} (f : X → X) (xs : List X) (i : ℕ) (d : X) → i < length xs → set xs i (f (get_or xs i d)) ≡ changed_at i f xs
changed_at_set f [] i d h = absurd (not-suc-le-zero h)
changed_at_set f (y ∷ xs) zero d h = refl
changed_at_set f (y ∷ xs) (suc i) d h = ap (λ l. y ∷ l) (changed_at_set f xs i d (le_of_suc-le-suc h))

pub changed_at_length : {X : Type 0} (f : X → X) (xs : List X) (i : ℕ) → length (changed_at i f xs) ≡ length xs
changed_at_length f [] i = refl
changed_at_length f (y ∷ xs) zero = refl
changed_at_length f (y ∷ xs) (suc i) = ap suc (changed_at_length f xs i)

pub changed_at_other : {X : Type 0} (f : X → X) (xs : List X) (i j : ℕ) (d : X) → (j ≡ i → ⊥) → get_or (changed_at i f xs) j d ≡ get_or xs j d
changed_at_other f [] i j d ne = refl
changed_at_other f (y ∷ xs) zero zero d ne = absurd (ne refl)
changed_at_other f (y ∷ xs) zero (suc j) d ne = refl
changed_at_other f (y ∷ xs) (suc i) zero d ne = refl
changed_at_other f (y ∷ xs) (suc i) (suc j) d ne = changed_at_other f xs i j d (λ e. ne (ap suc e))

-- only the sets of the first n parts matter
pub delivered_same : {P C : Type 0} (time : Time C) (kind : Kind C P) (m : C) (v n : ℕ) (s t : ℕ → ℕ) (xs : List (Place P C)) →
    ((j : ℕ) → j < n → s j ≡ t j) → delivered time kind m v n s xs ≡ delivered time kind m v n t xs
delivered_same time kind m v zero s t xs h = refl
delivered_same time kind m v (suc n) s t [] h = refl
delivered_same time kind m v (suc n) s t (x ∷ xs) h =
    λ i. given time kind m (h 0 (omega arith) i) v x ∷ delivered_same time kind m v n (λ j. s (suc j)) (λ j. t (suc j)) xs (λ j l. h (suc j) (omega arith)) i

pub read_output : {P C : Type 0} (kind : Kind C P) (places : List (Place P C)) (i : ℕ) (d : Place P C) (o : Output) →
    i < length places → o ≡ kind.output (get_or places i d).part → o ≡ output_at kind places i
read_output kind places i d o within out = out ∙ sym (get_or-map (λ q. kind.output q.part) places i d _ within)

module _ {P C : Type 0} (M : Model P C) where
  -- what a source's pins reach is delivered
  pub deliver_part : (m : C) (v : ℕ) (s : Source) (pins : ℕ) (row : Row) (n : ℕ) (xs part : List (Place P C)) → n ≡ M.wiring.parts → n ≤ length xs → Reaches M.wiring s pins row →
      part ≡ delivered M.time M.kind m v (length (take n xs)) (set_of row) (take n xs) → part ++ drop n xs ≡ deliver M m s pins v xs
  deliver_part m v s pins row n xs part e fits r is =
      ap (λ l. l ++ drop n xs) (is ∙ ap (λ k. delivered M.time M.kind m v k (set_of row) (take n xs)) (length-take-le n xs fits))
      ∙ delivered_part M.time M.kind m v n (set_of row) xs
      ∙ ap (λ k. delivered M.time M.kind m v k (set_of row) xs) e
      ∙ delivered_same M.time M.kind m v M.wiring.parts (set_of row) (reached M.wiring s pins) xs r.parts

  module _ (places : List (Place P C)) (m : C) (i : ℕ) (d : Place P C) (o : Output) (row : Row)
      (within : i < length places) (out : o ≡ M.kind.output (get_or places i d).part) (reaches : Reaches M.wiring (Part i) o.pins row) where
    pub fire_output : o ≡ output_of M places i
    fire_output = read_output M.kind places i d o within out

    pub fire_event : (e : Event C) → e ≡ record { moment = m; part = i; pins = o.pins; value = o.value; board = row.board } → e ≡ event_of M places m i
    fire_event e is =
        is ∙ (λ n. record { moment = m; part = i; pins = o.pins; value = o.value; board = reaches.outputs n })
        ∙ (λ n. record { moment = m; part = i; pins = (fire_output n).pins; value = (fire_output n).value; board = reached_board M.wiring (Part i) (fire_output n).pins })

    pub fire_places : (q : Place P C) (n : ℕ) (part : List (Place P C)) → q ≡ record { part = M.kind.internal (get_or places i d).part; last = m } → n ≡ M.wiring.parts → n ≤ length places →
        part ≡ delivered M.time M.kind m o.value (length (take n (set places i q))) (set_of row) (take n (set places i q)) → part ++ drop n (set places i q) ≡ fired M places m i
    fire_places q n part qe e fits is =
        deliver_part m o.value (Part i) o.pins row n (set places i q) part e (subst (λ k. n ≤ k) (sym (length-set places i q)) fits) reaches is
        ∙ ap (deliver M m (Part i) o.pins o.value) (ap (set places i) qe ∙ changed_at_set (λ z. record { part = M.kind.internal z.part; last = m }) places i d within)
        ∙ (λ n. deliver M m (Part i) (fire_output n).pins (fire_output n).value (changed_at i (λ z. record { part = M.kind.internal z.part; last = m }) places))
