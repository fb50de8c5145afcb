-- The imminent part, found one part after another; and there is only one.
use Rattle.std.proofs.Common.{◌≡◌, ℕ, ◌+◌, ◌<◌, true, false, ◌⊎◌, List, [], ◌∷◌, ◌++◌, map, length, get_or, take, Some, None, Option, sym, refl, ap, ◌∙◌, subst, inl, inr, ⊎_elim, arith}
use Rattle.std.proofs.lemmas.List.{get_or_append_left, get_or-append_right, get_or_past, get_or_push, length-map, length-take-le, map_more}
use Rattle.std.proofs.lemmas.Option.{same_Some}
use Rattle.std.proofs.lemmas.Bool.{cases_order, cases_lt, cases_Bool, both_ways, cond-true, cond-false}
use Rattle.clock.specs.Time.{Time, Laws}
use Rattle.part.specs.Kind.{Kind}
use Rattle.session.specs.declared.places.Place.{Place}
use Rattle.session.specs.declared.scan.Due.{Due}
use Rattle.session.specs.Machine.{Imminent, First, due}
use Rattle.session.specs.Scan.{sooner}

pub none_some : {X : Type 0} (a : X) (o : Option X) → o ≡ None → o ≡ Some a → ⊥
none_some a o p q = cc

pub reflexive : {C : Type 0} (time : Time C) → Laws time → (a b : C) → a ≡ b → time.leq a b ≡ true
reflexive time laws a b e = subst (λ x. time.leq a x ≡ true) e (⊎_elim (λ h. h) (λ h. h) (laws.total a a))

module _ {C : Type 0} where
  -- one more at the end
  at_push : (ds : List (Option C)) (x : Option C) (j : ℕ) →
      (get_or (ds ++ x ∷ []) j None ≡ get_or ds j None) ⊎ ((j ≡ length ds) × (get_or (ds ++ x ∷ []) j None ≡ x) × (get_or ds j None ≡ None))
  at_push ds x j =
      ⊎_elim
      (λ e. inr (e, get_or_push ds x None j (sym e), get_or_past ds j None (omega arith)))
      (⊎_elim
      (λ h. inl (get_or_append_left ds (x ∷ []) None j h))
      (λ h. inl (get_or-append_right ds (x ∷ []) (length ds) j None refl (omega arith) ∙ get_or_past (x ∷ []) _ None (omega arith) ∙ sym (get_or_past ds j None (omega arith)))))
      (cases_order j (length ds))

  -- what is due has a place
  pub due_inside : (ds : List (Option C)) (i : ℕ) (m : C) → get_or ds i None ≡ Some m → i < length ds
  due_inside ds i m e = ⊎_elim (λ h. h) (λ h. absurd (none_some m _ (get_or_past ds i None h) e)) (cases_lt i (length ds))

module _ {C : Type 0} (time : Time C) (laws : Laws time) where
  later : (ds : List (Option C)) (i : ℕ) → First time ds None → First time (ds ++ None ∷ []) None
  later ds i h j = ⊎_elim (λ e. e ∙ h j) (λ e. e.1) (at_push ds None j)

  stays : (ds : List (Option C)) (x : Option C) (d : Due C) → ((t : C) → x ≡ Some t → time.leq d.moment t ≡ true) →
      First time ds (Some d) → First time (ds ++ x ∷ []) (Some d)
  stays ds x d after h = record {
    is_due = ⊎_elim (λ e. e ∙ h.is_due) (λ e. absurd (none_some _ _ e.2 h.is_due)) (at_push ds x d.part);
    earliest = λ j t p. ⊎_elim (λ e. h.earliest j t (sym e ∙ p)) (λ e. after t (sym e.1 ∙ p)) (at_push ds x j);
    lowest = λ j l p. ⊎_elim (λ e. h.lowest j l (sym e ∙ p)) (λ e. omega (arith, e.0, due_inside ds d.part _ h.is_due)) (at_push ds x j);
  }

  starts : (ds : List (Option C)) (m : C) → First time ds None → First time (ds ++ Some m ∷ []) (Some (record { moment = m; part = length ds }))
  starts ds m h = record {
    is_due = get_or_push ds (Some m) None (length ds) refl;
    earliest = λ j t p. ⊎_elim (λ e. absurd (none_some t _ (h j) (sym e ∙ p))) (λ e. reflexive time laws m t (same_Some m t (sym e.1 ∙ p))) (at_push ds (Some m) j);
    lowest = λ j l p. ⊎_elim (λ e. none_some m _ (h j) (sym e ∙ p)) (λ e. omega (arith, e.0)) (at_push ds (Some m) j);
  }

  beats : (ds : List (Option C)) (d : Due C) (m : C) → time.leq d.moment m ≡ false → First time ds (Some d) →
      First time (ds ++ Some m ∷ []) (Some (record { moment = m; part = length ds }))
  beats ds d m less h =
      let before : time.leq m d.moment ≡ true = ⊎_elim (λ p. absurd (both_ways _ less p)) (λ p. p) (laws.total d.moment m) in
      record {
        is_due = get_or_push ds (Some m) None (length ds) refl;
        earliest = λ j t p. ⊎_elim (λ e. laws.transitive m d.moment t before (h.earliest j t (sym e ∙ p))) (λ e. reflexive time laws m t (same_Some m t (sym e.1 ∙ p))) (at_push ds (Some m) j);
        lowest = λ j l p. ⊎_elim (λ e. both_ways _ less (h.earliest j m (sym e ∙ p))) (λ e. omega (arith, e.0)) (at_push ds (Some m) j);
      }

  pub first_more : (ds : List (Option C)) (best : Option (Due C)) (x : Option C) → First time ds best → First time (ds ++ x ∷ []) (sooner time best (length ds) x)
  first_more ds None None h = later ds 0 h
  first_more ds (Some d) None h = stays ds None d (λ t p. absurd (none_some t None refl p)) h
  first_more ds None (Some m) h = starts ds m h
  first_more ds (Some d) (Some m) h =
      ⊎_elim
      (λ t. subst (First time (ds ++ Some m ∷ [])) (sym (cond-true _ _ _ t)) (stays ds (Some m) d (λ u p. subst (λ y. time.leq d.moment y ≡ true) (same_Some m u p) t) h))
      (λ f. subst (First time (ds ++ Some m ∷ [])) (sym (cond-false _ _ _ f)) (beats ds d m f h))
      (cases_Bool (time.leq d.moment m))

  -- of two that are imminent, both are the same
  pub imminent_only : (ds : List (Option C)) (m n : C) (i j : ℕ) → Imminent time ds m i → Imminent time ds n j → (m ≡ n) × (i ≡ j)
  imminent_only ds m n i j h k =
      let same : m ≡ n = laws.antisymmetric m n (h.earliest j n k.is_due) (k.earliest i m h.is_due) in (
        same,
        ⊎_elim (λ e. e)
            (⊎_elim
            (λ l. absurd (k.lowest i l (h.is_due ∙ ap Some same)))
            (λ l. absurd (h.lowest j l (k.is_due ∙ ap Some (sym same)))))
            (cases_order i j),
      )

-- one more part of those in memory
pub first_next : {P C : Type 0} (time : Time C) → Laws time → (kind : Kind C P) (places : List (Place P C)) (i : ℕ) (p : Place P C) (x : Option C) (best r : Option (Due C)) →
    i < length places → p ≡ get_or places i p → x ≡ due time kind p → r ≡ sooner time best i x →
    First time (map (due time kind) (take i places)) best → First time (map (due time kind) (take (i + 1) places)) r
first_next time laws kind places i p x best r within read is came h =
    let f = due time kind in
    let long : length (map f (take i places)) ≡ i = length-map (take i places) f ∙ length-take-le i places (omega arith) in
    let more : map f (take (i + 1) places) ≡ map f (take i places) ++ x ∷ [] =
    map_more f places i p within ∙ ap (λ y. map f (take i places) ++ y ∷ []) (ap f (sym read) ∙ sym is) in
    subst (λ l. First time l r) (sym more)
    (subst (First time (map f (take i places) ++ x ∷ [])) (ap (λ n. sooner time best n x) long ∙ sym came) (first_more time laws (map f (take i places)) best x h))
