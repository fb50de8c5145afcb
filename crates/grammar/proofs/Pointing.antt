-- Wire ends as they are written.
use Rattle.std.proofs.Common.{◌≡◌, ℕ, ◌+◌, false, List, [], ◌∷◌, ◌++◌, sym, ap, ◌∙◌, arith}
use Rattle.std.proofs.lemmas.List.{append_assoc, same_from_push}
use Rattle.std.proofs.lemmas.Bool.{both_ways}
use Rattle.names.specs.Names.{well_named}
use Rattle.names.specs.Names.{name_text}
use Rattle.drawing.specs.declared.ends.WireEnd.{WireEnd}
use Rattle.drawing.specs.declared.ends.WireEnd.TheVariants.{Own, Child}
use Rattle.drawing.specs.Children.{end_pin}
use Rattle.grammar.specs.Fields.{Pointed, EndOf}

-- what stands before the point
pub before_point : WireEnd → List ℕ
before_point (Own k) = 45 ∷ []
before_point (Child name k) = name_text name

pub end_pointed : (e : WireEnd) (text : List ℕ) → EndOf e text → Pointed (before_point e) (end_pin e) text
unfolding before_point
end_pointed (Own k) text h = record { pin = h.pin; written = h.written }
end_pointed (Child name k) text h = record { pin = h.pin; written = h.written }

pub same_pointed : (child other : List ℕ) (k l : ℕ) (text : List ℕ) → Pointed child k text → Pointed other l text → (child ≡ other) × (k ≡ l)
same_pointed child other k l text p q =
    let same : (child ++ 46 ∷ []) ++ (48 + k) ∷ [] ≡ (other ++ 46 ∷ []) ++ (48 + l) ∷ [] = append_assoc child (46 ∷ []) ((48 + k) ∷ []) ∙ p.written ∙ sym q.written ∙ sym (append_assoc other (46 ∷ []) ((48 + l) ∷ [])) in
    let last = same_from_push (child ++ 46 ∷ []) (other ++ 46 ∷ []) (48 + k) (48 + l) same in
    ((same_from_push child other 46 46 last.0).0, omega (arith, last.1))

-- neither a hyphen nor a name
pub no_end : (child : List ℕ) (k : ℕ) (text : List ℕ) → Pointed child k text → (child ≡ 45 ∷ [] → ⊥) → well_named child ≡ false → (e : WireEnd) → EndOf e text → ⊥
unfolding before_point
no_end child k text p no_hyphen no_name (Own l) h = no_hyphen (same_pointed child (45 ∷ []) k l text p (end_pointed (Own l) text h)).0
no_end child k text p no_hyphen no_name (Child name l) h =
    both_ways (well_named child) no_name (ap well_named (same_pointed child (name_text name) k l text p (end_pointed (Child name l) text h)).0 ∙ h.spelled.well)
