-- Rows while a board is flattened.
use Rattle.std.proofs.Common.{◌≡◌, ℕ, zero, suc, ◌+◌, ◌*◌, ◌%◌, ◌^◌, ◌<◌, ◌≤◌, true, ◌⊎◌, List, length, get_or, set, replicate, sym, refl, ap, ◌∙◌, subst, inl, inr, ⊎_elim, arith}
use Rattle.std.proofs.lemmas.Nat.{one_shl}
use Rattle.std.proofs.lemmas.List.{get_or-set_same, get_or-set_other, get_or-replicate, length-set, get_or_default}
use Rattle.std.proofs.lemmas.Bool.{cases_eq, cases_lt, false≢true}
use Rattle.coupling.specs.Rows.{row_at, set_of, nothing, Joins}
use Rattle.coupling.specs.declared.rows.Row.{Row}
use Rattle.board.specs.Paths.{Has, Joined, Leads, wire, onwards}
use Rattle.board.specs.Ranks.{rank, place}
use Rattle.board.specs.Sweep.{InTable, Target, Hits, Small, Only, Extended, Swept}
use Rattle.board.specs.Wires.{wire_at, leads, takes}
use Rattle.board.specs.declared.pins.Pin.{Pin}
use Rattle.board.specs.declared.pins.Pin.TheVariants.{PartIn, PartOut, BlockIn, BlockOut}
use Rattle.board.specs.declared.pins.Wire.{Wire}
use Rattle.board.specs.declared.parts.Block.{Block}
use Rattle.board.specs.declared.parts.Component.{Component}
use Rattle.board.proofs.Routes.{Sound, Fine, fine, rank_up, part_out, own_in, child_out, part_in, child_in, own_out}
use Rattle.board.proofs.PinSets.{none_has, has_one, one_has, has_or, or_has_left, or_has_right}

abbrev board_of : Row → ℕ
board_of r = r.board

abbrev sets_of : Row → List ℕ
sets_of r = r.sets

blank : (i p : ℕ) → i < 64 → Has (get_or (replicate 64 0) i 0) p → ⊥
blank i p h l = none_has p (subst (λ n. Has n p) (get_or-replicate 64 i 0 0 h) l)

one_bit : (p : ℕ) → p < 8 → (1 * 2 ^ p) % 256 ≡ 2 ^ p
one_bit p h = one_shl p 8 h

pub nothing_hits : (r : Row) → r ≡ nothing → (x : Pin) → Hits r x → ⊥
nothing_hits r e (PartIn i p) h = blank i p h.0 (subst (λ y. Has (set_of y i) p) e h.1)
nothing_hits r e (PartOut i p) h = h
nothing_hits r e (BlockIn b p) h = h
nothing_hits r e (BlockOut b p) h = none_has p (subst (λ y. Has (board_of y) p) e h.1)

pub only_part : (i p : ℕ) (e r : Row) → i < 64 → p < 8 → e ≡ nothing → r ≡ record { sets = set e.sets i ((1 * 2 ^ p) % 256); board = e.board } → Only (PartIn i p) r
only_part i p e r h l ne is = record { itself = λ _. (h, here); no_other = others }
  where
    at : (j : ℕ) → set_of r j ≡ get_or (set (replicate 64 0) i (2 ^ p)) j 0
    at j = ap (λ y. set_of y j) is ∙ (λ n. get_or (set (ne n).sets i (one_bit p l n)) j 0)

    here : Has (set_of r i) p
    here = subst (λ n. Has n p) (sym (at i ∙ get_or-set_same (replicate 64 0) i (2 ^ p) 0 h)) (has_one p)

    others : (x : Pin) → Hits r x → PartIn i p ≡ x
    others (PartIn j q) g =
        ⊎_elim
        (λ s. let k = one_has p q (subst (λ n. Has n q) (at j ∙ ap (λ n. get_or (set (replicate 64 0) i (2 ^ p)) n 0) s ∙ get_or-set_same (replicate 64 0) i (2 ^ p) 0 h) g.1) in
        λ n. PartIn (sym s n) (k n))
        (λ s. absurd (blank j q g.0 (subst (λ n. Has n q) (at j ∙ get_or-set_other (replicate 64 0) i j (2 ^ p) 0 s) g.1)))
        (cases_eq j i)
    others (PartOut j q) g = absurd g
    others (BlockIn b q) g = absurd g
    others (BlockOut b q) g = absurd (none_has q (subst (λ n. Has n q) (ap board_of is ∙ ap board_of ne) g.1))

pub only_board : (b p : ℕ) (e r : Row) → b ≡ 0 → p < 8 → e ≡ nothing → r ≡ record { sets = e.sets; board = (1 * 2 ^ p) % 256 } → Only (BlockOut b p) r
only_board b p e r z l ne is = record { itself = λ _. (z, here); no_other = others }
  where
    board : r.board ≡ 2 ^ p
    board = ap board_of is ∙ one_bit p l

    here : Has r.board p
    here = subst (λ n. Has n p) (sym board) (has_one p)

    others : (x : Pin) → Hits r x → BlockOut b p ≡ x
    others (PartIn j q) g = absurd (blank j q g.0 (subst (λ y. Has (get_or y j 0) q) (ap sets_of is ∙ ap sets_of ne) g.1))
    others (PartOut j q) g = absurd g
    others (BlockIn c q) g = absurd g
    others (BlockOut c q) g = let k = one_has p q (subst (λ n. Has n q) board g.1) in λ n. BlockOut ((z ∙ sym g.0) n) (k n)

pub only_none : (to : Pin) (r : Row) → (Target to → ⊥) → r ≡ nothing → Only to r
only_none to r none e = record { itself = λ t. absurd (none t); no_other = λ x h. absurd (nothing_hits r e x h) }

pub only_at : (to there : Pin) (r : Row) → to ≡ there → Only there r → Only to r
only_at to there r e h = subst (λ t. Only t r) (sym e) h

pub row_same : (rows : List Row) (n i : ℕ) (d : Row) → n ≡ i → i < length rows → get_or rows n d ≡ row_at rows i
row_same rows n i d e h = ap (λ k. get_or rows k d) e ∙ get_or_default rows i d nothing h

pub joins_second : (a b c r : Row) → b ≡ c → Joins a b r → Joins a c r
joins_second a b c r e h = subst (λ x. Joins a x r) e h

pub joins_first : (a b c r : Row) → a ≡ b → Joins a c r → Joins b c r
joins_first a b c r e h = subst (λ x. Joins x c r) e h

-- what a joined row reaches
pub hits_either : (a b r : Row) → Joins a b r → (x : Pin) → Hits r x → Hits a x ⊎ Hits b x
hits_either a b r j (PartIn i p) (l, h) = ⊎_elim (λ k. inl (l, k)) (λ k. inr (l, k)) (has_or (set_of a i) (set_of b i) p (subst (λ n. Has n p) (j.sets i l) h))
hits_either a b r j (PartOut i p) h = absurd h
hits_either a b r j (BlockIn c p) h = absurd h
hits_either a b r j (BlockOut c p) (z, h) = ⊎_elim (λ k. inl (z, k)) (λ k. inr (z, k)) (has_or a.board b.board p (subst (λ n. Has n p) j.board h))

pub hits_left : (a b r : Row) → Joins a b r → (x : Pin) → Hits a x → Hits r x
hits_left a b r j (PartIn i p) (l, h) = (l, subst (λ n. Has n p) (sym (j.sets i l)) (or_has_left (set_of a i) (set_of b i) p h))
hits_left a b r j (PartOut i p) h = absurd h
hits_left a b r j (BlockIn c p) h = absurd h
hits_left a b r j (BlockOut c p) (z, h) = (z, subst (λ n. Has n p) (sym j.board) (or_has_left a.board b.board p h))

pub hits_right : (a b r : Row) → Joins a b r → (x : Pin) → Hits b x → Hits r x
hits_right a b r j (PartIn i p) (l, h) = (l, subst (λ n. Has n p) (sym (j.sets i l)) (or_has_right (set_of a i) (set_of b i) p h))
hits_right a b r j (PartOut i p) h = absurd h
hits_right a b r j (BlockIn c p) h = absurd h
hits_right a b r j (BlockOut c p) (z, h) = (z, subst (λ n. Has n p) (sym j.board) (or_has_right a.board b.board p h))

-- two pins have one row only if they are one pin
pub place_once : (n m : ℕ) (p q : Pin) → InTable n m p → InTable n m q → place n m p ≡ place n m q → p ≡ q
place_once n m (PartIn i k) q h g e = absurd h
place_once n m (PartOut i k) (PartIn j l) h g e = absurd g
place_once n m (BlockIn b k) (PartIn j l) h g e = absurd g
place_once n m (BlockOut b k) (PartIn j l) h g e = absurd g
place_once n m (PartOut i k) (PartOut j l) h g e =
    let a : i ≡ j = omega arith in let b : k ≡ l = omega arith in λ t. PartOut (a t) (b t)
place_once n m (PartOut i k) (BlockIn zero l) h g e = absurd (omega arith)
place_once n m (PartOut i k) (BlockIn (suc b) l) h g e = absurd (omega arith)
place_once n m (PartOut i k) (BlockOut b l) h g e = absurd (omega arith)
place_once n m (BlockIn zero k) (PartOut j l) h g e = absurd (omega arith)
place_once n m (BlockIn (suc b) k) (PartOut j l) h g e = absurd (omega arith)
place_once n m (BlockIn zero k) (BlockIn zero l) h g e = λ t. BlockIn 0 (e t)
place_once n m (BlockIn zero k) (BlockIn (suc c) l) h g e = absurd (omega arith)
place_once n m (BlockIn (suc b) k) (BlockIn zero l) h g e = absurd (omega arith)
place_once n m (BlockIn (suc b) k) (BlockIn (suc c) l) h g e =
    let x : suc b ≡ suc c = omega arith in let y : k ≡ l = omega arith in λ t. BlockIn (x t) (y t)
place_once n m (BlockIn zero k) (BlockOut c l) h g e = absurd (omega arith)
place_once n m (BlockIn (suc b) k) (BlockOut c l) h g e = absurd (omega arith)
place_once n m (BlockOut b k) (PartOut j l) h g e = absurd (omega arith)
place_once n m (BlockOut b k) (BlockIn zero l) h g e = absurd (omega arith)
place_once n m (BlockOut b k) (BlockIn (suc c) l) h g e = absurd (omega arith)
place_once n m (BlockOut b k) (BlockOut c l) h g e =
    let x : b ≡ c = omega arith in let y : k ≡ l = omega arith in λ t. BlockOut (x t) (y t)

-- every row stands before the last place
pub place_inside : (n m : ℕ) → (0 < n → 0 < m) → (p : Pin) → InTable n m p → place n m p < 8 * (n + m + m)
place_inside n m some (PartIn i k) h = absurd h
place_inside n m some (PartOut i k) h = let q : 0 < n = omega arith in omega (arith, some q)
place_inside n m some (BlockIn zero k) h = omega arith
place_inside n m some (BlockIn (suc b) k) h = omega arith
place_inside n m some (BlockOut b k) h = omega arith

module _ (blocks : List Block) (parts : List Component) (wires : List Wire) (plan : Sound blocks parts wires) where
  abbrev n : ℕ
  n = length parts

  abbrev m : ℕ
  m = length blocks

  pub some_block : 0 < n → 0 < m
  some_block h = omega (arith, plan.in_blocks 0 h)

  -- both ends of a wire are in range
  pub from_table : (p : Pin) → leads blocks parts p ≡ true → InTable n m p
  from_table (PartIn i k) h = absurd (false≢true h)
  from_table (PartOut i k) h = let t = part_out blocks parts i k h in (t.0, omega (arith, t.1, (plan.part_pins i).1))
  from_table (BlockIn b k) h = let t = own_in blocks parts b k h in (t.0, omega (arith, t.1, (plan.block_pins b).0))
  from_table (BlockOut c k) h = let t = child_out blocks parts c k h in (t.1, omega (arith, t.2, (plan.block_pins c).1))

  to_table : (q : Pin) → takes blocks parts q ≡ true → InTable n m q ⊎ (place n m q ≡ 8 * (n + m + m))
  to_table (PartIn i k) h = inr refl
  to_table (PartOut i k) h = absurd (false≢true h)
  to_table (BlockIn c k) h = let t = child_in blocks parts c k h in inl (t.1, omega (arith, t.2, (plan.block_pins c).0))
  to_table (BlockOut b k) h = let t = own_out blocks parts b k h in inl (t.0, omega (arith, t.1, (plan.block_pins b).1))

  module _ (few_parts : n ≤ 64) (few_blocks : m ≤ 32) where
    pub from_small : (p : Pin) → leads blocks parts p ≡ true → Small p
    from_small (PartIn i k) h = absurd (false≢true h)
    from_small (PartOut i k) h = let t = from_table (PartOut i k) h in (omega (arith, t.0), t.1)
    from_small (BlockIn b k) h = let t = from_table (BlockIn b k) h in (omega (arith, t.0), t.1)
    from_small (BlockOut b k) h = let t = from_table (BlockOut b k) h in (omega (arith, t.0), t.1)

    pub to_small : (q : Pin) → takes blocks parts q ≡ true → Small q
    to_small (PartIn i k) h = let t = part_in blocks parts i k h in (omega (arith, t.0), omega (arith, t.1, (plan.part_pins i).0))
    to_small (PartOut i k) h = absurd (false≢true h)
    to_small (BlockIn c k) h = let t = child_in blocks parts c k h in (omega (arith, t.1), omega (arith, t.2, (plan.block_pins c).0))
    to_small (BlockOut b k) h = let t = own_out blocks parts b k h in (omega (arith, t.0), omega (arith, t.1, (plan.block_pins b).1))

  pub from_place : (rows : List Row) (p : Pin) → length rows ≡ 8 * (n + m + m) + 1 → leads blocks parts p ≡ true → place n m p < length rows
  from_place rows p e h = omega (arith, e, place_inside n m some_block p (from_table p h))

  pub to_place : (rows : List Row) (q : Pin) → length rows ≡ 8 * (n + m + m) + 1 → takes blocks parts q ≡ true → place n m q < length rows
  to_place rows q e h = ⊎_elim (λ t. omega (arith, e, place_inside n m some_block q t)) (λ t. omega (arith, e, t)) (to_table q h)

  -- a rank is at most that of a part's input
  top_rank : (q : Pin) → takes blocks parts q ≡ true → rank m q ≤ m + m + 1
  top_rank (PartIn i k) h = omega arith
  top_rank (PartOut i k) h = absurd (false≢true h)
  top_rank (BlockIn c k) h = omega (arith, (child_in blocks parts c k h).1)
  top_rank (BlockOut b k) h = omega arith

  wire_fine : (w : ℕ) → w < length wires → Fine blocks parts (wire_at wires w).from (wire_at wires w).to
  wire_fine w l = fine blocks parts (wire_at wires w) (plan.wires_sound w l)

  pub swept_none : (rows : List Row) → length rows ≡ 8 * (n + m + m) + 1 → ((r : ℕ) → row_at rows r ≡ nothing) → Swept wires n m 0 0 rows
  swept_none rows e all = record {
    long = e;
    whole = λ r. ap (λ x. length (sets_of x)) (all r);
    none_last = λ x h. nothing_hits _ (all _) x h;
    sound = λ p t x h. absurd (nothing_hits _ (all _) x h);
    complete = λ w l taken x t way.
        let f = wire_fine w l in
        absurd (⊎_elim
        (λ h. omega (arith, h, rank_up blocks parts plan.parents (wire_at wires w).from (wire_at wires w).to f, top_rank (wire_at wires w).to f.to_there))
        (λ h. omega (arith, h.1)) taken);
  }

  pub swept_skips : (turn w : ℕ) (rows : List Row) → Swept wires n m turn w rows → (rank m (wire_at wires w).from + turn ≡ m + m → ⊥) → Swept wires n m turn (w + 1) rows
  swept_skips turn w rows s other = record {
    long = s.long;
    whole = s.whole;
    none_last = s.none_last;
    sound = s.sound;
    complete = λ v l taken. s.complete v l (⊎_elim inl (λ h. inr (h.0, before v h.0 h.1)) taken);
  }
    where
      before : (v : ℕ) → rank m (wire_at wires v).from + turn ≡ m + m → v < w + 1 → v < w
      before v e l = ⊎_elim (λ k. k) (λ k. let same : v ≡ w = omega arith in absurd (other (ap (λ y. rank m (wire_at wires y).from + turn) (sym same) ∙ e))) (cases_lt v w)

  pub swept_turn : (turn : ℕ) (rows : List Row) → Swept wires n m turn (length wires) rows → Swept wires n m (turn + 1) 0 rows
  swept_turn turn rows s = record {
    long = s.long;
    whole = s.whole;
    none_last = s.none_last;
    sound = s.sound;
    complete = λ v l taken. s.complete v l (⊎_elim
        (λ h. ⊎_elim (λ k. inl k) (λ k. inr (omega (arith, h, k), l)) (cases_lt (m + m) (rank m (wire_at wires v).from + turn)))
        (λ h. absurd (omega (arith, h.1))) taken);
  }

  pub swept_adds : (turn w : ℕ) (rows after : List Row) → w < length wires → Swept wires n m turn w rows → rank m (wire_at wires w).from + turn ≡ m + m →
      Extended rows (place n m (wire_at wires w).from) (place n m (wire_at wires w).to) (wire_at wires w).to after → Swept wires n m turn (w + 1) after
  swept_adds turn w rows after lw s level e = record {
    long = ap length e.stored ∙ length-set rows at e.joined ∙ s.long;
    whole = whole;
    none_last = λ x h. s.none_last x (subst (λ y. Hits y x) (other (8 * (n + m + m)) (λ z. omega (arith, z, place_inside n m some_block p in_table))) h);
    sound = sound;
    complete = complete;
  }
    where
      p : Pin
      p = (wire_at wires w).from

      q : Pin
      q = (wire_at wires w).to

      at : ℕ
      at = place n m p

      f : Fine blocks parts p q
      f = wire_fine w lw

      in_table : InTable n m p
      in_table = from_table p f.from_there

      inside : at < length rows
      inside = from_place rows p s.long f.from_there

      here : row_at after at ≡ e.joined
      here = ap (λ l. row_at l at) e.stored ∙ get_or-set_same rows at e.joined nothing inside

      other : (r : ℕ) → (r ≡ at → ⊥) → row_at after r ≡ row_at rows r
      other r ne = ap (λ l. row_at l r) e.stored ∙ get_or-set_other rows at r e.joined nothing ne

      whole : (r : ℕ) → length (row_at after r).sets ≡ 64
      whole r = ⊎_elim
          (λ z. ap (λ k. length (sets_of (row_at after k))) z ∙ ap (λ y. length (sets_of y)) here ∙ e.whole)
          (λ z. ap (λ y. length (sets_of y)) (other r z) ∙ s.whole r) (cases_eq r at)

      -- the row of the target tells of the paths from it
      behind : (x : Pin) → Hits (row_at rows (place n m q)) x → Leads wires q x
      behind x h = ⊎_elim (λ t. s.sound q t x h) (λ t. absurd (s.none_last x (subst (λ k. Hits (row_at rows k) x) t h))) (to_table q f.to_there)

      step : Joined wires p q
      step = (w, lw, refl, refl)

      sound_here : (x : Pin) → Hits e.joined x → Leads wires p x
      sound_here x h = ⊎_elim
          (λ old. s.sound p in_table x old)
          (λ new. ⊎_elim
          (λ a. wire (subst (Joined wires p) (e.is_alone.no_other x a) step))
          (λ b. onwards step (behind x b))
          (hits_either e.alone _ e.onto e.is_onto x new))
          (hits_either _ e.onto e.joined e.is_joined x h)

      sound : (r : Pin) → InTable n m r → (x : Pin) → Hits (row_at after (place n m r)) x → Leads wires r x
      sound r t x h = ⊎_elim
          (λ z. let same : p ≡ r = sym (place_once n m r p t in_table z) in
          subst (λ y. Leads wires y x) same (sound_here x (subst (λ y. Hits y x) (ap (row_at after) z ∙ here) h)))
          (λ z. s.sound r t x (subst (λ y. Hits y x) (other (place n m r) z) h)) (cases_eq (place n m r) at)

      -- what was reached is still reached
      kept : (r : ℕ) (x : Pin) → Hits (row_at rows r) x → Hits (row_at after r) x
      kept r x h = ⊎_elim
          (λ z. subst (λ y. Hits y x) (sym (ap (row_at after) z ∙ here)) (hits_left _ e.onto e.joined e.is_joined x (subst (λ k. Hits (row_at rows k) x) z h)))
          (λ z. subst (λ y. Hits y x) (sym (other r z)) h) (cases_eq r at)

      -- a path from the target has been taken, since its first wire starts at a higher rank
      ahead : (x : Pin) → Target x → Leads wires q x → Hits (row_at rows (place n m q)) x
      ahead x t (wire (v, l, a, b)) =
          subst (λ y. Hits (row_at rows (place n m y)) x) a (s.complete v l (inl (first v l a)) x t (inl b))
        where
          first : (v : ℕ) → v < length wires → (wire_at wires v).from ≡ q → m + m < rank m (wire_at wires v).from + turn
          first v l a = omega (arith, level, rank_up blocks parts plan.parents p q f, ap (rank m) a)
      ahead x t (onwards {q = y} (v, l, a, b) path) =
          subst (λ z. Hits (row_at rows (place n m z)) x) a (s.complete v l (inl (first v l a)) x t (inr (subst (λ z. Leads wires z x) (sym b) path)))
        where
          first : (v : ℕ) → v < length wires → (wire_at wires v).from ≡ q → m + m < rank m (wire_at wires v).from + turn
          first v l a = omega (arith, level, rank_up blocks parts plan.parents p q f, ap (rank m) a)

      onto_hits : (x : Pin) → Target x → (q ≡ x) ⊎ Leads wires q x → Hits e.onto x
      onto_hits x t (inl z) = hits_left e.alone _ e.onto e.is_onto x (subst (λ y. Hits e.alone y) z (e.is_alone.itself (subst Target (sym z) t)))
      onto_hits x t (inr path) = hits_right e.alone _ e.onto e.is_onto x (ahead x t path)

      complete : (v : ℕ) → v < length wires → (m + m < rank m (wire_at wires v).from + turn) ⊎ ((rank m (wire_at wires v).from + turn ≡ m + m) × (v < w + 1)) →
          (x : Pin) → Target x → ((wire_at wires v).to ≡ x) ⊎ Leads wires (wire_at wires v).to x → Hits (row_at after (place n m (wire_at wires v).from)) x
      complete v l taken x t way = ⊎_elim
          (λ z. subst (λ k. Hits (row_at after (place n m (wire_at wires k).from)) x) (sym z)
          (subst (λ y. Hits y x) (sym here) (hits_right _ e.onto e.joined e.is_joined x (onto_hits x t (subst (λ k. ((wire_at wires k).to ≡ x) ⊎ Leads wires (wire_at wires k).to x) z way)))))
          (λ z. kept _ x (s.complete v l (⊎_elim inl (λ h. inr (h.0, omega (arith, h.1, z))) taken) x t way)) (cases_eq v w)
