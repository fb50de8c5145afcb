-- The swept rows are the flattened network.
use Rattle.std.proofs.Common.{◌≡◌, ℕ, ◌+◌, ◌-◌, ◌*◌, ◌/◌, ◌%◌, ◌<◌, ◌≤◌, ◌↔◌, List, length, take, vec_items, vec_len, sym, refl, ap, ◌∙◌, subst, subst₂, inl, inr, ⊎_elim, zero-add, arith}
use Rattle.std.proofs.lemmas.List.{get_or_past, get_or-take, length-take-le}
use Rattle.std.proofs.lemmas.Bool.{cases_lt}
use Rattle.coupling.specs.Rows.{row_at, set_of, nothing}
use Rattle.coupling.specs.Networks.{first_row}
use Rattle.coupling.specs.Wiring.{Wiring}
use Rattle.coupling.specs.declared.rows.Row.{Row}
use Rattle.coupling.specs.declared.coupling.Source.{Source}
use Rattle.coupling.specs.declared.coupling.Source.TheVariants as source
use Rattle.board.specs.Paths.{Has, Joined, Leads, wire, onwards, pin_of, Flattened, Agrees}
use Rattle.board.specs.Ranks.{rank, place}
use Rattle.board.specs.Sweep.{Target, Hits, Extended, Swept, Small}
use Rattle.board.specs.Wires.{wire_at}
use Rattle.board.specs.declared.pins.Pin.{Pin}
use Rattle.board.specs.declared.pins.Pin.TheVariants.{PartIn, PartOut, BlockIn, BlockOut}
use Rattle.board.specs.declared.pins.Wire.{Wire}
use Rattle.board.specs.declared.parts.Block.{Block}
use Rattle.board.specs.declared.parts.Component.{Component}
use Rattle.board.specs.declared.plan.Plan.{Plan}
use Rattle.board.proofs.PinSets.{empty_set, none_has, same_set}
use Rattle.board.proofs.Routes.{Sound, Fine, fine, part_out, part_in, never_itself, ends_there, joined_fine}
use Rattle.board.proofs.Sweeping.{swept_none, swept_skips, swept_adds, nothing_hits}

-- the plan's invariant, over its lists
pub plan_sound : (plan : Plan) → Sound (vec_items plan.blocks) (vec_items plan.components) (vec_items plan.wires)
plan_sound plan = record {
  parents = λ b h l. plan.parents_first b (h, omega (arith, l, plan.blocks.ok.0));
  in_blocks = λ i l. omega (arith, plan.in_blocks i (omega (arith, l, plan.components.ok.0)), plan.blocks.ok.0);
  block_pins = plan.block_pins;
  part_pins = plan.component_pins;
  wires_sound = λ n l. plan.sound_wires n (omega (arith, l, plan.wires.ok.0));
}

rank_small : (m : ℕ) (p : Pin) → Small p → m ≤ 32 → rank m p ≤ 65
rank_small m (PartIn i k) h l = omega arith
rank_small m (PartOut i k) h l = omega arith
rank_small m (BlockIn b k) h l = omega arith
rank_small m (BlockOut b k) h l = omega arith

-- the first wire of a path
first_wire : (W : List Wire) {p q : Pin} → Leads W p q → (y : Pin) × Joined W p y
first_wire W {q = q} (wire j) = (q, j)
first_wire W (onwards {q = y} j path) = (y, j)

module _ (plan : Plan) (W : List Wire) (ew : W ≡ vec_items plan.wires) where
  abbrev B : List Block
  B = vec_items plan.blocks

  abbrev P : List Component
  P = vec_items plan.components

  pub lent_sound : Sound B P W
  lent_sound = subst (Sound B P) (sym ew) (plan_sound plan)

  pub fine_wire : (w : ℕ) → w < length W → Fine B P (wire_at W w).from (wire_at W w).to
  fine_wire w l = fine B P (wire_at W w) (lent_sound.wires_sound w l)

  module _ (n m : ℕ) (en : n ≡ vec_len plan.components) (em : m ≡ vec_len plan.blocks) where
    parts_are : length P ≡ n
    parts_are = sym (en ∙ plan.components.ok.0)

    blocks_are : length B ≡ m
    blocks_are = sym (em ∙ plan.blocks.ok.0)

    pub none_yet : (rows : List Row) → length rows ≡ 8 * (n + m + m) + 1 → ((r : ℕ) → row_at rows r ≡ nothing) → Swept W n m 0 0 rows
    none_yet rows =
        subst₂ (λ a b. length rows ≡ 8 * (a + b + b) + 1 → ((r : ℕ) → row_at rows r ≡ nothing) → Swept W a b 0 0 rows) parts_are blocks_are
        (swept_none B P W lent_sound rows)

    pub skips : (turn w : ℕ) (rows : List Row) → Swept W n m turn w rows → (rank m (wire_at W w).from + turn ≡ m + m → ⊥) → Swept W n m turn (w + 1) rows
    skips turn w rows =
        subst₂ (λ a b. Swept W a b turn w rows → (rank b (wire_at W w).from + turn ≡ b + b → ⊥) → Swept W a b turn (w + 1) rows) parts_are blocks_are
        (swept_skips B P W lent_sound turn w rows)

    pub adds : (turn w : ℕ) (rows after : List Row) → w < length W → Swept W n m turn w rows → rank m (wire_at W w).from + turn ≡ m + m →
        Extended rows (place n m (wire_at W w).from) (place n m (wire_at W w).to) (wire_at W w).to after → Swept W n m turn (w + 1) after
    adds turn w rows after l =
        subst₂ (λ a b. Swept W a b turn w rows → rank b (wire_at W w).from + turn ≡ b + b →
        Extended rows (place a b (wire_at W w).from) (place a b (wire_at W w).to) (wire_at W w).to after → Swept W a b turn (w + 1) after) parts_are blocks_are
        (swept_adds B P W lent_sound turn w rows after l)

    pub few_parts : n ≤ 64
    few_parts = omega (arith, en, plan.few_components)

    module _ (some : 0 < m) (rows short : List Row) (swept : Swept W n m (m + m + 1) 0 rows) (cut : short ≡ take (8 * (n + 1)) rows) where
      -- each row tells exactly the paths from its pin
      hits_path : (p : Pin) → (x : Pin) → Target x → Leads W p x → Hits (row_at rows (place n m p)) x
      hits_path p x t (wire (v, l, a, b)) = subst (λ y. Hits (row_at rows (place n m y)) x) a (swept.complete v l (inl (omega arith)) x t (inl b))
      hits_path p x t (onwards {q = y} (v, l, a, b) path) =
          subst (λ z. Hits (row_at rows (place n m z)) x) a (swept.complete v l (inl (omega arith)) x t (inr (subst (λ z. Leads W z x) (sym b) path)))

      -- what is left of the table
      kept_row : (r : ℕ) → r < 8 * (n + 1) → row_at short r ≡ row_at rows r
      kept_row r h = ap (λ l. row_at l r) cut ∙ get_or-take (8 * (n + 1)) rows r nothing h

      past_row : (r : ℕ) → 8 * (n + 1) ≤ r → row_at short r ≡ nothing
      past_row r h =
          get_or_past short r nothing (omega (arith, ap length cut ∙ length-take-le (8 * (n + 1)) rows (omega (arith, swept.long, some)), h))

      short_long : length short ≡ 8 * (n + 1)
      short_long = ap length cut ∙ length-take-le (8 * (n + 1)) rows (omega (arith, swept.long, some))

      no_part : (j k : ℕ) (x : Pin) → n ≤ j → Leads W (PartOut j k) x → ⊥
      no_part j k x h path =
          let (y, step) = first_wire W path in
          let there = part_out B P j k (joined_fine _ _ W lent_sound (PartOut j k) y step).from_there in
          omega (arith, h, there.0, en, plan.components.ok.0)

      -- the row of a source's pin, in the shortened table
      to_pin : (s : Source) (k : ℕ) (x : Pin) → k < 8 → Hits (row_at short (first_row s + k)) x → Leads W (pin_of s k) x
      to_pin source.Board k x l h = swept.sound (BlockIn 0 k) (some, l) x (subst (λ y. Hits y x) (ap (row_at short) (zero-add k) ∙ kept_row k (omega arith)) h)
      to_pin (source.Part j) k x l h =
          ⊎_elim
          (λ p. swept.sound (PartOut j k) (p, l) x (subst (λ y. Hits y x) (kept_row (8 * (j + 1) + k) (omega arith)) h))
          (λ p. absurd (nothing_hits _ (past_row (8 * (j + 1) + k) (omega arith)) x h))
          (cases_lt j n)

      from_pin : (s : Source) (k : ℕ) (x : Pin) → k < 8 → Target x → Leads W (pin_of s k) x → Hits (row_at short (first_row s + k)) x
      from_pin source.Board k x l t path = subst (λ y. Hits y x) (sym (ap (row_at short) (zero-add k) ∙ kept_row k (omega arith))) (hits_path (BlockIn 0 k) x t path)
      from_pin (source.Part j) k x l t path =
          ⊎_elim
          (λ p. subst (λ y. Hits y x) (sym (kept_row (8 * (j + 1) + k) (omega arith))) (hits_path (PartOut j k) x t path))
          (λ p. absurd (no_part j k x p path))
          (cases_lt j n)

      pub flat_part : (s : Source) (k i p : ℕ) → k < 8 → i < n → Has (set_of (row_at short (first_row s + k)) i) p ↔ Leads W (pin_of s k) (PartIn i p)
      flat_part s k i p l h = let q : i < 64 = omega (arith, h, few_parts) in ((λ b. to_pin s k (PartIn i p) l (q, b)), (λ path. (from_pin s k (PartIn i p) l q path).1))

      pub flat_board : (s : Source) (k p : ℕ) → k < 8 → Has (row_at short (first_row s + k)).board p ↔ Leads W (pin_of s k) (BlockOut 0 p)
      flat_board s k p l = ((λ b. to_pin s k (BlockOut 0 p) l (refl, b)), (λ path. (from_pin s k (BlockOut 0 p) l refl path).1))

      -- no wire to the own part
      pub flat_itself : (i k : ℕ) → (i < n) × (k < 8) → set_of (row_at short (8 * (i + 1) + k)) i ≡ 0
      flat_itself i k (h, l) =
          empty_set _ (λ p b. never_itself _ _ W lent_sound i k p ((flat_part (source.Part i) k i p l h).0 b))

      blank_set : (r j : ℕ) → row_at short r ≡ nothing → set_of (row_at short r) j ≡ 0
      blank_set r j e = empty_set _ (λ p b. ⊎_elim
          (λ h. nothing_hits _ e (PartIn j p) (h, b))
          (λ h. none_has p (subst (λ x. Has x p) (get_or_past (row_at short r).sets j 0 (subst (λ x. x ≤ j) (sym (ap (λ x. length x.sets) e)) h)) b))
          (cases_lt j 64))

      absent : (s : Source) (k j : ℕ) → k < 8 → n ≤ j → j < 64 → set_of (row_at short (first_row s + k)) j ≡ 0
      absent s k j l h q = empty_set _ (λ p b.
          let there = part_in B P j p (ends_there _ _ W lent_sound (to_pin s k (PartIn j p) l (q, b))) in
          omega (arith, h, there.0, en, plan.components.ok.0))

      pub flat_absent : (r j : ℕ) → n ≤ j → set_of (row_at short r) j ≡ 0
      flat_absent r j h =
          ⊎_elim
          (λ in_table. ⊎_elim
          (λ q. ⊎_elim
          (λ low. subst (λ x. set_of (row_at short x) j ≡ 0) (zero-add r) (absent source.Board r j low h q))
          (λ high. let i = r / 8 - 1 in let k = r % 8 in
          let split : 8 * (i + 1) + k ≡ r = omega arith in
          subst (λ x. set_of (row_at short x) j ≡ 0) split (absent (source.Part i) k j (omega arith) h q))
          (cases_lt r 8))
          (λ q. get_or_past (row_at short r).sets j 0 (subst (λ x. x ≤ j) (sym (ap (λ x. length x.sets) (kept_row r in_table) ∙ swept.whole r)) q))
          (cases_lt j 64))
          (λ out. blank_set r j (past_row r out))
          (cases_lt r (8 * (n + 1)))

      pub flat_long : length short ≡ 8 * (n + 1)
      flat_long = short_long

-- the same, under equal names
pub swept_moved : (W V : List Wire) (n n' m m' turn count : ℕ) (rows : List Row) → W ≡ V → n ≡ n' → m ≡ m' → Swept W n m turn count rows → Swept V n' m' turn count rows
swept_moved W V n n' m m' turn count rows ew en em s =
    subst (λ y. Swept V n' y turn count rows) em (subst (λ y. Swept V y m turn count rows) en (subst (λ y. Swept y n m turn count rows) ew s))

-- two flattened networks of one board agree
pub agrees : (W : List Wire) (n inputs : ℕ) (w v : Wiring) → Flattened W n inputs w → Flattened W n inputs v → Agrees n w v
agrees W n inputs w v f g = record {
  same_rows = λ s k i l h. same_set _ _ (λ p b. (f.to_part s k i p l h).1 ((g.to_part s k i p l h).0 b)) (λ p b. (g.to_part s k i p l h).1 ((f.to_part s k i p l h).0 b));
  same_boards = λ s k l. same_set _ _ (λ p b. (f.to_board s k p l).1 ((g.to_board s k p l).0 b)) (λ p b. (g.to_board s k p l).1 ((f.to_board s k p l).0 b));
}
