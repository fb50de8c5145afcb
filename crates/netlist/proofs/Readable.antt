-- A file that writes a drawing is accepted.
use Rattle.std.proofs.Common.{◌≡◌, ℕ, ◌+◌, ◌<◌, ◌≤◌, List, [], ◌∷◌, ◌++◌, length, Some, None, Ok, Option, sym, refl, ap, ◌∙◌, subst, inl, inr, ⊎_elim, arith}
use Rattle.std.specs.List.{join_with_byte}
use Rattle.std.proofs.lemmas.List.{append_assoc, length-append, length_push}
use Rattle.std.proofs.lemmas.Bool.{cases_lt}
use Rattle.clock.specs.Time.{Time}
use Rattle.part.specs.declared.catalogue.Catalogue.{Catalogue}
use Rattle.board.specs.declared.parts.Block.{Block}
use Rattle.names.specs.declared.name.Name.{Name}
use Rattle.drawing.specs.Calls.{Sheet, blank, next_site}
use Rattle.drawing.specs.declared.ends.Site.{Site}
use Rattle.drawing.proofs.Added.{passed}
use Rattle.grammar.specs.Pieces.{split}
use Rattle.grammar.specs.Statements.{InRange, HeaderInRange, written, header_fields}
use Rattle.grammar.specs.declared.statement.Statement.{Statement}
use Rattle.grammar.specs.declared.statement.Statement.TheVariants.{Open, Part, Wire, Close}
use Rattle.grammar.proofs.Asking.{ok_err}
use Rattle.grammar.proofs.Rejoining.{Free, split_line, split_some}
use Rattle.grammar.proofs.Written.{item_written, board_written, header_written, written_free, header_free}
use Rattle.netlist.specs.Drawings.{Takes, LineSays}
use Rattle.netlist.specs.Files.{Reading, Closed, Goes, Agrees, LinesGive, FileGives}
use Rattle.netlist.specs.Netlists.{Draws, lines_of, counts_of, Writes}
use Rattle.netlist.proofs.Going.{closed_here, goes_on}
use Rattle.netlist.proofs.Taken.{none_some, placed_ok}

-- a closed board has no place for a block
no_site : (blocks : List Block) (current : Option ℕ) (site : Site) → current ≡ None → 0 < length blocks → next_site blocks current ≡ Some site → ⊥
no_site blocks (Some b) site closed some e = none_some b (sym closed)
no_site [] None site closed some e = omega arith
no_site (b ∷ blocks) None site closed some e = none_some site e

says_open : (current : Option ℕ) (name : Name) (ins outs n : ℕ) → InRange (Open name ins outs) → LineSays current (written (Open name ins outs)) n (Ok (Open name ins outs))
says_open None name ins outs n range = board_written name ins outs n range
says_open (Some b) name ins outs n range = item_written (Open name ins outs) n range

says_inside : (current : Option ℕ) (b : ℕ) (st : Statement) (n : ℕ) → current ≡ Some b → InRange st → LineSays current (written st) n (Ok st)
says_inside current b st n e range = subst (λ c. LineSays c (written st) n (Ok st)) (sym e) (item_written st n range)

-- the line at the front of a text
split_front : (line more rest : List ℕ) → Free 10 line → split 10 ((line ++ 10 ∷ more) ++ rest) ≡ line ∷ split 10 (more ++ rest)
split_front line more rest free = ap (split 10) (append_assoc line (10 ∷ more) rest) ∙ split_line 10 line (more ++ rest) free

room : (n most : ℕ) → (most ≤ n → ⊥) → n < most
room n most h = ⊎_elim (λ l. l) (λ l. absurd (h l)) (cases_lt n most)

-- at most as many blocks, parts and wires as a drawing holds
record Few {P : Type 0} (s : Sheet P) : Type 0 where
  blocks : length s.plan.blocks ≤ 32
  parts : length s.plan.components ≤ 64
  wires : length s.plan.wires ≤ 256

module _ {C : Type 0} (time : Time C) where
  -- a statement that is accepted finds the board not closed, and its line says it there
  takes_open : (st : Statement) (s t : Sheet (Catalogue C)) → Takes time st s t (Ok tt) → Closed s → ⊥
  takes_open (Open name ins outs) s t h closed = let added = placed_ok _ _ _ s t h in no_site s.plan.blocks s.current added.where_to closed.0 closed.1 added.placed
  takes_open (Part name k) s t h closed = let added = placed_ok _ _ _ s t h in none_some added.where_to (sym closed.0 ∙ added.placed)
  takes_open (Wire from to) s t h closed = let added = placed_ok _ _ _ s t h in none_some added.where_to (sym closed.0 ∙ added.placed)
  takes_open Close s t (inl h) closed = ok_err tt _ h.1
  takes_open Close s t (inr h) closed = none_some h.0 (sym closed.0 ∙ h.1)

  takes_says : (st : Statement) (s t : Sheet (Catalogue C)) (n : ℕ) → InRange st → Takes time st s t (Ok tt) → LineSays s.current (written st) n (Ok st)
  takes_says (Open name ins outs) s t n range h = says_open s.current name ins outs n range
  takes_says (Part name k) s t n range h = let added = placed_ok _ _ _ s t h in says_inside s.current added.where_to (Part name k) n added.placed range
  takes_says (Wire from to) s t n range h = let added = placed_ok _ _ _ s t h in says_inside s.current added.where_to (Wire from to) n added.placed range
  takes_says Close s t n range (inl h) = absurd (ok_err tt _ h.1)
  takes_says Close s t n range (inr h) = says_inside s.current h.0 Close n h.1 range

  takes_few : (st : Statement) (s t : Sheet (Catalogue C)) → Few s → Takes time st s t (Ok tt) → Few t
  takes_few (Open name ins outs) s t few h =
      let added = placed_ok _ _ _ s t h in
      let pins = passed _ added.what added.passed in
      let free = passed _ added.what pins.1 in
      let space = room (length s.plan.blocks) 32 (passed _ added.what free.1).0 in
      subst Few (sym added.is) record { blocks = omega (arith, length_push s.plan.blocks added.what); parts = few.parts; wires = few.wires }
  takes_few (Part name k) s t few h =
      let added = placed_ok _ _ _ s t h in
      let pins = passed _ added.what added.passed in
      let free = passed _ added.what pins.1 in
      let space = room (length s.plan.components) 64 (passed _ added.what free.1).0 in
      subst Few (sym added.is) record { blocks = few.blocks; parts = omega (arith, length_push s.plan.components added.what); wires = few.wires }
  takes_few (Wire from to) s t few h =
      let added = placed_ok _ _ _ s t h in
      let pins = passed _ added.what added.passed in
      let space = room (length s.plan.wires) 256 (passed _ added.what pins.1).0 in
      subst Few (sym added.is) record { blocks = few.blocks; parts = few.parts; wires = omega (arith, length_push s.plan.wires added.what) }
  takes_few Close s t few (inl h) = absurd (ok_err tt _ h.1)
  takes_few Close s t few (inr h) = subst Few (sym h.3) record { blocks = few.blocks; parts = few.parts; wires = few.wires }

  draws_few : (drawing : List Statement) (s t : Sheet (Catalogue C)) → Few s → Draws time drawing s t → Few t
  draws_few [] s t few h = subst Few (sym h) few
  draws_few (st ∷ more) s t few h = draws_few more h.1.0 t (takes_few st s h.1.0 few h.1.1) h.1.2

  pub draws_reads : (drawing : List Statement) (rest : List ℕ) (n bytes : ℕ) (s : Sheet (Catalogue C)) (d : Reading C) → Draws time drawing s d.sheet → Closed d.sheet →
      d.bytes ≡ bytes + length (lines_of drawing) → Goes time (split 10 (lines_of drawing ++ rest)) n bytes s (Ok d)
  draws_reads [] rest n bytes s d drawn closed counted =
      let count : d.bytes ≡ bytes = omega arith in
      subst (λ out. Goes time (split 10 rest) n bytes s out) (ap Ok (λ i. record { sheet = sym drawn i; bytes = sym count i })) (closed_here time (split 10 rest) n bytes s (subst Closed drawn closed))
  draws_reads (st ∷ more) rest n bytes s d drawn closed counted =
      let line = written st in
      let lines = lines_of more in
      let t = drawn.1.0 in
      let takes = drawn.1.1 in
      let count : d.bytes ≡ bytes + (length line + 1) + length lines = omega (arith, length-append line (10 ∷ lines)) in
      subst (λ pieces. Goes time pieces n bytes s (Ok d)) (sym (split_front line lines rest (written_free st drawn.0)))
      (goes_on time s (takes_open st s t takes) line (split 10 (lines ++ rest)) n bytes t (Ok d) (split_some 10 (lines ++ rest))
      (Ok st, takes_says st s t n drawn.0 takes, inl (t, takes, refl))
      (draws_reads more rest (n + 1) (bytes + (length line + 1)) t d drawn.1.2 closed count))

  agrees_itself : (d : Reading C) → Agrees (counts_of d.sheet) d (Ok d)
  agrees_itself d = inr ((λ bad. bad refl), inr ((λ bad. bad refl), inr ((λ bad. bad refl), refl)))

  pub file_reads : (file : List ℕ) (drawing : List Statement) (d : Reading C) → Writes time file drawing d → FileGives time file (Ok d)
  file_reads file drawing d w =
      let few = draws_few drawing blank d.sheet record { blocks = omega arith; parts = omega arith; wires = omega arith } w.drawn in
      let counts = counts_of d.sheet in
      let range : HeaderInRange counts = (omega (arith, few.blocks), omega (arith, few.parts), omega (arith, few.wires)) in
      let top = join_with_byte 32 (header_fields counts) in
      let lines = lines_of drawing in
      let pieces : split 10 file ≡ top ∷ split 10 (lines ++ w.rest) = ap (split 10) w.begins ∙ split_front top lines w.rest (header_free counts range) in
      let count : d.bytes ≡ length top + 1 + length lines = omega (arith, w.bytes, length-append top (10 ∷ lines)) in
      inr (
        (λ bad. bad w.sized),
        subst (λ p. LinesGive time p (Ok d)) (sym pieces)
            (inr (counts, header_written counts 1 range, inr (d, draws_reads drawing w.rest 2 (length top + 1) blank d w.drawn w.closed count, agrees_itself d))),
      )
