-- A file that is accepted writes a drawing.
use Rattle.std.proofs.Common.{◌≡◌, ℕ, ◌+◌, ◌-◌, ◌<◌, List, [], ◌∷◌, ◌++◌, length, get_or, Some, None, Ok, Err, Option, Result, sym, refl, ap, ◌∙◌, subst, inl, inr, ⊎_elim, arith}
use Rattle.std.specs.List.{join_with_byte}
use Rattle.std.proofs.lemmas.List.{append_assoc, length-append}
use Rattle.std.proofs.lemmas.Bool.{cases_eq, cases_lt}
use Rattle.clock.specs.Time.{Time}
use Rattle.part.specs.declared.catalogue.Catalogue.{Catalogue}
use Rattle.drawing.specs.Calls.{Sheet, blank}
use Rattle.grammar.specs.Pieces.{split}
use Rattle.grammar.specs.Rules.{HeaderLine}
use Rattle.grammar.specs.Statements.{InRange, written, header_fields}
use Rattle.grammar.specs.Verdicts.{of_text, of_line, of_board}
use Rattle.grammar.specs.declared.fault.Verdict.{Verdict}
use Rattle.grammar.specs.declared.statement.Header.{Header}
use Rattle.grammar.specs.declared.statement.Statement.{Statement}
use Rattle.grammar.proofs.Asking.{asks_ok, asks_well, ok_err}
use Rattle.grammar.proofs.Rejoining.{rejoined_split}
use Rattle.grammar.proofs.Spoken.{item_says, board_says, header_says}
use Rattle.netlist.specs.Drawings.{Takes, LineSays, Drawn}
use Rattle.netlist.specs.Files.{Reading, Closed, Goes, Agrees, Sized, LinesGive, FileGives}
use Rattle.netlist.specs.Netlists.{Draws, lines_of, counts_of, text_of, Writes}
use Rattle.netlist.specs.Verdicts.{refused}
use Rattle.netlist.proofs.Taken.{ok_same}

-- what is not unequal is equal
settled : (m n : ℕ) → ((m ≡ n → ⊥) → ⊥) → m ≡ n
settled m n h = ⊎_elim (λ e. e) (λ ne. absurd (h ne)) (cases_eq m n)

below : (m n : ℕ) → ((m < n → ⊥) → ⊥) → m < n
below m n h = ⊎_elim (λ l. l) (λ l. absurd (h (λ k. omega arith))) (cases_lt m n)

sized_settled : (file : List ℕ) → ((Sized file → ⊥) → ⊥) → Sized file
sized_settled file h = record {
  some = below 0 (length file) (λ bad. h (λ s. bad s.some));
  few = below (length file) 32769 (λ bad. h (λ s. bad s.few));
  ended = settled (get_or file (length file - 1) 0) 10 (λ bad. h (λ s. bad s.ended));
}

pub says_written : (current : Option ℕ) (line : List ℕ) (n : ℕ) (st : Statement) → LineSays current line n (Ok st) → InRange st × (written st ≡ line)
says_written None line n st h = let says = board_says line n st h in (says.0, says.1)
says_written (Some b) line n st h = item_says line n st h

module _ {C : Type 0} (time : Time C) where
  -- an accepted line writes a statement that the builder accepts
  record Accepted (line : List ℕ) (s t : Sheet (Catalogue C)) : Type 0 where
    statement : Statement
    range : InRange statement
    text : written statement ≡ line
    takes : Takes time statement s t (Ok tt)

  drawn_accepted : (said : Result Statement Verdict) (line : List ℕ) (n : ℕ) (s t : Sheet (Catalogue C)) → LineSays s.current line n said → Drawn time said n s (Ok t) → Accepted line s t
  drawn_accepted (Err v) line n s t says h = absurd (ok_err t v h)
  drawn_accepted (Ok st) line n s t says (inl h) =
      let text = says_written s.current line n st says in
      record { statement = st; range = text.0; text = text.1; takes = subst (λ x. Takes time st s x (Ok tt)) (sym (ok_same h.0 t h.2)) h.1 }
  drawn_accepted (Ok st) line n s t says (inr h) = absurd (ok_err t (refused h.0 n) h.3)

  -- the lines write statements that draw what is read
  record Goes_on (text : List ℕ) (bytes : ℕ) (s : Sheet (Catalogue C)) (d : Reading C) : Type 0 where
    drawing : List Statement
    drawn : Draws time drawing s d.sheet
    closed : Closed d.sheet
    rest : List ℕ
    begins : text ≡ lines_of drawing ++ rest
    counted : d.bytes ≡ bytes + length (lines_of drawing)

  -- the board is closed: what stands here is not read
  stops : (text : List ℕ) (bytes : ℕ) (s : Sheet (Catalogue C)) (d : Reading C) → Closed s → ◌≡◌ {A = Result (Reading C) Verdict} (Ok d) (Ok (record { sheet = s; bytes = bytes })) → Goes_on text bytes s d
  stops text bytes s d closed e =
      let same : d ≡ record { sheet = s; bytes = bytes } = ok_same (record { sheet = s; bytes = bytes }) d e in
      record {
        drawing = [];
        drawn = ap (λ (x : Reading C). x.sheet) same;
        closed = subst (λ (x : Reading C). Closed x.sheet) (sym same) closed;
        rest = text;
        begins = refl;
        counted = let same_bytes = ap (λ (x : Reading C). x.bytes) same in omega arith;
      }

  one_more : (line text : List ℕ) (bytes : ℕ) (s t : Sheet (Catalogue C)) (d : Reading C) → Accepted line s t → Goes_on text (bytes + (length line + 1)) t d → Goes_on (line ++ 10 ∷ text) bytes s d
  one_more line text bytes s t d a g =
      let st = a.statement in
      let more = lines_of g.drawing in
      record {
        drawing = st ∷ g.drawing;
        drawn = (a.range, (t, a.takes, g.drawn));
        closed = g.closed;
        rest = g.rest;
        begins = ap (λ l. l ++ 10 ∷ text) (sym a.text) ∙ ap (λ l. written st ++ 10 ∷ l) g.begins ∙ sym (append_assoc (written st) (10 ∷ more) g.rest);
        counted = omega (arith, g.counted, ap length a.text, length-append (written st) (10 ∷ more));
      }

  goes_writes : (pieces : List (List ℕ)) (n bytes : ℕ) (s : Sheet (Catalogue C)) (d : Reading C) → Goes time pieces n bytes s (Ok d) → Goes_on (join_with_byte 10 pieces) bytes s d
  goes_writes [] n bytes s d (inl h) = stops (join_with_byte 10 []) bytes s d h.0 h.1
  goes_writes [] n bytes s d (inr h) = absurd (ok_err d (of_line 3 n 0) h.1)
  goes_writes (last ∷ []) n bytes s d (inl h) = stops (join_with_byte 10 (last ∷ [])) bytes s d h.0 h.1
  goes_writes (last ∷ []) n bytes s d (inr h) = absurd (ok_err d (of_line 3 n 0) h.1)
  goes_writes (line ∷ next ∷ more) n bytes s d (inl h) = stops (join_with_byte 10 (line ∷ next ∷ more)) bytes s d h.0 h.1
  goes_writes (line ∷ next ∷ more) n bytes s d (inr (not_yet, inl h)) = absurd (ok_err d h.0 h.2)
  goes_writes (line ∷ next ∷ more) n bytes s d (inr (not_yet, inr h)) =
      let gives = h.1 in
      one_more line (join_with_byte 10 (next ∷ more)) bytes s h.0 d (drawn_accepted gives.0 line n s h.0 gives.1 gives.2)
      (goes_writes (next ∷ more) (n + 1) (bytes + (length line + 1)) h.0 d h.2)

  -- there is a line after the first
  goes_some : (pieces : List (List ℕ)) (first : List ℕ) (n bytes : ℕ) (d : Reading C) → Goes time pieces n bytes blank (Ok d) → join_with_byte 10 (first ∷ pieces) ≡ first ++ 10 ∷ join_with_byte 10 pieces
  goes_some [] first n bytes d (inl h) = let some = h.0.1 in absurd (omega arith)
  goes_some [] first n bytes d (inr h) = absurd (ok_err d (of_line 3 n 0) h.1)
  goes_some (line ∷ more) first n bytes d h = refl

  -- the first line counts what is read
  agrees_counts : (h : Header) (d e : Reading C) → Agrees h d (Ok e) → (e ≡ d) × (h ≡ counts_of d.sheet)
  agrees_counts h d e a =
      let b = asks_ok e (of_board 2) a in
      let c = asks_ok e (of_board 3) b in
      let blocks = settled h.blocks (length d.sheet.plan.blocks) (asks_well e (of_board 2) a) in
      let parts = settled h.parts (length d.sheet.plan.components) (asks_well e (of_board 3) b) in
      let wires = settled h.wires (length d.sheet.plan.wires) (asks_well e (of_board 4) c) in
      (ok_same d e (asks_ok e (of_board 4) c), λ i. record { blocks = blocks i; parts = parts i; wires = wires i })

  -- the text of a drawing, and what stands after it
  record Begins (text : List ℕ) (d : Reading C) : Type 0 where
    drawing : List Statement
    drawn : Draws time drawing blank d.sheet
    closed : Closed d.sheet
    rest : List ℕ
    begins : text ≡ text_of drawing d.sheet ++ rest
    counted : d.bytes ≡ length (text_of drawing d.sheet)

  headed : (line : List ℕ) (more : List (List ℕ)) (h : Header) (d : Reading C) → HeaderLine line 1 (Ok h) → Goes time more 2 (length line + 1) blank (Ok d) → h ≡ counts_of d.sheet → Begins (join_with_byte 10 (line ∷ more)) d
  headed line more h d says goes counts =
      let g = goes_writes more 2 (length line + 1) blank d goes in
      let first : line ≡ join_with_byte 32 (header_fields (counts_of d.sheet)) = sym (header_says line 1 h says).1 ∙ ap (λ x. join_with_byte 32 (header_fields x)) counts in
      let lines = lines_of g.drawing in
      let top = join_with_byte 32 (header_fields (counts_of d.sheet)) in
      record {
        drawing = g.drawing;
        drawn = g.drawn;
        closed = g.closed;
        rest = g.rest;
        begins = goes_some more line 2 (length line + 1) d goes ∙ ap (λ l. l ++ 10 ∷ join_with_byte 10 more) first ∙ ap (λ l. top ++ 10 ∷ l) g.begins ∙ sym (append_assoc top (10 ∷ lines) g.rest);
        counted = omega (arith, g.counted, ap length first, length-append top (10 ∷ lines));
      }

  lines_write : (pieces : List (List ℕ)) (d : Reading C) → LinesGive time pieces (Ok d) → Begins (join_with_byte 10 pieces) d
  lines_write [] d g = absurd g
  lines_write (line ∷ more) d (inl g) = absurd (ok_err d g.0 g.2)
  lines_write (line ∷ more) d (inr (h, says, inl g)) = absurd (ok_err d g.0 g.2)
  lines_write (line ∷ more) d (inr (h, says, inr g)) =
      let agrees = agrees_counts h g.0 d g.2 in
      subst (Begins (join_with_byte 10 (line ∷ more))) (sym agrees.0) (headed line more h g.0 says g.1 agrees.1)

  pub file_writes : (file : List ℕ) (d : Reading C) → FileGives time file (Ok d) → (drawing : List Statement) × Writes time file drawing d
  file_writes file d h =
      let b = lines_write (split 10 file) d (asks_ok d (of_text 1 0 0) h) in (
        b.drawing,
        record {
          sized = sized_settled file (asks_well d (of_text 1 0 0) h);
          drawn = b.drawn;
          closed = b.closed;
          rest = b.rest;
          begins = sym (rejoined_split 10 file) ∙ b.begins;
          bytes = b.counted;
        },
      )
