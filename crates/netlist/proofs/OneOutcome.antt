-- A file gives one outcome.
use Rattle.std.proofs.Common.{◌≡◌, ℕ, ◌+◌, ◌⊎◌, List, [], ◌∷◌, length, Some, None, Ok, Err, Option, Result, sym, ap, ◌∙◌, subst, inl, inr}
use Rattle.asking.proofs.Only.{ask_only}
use Rattle.clock.specs.Time.{Time}
use Rattle.part.specs.declared.catalogue.Catalogue.{Catalogue}
use Rattle.drawing.specs.Calls.{Sheet, blank}
use Rattle.drawing.specs.Unique.{Unique}
use Rattle.drawing.specs.declared.fault.Fault.TheVariants.{Memory}
use Rattle.drawing.proofs.Naming.{nothing_unique}
use Rattle.grammar.specs.Pieces.{split}
use Rattle.grammar.specs.Rules.{HeaderLine}
use Rattle.grammar.specs.Verdicts.{of_text, of_board}
use Rattle.grammar.specs.declared.fault.Verdict.{Verdict}
use Rattle.grammar.specs.declared.statement.Header.{Header}
use Rattle.grammar.specs.declared.statement.Statement.{Statement}
use Rattle.grammar.proofs.Asking.{ok_err, asks_only}
use Rattle.grammar.proofs.Unique.{item_only, board_only, header_only}
use Rattle.netlist.specs.Drawings.{LineSays, Drawn, LineGives}
use Rattle.netlist.specs.Files.{Reading, Goes, Agrees, LinesGive, FileGives}
use Rattle.netlist.specs.Verdicts.{refused}
use Rattle.netlist.proofs.Taken.{ok_same, err_same, not_memory, takes_only, takes_unique}

says_only : (current : Option ℕ) (line : List ℕ) (n : ℕ) (r q : Result Statement Verdict) → LineSays current line n r → LineSays current line n q → q ≡ r
says_only None line n r q = board_only line n r q
says_only (Some b) line n r q = item_only line n r q

-- a verdict, or something to go on with
abbrev Either : {T R : Type 0} → (Result T Verdict → Type 0) → (T → Type 0) → Result R Verdict → Type 0
Either {T} Gives On out = ((v : Verdict) × Gives (Err v) × (out ≡ Err v)) ⊎ ((t : T) × Gives (Ok t) × On t)

either_only : {T R : Type 0} (a b : Result R Verdict) (Gives : Result T Verdict → Type 0) (One Other : T → Type 0) →
    ((r q : Result T Verdict) → Gives r → Gives q → q ≡ r) → ((t : T) → Gives (Ok t) → One t → Other t → b ≡ a) → Either Gives One a → Either Gives Other b → b ≡ a
either_only a b Gives One Other only on (inl g) (inl h) = h.2 ∙ ap Err (err_same g.0 h.0 (only (Err g.0) (Err h.0) g.1 h.1)) ∙ sym g.2
either_only a b Gives One Other only on (inl g) (inr h) = absurd (ok_err h.0 g.0 (only (Err g.0) (Ok h.0) g.1 h.1))
either_only a b Gives One Other only on (inr g) (inl h) = absurd (ok_err g.0 h.0 (sym (only (Ok g.0) (Err h.0) g.1 h.1)))
either_only a b Gives One Other only on (inr g) (inr h) =
    let same : h.0 ≡ g.0 = ok_same g.0 h.0 (only (Ok g.0) (Ok h.0) g.1 h.1) in
    on g.0 g.1 g.2 (subst Other same h.2)

module _ {C : Type 0} (time : Time C) where
  drawn_only : (said : Result Statement Verdict) (n : ℕ) (s : Sheet (Catalogue C)) (r q : Result (Sheet (Catalogue C)) Verdict) → Unique s.plan →
      Drawn time said n s r → Drawn time said n s q → q ≡ r
  drawn_only (Err v) n s r q u g h = h ∙ sym g
  drawn_only (Ok st) n s r q u (inl g) (inl h) =
      let same = takes_only time st s g.0 (Ok tt) u g.1 h.0 (Ok tt) h.1 (ok_err tt Memory) (ok_err tt Memory) in
      h.2 ∙ ap Ok same.0 ∙ sym g.2
  drawn_only (Ok st) n s r q u (inl g) (inr h) =
      let same = takes_only time st s g.0 (Ok tt) u g.1 s (Err h.0) h.1 (ok_err tt Memory) (not_memory h.0 h.2) in
      absurd (ok_err tt h.0 (sym same.1))
  drawn_only (Ok st) n s r q u (inr g) (inl h) =
      let same = takes_only time st s s (Err g.0) u g.1 h.0 (Ok tt) h.1 (not_memory g.0 g.2) (ok_err tt Memory) in
      absurd (ok_err tt g.0 same.1)
  drawn_only (Ok st) n s r q u (inr g) (inr h) =
      let same = takes_only time st s s (Err g.0) u g.1 s (Err h.0) h.1 (not_memory g.0 g.2) (not_memory h.0 h.2) in
      h.3 ∙ ap (λ f. Err (refused f n)) (err_same g.0 h.0 same.1) ∙ sym g.3

  pub line_only : (line : List ℕ) (n : ℕ) (s : Sheet (Catalogue C)) (r q : Result (Sheet (Catalogue C)) Verdict) → Unique s.plan →
      LineGives time line n s r → LineGives time line n s q → q ≡ r
  line_only line n s r q u g h =
      let same : h.0 ≡ g.0 = says_only s.current line n g.0 h.0 g.1 h.1 in
      drawn_only g.0 n s r q u g.2 (subst (λ said. Drawn time said n s q) same h.2)

  -- the drawing after an accepted line
  drawn_unique : (said : Result Statement Verdict) (n : ℕ) (s t : Sheet (Catalogue C)) → Unique s.plan → Drawn time said n s (Ok t) → Unique t.plan
  drawn_unique (Err v) n s t u h = absurd (ok_err t v h)
  drawn_unique (Ok st) n s t u (inl h) =
      subst (λ (x : Sheet (Catalogue C)). Unique x.plan) (sym (ok_same h.0 t h.2)) (takes_unique time st s h.0 u h.1)
  drawn_unique (Ok st) n s t u (inr h) = absurd (ok_err t (refused h.0 n) h.3)

  line_unique : (line : List ℕ) (n : ℕ) (s t : Sheet (Catalogue C)) → Unique s.plan → LineGives time line n s (Ok t) → Unique t.plan
  line_unique line n s t u h = drawn_unique h.0 n s t u h.2

  pub goes_only : (pieces : List (List ℕ)) (n bytes : ℕ) (s : Sheet (Catalogue C)) (a b : Result (Reading C) Verdict) → Unique s.plan →
      Goes time pieces n bytes s a → Goes time pieces n bytes s b → b ≡ a
  goes_only [] n bytes s a b u = ask_only (λ g h. h ∙ sym g) (λ g h. h ∙ sym g)
  goes_only (last ∷ []) n bytes s a b u = ask_only (λ g h. h ∙ sym g) (λ g h. h ∙ sym g)
  goes_only (line ∷ next ∷ more) n bytes s a b u =
      ask_only (λ g h. h ∙ sym g)
      (either_only a b (LineGives time line n s) _ _ (λ r q. line_only line n s r q u)
      (λ t gives. goes_only (next ∷ more) (n + 1) (bytes + (length line + 1)) t a b (line_unique line n s t u gives)))

  agrees_only : (h : Header) (d : Reading C) (a b : Result (Reading C) Verdict) → Agrees h d a → Agrees h d b → b ≡ a
  agrees_only h d a b = asks_only a b (of_board 2) (asks_only a b (of_board 3) (asks_only a b (of_board 4) (λ x y. y ∙ sym x)))

  lines_only : (pieces : List (List ℕ)) (a b : Result (Reading C) Verdict) → LinesGive time pieces a → LinesGive time pieces b → b ≡ a
  lines_only [] a b = λ g h. absurd g
  lines_only (line ∷ more) a b =
      either_only a b (HeaderLine line 1) _ _ (header_only line 1)
      (λ k heads. either_only a b (Goes time more 2 (length line + 1) blank) _ _ (λ r q. goes_only more 2 (length line + 1) blank r q nothing_unique)
      (λ d goes. agrees_only k d a b))

  pub file_only : (file : List ℕ) (a b : Result (Reading C) Verdict) → FileGives time file a → FileGives time file b → b ≡ a
  file_only file a b = asks_only a b (of_text 1 0 0) (lines_only (split 10 file) a b)
