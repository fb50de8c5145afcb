-- A whole file: its first line, and its board.
use Rattle.std.proofs.Common.{◌≡◌, ℕ, suc, ◌+◌, ◌-◌, ◌<◌, List, [], ◌∷◌, length, get_or, Ok, Err, Result, sym, refl, ap, ◌∙◌, subst, inl, inr, ⊎_elim, arith}
use Rattle.std.proofs.lemmas.Bool.{cases_eq}
use Rattle.clock.specs.Time.{Time}
use Rattle.drawing.specs.Calls.{sheet, blank}
use Rattle.grammar.specs.declared.fault.LineFault.{LineFault}
use Rattle.grammar.specs.declared.fault.LineFault.TheVariants.{Text}
use Rattle.grammar.specs.declared.fault.TextFault.TheVariants.{BadSize}
use Rattle.grammar.specs.declared.fault.Verdict.{Verdict}
use Rattle.grammar.specs.declared.statement.Header.{Header}
use Rattle.grammar.specs.Pieces.{split, onto}
use Rattle.grammar.specs.Rules.{HeaderLine}
use Rattle.grammar.specs.Verdicts.{line_verdict}
use Rattle.grammar.proofs.Rejoining.{split_some}
use Rattle.grammar.proofs.Splitting.{split_onto, split_here}
use Rattle.netlist.specs.declared.blocks.Reader.{Reader}
use Rattle.netlist.specs.declared.fault.BlockFault.{BlockFault}
use Rattle.netlist.specs.declared.fault.BlockFault.TheVariants as block
use Rattle.netlist.specs.declared.lines.Lines.{Lines}
use Rattle.netlist.specs.Files.{Reading, Goes, Sized, LinesGive}
use Rattle.netlist.specs.Reads.{HeaderRead, BoardRead, FileStops, AllRead}
use Rattle.netlist.specs.Steps.{Begins, Line, undrawn, FromHere}
use Rattle.netlist.proofs.Going.{closed_here}

onto_length : (b : ℕ) (pieces : List (List ℕ)) → 0 < length pieces → length (onto b pieces) ≡ length pieces
onto_length b [] some = absurd (omega arith)
onto_length b (piece ∷ pieces) some = refl

-- a text that ends in a separator has another piece after it
ends_more : (separator : ℕ) (text : List ℕ) → 0 < length text → get_or text (length text - 1) 0 ≡ separator → 1 < length (split separator text)
ends_more separator [] some e = absurd (omega arith)
ends_more separator (b ∷ []) some e = omega (arith, ap length (split_here separator b [] e))
ends_more separator (b ∷ c ∷ text) some e =
    ⊎_elim
    (λ (is : b ≡ separator). omega (arith, ap length (split_here separator b (c ∷ text) is), split_some separator (c ∷ text)))
    (λ (other : b ≡ separator → ⊥).
    let rest = ends_more separator (c ∷ text) (omega arith) (ap (λ k. get_or (b ∷ c ∷ text) k 0) {x = suc (length (c ∷ text) - 1)} {y = length (b ∷ c ∷ text) - 1} (omega arith) ∙ e) in
    omega (arith, ap length (split_onto separator b (c ∷ text) other), onto_length b (split separator (c ∷ text)) (split_some separator (c ∷ text))))
    (cases_eq b separator)

-- the first line is read
record FirstLine (file : List ℕ) (after : Lines) (line : List ℕ) : Type 0 where
  pub pieces : split 10 file ≡ line ∷ split 10 after.rest.now
  pub number : after.number ≡ 2
  pub taken : after.taken ≡ length line + 1

first_line : (file : List ℕ) (before after : Lines) (line : List ℕ) → Begins file before → Line before line after → FirstLine file after line
first_line file before after line b l =
    let bn = b.number in
    let bt = b.taken in
    let ln = l.number in
    let lt = l.taken in
    record { pieces = ap (split 10) (sym b.rest) ∙ l.pieces; number = omega arith; taken = omega arith }

-- it is not missing
never_missing : (file : List ℕ) (before : Lines) (last : List ℕ) → Begins file before → split 10 before.rest.now ≡ last ∷ [] → ⊥
never_missing file before last b e =
    let more = ends_more 10 file b.sized.some b.sized.ended in
    omega (arith, ap (λ t. length (split 10 t)) b.rest, ap length e)

module _ {C : Type 0} (time : Time C) (file : List ℕ) where
  -- the file has no size that is read
  pub size_stops : (e : LineFault) → (Sized file → ⊥) → e ≡ Text BadSize → FileStops time file (block.Line e)
  size_stops e bad is = inr (line_verdict e, refl, inl (bad, ap (λ x. Err (line_verdict x)) is))

  module _ (before after : Lines) (b : Begins file before) where
    pub header_stops : (e : LineFault) → HeaderRead before after (Err e) → FileStops time file (block.Line e)
    header_stops e (inl (line, l, h)) =
        let f = first_line file before after line b l in
        let at_one = subst (λ n. HeaderLine line n (Err (line_verdict e))) b.number h in
        inr (line_verdict e, refl, inr ((λ bad. bad b.sized), subst (λ ps. LinesGive time ps (Err (line_verdict e))) (sym f.pieces) (inl (line_verdict e, at_one, refl))))
    header_stops e (inr (last, m, h)) = absurd (never_missing file before last b m)

    -- what the first line said
    header_said : (h : Header) → HeaderRead before after (Ok h) → (line : List ℕ) × FirstLine file after line × HeaderLine line 1 (Ok h)
    header_said h (inl (line, l, k)) = (line, first_line file before after line b l, subst (λ n. HeaderLine line n (Ok h)) b.number k)
    header_said h (inr (last, m, k)) = absurd (never_missing file before last b m)

    -- what the board gives, the file gives
    from_board : (line : List ℕ) (out : Result (Reading C) Verdict) → FirstLine file after line → FromHere time (undrawn after) out → Goes time (split 10 after.rest.now) 2 (length line + 1) blank out
    from_board line out f g =
        let at_number = subst (λ n. Goes time (split 10 after.rest.now) n after.taken blank out) f.number g in
        subst (λ k. Goes time (split 10 after.rest.now) 2 k blank out) f.taken at_number

    pub board_stops : (h : Header) (e : BlockFault) → HeaderRead before after (Ok h) → BoardRead time after (Err e) → FileStops time file e
    board_stops h e r (inl m) = inl m
    board_stops h e r (inr (v, k, g)) =
        let said = header_said h r in
        inr (v, k, inr ((λ bad. bad b.sized), subst (λ ps. LinesGive time ps (Err v)) (sym said.1.pieces) (inr (h, said.2, inl (v, from_board said.0 (Err v) said.1 g, refl)))))

    pub all_read : (h : Header) (end : Reader C) → HeaderRead before after (Ok h) → BoardRead time after (Ok end) →
        AllRead time file (Ok (record { header = h; drawing = end.drawing; bytes = end.lines.taken }))
    all_read h end r (closed, c) =
        let said = header_said h r in
        let d : Reading C = record { sheet = sheet end.drawing; bytes = end.lines.taken } in
        let goes = from_board said.0 (Ok d) said.1 (c (Ok d) (closed_here time (split 10 end.lines.rest.now) end.lines.number end.lines.taken (sheet end.drawing) closed)) in (
          closed,
          λ out agrees. inr ((λ bad. bad b.sized), subst (λ ps. LinesGive time ps out) (sym said.1.pieces) (inr (h, said.2, inr (d, goes, agrees)))),
        )
