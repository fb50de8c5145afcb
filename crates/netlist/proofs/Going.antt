-- How the reader of a block goes on.
use Rattle.std.proofs.Common.{◌≡◌, ℕ, ◌+◌, ◌<◌, ◌≤◌, List, [], ◌∷◌, length, Ok, Err, Result, IsErrAnd, MatchResult, sym, refl, ap, subst, inl, inr, arith}
use Rattle.clock.specs.Time.{Time}
use Rattle.part.specs.declared.catalogue.Catalogue.{Catalogue}
use Rattle.drawing.specs.Calls.{Sheet}
use Rattle.grammar.specs.declared.fault.LineFault.{LineFault}
use Rattle.grammar.specs.declared.fault.LineFault.TheVariants.{Missing}
use Rattle.grammar.specs.declared.fault.Verdict.{Verdict}
use Rattle.grammar.specs.declared.statement.Statement.{Statement}
use Rattle.grammar.specs.Pieces.{split}
use Rattle.grammar.specs.Verdicts.{of_line, line_verdict}
use Rattle.grammar.proofs.Asking.{ok_err}
use Rattle.grammar.proofs.Rejoining.{split_some}
use Rattle.netlist.specs.declared.fault.BlockFault.{BlockFault}
use Rattle.netlist.specs.declared.fault.BlockFault.TheVariants as block
use Rattle.netlist.specs.declared.lines.Lines.{Lines}
use Rattle.netlist.specs.Drawings.{Takes, LineGives, LineSays}
use Rattle.netlist.specs.Files.{Reading, Closed, Goes}
use Rattle.netlist.specs.Steps.{Line, Applies, Place, FromHere, Continues, Grown, Stops, Stated}
use Rattle.netlist.specs.Verdicts.{refused, block_verdict}
use Rattle.netlist.proofs.Taking.{numbered}

-- some items of the block are read, and it is still open
pub record Sofar {C : Type 0} (time : Time C) (here there : Place C) : Type 0 where
  pub continues : Continues time here there
  pub grown : Grown here.drawn there.drawn
  pub open_now : there.drawn.current ≡ here.drawn.current
  pub no_more : length there.lines.rest.now ≤ length here.lines.rest.now

-- the `?` hands a fault on
pub hands_on : {T E : Type 0} (P : T → Type 0) (Q : E → Type 0) (e : E) (r : Result T E) → IsErrAnd r (λ y. y ≡ e) → Q e → MatchResult r P Q
hands_on P Q e (Ok x) h q = absurd h
hands_on P Q e (Err y) h q = subst Q (sym h) q

-- when the board is closed, reading stops
pub closed_here : {C : Type 0} (time : Time C) (pieces : List (List ℕ)) (n bytes : ℕ) (s : Sheet (Catalogue C)) → Closed s → Goes time pieces n bytes s (Ok (record { sheet = s; bytes = bytes }))
closed_here time [] n bytes s h = inl (h, refl)
closed_here time (last ∷ []) n bytes s h = inl (h, refl)
closed_here time (line ∷ next ∷ more) n bytes s h = inl (h, refl)

module _ {C : Type 0} (time : Time C) (s : Sheet (Catalogue C)) (open_now : Closed s → ⊥) where
  -- no line is left
  missing : (pieces : List (List ℕ)) (last : List ℕ) (n bytes : ℕ) → pieces ≡ last ∷ [] → Goes time pieces n bytes s (Err (of_line 3 n 0))
  missing pieces last n bytes e = subst (λ ps. Goes time ps n bytes s (Err (of_line 3 n 0))) (sym e) (inr (open_now, refl))

  -- a line that is refused
  stops : (line : List ℕ) (more : List (List ℕ)) (n bytes : ℕ) (v : Verdict) → 0 < length more → LineGives time line n s (Err v) → Goes time (line ∷ more) n bytes s (Err v)
  stops line [] n bytes v some h = absurd (omega arith)
  stops line (next ∷ more) n bytes v some h = inr (open_now, inl (v, h, refl))

  -- a line that is carried out
  pub goes_on : (line : List ℕ) (more : List (List ℕ)) (n bytes : ℕ) (t : Sheet (Catalogue C)) (out : Result (Reading C) Verdict) → 0 < length more → LineGives time line n s (Ok t) →
      Goes time more (n + 1) (bytes + (length line + 1)) t out → Goes time (line ∷ more) n bytes s out
  goes_on line [] n bytes t out some h g = absurd (omega arith)
  goes_on line (next ∷ more) n bytes t out some h g = inr (open_now, inr (t, h, g))

module _ {C : Type 0} (time : Time C) (here : Place C) (open_now : Closed here.drawn → ⊥) where
  -- a line that gives a verdict
  pub line_stops : (after : Lines) (line : List ℕ) (v : Verdict) → Line here.lines line after → LineGives time line here.lines.number here.drawn (Err v) → FromHere time here (Err v)
  line_stops after line v l h =
      subst (λ ps. Goes time ps here.lines.number here.lines.taken here.drawn (Err v)) (sym l.pieces)
      (stops time here.drawn open_now line (split 10 after.rest.now) here.lines.number here.lines.taken v (split_some 10 after.rest.now) h)

  pub line_goes_on : (there : Place C) (line : List ℕ) → Line here.lines line there.lines → LineGives time line here.lines.number here.drawn (Ok there.drawn) → Continues time here there
  line_goes_on there line l h out g =
      let pieces = split 10 there.lines.rest.now in
      let at_number = subst (λ n. Goes time pieces n there.lines.taken there.drawn out) l.number g in
      let at_bytes = subst (λ b. Goes time pieces (here.lines.number + 1) b there.drawn out) l.taken at_number in
      subst (λ ps. Goes time ps here.lines.number here.lines.taken here.drawn out) (sym l.pieces)
      (goes_on time here.drawn open_now line pieces here.lines.number here.lines.taken there.drawn out (split_some 10 there.lines.rest.now) h at_bytes)

  -- no line is left
  pub none_left : (last : List ℕ) → split 10 here.lines.rest.now ≡ last ∷ [] → Stops time here (block.Line (Missing here.lines.number))
  none_left last e = inr (of_line 3 here.lines.number 0, refl, missing time here.drawn open_now (split 10 here.lines.rest.now) last here.lines.number here.lines.taken e)

  -- a line that breaks a rule
  pub line_refused : (after : Lines) (line : List ℕ) (e : LineFault) → Line here.lines line after → LineSays here.drawn.current line here.lines.number (Err (line_verdict e)) → Stops time here (block.Line e)
  line_refused after line e l says = inr (line_verdict e, refl, line_stops after line (line_verdict e) l (Err (line_verdict e), says, refl))

  module _ (after : Lines) (line : List ℕ) (st : Statement) (l : Line here.lines line after) (says : LineSays here.drawn.current line here.lines.number (Ok st)) where
    -- a statement that the drawing refuses
    pub statement_refused : (t : Sheet (Catalogue C)) (e : BlockFault) → Applies time st here.lines.number here.drawn t (Err e) → Stops time here e
    statement_refused t e (Ok x, takes, kept, p) = absurd (ok_err tt e (sym p))
    statement_refused t e (Err f, takes, kept, inl (is_memory, p)) = inl p
    statement_refused t e (Err f, takes, kept, inr (other, p)) =
        let n = here.lines.number in
        let some = numbered time st here.drawn t line n f open_now says other takes in
        inr (refused f n, ap block_verdict p, line_stops after line (refused f n) l (Ok st, says, inr (f, subst (λ u. Takes time st here.drawn u (Err f)) kept takes, some, refl)))

    -- a statement that is carried out
    pub statement_done : (t : Sheet (Catalogue C)) → Applies time st here.lines.number here.drawn t (Ok tt) → Stated time here (record { lines = after; drawn = t }) st
    statement_done t (Ok x, takes, kept, p) =
        record { takes = takes; continues = line_goes_on (record { lines = after; drawn = t }) line l (Ok st, says, inl (t, takes, refl)); fewer = l.fewer }
    statement_done t (Err f, takes, kept, p) = absurd p
