-- From what the file gives: what is accepted, what is refused, and that there is no other outcome.
use Rattle.std.proofs.Common.{◌≡◌, ℕ, ◌⊎◌, List, IfOk, IsOk, MatchResult, Some, Ok, Err, vec_items, Result, sym, refl, ap, ◌∙◌, inl, inr, arith}
use Rattle.clock.specs.Time.{Time, Laws}
use Rattle.part.specs.declared.catalogue.Catalogue.{Catalogue}
use Rattle.board.specs.declared.nested.Board.{Board}
use Rattle.drawing.specs.Calls.{sheet, Finished, Unfinished}
use Rattle.drawing.specs.Lists.{lists}
use Rattle.drawing.specs.declared.drawing.Drawing.{Drawing}
use Rattle.grammar.proofs.Asking.{ok_err}
use Rattle.grammar.specs.declared.fault.Verdict.{Verdict}
use Rattle.grammar.specs.declared.statement.Header.{Header}
use Rattle.netlist.specs.declared.fault.BlockFault.{BlockFault}
use Rattle.netlist.specs.declared.fault.BlockFault.TheVariants.{Memory}
use Rattle.netlist.specs.declared.fault.BoardFault.{BoardFault}
use Rattle.netlist.specs.declared.fault.BoardFault.TheVariants.{Block}
use Rattle.netlist.specs.declared.reader.Netlist.{Netlist}
use Rattle.netlist.specs.Files.{Reading, Closed, FileGives, Agrees}
use Rattle.netlist.specs.Netlists.{Sound}
use Rattle.netlist.specs.Reads.{reading, FileStops, Agreed, Gives, AcceptsOnly, AcceptsEvery, Refuses, OneOutcome}
use Rattle.netlist.specs.Verdicts.{board_verdict}
use Rattle.netlist.proofs.Accepted.{file_writes}
use Rattle.netlist.proofs.OneOutcome.{file_only}
use Rattle.netlist.proofs.Readable.{file_reads}
use Rattle.netlist.proofs.Starts.{writes_sound}
use Rattle.netlist.proofs.Taken.{ok_same, err_same}

-- a drawing that is closed is a board
module _ {C : Type 0} (d : Drawing (Catalogue C)) (closed : Closed (sheet d)) where
  pub finishes : (r : Result (Board (Catalogue C)) (Drawing (Catalogue C))) → MatchResult r (λ b. Finished d b) (λ e. (e ≡ d) × Unfinished d) → IsOk r
  finishes (Ok b) h = refl
  finishes (Err e) (same, inl none) = absurd (omega (arith, none, closed.1))
  finishes (Err e) (same, inr open_now) = absurd (open_now closed.0)

  pub finished : (r : Result (Board (Catalogue C)) (Drawing (Catalogue C))) (n : Netlist C) → MatchResult r (λ b. Finished d b) (λ e. (e ≡ d) × Unfinished d) → r ≡ Ok n.board →
      reading n ≡ record { sheet = sheet d; bytes = n.bytes }
  finished (Err e) n h is = absurd (ok_err n.board e (sym is))
  finished (Ok b) n h is =
      let same : n.board ≡ b = sym (ok_same n.board b is) in
      let plan : n.board.plan ≡ d.plan = ap (λ (x : Board _). x.plan) same ∙ h.plan in
      let starts : n.board.starts ≡ d.starts = ap (λ (x : Board _). x.starts) same ∙ h.starts in
      λ i. record { sheet = record { plan = lists (plan i); starts = vec_items (starts i); current = sym closed.0 i }; bytes = n.bytes }

module _ {C : Type 0} (time : Time C) (file : List ℕ) where
  pub accepts_only : (r : Result (Netlist C) BoardFault) → Gives time file r → AcceptsOnly time file r
  accepts_only (Ok n) h = file_writes time file (reading n) h
  accepts_only (Err e) h = tt

  pub accepts_every : (r : Result (Netlist C) BoardFault) → Gives time file r → AcceptsEvery time file r
  accepts_every (Ok n) h drawing d w = let p = file_only time file _ _ h (file_reads time file drawing d w) in cc
  accepts_every (Err e) (inl m) drawing d w = m
  accepts_every (Err e) (inr (v, k, h)) drawing d w = absurd (ok_err d v (file_only time file _ _ h (file_reads time file drawing d w)))

  pub refuses : (r : Result (Netlist C) BoardFault) → Gives time file r → Refuses time file r
  refuses (Ok n) h = tt
  refuses (Err e) (inl m) = inl m
  refuses (Err e) (inr (v, k, h)) = inr (v, k, h, λ drawing d w. ok_err d v (file_only time file _ _ h (file_reads time file drawing d w)))

  pub one_outcome : (r : Result (Netlist C) BoardFault) → Gives time file r → OneOutcome time file r
  one_outcome (Ok n) h out g = file_only time file _ _ h g
  one_outcome (Err e) (inl m) out g = inl m
  one_outcome (Err e) (inr (v, k, h)) out g = inr (v, k, file_only time file _ _ h g)

  pub starts_sound : Laws time → (r : Result (Netlist C) BoardFault) → Gives time file r → IfOk r (λ n. Sound time (vec_items n.board.starts))
  starts_sound laws (Ok n) h = let w = file_writes time file (reading n) h in writes_sound time file w.0 (reading n) laws w.1
  starts_sound laws (Err e) h = tt

  -- a fault, as the answer
  abbrev pub FaultGiven : BoardFault → Type 0
  FaultGiven y = (y ≡ Block Memory) ⊎ ((v : Verdict) × (board_verdict y ≡ Some v) × FileGives time file (Err v))

  pub block_fault : (e : BlockFault) → FileStops time file e → FaultGiven (Block e)
  block_fault e (inl m) = inl (ap Block m)
  block_fault e (inr stop) = inr stop

  -- the first line and the board, which agree or not
  module _ (h : Header) (d : Reading C) (from : (out : Result (Reading C) Verdict) → Agrees h d out → FileGives time file out) where
    pub disagreement : (e : BoardFault) → Agreed h d.sheet.plan (Err e) → FaultGiven e
    disagreement e (inl (bad, p)) = inr (_, ap board_verdict (err_same _ e p), from _ (inl (bad, refl)))
    disagreement e (inr (b, inl (bad, p))) = inr (_, ap board_verdict (err_same _ e p), from _ (inr (b, inl (bad, refl))))
    disagreement e (inr (b, inr (c, inl (bad, p)))) = inr (_, ap board_verdict (err_same _ e p), from _ (inr (b, inr (c, inl (bad, refl)))))
    disagreement e (inr (b, inr (c, inr (w, p)))) = absurd (ok_err tt e (sym p))

    pub gives_board : (n : Netlist C) → Agreed h d.sheet.plan (Ok tt) → reading n ≡ d → Gives time file (Ok n)
    gives_board n (inl (bad, p)) e = absurd (ok_err tt _ p)
    gives_board n (inr (b, inl (bad, p))) e = absurd (ok_err tt _ p)
    gives_board n (inr (b, inr (c, inl (bad, p)))) e = absurd (ok_err tt _ p)
    gives_board n (inr (b, inr (c, inr (w, p)))) e = from (Ok (reading n)) (inr (b, inr (c, inr (w, ap Ok e))))
