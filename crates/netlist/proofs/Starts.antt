-- The parts of a drawing start sound.
use Rattle.std.proofs.Common.{ℕ, List, [], ◌∷◌, ◌++◌, Ok, sym, subst, inl, inr, arith}
use Rattle.clock.specs.Time.{Time, Laws}
use Rattle.part.specs.Catalogue.{Stocked}
use Rattle.part.specs.declared.catalogue.Catalogue.{Catalogue}
use Rattle.drawing.specs.Calls.{Sheet, blank}
use Rattle.grammar.specs.Statements.{KindInRange, InRange}
use Rattle.grammar.specs.declared.statement.PartKind.{PartKind}
use Rattle.grammar.specs.declared.statement.PartKind.TheVariants as kind
use Rattle.grammar.specs.declared.statement.Statement.{Statement}
use Rattle.grammar.specs.declared.statement.Statement.TheVariants.{Open, Part, Wire, Close}
use Rattle.netlist.specs.Drawings.{Takes, start_of}
use Rattle.netlist.specs.Files.{Reading}
use Rattle.netlist.specs.Netlists.{Draws, Writes, Sound}
use Rattle.grammar.proofs.Asking.{ok_err}
use Rattle.netlist.proofs.Taken.{placed_ok}

module _ {C : Type 0} (time : Time C) where
  sound_more : (ps : List (Catalogue C)) (p : Catalogue C) → Sound time ps → Stocked time p → Sound time (ps ++ p ∷ [])
  sound_more [] p sound stocked = (stocked, tt)
  sound_more (q ∷ ps) p sound stocked = (sound.0, sound_more ps p sound.1 stocked)

  -- a part of a kind that a netlist can write
  pub start_stocked : (k : PartKind) → Laws time → KindInRange k → Stocked time (start_of time k)
  start_stocked (kind.Gen p v s) laws range = record { period = range.1; left = laws.wait_span p (omega arith) }
  start_stocked (kind.Uart b) laws range = record { baud = range.1; left = tt }
  start_stocked (kind.Line d) laws range = record { delay = range; left = tt }

  takes_sound : (st : Statement) (s t : Sheet (Catalogue C)) → Laws time → InRange st → Sound time s.starts → Takes time st s t (Ok tt) → Sound time t.starts
  takes_sound (Open name ins outs) s t laws range sound h = subst (λ (x : Sheet (Catalogue C)). Sound time x.starts) (sym (placed_ok _ _ _ s t h).is) sound
  takes_sound (Part name k) s t laws range sound h =
      subst (λ (x : Sheet (Catalogue C)). Sound time x.starts) (sym (placed_ok _ _ _ s t h).is) (sound_more s.starts (start_of time k) sound (start_stocked k laws range.0))
  takes_sound (Wire from to) s t laws range sound h = subst (λ (x : Sheet (Catalogue C)). Sound time x.starts) (sym (placed_ok _ _ _ s t h).is) sound
  takes_sound Close s t laws range sound (inl h) = absurd (ok_err tt _ h.1)
  takes_sound Close s t laws range sound (inr h) = subst (λ (x : Sheet (Catalogue C)). Sound time x.starts) (sym h.3) sound

  draws_sound : (drawing : List Statement) (s t : Sheet (Catalogue C)) → Laws time → Sound time s.starts → Draws time drawing s t → Sound time t.starts
  draws_sound [] s t laws sound h = subst (λ (x : Sheet (Catalogue C)). Sound time x.starts) (sym h) sound
  draws_sound (st ∷ more) s t laws sound h = draws_sound more h.1.0 t laws (takes_sound st s h.1.0 laws h.0 sound h.1.1) h.1.2

  pub writes_sound : (file : List ℕ) (drawing : List Statement) (d : Reading C) → Laws time → Writes time file drawing d → Sound time d.sheet.starts
  writes_sound file drawing d laws w = draws_sound drawing blank d.sheet laws tt w.drawn
