-- Blocks in blocks: what is read of a block, seen from the block around it.
use Rattle.std.proofs.Common.{◌≡◌, ℕ, ◌+◌, ◌<◌, Bool, true, false, is_some, ControlFlow, Continue, Break, cond, eqb, ◌++◌, length, Some, None, sym, ap, ◌∙◌, inl, inr, arith}
use Rattle.std.specs.ControlFlow.{continue_value}
use Rattle.std.proofs.lemmas.List.{append_assoc, length-append, get_or_append_left}
use Rattle.clock.specs.Time.{Time}
use Rattle.part.specs.declared.catalogue.Catalogue.{Catalogue}
use Rattle.board.specs.Wires.{block_at, no_block}
use Rattle.board.specs.declared.parts.Block.{Block}
use Rattle.drawing.specs.Calls.{Sheet}
use Rattle.netlist.specs.declared.fault.BlockFault.{BlockFault}
use Rattle.netlist.specs.Steps.{Inside, Grown, Place, Continues, Stops, Read, around, after_item}
use Rattle.netlist.proofs.Going.{Sofar}

module _ {C : Type 0} where
  -- a block that was drawn is the same later
  same_block : (s t : Sheet (Catalogue C)) (b : ℕ) → Grown s t → b < length s.plan.blocks → block_at t.plan.blocks b ≡ block_at s.plan.blocks b
  same_block s t b g l = ap (λ bs. block_at bs b) g.1 ∙ get_or_append_left s.plan.blocks g.0 no_block b l

  grown_more : (s t u : Sheet (Catalogue C)) → Grown s t → Grown t u → Grown s u
  grown_more s t u g h = (g.0 ++ h.0, h.1 ∙ ap (λ bs. bs ++ h.0) g.1 ∙ append_assoc s.plan.blocks g.0 h.0)

  pub inside_stays : (s t : Sheet (Catalogue C)) (levels : ℕ) → Inside s levels → Grown s t → t.current ≡ s.current → Inside t levels
  inside_stays s t levels i g e =
      let there = i.there in
      let long : length t.plan.blocks ≡ length s.plan.blocks + length g.0 = ap length g.1 ∙ length-append s.plan.blocks g.0 in
      record {
        block = i.block;
        open_block = e ∙ i.open_block;
        there = omega arith;
        deep = ap (λ (x : Block). x.depth + levels) (same_block s t i.block g i.there) ∙ i.deep;
      }

  -- what is around an open block stays
  around_stays : (s t : Sheet (Catalogue C)) (levels : ℕ) → Inside s levels → Grown s t → t.current ≡ s.current → around t t.current ≡ around s s.current
  around_stays s t levels i g e =
      ap (around t) (e ∙ i.open_block) ∙ ap (λ (x : Block). cond (eqb i.block 0) None (Some x.parent)) (same_block s t i.block g i.there) ∙ ap (around s) (sym i.open_block)

  module _ (time : Time C) (here : Place C) where
    pub stops_before : (there : Place C) (e : BlockFault) → Continues time here there → Stops time there e → Stops time here e
    stops_before there e c (inl h) = inl h
    stops_before there e c (inr h) = inr (h.0, h.1, c _ h.2)

    -- the block goes on after an item, or ends
    pub block_goes_on : (there : Place C) (goes : ControlFlow Unit Unit) (b : Bool) → b ≡ is_some (continue_value goes) → b ≡ true → Read time here there (after_item here.drawn goes) → Read time here there here.drawn.current
    block_goes_on there (Continue x) b e test r = r
    block_goes_on there (Break x) b e test r = cc

    pub block_ends : (there : Place C) (goes : ControlFlow Unit Unit) (b : Bool) → b ≡ is_some (continue_value goes) → b ≡ false → Read time here there (after_item here.drawn goes) → Read time here there (around here.drawn here.drawn.current)
    block_ends there (Continue x) b e test r = cc
    block_ends there (Break x) b e test r = r

    pub sofar_more : (there end : Place C) → Sofar time here there → Read time there end there.drawn.current → Sofar time here end
    sofar_more there end h r =
        let first = h.no_more in
        let second = r.fewer in
        record {
          continues = λ out g. h.continues out (r.continues out g);
          grown = grown_more here.drawn there.drawn end.drawn h.grown r.grown;
          open_now = r.open_now ∙ h.open_now;
          no_more = omega arith;
        }

    pub sofar_closes : (there end : Place C) (levels : ℕ) → Inside here.drawn levels → Sofar time here there → Read time there end (around there.drawn there.drawn.current) →
        Read time here end (around here.drawn here.drawn.current)
    sofar_closes there end levels i h r =
        let first = h.no_more in
        let second = r.fewer in
        record {
          continues = λ out g. h.continues out (r.continues out g);
          grown = grown_more here.drawn there.drawn end.drawn h.grown r.grown;
          open_now = r.open_now ∙ around_stays here.drawn there.drawn levels i h.grown h.open_now;
          fewer = omega arith;
        }
