use Rattle.std.proofs.Common.{◌≡◌, ℕ, ◌+◌, ◌*◌, ◌<◌, ◌≤◌, List, length, get_or, take, vec_items, vec_len, sym, refl, ap, ◌∙◌, subst, arith}
use Rattle.std.proofs.lemmas.List.{length-replicate, get_or_default}
use Rattle.coupling.specs.Networks.{first_row}
use Rattle.coupling.specs.Wiring.{Wiring}
use Rattle.coupling.specs.declared.rows.Row.{Row}
use Rattle.board.specs.Paths.{Flattened}
use Rattle.board.specs.Wires.{block_at, no_block}
use Rattle.board.specs.declared.parts.Block.{Block}
use Rattle.std.proofs.lemmas.Result.{err_from_is_err_and}
use Rattle.coupling.specs.Rows.{nothing, row_at, set_of}
use Rattle.coupling.proofs.Wiring.{blank_row}
use Rattle.board.specs.Sweep.{Swept}
use Rattle.board.proofs.Flattening.{none_yet, plan_sound, flat_part, flat_board, flat_itself, flat_absent, flat_long, few_parts, swept_moved, agrees}
use Rattle.board.proofs.Routes.{never_itself}
use Rattle.board.proofs.nested.Board.flatten.Goals as goal

-- the wiring that rows say
abbrev of_rows : ℕ → ℕ → List Row → Wiring
of_rows n k rows = record { parts = n; inputs = k; row = λ s p i. set_of (row_at rows (first_row s + p)) i; board = λ s p. (row_at rows (first_row s + p)).board }

abbrev ins_of : Block → ℕ
ins_of b = b.ins

at_board : (blocks : List Block) (b : Block) → b ≡ get_or blocks 0 b → 0 < length blocks → b ≡ block_at blocks 0
at_board blocks b e h = e ∙ get_or_default blocks 0 b no_block h

pub returns-in_err-rows : goal.returns-in_err-rows
returns-in_err-rows g c =
    let p = err_from_is_err_and c.from_residual.result c.from_residual.ensures.1 in
    record {
      rows_are_the_paths = rw p.1 tt;
      is_the_only_one = rw p.1 tt;
      no_path_leads_back = never_itself _ _ _ (plan_sound c.args.self.now.plan);
    }

pub turns-init : goal.turns-init
turns-init g c =
    let made = c.in_ok-rows.ensures.reach_nothing in
    none_yet c.args.self.now.plan _ refl _ _ refl refl _ (omega (arith, ap length made ∙ length-replicate _ _)) (λ r. ap (λ l. get_or l r nothing) made ∙ blank_row _ r)

pub invariant_of-result : goal.invariant_of-result
invariant_of-result g c =
    let plan = c.args.self.now.plan in
    let W = vec_items plan.wires in
    let n = c.len-parts.result in
    let m = c.len-blocks.result in
    let en = c.len-parts.ensures in
    let em = c.len-blocks.ensures in
    let some : 0 < m = omega (arith, c.args.self.now.has_the_board, em) in
    let last : c.turns.turn ≡ m + m + 1 = omega (arith, c.turns-test.false, c.turns.auto.turn-end) in
    let rows = vec_items c.turns.rows in
    let swept = subst (λ t. Swept W n m t 0 rows) last (swept_moved W W _ n _ m c.turns.turn 0 rows refl (sym en) (sym em) c.turns.invariant) in
    let cut = c.truncate.ensures.items in record {
      few_parts = few_parts plan W refl n m en em;
      few_inputs = subst (λ b. b.ins ≤ 8) (sym (at_board (vec_items plan.blocks) _ c.index.ensures (omega (arith, some, em, plan.blocks.ok.0)))) (plan.block_pins 0).0;
      a_row_for_each_pin = c.truncate.new.self.ok.0 ∙ flat_long plan W refl n m en em some _ _ swept cut;
      none_to_itself = flat_itself plan W refl n m en em some _ _ swept cut;
      none_to_absent = flat_absent plan W refl n m en em some _ _ swept cut;
    }

pub returns : goal.returns
returns g c =
    let plan = c.args.self.now.plan in
    let W = vec_items plan.wires in
    let n = vec_len plan.components in
    let m = vec_len plan.blocks in
    let some : 0 < m = c.args.self.now.has_the_board in
    let last : c.turns.turn ≡ m + m + 1 = omega (arith, c.turns-test.false, c.turns.auto.turn-end, c.len-blocks.ensures) in
    let swept = subst (λ t. Swept W n m t 0 (vec_items c.turns.rows)) last c.turns.invariant in
    let cut = c.truncate.ensures.items ∙ ap (λ k. take (8 * (k + 1)) (vec_items c.turns.rows)) c.len-parts.ensures in
    let flat : Flattened W n (block_at (vec_items plan.blocks) 0).ins (of_rows c.len-parts.result c.index.result.now.ins (vec_items c.truncate.new.self)) = record {
      part_count = c.len-parts.ensures;
      input_count = ap ins_of (at_board (vec_items plan.blocks) _ c.index.ensures (omega (arith, some, plan.blocks.ok.0)));
      to_part = flat_part plan W refl n m refl refl some _ _ swept cut;
      to_board = flat_board plan W refl n m refl refl some _ _ swept cut;
    } in
    record {
      rows_are_the_paths = flat;
      is_the_only_one = λ v h. agrees W n _ (of_rows c.len-parts.result c.index.result.now.ins (vec_items c.truncate.new.self)) v flat h;
      no_path_leads_back = never_itself _ _ _ (plan_sound plan);
    }
