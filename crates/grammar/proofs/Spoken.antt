-- A line that is accepted says what it writes.
use Rattle.std.proofs.Common.{◌≡◌, ℕ, List, [], ◌∷◌, get_or, drop, Ok, sym, refl, ap, ◌∙◌, subst, inl, inr, arith}
use Rattle.std.specs.List.{join_with_byte}
use Rattle.names.specs.declared.name.Name.{Name}
use Rattle.grammar.specs.Pieces.{split}
use Rattle.grammar.specs.Rules.{block_forms, wire_forms, count_forms, Heads, a_name, first, numbers_of, Formed, Says, BlockLine, PartLine, WireLine, EndLine, ByLetter, ItemLine, BoardLine, HeaderLine}
use Rattle.grammar.specs.Statements.{letter_B, fields_of, header_fields, written, InRange, HeaderInRange}
use Rattle.grammar.specs.Verdicts.{of_text, of_line}
use Rattle.grammar.specs.declared.statement.Header.{Header}
use Rattle.grammar.specs.declared.statement.Statement.{Statement}
use Rattle.grammar.specs.declared.statement.Statement.TheVariants.{Open, Part, Wire, Close}
use Rattle.grammar.proofs.Asking.{ok_err, asks_ok, asks_well, formed_ok}
use Rattle.grammar.proofs.Rejoining.{rejoined_split}

-- the statement is in range, and has these fields
abbrev pub Said : List (List ℕ) → Statement → Type 0
Said fs st = InRange st × (fields_of st ≡ fs)

said : (fs : List (List ℕ)) (st : Statement) → Says fs (Ok st) → Said fs st
said fs st h =
    let same : st ≡ h.0 = let e = h.3 in cc in
    rw same (h.1, h.2)

block_says : (fs : List (List ℕ)) (n : ℕ) (st : Statement) → BlockLine fs n (Ok st) → Said fs st
block_says fs n st h = said fs st (formed_ok block_forms (drop 1 fs) 2 n st (Says fs (Ok st)) (asks_ok st (of_line 3 n 0) h))

part_says : (fs : List (List ℕ)) (n : ℕ) (st : Statement) → PartLine fs n (Ok st) → Said fs st
part_says fs n st h =
    let known = asks_ok st (of_line 4 n 3) (asks_ok st (of_line 3 n 0) h) in
    let named = asks_ok st (of_line 4 n 0) known.2 in
    let numbers = numbers_of known.0 in
    said fs st (formed_ok numbers (drop 3 fs) 4 n st (Says fs (Ok st)) (formed_ok (a_name ∷ []) (drop 1 fs) 2 n st (Formed numbers (drop 3 fs) 4 n (Ok st) (Says fs (Ok st))) named))

wire_says : (fs : List (List ℕ)) (n : ℕ) (st : Statement) → WireLine fs n (Ok st) → Said fs st
wire_says fs n st h = said fs st (formed_ok wire_forms (drop 1 fs) 2 n st (Says fs (Ok st)) (asks_ok st (of_line 3 n 0) h))

end_says : (fs : List (List ℕ)) (n : ℕ) (st : Statement) → EndLine fs n (Ok st) → Said fs st
end_says fs n st h = said fs st (asks_ok st (of_line 3 n 0) h)

by_letter_says : (fs : List (List ℕ)) (n : ℕ) (st : Statement) → ByLetter fs n (Ok st) → Said fs st
by_letter_says fs n st (inl h) = block_says fs n st h.1
by_letter_says fs n st (inr (inl h)) = part_says fs n st h.1
by_letter_says fs n st (inr (inr (inl h))) = wire_says fs n st h.1
by_letter_says fs n st (inr (inr (inr (inl h)))) = end_says fs n st h.1
by_letter_says fs n st (inr (inr (inr (inr h)))) = absurd (ok_err st (of_line 3 n 1) h.4)

said_line : (line : List ℕ) (st : Statement) → Said (split 32 line) st → InRange st × (written st ≡ line)
said_line line st h = (h.0, ap (join_with_byte 32) h.1 ∙ rejoined_split 32 line)

pub item_says : (line : List ℕ) (n : ℕ) (st : Statement) → ItemLine line n (Ok st) → InRange st × (written st ≡ line)
item_says line n st h = said_line line st (by_letter_says (split 32 line) n st (asks_ok st (of_text 2 n 0) h))

abbrev pub IsOpen : Statement → Type 0
IsOpen st = (name : Name) × (ins : ℕ) × (outs : ℕ) × (st ≡ Open name ins outs)

-- only a block begins with B
opens : (fs : List (List ℕ)) (st : Statement) → ((first fs ≡ letter_B → ⊥) → ⊥) → fields_of st ≡ fs → IsOpen st
opens fs (Open name ins outs) b e = (name, ins, outs, refl)
opens fs (Part name k) b e = absurd (b (λ l. omega (arith, ap (λ t. get_or t 0 0) (ap first e ∙ l))))
opens fs (Wire from to) b e = absurd (b (λ l. omega (arith, ap (λ t. get_or t 0 0) (ap first e ∙ l))))
opens fs Close b e = absurd (b (λ l. omega (arith, ap (λ t. get_or t 0 0) (ap first e ∙ l))))

pub board_says : (line : List ℕ) (n : ℕ) (st : Statement) → BoardLine line n (Ok st) → InRange st × (written st ≡ line) × IsOpen st
board_says line n st h =
    let lettered = asks_ok st (of_text 2 n 0) h in
    let block : Said (split 32 line) st = block_says (split 32 line) n st (asks_ok st (of_line 3 n 1) lettered) in
    (block.0, (said_line line st block).1, opens (split 32 line) st (asks_well st (of_line 3 n 1) lettered) block.1)

pub header_says : (line : List ℕ) (n : ℕ) (h : Header) → HeaderLine line n (Ok h) → HeaderInRange h × (join_with_byte 32 (header_fields h) ≡ line)
header_says line n h p =
    let formed = asks_ok h (of_line 3 n 0) (asks_ok h (of_line 3 n 1) (asks_ok h (of_text 2 n 0) p)) in
    let fs = split 32 line in
    let says = formed_ok count_forms (drop 1 fs) 2 n h (Heads fs (Ok h)) formed in
    let same : h ≡ says.0 = let e = says.3 in cc in
    (subst HeaderInRange (sym same) says.1, ap (λ x. join_with_byte 32 (header_fields x)) same ∙ ap (join_with_byte 32) says.2 ∙ rejoined_split 32 line)
