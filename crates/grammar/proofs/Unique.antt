-- A line has one outcome.
use Rattle.std.proofs.Common.{◌≡◌, ℕ, ◌+◌, ◌<◌, ◌≤◌, List, [], ◌∷◌, ◌++◌, get_or, drop, Ok, Err, decimal, Result, sym, refl, ap, ◌∙◌, subst, ap₂, inl, inr, arith}
use Rattle.asking.proofs.Only.{ask_only}
use Rattle.asking.specs.Asking.{Ask}
use Rattle.std.proofs.lemmas.Fmt.{decimal_injective}
use Rattle.std.proofs.lemmas.Bool.{both_ways}
use Rattle.names.specs.Names.{well_named, name_text, Spelled}
use Rattle.names.specs.declared.name.Name.{Name}
use Rattle.names.proofs.Same.{same_name}
use Rattle.drawing.specs.Children.{end_pin}
use Rattle.drawing.specs.declared.ends.WireEnd.{WireEnd}
use Rattle.drawing.specs.declared.ends.WireEnd.TheVariants.{Own, Child}
use Rattle.grammar.specs.Fields.{kind_word, end_text, EndSpelled}
use Rattle.grammar.specs.Pieces.{split}
use Rattle.grammar.specs.Rules.{block_forms, wire_forms, count_forms, Heads, Kinded, a_name, first, numbers_of, Says, BlockLine, PartLine, WireLine, EndLine, ByLetter, ItemLine, BoardLine, HeaderLine}
use Rattle.grammar.specs.Statements.{letter_B, letter_P, letter_W, letter_E, kind_fields, fields_of, header_fields, KindInRange, InRange, HeaderInRange}
use Rattle.grammar.specs.Verdicts.{of_text, of_line}
use Rattle.grammar.specs.declared.fault.Verdict.{Verdict}
use Rattle.grammar.specs.declared.kinds.KindWord.{KindWord}
use Rattle.grammar.specs.declared.kinds.KindWord.TheVariants as word
use Rattle.grammar.specs.declared.statement.Header.{Header}
use Rattle.grammar.specs.declared.statement.PartKind.{PartKind}
use Rattle.grammar.specs.declared.statement.PartKind.TheVariants as kind
use Rattle.grammar.specs.declared.statement.Statement.{Statement}
use Rattle.grammar.specs.declared.statement.Statement.TheVariants.{Open, Part, Wire, Close}
use Rattle.grammar.proofs.Asking.{asks_only, formed_only}
use Rattle.grammar.proofs.Pointing.{same_pointed}

-- the first byte of the first field
abbrev letter_of : List (List ℕ) → ℕ
letter_of fs = get_or (first fs) 0 0

-- a field in its place
at : (i : ℕ) {fs gs : List (List ℕ)} → fs ≡ gs → get_or fs i [] ≡ get_or gs i []
at i e = ap (λ t. get_or t i []) e

same_number : (m n : ℕ) → m ≤ 65535 → n ≤ 65535 → decimal m ≡ decimal n → m ≡ n
same_number m n l h e = decimal_injective m n (omega arith) (omega arith) e

no_hyphen : (name : Name) → Spelled name → 45 ∷ [] ≡ name_text name → ⊥
no_hyphen name s e = both_ways (well_named (45 ∷ [])) refl (ap well_named e ∙ s.well)

same_parts : (a b : List ℕ) (k l : ℕ) → k < 8 → l < 8 → a ++ 46 ∷ (48 + k) ∷ [] ≡ b ++ 46 ∷ (48 + l) ∷ [] → (a ≡ b) × (k ≡ l)
same_parts a b k l g h e = same_pointed a b k l (b ++ 46 ∷ (48 + l) ∷ []) record { pin = g; written = e } record { pin = h; written = refl }

pub same_end : (d e : WireEnd) → end_pin d < 8 → end_pin e < 8 → EndSpelled d → EndSpelled e → end_text d ≡ end_text e → d ≡ e
same_end (Own k) (Own l) g h s t e = ap Own (same_parts (45 ∷ []) (45 ∷ []) k l g h e).1
same_end (Own k) (Child name l) g h s t e = absurd (no_hyphen name t (same_parts (45 ∷ []) (name_text name) k l g h e).0)
same_end (Child name k) (Own l) g h s t e = absurd (no_hyphen name s (sym (same_parts (name_text name) (45 ∷ []) k l g h e).0))
same_end (Child name k) (Child other l) g h s t e =
    let same = same_parts (name_text name) (name_text other) k l g h e in
    ap₂ Child (same_name name other s t same.0) same.1

pub same_word : (v w : KindWord) → kind_word v ≡ kind_word w → v ≡ w
same_word word.Gen word.Gen e = refl
same_word word.Gen word.Uart e = absurd (omega (arith, ap (λ t. get_or t 0 0) e))
same_word word.Gen word.Line e = absurd (omega (arith, ap (λ t. get_or t 0 0) e))
same_word word.Uart word.Gen e = absurd (omega (arith, ap (λ t. get_or t 0 0) e))
same_word word.Uart word.Uart e = refl
same_word word.Uart word.Line e = absurd (omega (arith, ap (λ t. get_or t 0 0) e))
same_word word.Line word.Gen e = absurd (omega (arith, ap (λ t. get_or t 0 0) e))
same_word word.Line word.Uart e = absurd (omega (arith, ap (λ t. get_or t 0 0) e))
same_word word.Line word.Line e = refl

pub same_kind : (j k : PartKind) → KindInRange j → KindInRange k → kind_fields j ≡ kind_fields k → j ≡ k
same_kind (kind.Gen p v s) (kind.Gen q w t) g h e =
    let a : p ≡ q = same_number p q (omega arith) (omega arith) (at 1 e) in
    let b : v ≡ w = same_number v w (omega arith) (omega arith) (at 2 e) in
    let c : s ≡ t = same_number s t (omega arith) (omega arith) (at 3 e) in
    cc
same_kind (kind.Gen p v s) (kind.Uart b) g h e = absurd (omega (arith, ap letter_of e))
same_kind (kind.Gen p v s) (kind.Line d) g h e = absurd (omega (arith, ap letter_of e))
same_kind (kind.Uart b) (kind.Gen p v s) g h e = absurd (omega (arith, ap letter_of e))
same_kind (kind.Uart b) (kind.Uart c) g h e = ap kind.Uart (same_number b c (omega arith) (omega arith) (at 1 e))
same_kind (kind.Uart b) (kind.Line d) g h e = absurd (omega (arith, ap letter_of e))
same_kind (kind.Line d) (kind.Gen p v s) g h e = absurd (omega (arith, ap letter_of e))
same_kind (kind.Line d) (kind.Uart b) g h e = absurd (omega (arith, ap letter_of e))
same_kind (kind.Line d) (kind.Line c) g h e = ap kind.Line (same_number d c (omega arith) (omega arith) (at 1 e))

pub same_statement : (s t : Statement) → InRange s → InRange t → fields_of s ≡ fields_of t → s ≡ t
same_statement (Open a i o) (Open b j p) g h e =
    let name : a ≡ b = same_name a b g.2 h.2 (at 1 e) in
    let ins : i ≡ j = same_number i j (omega arith) (omega arith) (at 2 e) in
    let outs : o ≡ p = same_number o p (omega arith) (omega arith) (at 3 e) in
    cc
same_statement (Open a i o) (Part b k) g h e = absurd (omega (arith, ap letter_of e))
same_statement (Open a i o) (Wire c d) g h e = absurd (omega (arith, ap letter_of e))
same_statement (Open a i o) Close g h e = absurd (omega (arith, ap letter_of e))
same_statement (Part a k) (Open b j p) g h e = absurd (omega (arith, ap letter_of e))
same_statement (Part a k) (Part b l) g h e = ap₂ Part (same_name a b g.1 h.1 (at 1 e)) (same_kind k l g.0 h.0 (ap (drop 2) e))
same_statement (Part a k) (Wire c d) g h e = absurd (omega (arith, ap letter_of e))
same_statement (Part a k) Close g h e = absurd (omega (arith, ap letter_of e))
same_statement (Wire a b) (Open c j p) g h e = absurd (omega (arith, ap letter_of e))
same_statement (Wire a b) (Part c k) g h e = absurd (omega (arith, ap letter_of e))
same_statement (Wire a b) (Wire c d) g h e = ap₂ Wire (same_end a c g.0 h.0 g.2 h.2 (at 1 e)) (same_end b d g.1 h.1 g.3 h.3 (at 2 e))
same_statement (Wire a b) Close g h e = absurd (omega (arith, ap letter_of e))
same_statement Close (Open b j p) g h e = absurd (omega (arith, ap letter_of e))
same_statement Close (Part b k) g h e = absurd (omega (arith, ap letter_of e))
same_statement Close (Wire c d) g h e = absurd (omega (arith, ap letter_of e))
same_statement Close Close g h e = refl

pub same_header : (g h : Header) → HeaderInRange g → HeaderInRange h → header_fields g ≡ header_fields h → g ≡ h
same_header g h p q e =
    let blocks : g.blocks ≡ h.blocks = same_number g.blocks h.blocks (omega arith) (omega arith) (at 1 e) in
    let parts : g.parts ≡ h.parts = same_number g.parts h.parts (omega arith) (omega arith) (at 2 e) in
    let wires : g.wires ≡ h.wires = same_number g.wires h.wires (omega arith) (omega arith) (at 3 e) in
    λ i. record { blocks = blocks i; parts = parts i; wires = wires i }

says_only : (fs : List (List ℕ)) (r q : Result Statement Verdict) → Says fs r → Says fs q → q ≡ r
says_only fs r q g h = h.3 ∙ ap Ok (same_statement h.0 g.0 h.1 g.1 (h.2 ∙ sym g.2)) ∙ sym g.3

differ : (a b : ℕ) → (a ≡ b → ⊥) → (w : List ℕ) → w ≡ a ∷ [] → w ≡ b ∷ [] → ⊥
differ a b ne w p q = ne (ap (λ t. get_or t 0 0) (sym p ∙ q))

-- the letters one by one
abbrev ByLetters : List (List ℕ) → ℕ → Result Statement Verdict → Type 0
ByLetters fs n r =
    Ask (first fs ≡ letter_B) (BlockLine fs n r)
    (Ask (first fs ≡ letter_P) (PartLine fs n r)
    (Ask (first fs ≡ letter_W) (WireLine fs n r)
    (Ask (first fs ≡ letter_E) (EndLine fs n r) (r ≡ Err (of_line 3 n 1)))))

by_letters : (fs : List (List ℕ)) (n : ℕ) (r : Result Statement Verdict) → ByLetter fs n r → ByLetters fs n r
by_letters fs n r (inl h) = inl h
by_letters fs n r (inr (inl h)) = inr (differ 80 66 (λ e. omega arith) (first fs) h.0, inl h)
by_letters fs n r (inr (inr (inl h))) = inr (differ 87 66 (λ e. omega arith) (first fs) h.0, inr (differ 87 80 (λ e. omega arith) (first fs) h.0, inl h))
by_letters fs n r (inr (inr (inr (inl h)))) =
    let not = λ (b : ℕ) (ne : 69 ≡ b → ⊥). differ 69 b ne (first fs) h.0 in
    inr (not 66 (λ e. omega arith), inr (not 80 (λ e. omega arith), inr (not 87 (λ e. omega arith), inl h)))
by_letters fs n r (inr (inr (inr (inr h)))) = inr (h.0, inr (h.1, inr (h.2, inr (h.3, h.4))))

module _ (fs : List (List ℕ)) (n : ℕ) (r q : Result Statement Verdict) where
  block_only : BlockLine fs n r → BlockLine fs n q → q ≡ r
  block_only = asks_only r q (of_line 3 n 0) (formed_only r q block_forms (drop 1 fs) 2 n (Says fs r) (Says fs q) (says_only fs r q))

  wire_only : WireLine fs n r → WireLine fs n q → q ≡ r
  wire_only = asks_only r q (of_line 3 n 0) (formed_only r q wire_forms (drop 1 fs) 2 n (Says fs r) (Says fs q) (says_only fs r q))

  end_only : EndLine fs n r → EndLine fs n q → q ≡ r
  end_only = asks_only r q (of_line 3 n 0) (says_only fs r q)

  kinded_only : (k : KindWord) → Kinded fs n k r → Kinded fs n k q → q ≡ r
  kinded_only k =
      asks_only r q (of_line 4 n 0)
      (formed_only r q (a_name ∷ []) (drop 1 fs) 2 n _ _
      (formed_only r q (numbers_of k) (drop 3 fs) 4 n (Says fs r) (Says fs q) (says_only fs r q)))

  part_only : PartLine fs n r → PartLine fs n q → q ≡ r
  part_only =
      asks_only r q (of_line 3 n 0)
      (asks_only r q (of_line 4 n 3)
      (λ g h. kinded_only g.0 g.2 (subst (λ k. Kinded fs n k q) (same_word h.0 g.0 (h.1 ∙ sym g.1)) h.2)))

  by_letter_only : ByLetter fs n r → ByLetter fs n q → q ≡ r
  by_letter_only g h =
      ask_only block_only
      (ask_only part_only
      (ask_only wire_only
      (ask_only end_only (λ e f. f ∙ sym e)))) (by_letters fs n r g) (by_letters fs n q h)

pub item_only : (line : List ℕ) (n : ℕ) (r q : Result Statement Verdict) → ItemLine line n r → ItemLine line n q → q ≡ r
item_only line n r q = asks_only r q (of_text 2 n 0) (by_letter_only (split 32 line) n r q)

pub board_only : (line : List ℕ) (n : ℕ) (r q : Result Statement Verdict) → BoardLine line n r → BoardLine line n q → q ≡ r
board_only line n r q = asks_only r q (of_text 2 n 0) (asks_only r q (of_line 3 n 1) (block_only (split 32 line) n r q))

heads_only : (fs : List (List ℕ)) (r q : Result Header Verdict) → Heads fs r → Heads fs q → q ≡ r
heads_only fs r q g h = h.3 ∙ ap Ok (same_header h.0 g.0 h.1 g.1 (h.2 ∙ sym g.2)) ∙ sym g.3

pub header_only : (line : List ℕ) (n : ℕ) (r q : Result Header Verdict) → HeaderLine line n r → HeaderLine line n q → q ≡ r
header_only line n r q =
    let fs = split 32 line in
    asks_only r q (of_text 2 n 0)
    (asks_only r q (of_line 3 n 1)
    (asks_only r q (of_line 3 n 0) (formed_only r q count_forms (drop 1 fs) 2 n (Heads fs r) (Heads fs q) (heads_only fs r q))))
