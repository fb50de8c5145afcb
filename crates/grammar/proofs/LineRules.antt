-- The rules of the lines that have a name.
use Rattle.std.proofs.Common.{◌≡◌, ℕ, ◌+◌, List, [], ◌∷◌, length, drop, Ok, Err, Result, sym, refl, ap, ◌∙◌, subst, inl, inr, arith}
use Rattle.std.proofs.lemmas.List.{nil_from_length}
use Rattle.names.specs.declared.name.Name.{Name}
use Rattle.grammar.specs.declared.fault.LineFault.{LineFault}
use Rattle.grammar.specs.declared.fault.LineFault.TheVariants.{BadField}
use Rattle.grammar.specs.declared.fault.Verdict.{Verdict}
use Rattle.grammar.specs.declared.field.Fields.{Fields}
use Rattle.grammar.specs.declared.kinds.KindWord.{KindWord}
use Rattle.grammar.specs.declared.statement.PartKind.{PartKind}
use Rattle.grammar.specs.declared.statement.Statement.{Statement}
use Rattle.grammar.specs.declared.statement.Statement.TheVariants.{Open, Part}
use Rattle.grammar.specs.Fields.{IsName, Numeral, kind_word}
use Rattle.grammar.specs.Pieces.{left}
use Rattle.grammar.specs.Rules.{first, block_forms, Form, a_number, Formed, numbers_of, Says, BlockLine, PartLine, KindSays}
use Rattle.grammar.specs.Statements.{letter_B, letter_P}
use Rattle.grammar.specs.Taking.{Begun, Takes, Next}
use Rattle.grammar.specs.Verdicts.{line_verdict}

-- the name of a block is read, and then its numbers
pub block_named : (n : ℕ) (all : List (List ℕ)) (before after : Fields) (name : Name) (r : Result Statement Verdict) → length all ≡ 4 → Begun all n before →
    Next IsName before after (Ok name) → Formed (a_number 0 8 ∷ a_number 0 8 ∷ []) (left 32 after.words.rest) 3 after.line r (Says all r) → BlockLine all n r
block_named n all before after name r four b h goes =
    let cut : all ≡ first all ∷ h.text ∷ left 32 after.words.rest = b.cut ∙ ap (λ t. first all ∷ t) h.takes.cut in
    let numbers : Formed (a_number 0 8 ∷ a_number 0 8 ∷ []) (drop 2 all) 3 n r (Says all r) =
    subst (λ m. Formed (a_number 0 8 ∷ a_number 0 8 ∷ []) (drop 2 all) 3 m r (Says all r)) (h.takes.line ∙ b.line)
    (subst (λ fs. Formed (a_number 0 8 ∷ a_number 0 8 ∷ []) fs 3 after.line r (Says all r)) (ap (drop 2) (sym cut)) goes) in
    inr ((λ bad. bad four), subst (λ fs. Formed block_forms fs 2 n r (Says all r)) (ap (drop 1) (sym cut)) (inr ((λ none. none (name, h.reads)), subst (λ fs. Formed (a_number 0 8 ∷ a_number 0 8 ∷ []) fs 3 n r (Says all r)) (ap (drop 2) cut) numbers)))

-- a number is read, or is none
module _ {T : Type 0} (low high : ℕ) (before after : Fields) (forms : List Form) (k : ℕ) (r : Result T Verdict) (on : Type 0) where
  pub number_read : (v : ℕ) → Next (Numeral low high) before after (Ok v) → Formed forms (left 32 after.words.rest) (k + 1) after.line r on →
      Formed (a_number low high ∷ forms) (left 32 before.words.rest) k before.line r on
  number_read v h goes =
      subst (λ fs. Formed (a_number low high ∷ forms) fs k before.line r on) (sym h.takes.cut)
      (inr ((λ none. none (v, h.reads)), subst (λ n. Formed forms (left 32 after.words.rest) (k + 1) n r on) h.takes.line goes))

  pub no_number : (e : LineFault) → Next (Numeral low high) before after (Err e) → before.read + 1 ≡ k → r ≡ Err (line_verdict e) →
      Formed (a_number low high ∷ forms) (left 32 before.words.rest) k before.line r on
  no_number e h at v =
      let place : e ≡ BadField before.line k = h.reads.1 ∙ (λ i. BadField (h.takes.line i) ((h.takes.count ∙ at) i)) in
      subst (λ fs. Formed (a_number low high ∷ forms) fs k before.line r on) (sym h.takes.cut) (inl ((λ m. h.reads.0 m.0 m.1), v ∙ ap (λ x. Err (line_verdict x)) place))

-- a block whose name and numbers are read
pub block_said : (n : ℕ) (all : List (List ℕ)) (f0 f1 f2 f3 : Fields) (name : Name) (ins outs : ℕ) → length all ≡ 4 → Begun all n f0 → first all ≡ letter_B →
    Next IsName f0 f1 (Ok name) → Next (Numeral 0 8) f1 f2 (Ok ins) → Next (Numeral 0 8) f2 f3 (Ok outs) → Says all (Ok (Open name ins outs))
block_said n all f0 f1 f2 f3 name ins outs four begun letter a b c =
    let last : left 32 f3.words.rest ≡ [] = nil_from_length (left 32 f3.words.rest) (omega (arith, ap length begun.cut, ap length a.takes.cut, ap length b.takes.cut, ap length c.takes.cut)) in
    let here = begun.cut ∙ ap (λ t. first all ∷ t) (a.takes.cut ∙ ap (λ t. a.text ∷ t) (b.takes.cut ∙ ap (λ t. b.text ∷ t) (c.takes.cut ∙ ap (λ t. c.text ∷ t) last))) in
    (Open name ins outs, (b.reads.at_most, c.reads.at_most, a.reads.spelled), (λ i. sym letter i ∷ a.reads.written i ∷ b.reads.written i ∷ c.reads.written i ∷ []) ∙ sym here, refl)

-- fields of the same forms, where the answer is made from theirs
pub formed_maps : {S T : Type 0} (forms : List Form) (fs : List (List ℕ)) (k n : ℕ) (r : Result S Verdict) (q : Result T Verdict) (on off : Type 0) →
    ((v : Verdict) → r ≡ Err v → q ≡ Err v) → (on → off) → Formed forms fs k n r on → Formed forms fs k n q off
formed_maps [] fs k n r q on off errs goes h = goes h
formed_maps (form ∷ forms) [] k n r q on off errs goes h = h
formed_maps (form ∷ forms) (f ∷ fs) k n r q on off errs goes (inl h) = inl (h.0, errs _ h.1)
formed_maps (form ∷ forms) (f ∷ fs) k n r q on off errs goes (inr h) = inr (h.0, formed_maps forms fs (k + 1) n r q on off errs goes h.1)

-- the kind word and the name of a part are read, and then its numbers
pub part_goes : (n : ℕ) (all : List (List ℕ)) (f g : List ℕ) (f0 f1 f2 : Fields) (name : Name) (k : KindWord) (r : Result PartKind Verdict) (q : Result Statement Verdict) →
    Begun all n f0 → first all ≡ letter_P → Takes f0 f f1 → Takes f1 g f2 → kind_word k ≡ g → length all ≡ 3 + length (numbers_of k) → IsName name f →
    ((v : Verdict) → r ≡ Err v → q ≡ Err v) → ((x : PartKind) → r ≡ Ok x → q ≡ Ok (Part name x)) → KindSays k (left 32 f2.words.rest) f2.line r → PartLine all n q
part_goes n all f g f0 f1 f2 name k r q begun letter one two third many named errs oks h =
    let w = first all in
    let rest = left 32 f2.words.rest in
    let here : all ≡ w ∷ f ∷ g ∷ rest = begun.cut ∙ ap (λ t. w ∷ t) (one.cut ∙ ap (λ t. f ∷ t) two.cut) in
    let says : KindSays k rest n r = subst (λ m. KindSays k rest m r) (two.line ∙ one.line ∙ begun.line) h in
    let long : length (w ∷ f ∷ g ∷ rest) ≡ 3 + length (numbers_of k) = ap length (sym here) ∙ many in
    subst (λ fs. PartLine fs n q) (sym here)
    (inr (
      (λ few. omega arith),
      inr (
        (λ none. none k third),
        (
          k,
          third,
          inr (
            (λ bad. bad long),
            inr (
              (λ none. none (name, named)),
              formed_maps (numbers_of k) rest 4 n r q _ _ errs
                  (λ s. (Part name s.0, (s.1, named.spelled), (λ i. sym letter i ∷ named.written i ∷ (s.2 ∙ ap (λ t. t ∷ rest) third) i), oks s.0 s.3)) says,
            ),
          ),
        ),
      ),
    ))
