-- What is written in range is read back.
use Rattle.std.proofs.Common.{◌≡◌, ℕ, ◌+◌, ◌*◌, ◌<◌, ◌≤◌, true, List, [], ◌∷◌, ◌++◌, length, drop, Ok, decimal, sym, refl, ap, subst, inl, inr, arith}
use Rattle.std.specs.List.{join_with_byte, AllByRecursion as Each}
use Rattle.std.specs.Int.{IsInRange}
use Rattle.std.proofs.lemmas.List.{length-append}
use Rattle.std.proofs.lemmas.Str.Parse.{digit_at}
use Rattle.std.proofs.lemmas.Bool.{and_parts, ltb-true, leb-true}
use Rattle.std.proofs.lemmas.Bool.Decides.{nat_tests}
use Rattle.names.specs.Names.{letter_or_digit, all_letters_or_digits, well_named, name_text, Spelled}
use Rattle.names.specs.declared.name.Name.{Name}
use Rattle.drawing.specs.Children.{end_pin}
use Rattle.drawing.specs.declared.ends.WireEnd.{WireEnd}
use Rattle.drawing.specs.declared.ends.WireEnd.TheVariants.{Own, Child}
use Rattle.grammar.specs.Fields.{IsName, Numeral, EndOf, EndSpelled, kind_word, end_text}
use Rattle.grammar.specs.Lines.{Word, Words, Tidy}
use Rattle.grammar.specs.Pieces.{split}
use Rattle.grammar.specs.Rules.{block_forms, wire_forms, count_forms, Heads, first, numbers_of, Says, BlockLine, PartLine, WireLine, ByLetter, ItemLine, BoardLine, CountsLine, HeaderLine}
use Rattle.grammar.specs.Statements.{kind_fields, fields_of, header_fields, written, KindInRange, InRange, HeaderInRange}
use Rattle.grammar.specs.declared.kinds.KindWord.{KindWord}
use Rattle.grammar.specs.declared.kinds.KindWord.TheVariants as word
use Rattle.grammar.specs.declared.statement.Header.{Header}
use Rattle.grammar.specs.declared.statement.PartKind.{PartKind}
use Rattle.grammar.specs.declared.statement.PartKind.TheVariants as kind
use Rattle.grammar.specs.declared.statement.Statement.{Statement}
use Rattle.grammar.specs.declared.statement.Statement.TheVariants.{Open, Part, Wire, Close}
use Rattle.grammar.proofs.Asking.{Met, formed_met}
use Rattle.grammar.proofs.Counting.{Shape, shape}
use Rattle.grammar.proofs.Rejoining.{each_append, each_at, each_from, each_weaker, Free, split_back, all_rejoined, rejoined_short}

abbrev pub Printable : ℕ → Type 0
Printable = IsInRange 33 126

-- a field of 1 to 10 bytes from 33 to 126
pub record Short (text : List ℕ) : Type 0 where
  pub some : 0 < length text
  pub few : length text ≤ 10
  pub bytes : Each Printable text

pub short_word : (text : List ℕ) → Short text → Word text
short_word text h = record { some = h.some; printable = λ k l. each_at Printable text k 0 l h.bytes }

-- no field has a byte below 33
pub word_free : (sep : ℕ) (text : List ℕ) → sep < 33 → Word text → Free sep text
word_free sep text l w = each_from (λ b. b ≡ sep → ⊥) text 0 (λ k h e. let p = (w.printable k h).0 in omega arith)

pub short_decimal : (v : ℕ) → v ≤ 65535 → Short (decimal v)
short_decimal v l =
    let s : Shape (decimal v) = shape v (decimal v) (omega arith) refl in
    record {
      some = s.some;
      few = let few = s.few in omega arith;
      bytes = each_from Printable (decimal v) 0 (λ k h. let d = digit_at (decimal v) k s.digits h in (omega arith, omega arith));
    }

letter_printable : (b : ℕ) → letter_or_digit b ≡ true → Printable b
letter_printable b e = grind (arith, nat_tests)

letters_printable : (text : List ℕ) → all_letters_or_digits text ≡ true → Each Printable text
letters_printable [] e = tt
letters_printable (b ∷ text) e = let p = and_parts (letter_or_digit b) (all_letters_or_digits text) e in (letter_printable b p.0, letters_printable text p.1)

-- a name leaves room for a point and a pin
name_few : (text : List ℕ) → well_named text ≡ true → (0 < length text) × (length text ≤ 8) × Each Printable text
name_few text e =
    let all = and_parts _ _ e in
    let long = and_parts _ _ (and_parts _ _ all.0).0 in
    (ltb-true 0 (length text) long.0, leb-true (length text) 8 long.1, letters_printable text all.1)

pub short_name : (name : Name) → Spelled name → Short (name_text name)
short_name name s =
    let p = name_few (name_text name) s.well in
    record { some = p.0; few = let few = p.1 in omega arith; bytes = p.2 }

short_end_text : (child : List ℕ) (k : ℕ) → k < 8 → length child ≤ 8 → Each Printable child → Short (child ++ 46 ∷ (48 + k) ∷ [])
short_end_text child k pin few bytes =
    let long : length (child ++ 46 ∷ (48 + k) ∷ []) ≡ length child + 2 = length-append child (46 ∷ (48 + k) ∷ []) in
    record {
      some = omega arith;
      few = omega arith;
      bytes = each_append Printable child (46 ∷ (48 + k) ∷ []) bytes ((omega arith, omega arith), ((omega arith, omega arith), tt));
    }

pub short_end : (e : WireEnd) → end_pin e < 8 → EndSpelled e → Short (end_text e)
short_end (Own k) pin s = short_end_text (45 ∷ []) k pin (omega arith) ((omega arith, omega arith), tt)
short_end (Child name k) pin s = let p = name_few (name_text name) s.well in short_end_text (name_text name) k pin p.1 p.2

short_letter : (b : ℕ) → 33 ≤ b → b ≤ 126 → Short (b ∷ [])
short_letter b low high = record { some = omega arith; few = omega arith; bytes = ((low, high), tt) }

short_kind_word : (w : KindWord) → Short (kind_word w)
short_kind_word word.Gen = record { some = omega arith; few = omega arith; bytes = letters_printable (kind_word word.Gen) refl }
short_kind_word word.Uart = record { some = omega arith; few = omega arith; bytes = letters_printable (kind_word word.Uart) refl }
short_kind_word word.Line = record { some = omega arith; few = omega arith; bytes = letters_printable (kind_word word.Line) refl }

-- fields that a line has room for
pub record Fits (fs : List (List ℕ)) : Type 0 where
  pub some : 0 < length fs
  pub few : length fs ≤ 7
  pub short : Each Short fs

short_kind : (k : PartKind) → KindInRange k → Each Short (kind_fields k) × (length (kind_fields k) ≤ 4)
short_kind (kind.Gen p v s) range = ((short_kind_word word.Gen, (short_decimal p (omega arith), (short_decimal v (omega arith), (short_decimal s (omega arith), tt)))), omega arith)
short_kind (kind.Uart b) range = ((short_kind_word word.Uart, (short_decimal b (omega arith), tt)), omega arith)
short_kind (kind.Line d) range = ((short_kind_word word.Line, (short_decimal d (omega arith), tt)), omega arith)

pub fits_statement : (st : Statement) → InRange st → Fits (fields_of st)
fits_statement (Open name ins outs) range = record {
  some = omega arith;
  few = omega arith;
  short = (short_letter 66 (omega arith) (omega arith), (short_name name range.2, (short_decimal ins (omega arith), (short_decimal outs (omega arith), tt))));
}
fits_statement (Part name k) range =
    let short = short_kind k range.0 in
    record { some = omega arith; few = omega arith; short = (short_letter 80 (omega arith) (omega arith), (short_name name range.1, short.0)) }
fits_statement (Wire from to) range = record {
  some = omega arith;
  few = omega arith;
  short = (short_letter 87 (omega arith) (omega arith), (short_end from range.0 range.2, (short_end to range.1 range.3, tt)));
}
fits_statement Close range = record { some = omega arith; few = omega arith; short = (short_letter 69 (omega arith) (omega arith), tt) }

pub fits_header : (h : Header) → HeaderInRange h → Fits (header_fields h)
fits_header h range = record {
  some = omega arith;
  few = omega arith;
  short = (
    short_letter 78 (omega arith) (omega arith),
    (short_decimal h.blocks (omega arith), (short_decimal h.parts (omega arith), (short_decimal h.wires (omega arith), tt))),
  );
}

-- the line of such fields
module _ (fs : List (List ℕ)) (fits : Fits fs) where
  pub line_words : Words fs
  line_words = each_weaker Short Word short_word fs fits.short

  pub fields_free : (sep : ℕ) → sep < 33 → Each (Free sep) fs
  fields_free sep l = each_weaker Word (Free sep) (λ f. word_free sep f l) fs line_words

  pub line_split : split 32 (join_with_byte 32 fs) ≡ fs
  line_split = split_back 32 fs fits.some (fields_free 32 (omega arith))

  pub line_short : length (join_with_byte 32 fs) ≤ 80
  line_short =
      let few = fits.few in
      let each : Each (λ f. length f ≤ 10) fs = each_weaker Short (λ f. length f ≤ 10) (λ f h. h.few) fs fits.short in
      let le : length (join_with_byte 32 fs) ≤ length fs * (10 + 1) = rejoined_short 32 10 fs each in
      omega arith

  pub line_free : Free 10 (join_with_byte 32 fs)
  line_free = all_rejoined (λ b. b ≡ 10 → ⊥) 32 fs (λ e. omega arith) (fields_free 10 (omega arith))

  pub line_tidy : Tidy (join_with_byte 32 fs)
  line_tidy = record { short = line_short; words = subst Words (sym line_split) line_words }

module _ (st : Statement) (range : InRange st) where
  pub written_split : split 32 (written st) ≡ fields_of st
  written_split = line_split (fields_of st) (fits_statement st range)

  pub written_free : Free 10 (written st)
  written_free = line_free (fields_of st) (fits_statement st range)

  pub written_tidy : Tidy (written st)
  written_tidy = line_tidy (fields_of st) (fits_statement st range)

module _ (h : Header) (range : HeaderInRange h) where
  pub header_split : split 32 (join_with_byte 32 (header_fields h)) ≡ header_fields h
  header_split = line_split (header_fields h) (fits_header h range)

  pub header_free : Free 10 (join_with_byte 32 (header_fields h))
  header_free = line_free (header_fields h) (fits_header h range)

  pub header_tidy : Tidy (join_with_byte 32 (header_fields h))
  header_tidy = line_tidy (header_fields h) (fits_header h range)

named : (name : Name) → Spelled name → (n : Name) × IsName n (name_text name)
named name s = (name, record { spelled = s; written = refl })

numeral : (low high v : ℕ) → low ≤ v → v ≤ high → (w : ℕ) × Numeral low high w (decimal v)
numeral low high v l h = (v, record { at_least = l; at_most = h; written = refl })

ending : (e : WireEnd) → end_pin e < 8 → EndSpelled e → (d : WireEnd) × EndOf d (end_text e)
ending e pin s = (e, record { spelled = s; pin = pin; written = refl })

block_written : (name : Name) (ins outs n : ℕ) → InRange (Open name ins outs) → BlockLine (fields_of (Open name ins outs)) n (Ok (Open name ins outs))
block_written name ins outs n range =
    let st = Open name ins outs in
    let met : Met block_forms (drop 1 (fields_of st)) = (named name range.2, (numeral 0 8 ins (omega arith) range.0, (numeral 0 8 outs (omega arith) range.1, tt))) in
    inr ((λ bad. bad refl), formed_met block_forms (drop 1 (fields_of st)) 2 n (Ok st) (Says (fields_of st) (Ok st)) met (st, range, refl, refl))

wire_written : (from to : WireEnd) (n : ℕ) → InRange (Wire from to) → WireLine (fields_of (Wire from to)) n (Ok (Wire from to))
wire_written from to n range =
    let st = Wire from to in
    let met : Met wire_forms (drop 1 (fields_of st)) = (ending from range.0 range.2, (ending to range.1 range.3, tt)) in
    inr ((λ bad. bad refl), formed_met wire_forms (drop 1 (fields_of st)) 2 n (Ok st) (Says (fields_of st) (Ok st)) met (st, range, refl, refl))

-- the kind word of a kind, and its numbers
record SpelledKind (k : PartKind) : Type 0 where
  word : KindWord
  starts : kind_word word ≡ first (kind_fields k)
  counts : length (kind_fields k) ≡ 1 + length (numbers_of word)
  numbers : Met (numbers_of word) (drop 1 (kind_fields k))

spelled : (k : PartKind) → KindInRange k → SpelledKind k
spelled (kind.Gen p v s) range = record {
  word = word.Gen;
  starts = refl;
  counts = refl;
  numbers = (numeral 1 65535 p range.0 range.1, (numeral 0 255 v (omega arith) range.2, (numeral 0 255 s (omega arith) range.3, tt)));
}
spelled (kind.Uart b) range = record { word = word.Uart; starts = refl; counts = refl; numbers = (numeral 1 65535 b range.0 range.1, tt) }
spelled (kind.Line d) range = record { word = word.Line; starts = refl; counts = refl; numbers = (numeral 0 65535 d (omega arith) range, tt) }

part_written : (name : Name) (k : PartKind) (n : ℕ) → InRange (Part name k) → PartLine (fields_of (Part name k)) n (Ok (Part name k))
part_written name k n range =
    let st = Part name k in
    let s = spelled k range.0 in
    let w = s.word in
    let rest = drop 1 (kind_fields k) in
    let says : Says (fields_of st) (Ok st) = (st, range, refl, refl) in
    inr (
      (λ few. let counts = s.counts in omega arith),
      inr (
        (λ none. none w s.starts),
        (
          w,
          s.starts,
          inr (
            (λ bad. let counts = s.counts in bad (omega arith)),
            inr ((λ bad. bad (named name range.1)), formed_met (numbers_of w) rest 4 n (Ok st) (Says (fields_of st) (Ok st)) s.numbers says),
          ),
        ),
      ),
    )

by_letter_written : (st : Statement) (n : ℕ) → InRange st → ByLetter (fields_of st) n (Ok st)
by_letter_written (Open name ins outs) n range = inl (refl, block_written name ins outs n range)
by_letter_written (Part name k) n range = inr (inl (refl, part_written name k n range))
by_letter_written (Wire from to) n range = inr (inr (inl (refl, wire_written from to n range)))
by_letter_written Close n range = inr (inr (inr (inl (refl, inr ((λ bad. bad refl), (Close, range, refl, refl))))))

pub item_written : (st : Statement) (n : ℕ) → InRange st → ItemLine (written st) n (Ok st)
item_written st n range = inr ((λ bad. bad (written_tidy st range)), subst (λ fs. ByLetter fs n (Ok st)) (sym (written_split st range)) (by_letter_written st n range))

pub board_written : (name : Name) (ins outs n : ℕ) → InRange (Open name ins outs) → BoardLine (written (Open name ins outs)) n (Ok (Open name ins outs))
board_written name ins outs n range =
    let st = Open name ins outs in
    let back = written_split st range in
    inr (
      (λ bad. bad (written_tidy st range)),
      inr ((λ bad. bad (ap first back)), subst (λ fs. BlockLine fs n (Ok st)) (sym back) (block_written name ins outs n range)),
    )

counts_written : (h : Header) (n : ℕ) → HeaderInRange h → CountsLine (header_fields h) n (Ok h)
counts_written h n range =
    let met : Met count_forms (drop 1 (header_fields h)) = (
      numeral 0 256 h.blocks (omega arith) range.0,
      (numeral 0 256 h.parts (omega arith) range.1, (numeral 0 256 h.wires (omega arith) range.2, tt)),
    ) in
    inr ((λ bad. bad refl), formed_met count_forms (drop 1 (header_fields h)) 2 n (Ok h) (Heads (header_fields h) (Ok h)) met (h, range, refl, refl))

pub header_written : (h : Header) (n : ℕ) → HeaderInRange h → HeaderLine (join_with_byte 32 (header_fields h)) n (Ok h)
header_written h n range =
    let back = header_split h range in
    inr (
      (λ bad. bad (header_tidy h range)),
      inr ((λ bad. bad (ap first back)), subst (λ fs. CountsLine fs n (Ok h)) (sym back) (counts_written h n range)),
    )
