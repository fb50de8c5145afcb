-- Pieces and lines that are passed one by one.
use Rattle.std.proofs.Common.{◌≡◌, ℕ, ◌+◌, ◌<◌, ◌≤◌, List, [], ◌∷◌, ◌++◌, length, Some, None, Option, sym, ap, ◌∙◌, arith, Bor}
use Rattle.std.proofs.lemmas.List.{append_assoc, length-append}
use Rattle.grammar.specs.Pieces.{split, left, more, Parts}
use Rattle.script.specs.Calls.{Says}
use Rattle.script.specs.Scripts.{AllSay, Script}
use Rattle.script.specs.Spots.{bytes}
use Rattle.script.specs.declared.call.Call.{Call}

-- i pieces are passed: this one is at hand, and the rest follows
pub record Passed (s : ℕ) (text : List ℕ) (i : ℕ) (piece : List ℕ) (rest : Option (Bor (List ℕ))) (start : ℕ) : Type 0 where
  pub before : List (List ℕ)
  pub pieces : split s text ≡ before ++ piece ∷ left s rest
  pub counted : length before ≡ i
  pub starts : start ≡ bytes before
  pub bounded : length text ≡ start + length piece + more rest

bytes_more : (ps : List (List ℕ)) (p : List ℕ) → bytes (ps ++ p ∷ []) ≡ bytes ps + (length p + 1)
bytes_more [] p = omega arith
bytes_more (q ∷ ps) p = omega (arith, bytes_more ps p)

module _ (s : ℕ) (text : List ℕ) where
  pub pass : (i start : ℕ) (piece next : List ℕ) (o rest : Option (Bor (List ℕ))) (r : Bor (List ℕ)) → o ≡ Some r → Passed s text i piece o start → Parts s r.now next rest →
      Passed s text (i + 1) next rest (start + (length piece + 1))
  pass i start piece next o rest r is h p =
      let far = h.before in
      let whole : split s text ≡ far ++ piece ∷ next ∷ left s rest = h.pieces ∙ ap (λ x. far ++ piece ∷ left s x) is ∙ ap (λ ps. far ++ piece ∷ ps) p.pieces in
      let b = p.bytes in
      let c = h.counted in
      let d = h.starts in
      let e = h.bounded in
      record {
        before = far ++ piece ∷ [];
        pieces = whole ∙ sym (append_assoc far (piece ∷ []) (next ∷ left s rest));
        counted = omega (arith, length-append far (piece ∷ []));
        starts = omega (arith, bytes_more far piece);
        bounded = omega (arith, ap more is);
      }

  pub none_left : (i n start : ℕ) (piece : List ℕ) (o : Option (Bor (List ℕ))) → o ≡ None → i < n → Passed s text i piece o start → length (split s text) ≤ n
  none_left i n start piece o is l h =
      let c = h.counted in
      omega (arith, ap length (h.pieces ∙ ap (λ x. h.before ++ piece ∷ left s x) is), length-append h.before (piece ∷ []))

module _ {C : Type 0} (shown : C → Option (List ℕ)) where
  -- the calls so far, and what is left of the file
  pub record Sofar (file rest : List ℕ) (calls : List (Call C)) : Type 0 where
    pub lines : List (List ℕ)
    pub cut : split 10 file ≡ lines ++ split 10 rest
    pub say : AllSay shown lines calls
    pub counted : length lines ≡ length calls
    pub bounded : length lines + length rest ≤ length file

  say_more : (ls : List (List ℕ)) (cs : List (Call C)) (l : List ℕ) (c : Call C) → AllSay shown ls cs → Says shown c (split 32 l) → AllSay shown (ls ++ l ∷ []) (cs ++ c ∷ [])
  say_more [] [] l c h s = (s, tt)
  say_more [] (d ∷ cs) l c h s = absurd h
  say_more (k ∷ ls) [] l c h s = absurd h
  say_more (k ∷ ls) (d ∷ cs) l c h s = (h.0, say_more ls cs l c h.1 s)

  module _ (file rest : List ℕ) (calls : List (Call C)) (h : Sofar file rest calls) (line : List ℕ) (o : Option (Bor (List ℕ))) (p : Parts 10 rest line o) where
    cut_here : split 10 file ≡ h.lines ++ line ∷ left 10 o
    cut_here = h.cut ∙ ap (λ ps. h.lines ++ ps) p.pieces

    pub goes : (r : Bor (List ℕ)) (c : Call C) → o ≡ Some r → Says shown c (split 32 line) → Sofar file r.now (calls ++ c ∷ [])
    unfolding cut_here
    goes r c is s =
        let b = p.bytes in
        let k = h.counted in
        let n = h.bounded in
        record {
          lines = h.lines ++ line ∷ [];
          cut = cut_here ∙ ap (λ x. h.lines ++ line ∷ left 10 x) is ∙ sym (append_assoc h.lines (line ∷ []) (split 10 r.now));
          say = say_more h.lines calls line c h.say s;
          counted = omega (arith, length-append h.lines (line ∷ []), length-append calls (c ∷ []));
          bounded = omega (arith, ap more is, length-append h.lines (line ∷ []));
        }

  pub done : (file rest : List ℕ) (calls : List (Call C)) → Sofar file rest calls → length rest ≡ 0 → Script shown file calls
  done file [] calls h e = record { lines = h.lines; ended = h.cut; say = h.say }
  done file (b ∷ rest) calls h e = absurd (omega arith)
