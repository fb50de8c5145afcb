-- The printed paths of parts.
use Rattle.std.proofs.Common.{◌≡◌, ℕ, ◌<◌, List, [], ◌∷◌, ◌++◌, length, get_or, sym, ap, ◌∙◌, subst}
use Rattle.std.proofs.lemmas.List.{get_or_default, append-nil, append_assoc}
use Rattle.names.specs.Names.{name_text}
use Rattle.board.specs.Lending.{Into, board, block}
use Rattle.board.specs.Wires.{block_at, no_block}
use Rattle.board.specs.declared.parts.Block.{Block}

pub read_block : (blocks : List Block) (b : ℕ) (x : Block) → x ≡ get_or blocks b x → b < length blocks → x ≡ block_at blocks b
read_block blocks b x e h = e ∙ get_or_default blocks b x no_block h

-- what the text from a block down has been added to
abbrev pub Added : List Block → ℕ → List ℕ → List ℕ → Type 0
Added blocks b before after = (text : List ℕ) × Into blocks b text × (after ≡ before ++ text)

pub added_none : (blocks : List Block) (b : ℕ) (out : List ℕ) → b ≡ 0 → Added blocks b out out
added_none blocks b out e = ([], subst (λ n. Into blocks n []) (sym e) board, sym (append-nil out))

pub added_block : (blocks : List Block) (b : ℕ) (x : Block) (out mid named after : List ℕ) → 0 < b → b < length blocks → x ≡ block_at blocks b →
    Added blocks x.parent out mid → named ≡ mid ++ name_text x.name → after ≡ named ++ 47 ∷ [] → Added blocks b out after
added_block blocks b x out mid named after h l e (text, into, is) n s =
    let name = name_text (block_at blocks b).name in (
      text ++ (name ++ 47 ∷ []),
      block h l (subst (λ y. Into blocks y.parent text) e into),
      (s ∙ ap (λ y. y ++ 47 ∷ []) (n ∙ (λ i. is i ++ name_text (e i).name))
          ∙ append_assoc (out ++ text) name (47 ∷ []) ∙ append_assoc out text (name ++ 47 ∷ [])),
    )
