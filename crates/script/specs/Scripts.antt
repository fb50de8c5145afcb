-- Call files: each line says a call, and ends with byte 10.
use Rattle.std.specs.Prelude.{◌≡◌, ℕ, ◌+◌, ◌⊎◌, List, [], ◌∷◌, ◌++◌, length, Option, ◌≢◌}
use Rattle.grammar.specs.Pieces.{split}
use Rattle.script.specs.Calls.{Says}
use Rattle.script.specs.declared.call.Call.{Call}
use Rattle.script.specs.declared.calls.ScriptFault.{ScriptFault}
use Rattle.script.specs.declared.calls.ScriptFault.TheVariants.{BadLine, Memory}

module _ {C : Type 0} (shown : C → Option (List ℕ)) where
  -- the lines say the calls, each one
  abbrev pub AllSay : List (List ℕ) → List (Call C) → Type 0
  AllSay [] [] = Unit {0}
  AllSay [] (c ∷ cs) = ⊥
  AllSay (l ∷ ls) [] = ⊥
  AllSay (l ∷ ls) (c ∷ cs) = Says shown c (split 32 l) × AllSay ls cs

  -- the file has these calls; nothing stands after the last byte 10
  pub record Script (file : List ℕ) (calls : List (Call C)) : Type 0 where
    pub lines : List (List ℕ)
    pub ended : split 10 file ≡ lines ++ [] ∷ []
    pub say : AllSay lines calls

  -- the lines before this one say calls; this one says none, or is the last and not ended
  pub record Stuck (file : List ℕ) (number : ℕ) : Type 0 where
    pub lines : List (List ℕ)
    pub calls : List (Call C)
    pub line : List ℕ
    pub more : List (List ℕ)
    pub cut : split 10 file ≡ lines ++ line ∷ more
    pub say : AllSay lines calls
    pub counted : number ≡ length lines + 1
    pub wrong : ((more ≡ []) × (line ≢ [])) ⊎ ((c : Call C) → Says shown c (split 32 line) → ⊥)

  abbrev pub Fails : List ℕ → ScriptFault → Type 0
  Fails file (BadLine n) = Stuck file n
  Fails file Memory = Unit {0}
