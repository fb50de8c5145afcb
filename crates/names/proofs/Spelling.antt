-- A name from its text: the letters are the text, with zeros after it.
use Rattle.std.proofs.Common.{◌≡◌, ℕ, ◌-◌, ◌≤◌, List, ◌++◌, length, take, drop, replicate, ◌∙◌, arith, length-append, length-drop}
use Rattle.std.proofs.Math.Seq.{take-append_seam, drop-append_seam}
use Rattle.std.proofs.lemmas.List.{drop-replicate}

pub spelled : (text copy : List ℕ) → copy ≡ text → take (length text) (copy ++ drop (length text) (replicate 8 0)) ≡ text
spelled text copy e = rw e (take-append_seam text _)

pub zeros_after : (text copy : List ℕ) → copy ≡ text → drop (length text) (copy ++ drop (length text) (replicate 8 0)) ≡ replicate (8 - length text) 0
zeros_after text copy e = rw e (drop-append_seam text _ ∙ drop-replicate (length text) 8 0)

pub eight : (text copy : List ℕ) → copy ≡ text → length text ≤ 8 → length (copy ++ drop (length text) (replicate 8 0)) ≡ 8
eight text copy e few = rw e (omega (arith, length-append text (drop (length text) (replicate 8 0)), length-drop {A = ℕ} (length text) (replicate 8 0)))
