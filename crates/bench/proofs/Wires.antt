-- What the boards of the bench reach, wire by wire.
use Rattle.std.proofs.Common.{◌≡◌, ℕ, ap, ◌∙◌, arith}
use lib.Bits.{bit_or}
use Rattle.coupling.specs.Networks.{wired, Bare, Wired}
use Rattle.coupling.specs.declared.coupling.Source.TheVariants.{Board, Part}
use Rattle.coupling.specs.declared.network.Network.{Network}
use Rattle.coupling.specs.declared.wires.Target.TheVariants as to
use Rattle.bench.specs.Boards.{Lone, Chain, Fork}

-- a pin joined to no pins
joined : (a s p : ℕ) → a ≡ bit_or s p → s ≡ 0 → a ≡ bit_or 0 p
joined a s p e z = e ∙ ap (λ x. bit_or x p) z

pub lone_wired : (n m l k : Network) → Bare 1 1 n → Wired (wired n) (wired m) Board 0 (to.Part 0 0) → Wired (wired m) (wired l) (Part 0) 0 (to.Board 0) → Wired (wired l) (wired k) (Part 0) 1 (to.Board 1) → Lone k
lone_wired n m l k bare one two three =
    record {
      parts = three.parts ∙ two.parts ∙ one.parts ∙ bare.part_count;
      inputs = three.inputs ∙ two.inputs ∙ one.inputs ∙ bare.input_count;
      input = three.gains.rows Board 0 0 (omega arith) ∙ two.gains.rows Board 0 0 (omega arith) ∙ joined _ _ 1 one.gains.here (bare.rows Board 0 0);
      first = three.gains.boards (Part 0) 0 (omega arith) (λ _ e. omega (arith, e)) ∙ joined _ _ 1 two.gains.here (one.gains.boards (Part 0) 0 (omega arith) ∙ bare.boards (Part 0) 0);
      second = joined _ _ 2 three.gains.here (two.gains.boards (Part 0) 1 (omega arith) (λ _ e. omega (arith, e)) ∙ one.gains.boards (Part 0) 1 (omega arith) ∙ bare.boards (Part 0) 1);
    }

pub chain_wired : (n m l : Network) → Bare 2 0 n → Wired (wired n) (wired m) (Part 1) 0 (to.Part 0 0) → Wired (wired m) (wired l) (Part 0) 0 (to.Board 0) → Chain l
chain_wired n m l bare one two =
    record {
      parts = two.parts ∙ one.parts ∙ bare.part_count;
      inputs = two.inputs ∙ one.inputs ∙ bare.input_count;
      between = two.gains.rows (Part 1) 0 0 (omega arith) ∙ joined _ _ 1 one.gains.here (bare.rows (Part 1) 0 0);
      out = joined _ _ 1 two.gains.here (one.gains.boards (Part 0) 0 (omega arith) ∙ bare.boards (Part 0) 0);
    }

pub fork_wired : (n m l : Network) → Bare 2 1 n → Wired (wired n) (wired m) Board 0 (to.Part 0 0) → Wired (wired m) (wired l) Board 0 (to.Part 1 0) → Fork l
fork_wired n m l bare one two =
    record {
      parts = two.parts ∙ one.parts ∙ bare.part_count;
      inputs = two.inputs ∙ one.inputs ∙ bare.input_count;
      first = two.gains.rows Board 0 0 (omega arith) (λ _ _ e. omega (arith, e)) ∙ joined _ _ 1 one.gains.here (bare.rows Board 0 0);
      second = joined _ _ 1 two.gains.here (one.gains.rows Board 0 1 (omega arith) (λ _ _ e. omega (arith, e)) ∙ bare.rows Board 0 1);
    }
