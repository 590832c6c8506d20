-- Expressions are read exactly.
use Rattle.std.proofs.Common.{◌≡◌, ℕ, zero, suc, ◌≤◌, List, [], ◌∷◌, length, Some, refl, arith}
use Rattle.wasm_syntax.specs.declared.instruction.Instruction.{Instruction}
use Rattle.wasm_syntax.specs.declared.opener.Opener.{Opener}
use Rattle.wasm_syntax.specs.rules.Items.{AreItems}
use Rattle.wasm_syntax.specs.rules.Instructions.{IsInstruction, IsExpression}
use Rattle.wasm_syntax.specs.laws.ReadingInstructions.{instruction_at, Nesting, Open, Closed}
use Rattle.wasm_syntax.specs.laws.ReadingInstructions.{Misplaced, nesting_after, rest_of_expression}
use Rattle.wasm_syntax.specs.laws.ReadingInstructions.{expression_up_to_at, expression_at}
use Rattle.wasm_syntax.proofs.Grammar.Exact.{Reads, bind_some, carry}
use Rattle.wasm_syntax.proofs.Grammar.Arms.{Reads-instruction_at}
use Rattle.wasm_syntax.proofs.Grammar.Nesting.{After, AreClosed, closed_by_sequence}
use Rattle.wasm_syntax.proofs.Grammar.Nesting.{sequence_of_closed}
use Rattle.wasm_syntax.proofs.Grammar.Shorter.{items_shorter, instruction_shorter}

-- the rest of an expression where these blocks are open, of at most so many instructions
abbrev pub IsRest : ℕ → List Opener → List ℕ → List Instruction → List ℕ → Type 0
IsRest most openers bytes is rest = AreItems IsInstruction bytes is rest × AreClosed openers is
    × (length is ≤ most)

pub rest_sound : (most : ℕ) (openers : List Opener) (bytes : List ℕ) (is : List Instruction)
    (rest : List ℕ) → expression_up_to_at most openers bytes ≡ Some (is, rest)
    → IsRest most openers bytes is rest
unfolding expression_up_to_at
rest_sound zero openers bytes is rest e = absurd cc
rest_sound (suc most) openers bytes is rest e =
    let one = bind_some (instruction_at bytes) _ _ e in
    by_nesting one.0.0 one.0.1 (Reads-instruction_at.sound bytes one.0.0 one.0.1 one.1)
    (λ inner js r. rest_sound most inner one.0.1 js r) (nesting_after one.0.0 openers) refl
    one.2 where
      by_nesting : (x : Instruction) (after : List ℕ) → IsInstruction bytes x after
          → ((inner : List Opener) (js : List Instruction) (r : List ℕ)
          → expression_up_to_at most inner after ≡ Some (js, r) → IsRest most inner after js r)
          → (n : Nesting) → nesting_after x openers ≡ n
          → rest_of_expression n x after (λ inner. expression_up_to_at most inner after)
          ≡ Some (is, rest) → IsRest (suc most) openers bytes is rest
      by_nesting x after first later Closed opens e =
          carry (λ (js : List Instruction) (r : List ℕ). IsRest (suc most) openers bytes js r) (x
          ∷ []) is after rest e
          ((after, first, refl), rw opens refl, omega arith)
      by_nesting x after first later Misplaced opens e = absurd cc
      by_nesting x after first later (Open inner) opens e =
          let others = bind_some (expression_up_to_at most inner after) _ _ e in
          let below = later inner others.0.0 others.0.1 others.1 in
          carry (λ (js : List Instruction) (r : List ℕ). IsRest (suc most) openers bytes js r) (x
          ∷ others.0.0) is others.0.1 rest others.2
          ((after, first, below.0), rw opens below.1, omega (arith, below.2))

no_items : (bytes : List ℕ) (is : List Instruction) (rest : List ℕ)
    → AreItems IsInstruction bytes is rest → is ≡ [] → rest ≡ bytes
no_items bytes [] rest h e = h
no_items bytes (i ∷ is) rest h e = absurd cc

pub rest_complete : (most : ℕ) (openers : List Opener) (bytes : List ℕ) (is : List Instruction)
    (rest : List ℕ) → IsRest most openers bytes is rest
    → expression_up_to_at most openers bytes ≡ Some (is, rest)
unfolding expression_up_to_at
rest_complete most openers bytes [] rest h = absurd h.1
rest_complete zero openers bytes (i ∷ is) rest h = absurd (omega (arith, h.2))
rest_complete (suc most) openers bytes (i ∷ is) rest h =
    rw (Reads-instruction_at.complete bytes i h.0.0 h.0.1) (by_nesting (nesting_after i openers) h.1
    (λ inner c. rest_complete most inner h.0.0 is rest (h.0.2, c, omega (arith, h.2)))) where
      by_nesting : (n : Nesting) → After n (is ≡ []) (λ inner. AreClosed inner is)
          → ((inner : List Opener) → AreClosed inner is
          → expression_up_to_at most inner h.0.0 ≡ Some (is, rest))
          → rest_of_expression n i h.0.0 (λ inner. expression_up_to_at most inner h.0.0)
          ≡ Some (i ∷ is, rest)
      by_nesting Closed closed go = rw (closed, no_items h.0.0 is rest h.0.2 closed) refl
      by_nesting Misplaced closed go = absurd closed
      by_nesting (Open inner) closed go = rw (go inner closed) refl

-- an expression of at most so many instructions
abbrev pub IsExpressionUpTo : ℕ → List ℕ → List Instruction → List ℕ → Type 0
IsExpressionUpTo most bytes is rest = IsExpression bytes is rest × (length is ≤ most)

pub Reads-expression_up_to_at : (most : ℕ)
    → Reads (IsExpressionUpTo most) (expression_up_to_at most [])
Reads-expression_up_to_at most = record {
  sound = λ bytes is rest e.
      let h = rest_sound most [] bytes is rest e in
      let s = sequence_of_closed is h.1 in
      ((s.0, s.1, h.0), h.2);
  complete = λ bytes is rest h. rest_complete most [] bytes is rest (
    h.0.2,
    closed_by_sequence is h.0.0 h.0.1,
    h.1,
  );
}

pub Reads-expression_at : Reads IsExpression expression_at
unfolding expression_at
Reads-expression_at = record {
  sound = λ bytes is rest e. ((Reads-expression_up_to_at (length bytes)).sound bytes is rest e).0;
  complete = λ bytes is rest h.
      let few : length is ≤ length bytes =
      omega (arith, items_shorter IsInstruction instruction_shorter bytes is rest h.2) in
      (Reads-expression_up_to_at (length bytes)).complete bytes is rest (h, few);
}
