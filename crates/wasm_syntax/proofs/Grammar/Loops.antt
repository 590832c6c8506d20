-- Readers that a loop runs one item after another: what was read before, and what is still read,
-- are together what is read in all.
use Rattle.std.proofs.Common.{◌≡◌, ℕ, suc, ◌-◌, ◌+◌, ◌≤◌, ◌<◌, List, [], ◌∷◌, ◌++◌, Option, Some}
use Rattle.std.proofs.Common.{None, refl, sym, ap, ◌∙◌, append_assoc, arith}
use Rattle.std.proofs.lemmas.List.{append-nil}
use Rattle.wasm_syntax.specs.declared.instruction.Instruction.{Instruction}
use Rattle.wasm_syntax.specs.declared.opener.Opener.{Opener}
use Rattle.wasm_syntax.specs.laws.ReadingItems.{◌>>=◌, items_at}
use Rattle.wasm_syntax.specs.laws.ReadingInstructions.{instruction_at, Open, Closed, Misplaced}
use Rattle.wasm_syntax.specs.laws.ReadingInstructions.{nesting_after, expression_up_to_at}

-- what was read before, and what is still read
abbrev pub with_front : {X : Type 0} → List X → Option (List X × List ℕ) → Option (List X × List ℕ)
with_front front read = read >>= λ x. Some (front ++ x.0, x.1)

with_front-push : {X : Type 0} (front : List X) (x : X) (read : Option (List X × List ℕ))
    → with_front front (read >>= λ others. Some (x ∷ others.0, others.1))
    ≡ with_front (front ++ x ∷ []) read
with_front-push {X} front x (Some others) =
    ap (λ (xs : List X). Some (xs, others.1)) (simp append_assoc)
with_front-push front x None = refl

pub with_front-nil : {X : Type 0} (read : Option (List X × List ℕ)) → with_front [] read ≡ read
with_front-nil (Some x) = refl
with_front-nil None = refl

-- ---- so many items: `i` of `count` were read

module _ {X : Type 0} (item_at : List ℕ
    → Option (X × List ℕ)) (front : List X) (count i : ℕ) (bytes : List ℕ) (total : Option (List X
    × List ℕ)) where
  pub items_go_on : (x : X) (after : List ℕ) → i < count → item_at bytes ≡ Some (x, after)
      → with_front front (items_at item_at (count - i) bytes) ≡ total
      → with_front (front ++ x ∷ []) (items_at item_at (count - (i + 1)) after) ≡ total
  unfolding items_at
  items_go_on x after lt h so_far =
      let k : count - i ≡ suc (count - (i + 1)) = omega arith in
      let one : with_front front (items_at item_at (count - i) bytes)
      ≡ with_front (front ++ x ∷ []) (items_at item_at (count - (i + 1)) after) = rw (
        k,
        h,
      ) (with_front-push front x (items_at item_at (count - (i + 1)) after)) in
      sym one ∙ so_far

  pub items_fail : i < count → item_at bytes ≡ None
      → with_front front (items_at item_at (count - i) bytes) ≡ total → total ≡ None
  unfolding items_at
  items_fail lt h so_far =
      let k : count - i ≡ suc (count - (i + 1)) = omega arith in
      let one : with_front front (items_at item_at (count - i) bytes) ≡ None = rw (k, h) refl in
      sym so_far ∙ one

  pub items_are_done : count ≤ i → with_front front (items_at item_at (count - i) bytes) ≡ total
      → total ≡ Some (front, bytes)
  unfolding items_at
  items_are_done le so_far =
      let k : count - i ≡ 0 = omega arith in
      let one : with_front front (items_at item_at (count - i) bytes) ≡ Some (front, bytes) =
      rw k (ap (λ (xs : List X). Some (xs, bytes)) (append-nil front)) in
      sym so_far ∙ one

-- ---- an expression of at most so many instructions: `i` of them were read

module _ (front : List Instruction) (most i : ℕ) (openers : List Opener) (bytes : List ℕ)
    (total : Option (List Instruction × List ℕ)) where
  pub expression_goes_on : (x : Instruction) (after : List ℕ) (inner : List Opener) → i < most
      → instruction_at bytes ≡ Some (x, after) → nesting_after x openers ≡ Open inner
      → with_front front (expression_up_to_at (most - i) openers bytes) ≡ total
      → with_front (front ++ x ∷ []) (expression_up_to_at (most - (i + 1)) inner after) ≡ total
  unfolding expression_up_to_at
  expression_goes_on x after inner lt h opens so_far =
      let k : most - i ≡ suc (most - (i + 1)) = omega arith in
      let one : with_front front (expression_up_to_at (most - i) openers bytes)
      ≡ with_front (front ++ x ∷ []) (expression_up_to_at (most - (i + 1)) inner after) = rw (
        k,
        h,
        opens,
      ) (with_front-push front x (expression_up_to_at (most - (i + 1)) inner after)) in
      sym one ∙ so_far

  pub expression_closes : (x : Instruction) (after : List ℕ) → i < most
      → instruction_at bytes ≡ Some (x, after) → nesting_after x openers ≡ Closed
      → with_front front (expression_up_to_at (most - i) openers bytes) ≡ total
      → total ≡ Some (front ++ x ∷ [], after)
  unfolding expression_up_to_at
  expression_closes x after lt h closes so_far =
      let k : most - i ≡ suc (most - (i + 1)) = omega arith in
      let one : with_front front (expression_up_to_at (most - i) openers bytes)
      ≡ Some (front ++ x ∷ [], after) = rw (k, h, closes) refl in
      sym so_far ∙ one

  pub expression_is_misplaced : (x : Instruction) (after : List ℕ) → i < most
      → instruction_at bytes ≡ Some (x, after) → nesting_after x openers ≡ Misplaced
      → with_front front (expression_up_to_at (most - i) openers bytes) ≡ total → total ≡ None
  unfolding expression_up_to_at
  expression_is_misplaced x after lt h misplaced so_far =
      let k : most - i ≡ suc (most - (i + 1)) = omega arith in
      let one : with_front front (expression_up_to_at (most - i) openers bytes) ≡ None =
      rw (k, h, misplaced) refl in
      sym so_far ∙ one

  pub expression_fails : i < most → instruction_at bytes ≡ None
      → with_front front (expression_up_to_at (most - i) openers bytes) ≡ total → total ≡ None
  unfolding expression_up_to_at
  expression_fails lt h so_far =
      let k : most - i ≡ suc (most - (i + 1)) = omega arith in
      let one : with_front front (expression_up_to_at (most - i) openers bytes) ≡ None =
      rw (k, h) refl in
      sym so_far ∙ one

  pub expression_runs_out : most ≤ i
      → with_front front (expression_up_to_at (most - i) openers bytes) ≡ total → total ≡ None
  unfolding expression_up_to_at
  expression_runs_out le so_far =
      let k : most - i ≡ 0 = omega arith in
      let one : with_front front (expression_up_to_at (most - i) openers bytes) ≡ None = rw k refl
      in
      sym so_far ∙ one
