use Rattle.std.proofs.Common.{◌≡◌, List, ℕ, Some, length}
use Rattle.wasm_syntax.specs.rules.Modules.{preamble}
use Rattle.wasm_syntax.specs.laws.ReadingItems.{fixed_at}
use Rattle.wasm_places.specs.FunctionNames.{InSection}
use Rattle.wasm_places.proofs.FunctionNameLemmas.{SectionsSoFar}
use Rattle.wasm_places.proofs.function_names.name_of_function.Given as goal

abbrev pub invariant-loop-id : goal.invariant-loop-id
invariant-loop-id l =
    (after : List ℕ) × (fixed_at preamble l.fn.module ≡ Some (tt, after))
    × SectionsSoFar (λ name s. InSection l.fn.function s name) after l.rest

abbrev pub decreases-loop-id : goal.decreases-loop-id
decreases-loop-id l = length l.rest
