use Rattle.std.proofs.Common.{◌≡◌, List, ℕ, All, ◌<◌, length, ◌++◌, map, refl, sym, ◌∙◌, subst}
use Rattle.std.proofs.Common.{lit<}
use Rattle.wasm_rules.specs.Types.{imported_functions}
use Rattle.wasm_syntax.specs.rules.Modules.{function_type_of}
use Rattle.wasm_rules.specs.Validity.{AreTypesAt}
use Rattle.wasm_validate.proofs.PartLemmas.Lookups.{HaveTypes-from_below, below_from_HaveTypes}
use Rattle.wasm_validate.proofs.PartLemmas.Lookups.{has_first, is_false}
use Rattle.wasm_validate.specs.Parts.Contexts.{HaveTypes}
use Rattle.wasm_validate.proofs.parts.context.ModuleContext.of.Goals as goal

pub returns-then-not-are_below-clause-refused : goal.returns-then-not-are_below-clause-refused
returns-then-not-are_below-clause-refused c = (
  refl,
  λ h.
      let m = c.args.module.now in
      let below = below_from_HaveTypes m.types (imported_functions m.imports
      ++ map function_type_of m.functions) h.0 h.1 in
      is_false (c.if-not-are_below.ensures.1 (rw (
        c.as_slice.ensures.value,
        c.in_ok-function_types.ensures,
        c.as_slice-types.ensures,
      ) below)),
)

pub returns-clause-found : goal.returns-clause-found
returns-clause-found c =
    let m = c.args.module.now in
    let indices = imported_functions m.imports ++ map function_type_of m.functions in
    let e : c.as_slice.result.now ≡ indices = c.as_slice.ensures.value
    ∙ c.in_ok-function_types.ensures in
    let below : All (λ x. x < length m.types) c.as_slice.result.now =
    rw c.as_slice-types.ensures at (c.if-not-are_below.ensures.0 refl) in
    let P : List ℕ → Type 0 = HaveTypes m.types in
    subst P e (HaveTypes-from_below m.types c.as_slice.result.now below)

pub returns-clause-context : goal.returns-clause-context
returns-clause-context c = λ functions h.
    let m = c.args.module.now in
    let P : List ℕ → Type 0 = λ xs. AreTypesAt m.types xs functions in
    record {
      types = c.as_slice-types.ensures;
      functions = subst P (sym c.in_ok-function_types.ensures) h;
      globals = c.in_ok-globals.ensures;
      table = has_first _ c.table_count.result _ (lit< tt) c.table_count.ensures;
      memory = has_first _ c.memory_count.result _ (lit< tt) c.memory_count.ensures;
    }
