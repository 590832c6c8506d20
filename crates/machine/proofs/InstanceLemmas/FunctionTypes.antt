-- The index of a function's type, import by import.
use Rattle.std.proofs.Common.{◌≡◌, ℕ, ◌+◌, ◌≤◌, List, ◌++◌, length, drop, map, ◌∙◌}
use Rattle.std.specs.Prelude.{slice_get}
use Rattle.std.specs.Option.{option_map}
use Rattle.std.proofs.lemmas.List.{at_drop_all}
use Rattle.std.proofs.lemmas.Option.{slice_get-map}
use Rattle.wasm_syntax.specs.declared.module.Import.{Import}
use Rattle.wasm_syntax.specs.declared.module.Function.{Function}
use Rattle.wasm_rules.specs.Types.{imported_functions}
use Rattle.wasm_syntax.specs.rules.Modules.{function_type_of}

-- the indices of the types of all functions
abbrev pub all_types : List Import → List Function → List ℕ
all_types imports functions = imported_functions imports ++ map function_type_of functions

-- past all imports
pub own_type : (imports : List Import) (functions : List Function) (i index_left x : ℕ)
    → length imports ≤ i
    → slice_get (all_types imports functions) x
    ≡ slice_get (all_types (drop i imports) functions) index_left
    → slice_get (all_types imports functions) x
    ≡ option_map function_type_of (slice_get functions index_left)
own_type imports functions i index_left x h so_far =
    so_far ∙ (at_drop_all (λ is. slice_get (all_types is functions) index_left) imports i h
    ∙ slice_get-map function_type_of functions index_left)
