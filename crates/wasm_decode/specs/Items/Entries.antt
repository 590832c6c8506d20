-- Entries that keep to a limit on what was read before them.
use Rattle.std.specs.Prelude.{ℕ, zero, suc, ◌+◌, nat_le, if◌then◌else◌, Bool, false, List, ◌++◌}
use Rattle.std.specs.Prelude.{length, replicate, Option, Some, None}
use Rattle.wasm_syntax.specs.declared.types.ValueType.{ValueType}
use Rattle.wasm_syntax.specs.declared.module.Import.{Import}
use Rattle.wasm_syntax.specs.declared.module.ImportItem.{ImportItem}
use Rattle.wasm_syntax.specs.declared.module.ImportItem.TheVariants as import
use Rattle.wasm_syntax.specs.declared.limits.TheConstants.{FUNCTIONS, LOCALS}
use Rattle.wasm_syntax.specs.rules.Modules.{locals_of}
use Rattle.wasm_syntax.specs.laws.ReadingItems.{◌>>=◌, check, leb_u32_at, vector_at, name_at}
use Rattle.wasm_syntax.specs.laws.ReadingItems.{value_type_at}
use Rattle.wasm_syntax.specs.laws.ReadingModules.{run_at, locals_count}
use Rattle.wasm_syntax.specs.laws.ReadingWithin.{import_item_within_at}

-- whether it is a function too many, where so many functions were imported before
abbrev pub is_one_too_many : ℕ → ImportItem → Bool
is_one_too_many functions (import.Function t) = nat_le FUNCTIONS functions
is_one_too_many functions _ = false

-- what is imported, where so many functions were imported before
abbrev pub import_item_up_to_at : ℕ → List ℕ → Option (ImportItem × List ℕ)
import_item_up_to_at functions bytes = import_item_within_at bytes
    >>= λ i. if is_one_too_many functions i.0 then None else Some i

unfoldable pub import_up_to_at : ℕ → List ℕ → Option (Import × List ℕ)
import_up_to_at functions bytes =
    name_at bytes >>= λ module_name. name_at module_name.1
    >>= λ name. import_item_up_to_at functions name.1 >>= λ item.
    Some (record { module_name = module_name.0; name = name.0; item = item.0 }, item.1)

-- a run of locals, added to those that were declared before
unfoldable pub run_onto_at : List ValueType → List ℕ → Option (List ValueType × List ℕ)
run_onto_at locals bytes =
    leb_u32_at bytes >>= λ count. check (nat_le (length locals + count.0) LOCALS)
    >>= λ _. value_type_at count.1 >>= λ t.
    Some (locals ++ replicate count.0 t.0, t.1)

-- so many runs of locals, added one after another
unfoldable pub runs_onto_at : ℕ → List ValueType → List ℕ → Option (List ValueType × List ℕ)
runs_onto_at zero locals bytes = Some (locals, bytes)
runs_onto_at (suc n) locals bytes = run_onto_at locals bytes
    >>= λ more. runs_onto_at n more.0 more.1

-- the locals of a vector of runs
unfoldable pub locals_within_at : List ℕ → Option (List ValueType × List ℕ)
locals_within_at bytes = vector_at run_at bytes
    >>= λ runs. check (nat_le (locals_count runs.0) LOCALS) >>= λ _. Some (locals_of runs.0, runs.1)
