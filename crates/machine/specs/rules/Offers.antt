-- What the host offers to a module: all calls, by their names and with their types.
use Rattle.std.specs.Prelude.{◌≡◌, ℕ, List, map, Option, Some, None, if◌then◌else◌}
use Rattle.std.specs.Option.{option_map}
use Rattle.std.specs.List.{find}
use Rattle.std.specs.Str.{bytes_eq}
use Rattle.wasm_syntax.specs.declared.module.Import.{Import}
use Rattle.wasi_abi.specs.declared.call.Call.{Call}
use Rattle.wasi_abi.specs.rules.Calls.{module_name, all_calls, name_of, call_type_of}
use Rattle.wasm_rules.specs.Linking.{Offer}

-- the call with this name, under the name of their module
unfoldable pub offered_call : List ℕ → List ℕ → Option Call
offered_call from name = if bytes_eq from module_name
    then find (λ c. bytes_eq (name_of c) name) all_calls else None

-- the host's functions: the calls with their types
unfoldable pub offer : Offer
offer from name = option_map call_type_of (offered_call from name)

-- the call that an import names, if there is one
abbrev pub imported_call : Import → Option Call
imported_call i = offered_call i.module_name i.name

-- the calls that these imports name, in their order
abbrev pub AreImportedCalls : List Import → List Call → Type 0
AreImportedCalls imports calls = map imported_call imports ≡ map Some calls
