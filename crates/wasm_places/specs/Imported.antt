-- Imported functions, counted while the imports are read.
use Rattle.std.specs.Prelude.{ℕ, List, [], count_by, Option, option_map}
use Rattle.wasm_syntax.specs.declared.module.Import.{Import}
use Rattle.wasm_syntax.specs.laws.ReadingItems.{vector_at}
use Rattle.wasm_syntax.specs.laws.ReadingModules.{field_at, import_at}
use Rattle.wasm_syntax.specs.rules.Limits.{is_function}
use Rattle.wasm_places.specs.declared.imports.NamedImport.{NamedImport}

-- the import that this one is
abbrev pub import_with : NamedImport → Import
import_with i = record {
  module_name = i.names.module_name.now;
  name = i.names.name.now;
  item = i.item;
}

-- how many functions these are
abbrev pub count_functions : List Import → ℕ
count_functions imports = count_by is_function imports

-- how many functions a module imports, by the bytes of its section of imports
abbrev pub count_imported : Option (List ℕ) → Option ℕ
count_imported section = option_map count_functions (field_at (vector_at import_at) [] section)
