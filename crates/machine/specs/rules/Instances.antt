-- What an instance stands for.
use Rattle.std.specs.Prelude.{◌≡◌, ℕ}
use Rattle.wasm_syntax.specs.declared.module.Module.{Module}
use Rattle.wasm_rules.specs.Validity.{memories_of}
use Rattle.wasm_rules.specs.Configuration.{Store}
use Rattle.wasm_rules.specs.Instantiation.{most_pages_of}
use Rattle.wasm_rules.specs.Linking.{IsLinkable}
use Rattle.machine.specs.declared.instance.instance.Instance.{Instance}
use Rattle.machine.specs.rules.Offers.{offer, AreImportedCalls}

-- the store that it holds
abbrev pub store_of : Instance → Store
store_of i = record { memory = i.memory.bytes; globals = i.globals.items; table = i.table.items }

-- It is of this module, which can be linked under so many pages with its entry and its store. Its
-- memory may have as many pages as a program of the module may have, and its calls are those of the
-- imports.
pub record IsLinked (pages : ℕ) (m : Module) (i : Instance) : Type 0 where
  pub same : i.«module» ≡ m
  pub linkable : IsLinkable offer pages m
  pub entry : linkable.entry ≡ i.entry
  pub store : linkable.store ≡ store_of i
  pub limit : i.memory.limit ≡ most_pages_of (memories_of m) pages
  pub calls : AreImportedCalls m.imports i.calls.items
