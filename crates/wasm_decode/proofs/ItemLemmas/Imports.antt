-- Imports and how many functions were imported before, by imports alone.
use Rattle.std.proofs.Common.{◌≡◌, ℕ, Bool, true, false, List, Option, Some, None, refl, cond}
use Rattle.wasm_syntax.specs.declared.module.Import.{Import}
use Rattle.wasm_syntax.specs.declared.module.ImportItem.{ImportItem}
use Rattle.wasm_syntax.specs.laws.ReadingItems.{◌>>=◌, name_at}
use Rattle.wasm_syntax.specs.laws.ReadingWithin.{import_item_within_at, import_within_at}
use Rattle.wasm_decode.specs.Items.Entries.{is_one_too_many, import_item_up_to_at, import_up_to_at}

abbrev pub bounded : ℕ → Import × List ℕ → Option (Import × List ℕ)
bounded functions i = cond (is_one_too_many functions i.0.item) None (Some i)

abbrev made : List ℕ → List ℕ → ImportItem × List ℕ → Option (Import × List ℕ)
made module_name name item = Some (
  record { module_name = module_name; name = name; item = item.0 },
  item.1,
)

pub import_is_bounded : (functions : ℕ) (bytes : List ℕ)
    → import_up_to_at functions bytes ≡ (import_within_at bytes >>= bounded functions)
unfolding import_up_to_at import_within_at
import_is_bounded functions bytes = by_module_name (name_at bytes) where
  by_test : (b : Bool) (module_name name : List ℕ) (item : ImportItem × List ℕ)
      → (cond b None (Some item) >>= made module_name name)
      ≡ cond b None (made module_name name item)
  by_test true module_name name item = refl
  by_test false module_name name item = refl

  by_item : (o : Option (ImportItem × List ℕ)) (module_name name : List ℕ)
      → ((o >>= λ i. cond (is_one_too_many functions i.0) None (Some i)) >>= made module_name name)
      ≡ ((o >>= made module_name name) >>= bounded functions)
  by_item None module_name name = refl
  by_item (Some item) module_name name =
      by_test (is_one_too_many functions item.0) module_name name item

  by_name : (o : Option (List ℕ × List ℕ)) (module_name : List ℕ)
      → (o >>= λ name. import_item_up_to_at functions name.1 >>= made module_name name.0)
      ≡ ((o >>= λ name. import_item_within_at name.1 >>= made module_name name.0)
      >>= bounded functions)
  by_name None module_name = refl
  by_name (Some name) module_name = by_item (import_item_within_at name.1) module_name name.0

  by_module_name : (o : Option (List ℕ × List ℕ))
      → (o >>= λ m. name_at m.1 >>= λ name. import_item_up_to_at functions name.1
      >>= made m.0 name.0) ≡ ((o >>= λ m. name_at m.1 >>= λ name. import_item_within_at name.1
      >>= made m.0 name.0) >>= bounded functions)
  by_module_name None = refl
  by_module_name (Some m) = by_name (name_at m.1) m.0
