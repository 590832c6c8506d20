-- Imports, read one after another with a count of the functions among them.
use Rattle.std.proofs.Common.{◌≡◌, ℕ, ◌+◌, ◌-◌, ◌≤◌, ◌<◌, false, cond, eqb, List, []}
use Rattle.std.proofs.Common.{◌∷◌, ◌++◌, length, Some, None, refl, ap, ◌∙◌, arith}
use Rattle.std.proofs.lemmas.Bool.{ne_eqb}
use Rattle.std.proofs.lemmas.List.Sums.{sum_by-append}
use Rattle.wasm_syntax.specs.declared.module.Import.{Import}
use Rattle.wasm_syntax.specs.declared.module.ImportItem.{ImportItem}
use Rattle.wasm_syntax.specs.declared.module.ImportItem.TheVariants as import
use Rattle.wasm_syntax.specs.rules.Limits.{is_function}
use Rattle.wasm_syntax.specs.laws.ReadingItems.{leb_u32_at, items_at, vector_at}
use Rattle.wasm_syntax.specs.laws.ReadingModules.{import_at}
use Rattle.wasm_syntax.proofs.Grammar.Loops.{with_front, with_front-nil, items_go_on, items_fail}
use Rattle.wasm_syntax.proofs.Grammar.Loops.{items_are_done}
use Rattle.wasm_decode.specs.Contents.{functions_of_item}
use Rattle.wasm_places.specs.Imported.{count_functions, count_imported}

-- ---- one more

one_counts : (module_name name : List ℕ) (item : ImportItem) → let i : Import =
    record { module_name = module_name; name = name; item = item } in
    count_functions (i ∷ []) ≡ functions_of_item item
one_counts module_name name (import.Function t) = refl
one_counts module_name name _ = refl

one_more : (imports : List Import) (i : Import)
    → count_functions (imports ++ i ∷ []) ≡ count_functions imports + functions_of_item i.item
one_more imports i = sum_by-append (λ (j : Import). cond (is_function j) 1 0) imports (i ∷ [])
    ∙ ap (λ (n : ℕ). count_functions imports + n) (one_counts i.module_name i.name i.item)

at_most_one : (item : ImportItem) → functions_of_item item ≤ 1
at_most_one (import.Function t) = omega arith
at_most_one _ = omega arith

-- ---- what the loop has

-- so many imports were read, with so many functions among them
pub record ImportsSoFar (section : List ℕ) (count number functions : ℕ) (now : List ℕ)
    : Type 0 where
  pub items : List ℕ
  pub counted : leb_u32_at section ≡ Some (count, items)
  pub front : List Import
  pub so_far : with_front front (items_at import_at (count - number) now)
      ≡ items_at import_at count items
  pub functions_are : functions ≡ count_functions front
  pub few : functions ≤ number

module _ (section : List ℕ) where
  pub no_count : leb_u32_at section ≡ None → None ≡ count_imported (Some section)
  unfolding vector_at
  no_count e = rw e refl

  pub imports_begin : (count : ℕ) (items : List ℕ) → leb_u32_at section ≡ Some (count, items)
      → ImportsSoFar section count 0 0 items
  imports_begin count items counted = record {
    items = items;
    counted = counted;
    front = [];
    so_far = (let all : count - 0 ≡ count = omega arith in
        rw all (with_front-nil (items_at import_at count items)));
    functions_are = refl;
    few = omega arith;
  }

  module _ (count number functions : ℕ) (now : List ℕ)
      (s : ImportsSoFar section count number functions now) where
    pub imports_go_on : (i : Import) (after : List ℕ) → number < count
        → import_at now ≡ Some (i, after)
        → ImportsSoFar section count (number + 1) (functions + functions_of_item i.item) after
    imports_go_on i after lt read = record {
      items = s.items;
      counted = s.counted;
      front = s.front ++ i ∷ [];
      so_far = items_go_on import_at s.front count number now (items_at import_at count s.items) i
          after lt read s.so_far;
      functions_are = rw (one_more s.front i, s.functions_are) refl;
      few = omega (arith, s.few, at_most_one i.item);
    }

    pub import_fails : number < count → import_at now ≡ None
        → None ≡ count_imported (Some section)
    unfolding vector_at
    import_fails lt none =
        let all = items_fail import_at s.front count number now (items_at import_at count s.items)
        lt none s.so_far in
        rw (s.counted, all) refl

    all_read : count ≤ number → items_at import_at count s.items ≡ Some (s.front, now)
    all_read done = items_are_done import_at s.front count number now
        (items_at import_at count s.items) done s.so_far

    pub imports_done : count ≤ number → now ≡ []
        → Some functions ≡ count_imported (Some section)
    unfolding vector_at
    imports_done done ended =
        rw (s.counted, all_read done, ended) (ap (λ (n : ℕ). Some n) s.functions_are)

    pub imports_leave : count ≤ number → (now ≡ [] → ⊥)
        → None ≡ count_imported (Some section)
    unfolding vector_at
    imports_leave done more = by_rest now (all_read done) more where
      by_rest : (rest : List ℕ) → items_at import_at count s.items ≡ Some (s.front, rest)
          → (rest ≡ [] → ⊥) → None ≡ count_imported (Some section)
      by_rest [] e more = absurd (more refl)
      by_rest (b ∷ rest) e more =
          let some_left : eqb (length (b ∷ rest)) 0 ≡ false =
          ne_eqb (length (b ∷ rest)) 0 (λ none. absurd (omega (arith, none))) in
          rw (s.counted, e, some_left) refl
