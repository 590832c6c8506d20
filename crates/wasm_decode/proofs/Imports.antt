-- Imports, read one after another with a count of the functions among them.
use Rattle.std.proofs.Common.{◌≡◌, ℕ, ◌+◌, ◌-◌, ◌≤◌, ◌<◌, Bool, true, false, cond, eqb, List, []}
use Rattle.std.proofs.Common.{◌∷◌, ◌++◌, length, Option, Some, None, refl, sym, ap, ◌∙◌, arith}
use Rattle.std.specs.Prelude.{count_by}
use Rattle.std.proofs.lemmas.Bool.{leb-true, le-leb, leb-false, lt-leb}
use Rattle.std.proofs.lemmas.List.Sums.{sum_by-append}
use Rattle.wasm_syntax.specs.declared.module.Import.{Import}
use Rattle.wasm_syntax.specs.declared.module.ImportItem.{ImportItem}
use Rattle.wasm_syntax.specs.declared.module.ImportItem.TheVariants as import
use Rattle.wasm_syntax.specs.declared.limits.TheConstants.{FUNCTIONS}
use Rattle.wasm_syntax.specs.rules.Limits.{is_function}
use Rattle.wasm_syntax.specs.laws.ReadingItems.{◌>>=◌, check, leb_u32_at, items_at, vector_at}
use Rattle.wasm_syntax.specs.laws.ReadingModules.{field_at}
use Rattle.wasm_syntax.specs.laws.ReadingWithin.{import_within_at, functions_left}
use Rattle.wasm_syntax.proofs.Grammar.Exact.{some_is, bind_bind}
use Rattle.wasm_syntax.proofs.Grammar.Loops.{with_front, items_go_on, items_fail}
use Rattle.wasm_decode.specs.Items.Entries.{is_one_too_many, import_up_to_at}
use Rattle.wasm_decode.proofs.ItemLemmas.Binds.{bind_none}
use Rattle.wasm_decode.proofs.ItemLemmas.Imports.{bounded, import_is_bounded}
use Rattle.wasm_decode.specs.declared.imported.Imports.{Imports}
use Rattle.wasm_decode.specs.Contents.{functions_of_item, imports_at, no_imports}

-- ---- one more import

one_counts : (module_name name : List ℕ) (item : ImportItem) → let i : Import =
    record { module_name = module_name; name = name; item = item } in
    count_by is_function (i ∷ []) ≡ functions_of_item item
one_counts module_name name (import.Function t) = refl
one_counts module_name name _ = refl

pub one_more : (imports : List Import) (i : Import)
    → count_by is_function (imports ++ i ∷ [])
    ≡ count_by is_function imports + functions_of_item i.item
one_more imports i = sum_by-append (λ (j : Import). cond (is_function j) 1 0) imports (i ∷ [])
    ∙ ap (λ (n : ℕ). count_by is_function imports + n) (one_counts i.module_name i.name i.item)

pub still_few : (functions : ℕ) (item : ImportItem) → functions ≤ FUNCTIONS
    → is_one_too_many functions item ≡ false → functions + functions_of_item item ≤ FUNCTIONS
still_few functions (import.Function t) h e = omega (arith, leb-false _ _ e)
still_few functions _ h e = omega arith

too_many : (functions : ℕ) (item : ImportItem) → is_one_too_many functions item ≡ true
    → FUNCTIONS < functions + functions_of_item item
too_many functions (import.Function t) e = omega (arith, leb-true _ _ e)
too_many functions _ e = absurd cc

-- ---- what an import read within the count says of it alone

alone_some : (functions : ℕ) (o : Option (Import × List ℕ)) (x : Import × List ℕ)
    → (o >>= bounded functions) ≡ Some x
    → (o ≡ Some x) × (is_one_too_many functions x.0.item ≡ false)
alone_some functions None x e = absurd cc
alone_some functions (Some y) x e = by_test (is_one_too_many functions y.0.item) refl e where
  by_test : (b : Bool) → is_one_too_many functions y.0.item ≡ b → cond b None (Some y) ≡ Some x
      → (Some y ≡ Some x) × (is_one_too_many functions x.0.item ≡ false)
  by_test true is e = absurd cc
  by_test false is e = (
    e,
    ap (λ (z : Import × List ℕ). is_one_too_many functions z.0.item) (sym (some_is y x e))
        ∙ is,
  )

pub import_alone : (functions : ℕ) (bytes : List ℕ) (i : Import) (after : List ℕ)
    → import_up_to_at functions bytes ≡ Some (i, after)
    → (import_within_at bytes ≡ Some (i, after)) × (is_one_too_many functions i.item ≡ false)
import_alone functions bytes i after e =
    alone_some functions (import_within_at bytes) (
      i,
      after,
    ) (sym (import_is_bounded functions bytes) ∙ e)

-- ---- so many imports: `i` of `count` were read

-- what is read in all
abbrev pub few : List Import × List ℕ → Option (Imports × List ℕ)
few imports = functions_left imports.0 >>= λ count_left. Some (
  record {
    items = imports.0;
    functions_left = count_left;
  },
  imports.1,
)

past_few : (imports : List Import × List ℕ) → FUNCTIONS < count_by is_function imports.0
    → few imports ≡ None
past_few imports h = rw (lt-leb _ _ h) refl

pub few_are : (imports : List Import) (after : List ℕ) (functions : ℕ)
    → functions ≡ count_by is_function imports → functions ≤ FUNCTIONS
    → few (imports, after) ≡ Some (
      record {
        items = imports;
        functions_left = FUNCTIONS - functions;
      },
      after,
    )
few_are imports after functions counted h =
    let few_enough : count_by is_function imports ≤ FUNCTIONS = omega arith in
    rw (le-leb _ _ few_enough, counted) refl

more_count : (front : List Import) (i : Import) (others : List Import)
    → FUNCTIONS < count_by is_function front + functions_of_item i.item
    → FUNCTIONS < count_by is_function ((front ++ i ∷ []) ++ others)
more_count front i others h =
    omega (
      arith,
      one_more front i,
      sum_by-append (λ (j : Import). cond (is_function j) 1 0) (front
          ++ i ∷ []) others,
    )

module _ (front : List Import) (count i functions : ℕ) (bytes : List ℕ) (total : Option (List Import
    × List ℕ)) where
  by_alone : (o : Option (Import × List ℕ)) → import_within_at bytes ≡ o
      → (o >>= bounded functions) ≡ None → i < count → functions ≡ count_by is_function front
      → with_front front (items_at import_within_at (count - i) bytes) ≡ total
      → (total >>= few) ≡ None
  by_alone None is e lt counted so_far =
      ap (λ (t : Option (List Import × List ℕ)). t
      >>= few) (items_fail import_within_at front count i bytes total lt is so_far)
  by_alone (Some x) is e lt counted so_far =
      by_test (is_one_too_many functions x.0.item) refl e where
        by_test : (b : Bool) → is_one_too_many functions x.0.item ≡ b → cond b None (Some x) ≡ None
            → (total >>= few) ≡ None
        by_test false test e = absurd cc
        by_test true test e =
            let past : FUNCTIONS < count_by is_function front + functions_of_item x.0.item =
            omega (arith, too_many functions x.0.item test, counted) in
            let all = items_go_on import_within_at front count i bytes total x.0 x.1 lt is so_far in
            let items_left = items_at import_within_at (count - (i + 1)) x.1 in
            ap (λ (t : Option (List Import × List ℕ)). t >>= few) (sym all)
            ∙ bind_bind items_left (λ (y : List Import × List ℕ). Some (
              (front ++ x.0 ∷ []) ++ y.0,
              y.1,
            )) few
            ∙ bind_none items_left (λ (y : List Import × List ℕ). few (
              (front ++ x.0 ∷ []) ++ y.0,
              y.1,
            )) (λ y. past_few ((front ++ x.0 ∷ []) ++ y.0, y.1) (more_count front x.0 y.0 past))

  pub imports_fail : i < count → functions ≡ count_by is_function front
      → import_up_to_at functions bytes ≡ None
      → with_front front (items_at import_within_at (count - i) bytes) ≡ total
      → (total >>= few) ≡ None
  imports_fail lt counted e so_far =
      by_alone (import_within_at bytes) refl (sym (import_is_bounded functions bytes)
      ∙ e) lt counted so_far

-- the same after the count
pub imports_behind_count : (bytes : List ℕ) (count : ℕ) (after : List ℕ)
    → leb_u32_at bytes ≡ Some (count, after)
    → imports_at bytes ≡ (items_at import_within_at count after >>= few)
unfolding imports_at vector_at
imports_behind_count bytes count after e = rw e refl

pub imports_without_count : (bytes : List ℕ) → leb_u32_at bytes ≡ None → imports_at bytes ≡ None
unfolding imports_at vector_at
imports_without_count bytes e = rw e refl

-- ---- the import section

pub imports_step : {C : Type 0} (body : Option (List ℕ)) (go : List Import → ℕ → Option C)
    → (field_at (vector_at import_within_at) [] body >>= λ imports. functions_left imports
    >>= λ count_left. go imports count_left) ≡ (field_at imports_at no_imports body
    >>= λ imports. go imports.items imports.functions_left)
unfolding imports_at
imports_step None go = refl
imports_step (Some b) go = by_vector (vector_at import_within_at b) where
  by_both : (all : Bool) (count_left : Option ℕ) (imports : List Import × List ℕ)
      → eqb (length imports.1) 0 ≡ all → functions_left imports.0 ≡ count_left
      → ((check (eqb (length imports.1) 0) >>= λ _. Some imports.0) >>= λ is. functions_left is
      >>= λ n. go is n) ≡ ((few imports >>= λ x. check (eqb (length x.1) 0) >>= λ _. Some x.0)
      >>= λ is. go is.items is.functions_left)
  by_both true (Some n) imports is_all is_left = rw (is_left, is_all, is_left) refl
  by_both true None imports is_all is_left = rw (is_all, is_left) refl
  by_both false (Some n) imports is_all is_left = rw (is_left, is_all) refl
  by_both false None imports is_all is_left = rw (is_left, is_all) refl

  by_vector : (o : Option (List Import × List ℕ))
      → ((o >>= λ x. check (eqb (length x.1) 0) >>= λ _. Some x.0) >>= λ is. functions_left is
      >>= λ n. go is n) ≡ (((o >>= few) >>= λ x. check (eqb (length x.1) 0) >>= λ _. Some x.0)
      >>= λ is. go is.items is.functions_left)
  by_vector None = refl
  by_vector (Some imports) =
      by_both (eqb (length imports.1) 0) (functions_left imports.0) imports refl refl
