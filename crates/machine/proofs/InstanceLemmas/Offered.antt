-- The calls that are offered, and imports.
use Rattle.std.proofs.Common.{◌≡◌, inl, inr, ℕ, ◌+◌, ◌<◌, ◌≤◌, Bool, true, false, cond, List, []}
use Rattle.std.proofs.Common.{◌∷◌, length, get_or, drop, Option, Some, None, refl, sym, ap, ◌∙◌}
use Rattle.std.proofs.Common.{subst}
use Rattle.std.specs.Prelude.{slice_get, IsSome}
use Rattle.std.proofs.lemmas.List.{at_drop_all, get_or_default}
use Rattle.std.specs.Option.{option_map}
use Rattle.std.specs.List.{AllByRecursion, find}
use Rattle.std.specs.Str.{bytes_eq}
use Rattle.wasm_syntax.specs.declared.types.FunctionType.{FunctionType}
use Rattle.wasm_syntax.specs.declared.types.ValueType.{ValueType}
use Rattle.wasm_syntax.specs.declared.module.Import.{Import}
use Rattle.wasm_syntax.specs.declared.module.ImportItem.{ImportItem}
use Rattle.wasm_syntax.specs.declared.module.ImportItem.TheVariants as import
use Rattle.wasi_abi.specs.declared.call.Call.{Call}
use Rattle.wasi_abi.specs.declared.call.Call.TheVariants as call
use Rattle.wasi_abi.specs.rules.Calls.{module_name, all_calls, name_of, parameters_of, result_types}
use Rattle.wasi_abi.specs.rules.Calls.{call_type_of}
use Rattle.wasm_rules.specs.Types.{imported_tables, imported_memories, imported_globals}
use Rattle.wasm_rules.specs.Linking.{IsItemOffered, IsOffered}
use Rattle.wasm_rules.specs.laws.Soundness.{OffersNoEntry}
use Rattle.wasm_validate.proofs.PartLemmas.Loops.{next}
use Rattle.machine.specs.declared.instance.fault.LinkFault.{LinkFault}
use Rattle.machine.specs.declared.instance.fault.LinkFault.TheVariants.{UnknownImport, ImportType}
use Rattle.machine.specs.rules.Offers.{offered_call, offer, imported_call}
use Rattle.machine.specs.rules.Refusals.{AreImportsRefused, IsImportRefused}

-- ---- look-ups

pub find_next : {X : Type 0} (p : X → Bool) (xs : List X) (i : ℕ) {x : X} → i < length xs
    → x ≡ get_or xs i x → p x ≡ false → find p (drop i xs) ≡ find p (drop (i + 1) xs)
find_next {X} p xs i {x} h is fails = ap (find p) (next xs i x h is) ∙ ap
    (λ b. cond b (Some x) (find p (drop (i + 1) xs))) fails

pub find_here : {X : Type 0} (p : X → Bool) (xs : List X) (i : ℕ) {x : X} → i < length xs
    → x ≡ get_or xs i x → p x ≡ true → find p (drop i xs) ≡ Some x
find_here {X} p xs i {x} h is holds = ap (find p) (next xs i x h is) ∙ ap
    (λ b. cond b (Some x) (find p (drop (i + 1) xs))) holds

-- ---- offers

pub no_entry : OffersNoEntry offer
unfolding offer
no_entry from name signature e p r = of_call (offered_call from name) e
  where
    with_parameters : (c : Call) → result_types c ≡ [] → parameters_of c ≡ [] → ⊥
    with_parameters call.ProcExit r p = cc
    with_parameters _ r p = cc

    of_call : (o : Option Call) → option_map call_type_of o ≡ Some signature → ⊥
    of_call None e = cc
    of_call (Some c) e =
        let same : call_type_of c ≡ signature = cc in
        with_parameters c (ap (λ (t : FunctionType). t.results) same
        ∙ r) (ap (λ (t : FunctionType). t.parameters) same ∙ p)

pub offered_as : (i : Import) {call : Call} → Some call ≡ imported_call i
    → offer i.module_name i.name ≡ Some (call_type_of call)
unfolding offer
offered_as i e = ap (option_map call_type_of) (sym e)

pub offered_nothing : (i : Import) → None ≡ imported_call i → offer i.module_name i.name ≡ None
unfolding offer
offered_nothing i e = ap (option_map call_type_of) (sym e)

pub has_call : (types : List FunctionType) (i : Import) → IsOffered offer types i
    → IsSome (imported_call i)
unfolding offer
has_call types i h = of_call (imported_call i) h
  where
    of_call : (o : Option Call) → IsItemOffered (option_map call_type_of o) types i.item → IsSome o
    of_call None h = absurd h
    of_call (Some c) h = refl

-- ---- imports

pub function_item : (o : Option FunctionType) (types : List FunctionType) (item : ImportItem)
    → IsItemOffered o types item → (x : ℕ) × (item ≡ import.Function x)
function_item None types item h = absurd h
function_item (Some signature) types (import.Function x) h = (x, refl)
function_item (Some signature) types (import.Table t) h = absurd h
function_item (Some signature) types (import.Memory t) h = absurd h
function_item (Some signature) types (import.Global t) h = absurd h

pub no_globals : (types : List FunctionType) (imports : List Import)
    → AllByRecursion (IsOffered offer types) imports → imported_globals imports ≡ []
no_globals types [] h = refl
no_globals types (i ∷ imports) h =
    let f = function_item (offer i.module_name i.name) types i.item h.0 in
    rw f.1 (no_globals types imports h.1)

pub no_tables : (types : List FunctionType) (imports : List Import)
    → AllByRecursion (IsOffered offer types) imports → imported_tables imports ≡ []
no_tables types [] h = refl
no_tables types (i ∷ imports) h =
    let f = function_item (offer i.module_name i.name) types i.item h.0 in
    rw f.1 (no_tables types imports h.1)

pub no_memories : (types : List FunctionType) (imports : List Import)
    → AllByRecursion (IsOffered offer types) imports → imported_memories imports ≡ []
no_memories types [] h = refl
no_memories types (i ∷ imports) h =
    let f = function_item (offer i.module_name i.name) types i.item h.0 in
    rw f.1 (no_memories types imports h.1)

-- what is refused for a fault isn't offered
refused_import : (types : List FunctionType) (i : Import) (o : Option FunctionType)
    {signature : FunctionType} → o ≡ Some signature →
    (IsItemOffered (Some signature) types i.item → ⊥) → IsItemOffered o types i.item → ⊥
refused_import types i None e denied h = h
refused_import types i (Some k) {signature} e denied h = let same : k
    ≡ signature = cc in let P : FunctionType → Type 0 = λ k. IsItemOffered (Some k) types i.item in
    denied (subst P same h)

pub not_offered : (types : List FunctionType) (i : Import) (e : LinkFault)
    → IsImportRefused types i e → IsOffered offer types i → ⊥
not_offered types i UnknownImport r h = let P : Option FunctionType
    → Type 0 = λ o. IsItemOffered o types i.item in subst P r h
not_offered types i ImportType r h =
    refused_import types i (offer i.module_name i.name) r.1 r.2 h
not_offered types i _ r h = r

pub not_all_offered : (types : List FunctionType) (imports : List Import) (e : LinkFault)
    → AreImportsRefused types imports e → AllByRecursion (IsOffered offer types) imports → ⊥
not_all_offered types [] e r h = r
not_all_offered types (i ∷ imports) e (inl r) h = not_offered types i e r h.0
not_all_offered types (i ∷ imports) e (inr r) h = not_all_offered types imports e r.1 h.1

-- ---- the loop over the calls

abbrev pub found_among : List Call → List ℕ → Option Call
found_among calls name = find (λ (c : Call). bytes_eq (name_of c) name) calls

pub another_module : (from name : List ℕ) → bytes_eq from module_name ≡ false
    → None ≡ offered_call from name
unfolding offered_call
another_module from name e = sym (ap (λ b. cond b (found_among all_calls name) None) e)

pub their_module : (from name : List ℕ) → bytes_eq from module_name ≡ true
    → offered_call from name ≡ found_among all_calls name
unfolding offered_call
their_module from name e = ap (λ b. cond b (found_among all_calls name) None) e

pub call_found : (name seen : List ℕ) (i : ℕ) → i < length all_calls
    → seen ≡ name_of (get_or all_calls i call.ArgsGet) → bytes_eq seen name ≡ true
    → found_among (drop i all_calls) name ≡ found_among all_calls name
    → Some (get_or all_calls i call.ArgsGet) ≡ found_among all_calls name
call_found name seen i lt is same so_far =
    let x = get_or all_calls i call.ArgsGet in
    sym (find_here (λ (c : Call). bytes_eq (name_of c) name) all_calls i lt
    (get_or_default all_calls i call.ArgsGet x lt) (ap (λ n. bytes_eq n name) (sym is) ∙ same)) ∙
    so_far

pub call_passed : (name seen : List ℕ) (i : ℕ) → i < length all_calls
    → seen ≡ name_of (get_or all_calls i call.ArgsGet) → bytes_eq seen name ≡ false
    → found_among (drop i all_calls) name ≡ found_among all_calls name
    → found_among (drop (i + 1) all_calls) name ≡ found_among all_calls name
call_passed name seen i lt is differs so_far =
    let x = get_or all_calls i call.ArgsGet in
    sym (find_next (λ (c : Call). bytes_eq (name_of c) name) all_calls i lt
    (get_or_default all_calls i call.ArgsGet x lt) (ap (λ n. bytes_eq n name) (sym is) ∙ differs)) ∙
    so_far

pub no_call : (name : List ℕ) (i : ℕ) → length all_calls ≤ i
    → found_among (drop i all_calls) name ≡ found_among all_calls name
    → None ≡ found_among all_calls name
no_call name i h so_far = sym (at_drop_all (λ calls. found_among calls name) all_calls i h) ∙ so_far

-- ---- the type of a call

abbrev pub of_parts : List ValueType → List ValueType → FunctionType
of_parts p r = record { parameters = p; results = r }

pub same_parts : {p q r s : List ValueType} → p ≡ q → r ≡ s → of_parts p r ≡ of_parts q s
same_parts e f = rw (e, f) refl

-- a type by its parts
pub same_type : (t : FunctionType) (call : Call) → t.parameters ≡ parameters_of call
    → t.results ≡ result_types call → t ≡ call_type_of call
same_type t call p r =
    same_parts p r

-- an import's function has the type of the call
pub type_there : (types : List FunctionType) {item : ImportItem} {x : ℕ} (signature : FunctionType)
    → item ≡ import.Function x → IsItemOffered (Some signature) types item
    → slice_get types x ≡ Some signature
type_there types {item} signature e h = let P : ImportItem
    → Type 0 = λ item. IsItemOffered (Some signature) types item in subst P e h

pub offered_at : (types : List FunctionType) (i : Import) {x : ℕ} {call : Call}
    → Some call ≡ imported_call i → i.item ≡ import.Function x
    → slice_get types x ≡ Some (call_type_of call) → IsOffered offer types i
offered_at types i {call} named e at =
    let P : ImportItem → Type 0 = λ item. IsItemOffered (Some (call_type_of call)) types item in
    let Q : Option FunctionType → Type 0 = λ o. IsItemOffered o types i.item in
    subst Q (sym (offered_as i named)) (subst P (sym e) at)

pub no_function : (types : List FunctionType) (signature : FunctionType) (item : ImportItem)
    → ((x : ℕ) → item ≡ import.Function x → ⊥) → IsItemOffered (Some signature) types item → ⊥
no_function types signature (import.Function x) differs h = differs x refl
no_function types signature (import.Table t) differs h = h
no_function types signature (import.Memory t) differs h = h
no_function types signature (import.Global t) differs h = h
