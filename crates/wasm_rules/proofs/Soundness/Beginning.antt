-- A valid module that is linked begins typed.
use Rattle.std.proofs.Common.{◌≡◌, ◌⊎◌, inl, inr, ℕ, zero, suc, ◌+◌, ◌*◌, ◌^◌, ◌≤◌, min, Bool, true}
use Rattle.std.proofs.Common.{false, if◌then◌else◌, List, [], ◌∷◌, ◌++◌, length, take, drop, Option}
use Rattle.std.proofs.Common.{Some, None, refl, sym, ap, ◌∙◌, subst, arith}
use Rattle.std.specs.Prelude.{slice_get, map, nat_le, IfSome}
use Rattle.std.specs.Option.{option_and_then, option_map_or}
use Rattle.std.specs.List.{AllByRecursion}
use Rattle.std.proofs.lemmas.Bool.Decides.{nat_tests}
use Rattle.std.proofs.lemmas.List.{length-replicate}
use Rattle.wasm_syntax.specs.declared.types.ValueType.{ValueType}
use Rattle.wasm_syntax.specs.declared.types.FunctionType.{FunctionType}
use Rattle.wasm_syntax.specs.declared.types.TableType.{TableType}
use Rattle.wasm_syntax.specs.declared.types.MemoryType.{MemoryType}
use Rattle.wasm_syntax.specs.declared.value.Value.{Value}
use Rattle.wasm_syntax.specs.declared.instruction.Instruction.{Instruction}
use Rattle.wasm_syntax.specs.declared.instruction.Instruction.TheVariants as instr
use Rattle.wasm_syntax.specs.declared.module.Module.{Module}
use Rattle.wasm_syntax.specs.declared.module.Import.{Import}
use Rattle.wasm_syntax.specs.declared.module.ImportItem.{ImportItem}
use Rattle.wasm_syntax.specs.declared.module.ImportItem.TheVariants as import
use Rattle.wasm_syntax.specs.declared.module.Function.{Function}
use Rattle.wasm_syntax.specs.declared.module.Global.{Global}
use Rattle.wasm_syntax.specs.declared.module.Element.{Element}
use Rattle.wasm_syntax.specs.declared.module.Data.{Data}
use Rattle.wasm_syntax.specs.rules.Sequence.{Sequence}
use Rattle.guest_memory.specs.rules.Bytes.{IsByte, page_size, with_part}
use Rattle.wasm_rules.specs.Types.{IsOf, AreOf, imported_functions, imported_globals}
use Rattle.wasm_rules.specs.Types.{global_type_of, value_type_of}
use Rattle.wasm_syntax.specs.rules.Modules.{function_type_of}
use Rattle.wasm_rules.specs.Validity.{IsMemoryTypeValid, IsConstant, AreTypesAt, AreFunctionTypes}
use Rattle.wasm_rules.specs.Validity.{tables_of, memories_of, module_context, IsFunctionValid}
use Rattle.wasm_rules.specs.Validity.{IsGlobalValid, IsIndex, IsElementValid, IsDataValid}
use Rattle.wasm_rules.specs.Validity.{IsStartValid, IsValid}
use Rattle.wasm_rules.specs.Configuration.{Callee, Imported, Own, Program, Store}
use Rattle.wasm_rules.specs.Steps.{signature_of}
use Rattle.wasm_rules.specs.Instantiation.{AreCallees, IsProgram, constant_of, least_pages_of}
use Rattle.wasm_rules.specs.Instantiation.{most_pages_of, AreInitial, offset_of, with_entries}
use Rattle.wasm_rules.specs.Instantiation.{with_segment, filled_table, filled_memory, empty_table}
use Rattle.wasm_rules.specs.Instantiation.{empty_memory, IsInitialStore, calls_of}
use Rattle.wasm_rules.specs.Linking.{Offer, IsItemOffered, IsOffered, FitsPages, IsLinkable}
use Rattle.wasm_rules.specs.Typed.{IsTypedCallee, IsTypedProgram, IsTypedMemory, IsTypedEntry}
use Rattle.wasm_rules.specs.Typed.{IsTypedStore, IsEntry, IsTyped}
use Rattle.wasm_rules.specs.laws.Soundness.{OffersNoEntry, ProgramsTyped, BeginsTyped}
use Rattle.wasm_rules.proofs.Soundness.MemoryBytes.{memory_with_part}
use Rattle.wasm_rules.proofs.Soundness.CountedSound.{callee_at}
use Rattle.wasm_rules.proofs.Soundness.AdministrativeSound.{reduces_typed}
use Rattle.wasm_rules.proofs.OneSequence.{one_sequence}
use Rattle.wasm_rules.proofs.OneProgram.{one_list}
use Rattle.guest_memory.proofs.Lists.{all_both, all_take, all_drop, all_replicate}

-- ---- functions

-- the types of the callees are those of the module's functions
callee_signatures : (m : Module) (imported : List ℕ) (own : List Function) (callees : List Callee)
    (fs : List FunctionType) → AreCallees m imported own callees
    → AreTypesAt m.types (imported ++ map function_type_of own) fs → fs ≡ map signature_of callees
callee_signatures m (x ∷ imported) own [] fs h k = absurd h
callee_signatures m (x ∷ imported) own (Own signature declared body ∷ callees) fs h k = absurd h
callee_signatures m (x ∷ imported) own (Imported signature ∷ callees) [] h k = absurd k
callee_signatures m (x ∷ imported) own (Imported signature ∷ callees) (f ∷ fs) h k =
    let p = h.0 in let q = k.0 in let same : f ≡ signature = cc in
    let others = callee_signatures m imported own callees fs h.1 k.1 in cc
callee_signatures m [] [] (Imported signature ∷ callees) fs h k = absurd h
callee_signatures m [] [] (Own signature declared body ∷ callees) fs h k = absurd h
callee_signatures m [] [] [] [] h k = refl
callee_signatures m [] [] [] (f ∷ fs) h k = absurd k
callee_signatures m [] (g ∷ own) [] fs h k = absurd h
callee_signatures m [] (g ∷ own) (Imported signature ∷ callees) fs h k = absurd h
callee_signatures m [] (g ∷ own) (Own signature declared body ∷ callees) [] h k = absurd k
callee_signatures m [] (g ∷ own) (Own signature declared body ∷ callees) (f ∷ fs) h k =
    let p = h.0 in let q = k.0 in let same : f ≡ signature = cc in
    let others = callee_signatures m [] own callees fs h.3 k.1 in cc

-- a function of the module's own is typed, since its body spells one sequence
own_typed : (m : Module) (functions : List FunctionType) (g : Function) (signature : FunctionType)
    (declared : List ValueType) (body : Sequence) (own : List Function) (callees : List Callee)
    → AreCallees m [] (g ∷ own) (Own signature declared body ∷ callees)
    → IsFunctionValid m functions g → IsTypedCallee (module_context m functions)
    (Own signature declared body)
own_typed m functions g signature declared body own callees h v =
    let p = h.0 in let q = v.2 in
    let same_signature : signature ≡ v.0 = cc in
    let same_body : body ≡ v.1 = one_sequence g.code.body body v.1 h.2 v.3 in
    rw (same_signature, h.1, same_body) v.4

callees_typed : (m : Module) (functions : List FunctionType) (imported : List ℕ)
    (own : List Function) (callees : List Callee) → AreCallees m imported own callees
    → AllByRecursion (IsFunctionValid m functions) own → (f : ℕ) (callee : Callee)
    → slice_get callees f ≡ Some callee → IsTypedCallee (module_context m functions) callee
callees_typed m functions (x ∷ imported) own [] h v f callee e = absurd h
callees_typed m functions (x ∷ imported) own (Own signature declared body
    ∷ callees) h v f callee e = absurd h
callees_typed m functions (x ∷ imported) own (Imported signature ∷ callees) h v zero callee e =
    let same : callee ≡ Imported signature = cc in rw same tt
callees_typed m functions (x ∷ imported) own (Imported signature ∷ callees) h v (suc f) callee e =
    callees_typed m functions imported own callees h.1 v f callee e
callees_typed m functions [] [] [] h v f callee e = absurd (cc)
callees_typed m functions [] [] (Imported signature ∷ callees) h v f callee e = absurd h
callees_typed m functions [] [] (Own signature declared body ∷ callees) h v f callee e = absurd h
callees_typed m functions [] (g ∷ own) [] h v f callee e = absurd h
callees_typed m functions [] (g ∷ own) (Imported signature ∷ callees) h v f callee e = absurd h
callees_typed m functions [] (g ∷ own) (Own signature declared body ∷ callees) h v zero callee e =
    let same : callee ≡ Own signature declared body = cc in
    rw same (own_typed m functions g signature declared body own callees h v.0)
callees_typed m functions [] (g ∷ own) (Own signature declared body
    ∷ callees) h v (suc f) callee e = callees_typed m functions [] own callees h.3 v.1 f callee e

-- ---- imports

-- what is imported is a function
function_item : (o : Option FunctionType) (types : List FunctionType) (item : ImportItem)
    → IsItemOffered o types item → (x : ℕ) × (signature : FunctionType) × (item ≡ import.Function x)
    × (o ≡ Some signature) × (slice_get types x ≡ Some signature)
function_item None types item h = absurd h
function_item (Some signature) types (import.Function x) h = (x, signature, refl, refl, h)
function_item (Some signature) types _ h = absurd h

no_globals : (offer : Offer) (types : List FunctionType) (imports : List Import)
    → AllByRecursion (IsOffered offer types) imports → imported_globals imports ≡ []
no_globals offer types [] h = refl
no_globals offer types (i ∷ imports) h =
    let f = function_item (offer i.module_name i.name) types i.item h.0 in
    rw f.2 (no_globals offer types imports h.1)

own_alone : (m : Module) (own : List Function) (callees : List Callee) (f : ℕ)
    (signature : FunctionType) → AreCallees m [] own callees → slice_get callees f
    ≡ Some (Imported signature) → ⊥
own_alone m [] [] f signature h e = absurd (cc)
own_alone m [] (Imported k ∷ callees) f signature h e = absurd h
own_alone m [] (Own k declared body ∷ callees) f signature h e = absurd h
own_alone m (g ∷ own) [] f signature h e = absurd h
own_alone m (g ∷ own) (Imported k ∷ callees) f signature h e = absurd h
own_alone m (g ∷ own) (Own k declared body ∷ callees) zero signature h e = absurd (cc)
own_alone m (g ∷ own) (Own k declared body ∷ callees) (suc f) signature h e =
    own_alone m own callees f signature h.3 e

first_callee : (m : Module) (x : ℕ) (imported : List ℕ) (own : List Function)
    (callees : List Callee) → AreCallees m (x ∷ imported) own callees → (signature : FunctionType)
    × (others : List Callee) × (callees ≡ Imported signature ∷ others)
    × (slice_get m.types x ≡ Some signature) × AreCallees m imported own others
first_callee m x imported own [] a = absurd a
first_callee m x imported own (Own signature declared body ∷ callees) a = absurd a
first_callee m x imported own (Imported signature ∷ callees) a =
    (signature, callees, refl, a.0, a.1)

first_or_later : (y z : Callee) (ys : List Callee) (f : ℕ) → slice_get (y ∷ ys) f ≡ Some z
    → (y ≡ z) ⊎ ((k : ℕ) × (slice_get ys k ≡ Some z))
first_or_later y z ys zero e = inl (cc)
first_or_later y z ys (suc f) e = inr (f, e)

-- a function of the host's is one that it offers
import_offered : (offer : Offer) (m : Module) (imports : List Import) (own : List Function)
    (callees : List Callee) (f : ℕ) (signature : FunctionType)
    → AllByRecursion (IsOffered offer m.types) imports
    → AreCallees m (imported_functions imports) own callees → slice_get callees f
    ≡ Some (Imported signature) → (from : List ℕ) × (name : List ℕ)
    × (offer from name ≡ Some signature)
import_offered offer m [] own callees f signature h a e = absurd
    (own_alone m own callees f signature a e)
import_offered offer m (i ∷ imports) own callees f signature h a e =
    let g = function_item (offer i.module_name i.name) m.types i.item h.0 in
    let c = first_callee m g.0 (imported_functions imports) own callees (rw g.2 at a) in
    let p = g.4 in let q = c.3 in
    let same : g.1 ≡ c.0 = cc in
    either g.1 c.0 same g.3 c.1 (first_or_later (Imported c.0) (Imported signature) c.1 f
    (rw c.2 at e)) (λ k e. import_offered offer m imports own c.1 k signature h.1 c.4 e)
  where
    either : (k l : FunctionType) → k ≡ l → offer i.module_name i.name ≡ Some k → (ys : List Callee)
        → (Imported l ≡ Imported signature) ⊎ ((k : ℕ) × (slice_get ys k
        ≡ Some (Imported signature))) → ((k : ℕ) → slice_get ys k ≡ Some (Imported signature)
        → (from : List ℕ) × (name : List ℕ) × (offer from name ≡ Some signature)) → (from : List ℕ)
        × (name : List ℕ) × (offer from name ≡ Some signature)
    either k l same o ys (inl e) next = (i.module_name, i.name, cc)
    either k l same o ys (inr r) next = next r.0 r.1

-- ---- the program

most_below : (m : Module) (memories : List MemoryType) (pages : ℕ) → pages ≤ 2 ^ 16
    → most_pages_of memories pages ≤ 2 ^ 16
most_below m [] pages h = omega arith
most_below m (t ∷ memories) pages h = limited t.limits.maximum
  where
    limited : (most : Option ℕ) → option_map_or (λ most. min most pages) most pages ≤ 2 ^ 16
    limited None = h
    limited (Some most) = omega arith

program_typed : (m : Module) (pages : ℕ) (program : Program) (v : IsValid m)
    → IsProgram m pages program → pages ≤ 2 ^ 16
    → IsTypedProgram (module_context m v.functions) program
program_typed m pages program v p h = record {
  types = sym p.types;
  functions = callee_signatures m (imported_functions m.imports) m.functions program.functions
      v.functions p.functions v.function_types;
  bodies = callees_typed m v.functions (imported_functions m.imports) m.functions program.functions
      p.functions v.bodies;
  pages = (let below = most_below m (memories_of m) pages h in rw p.most_pages below);
}

-- ---- the store

pub and_then_some : {X Y : Type 0} (f : X → Option Y) (o : Option X) (y : Y)
    → option_and_then f o ≡ Some y → (x : X) × (o ≡ Some x) × (f x ≡ Some y)
and_then_some f None y e = absurd (cc)
and_then_some f (Some x) y e = (x, refl, e)

empty_typed : (program : Program) (memories : List MemoryType) (pages : ℕ)
    → program.least_pages ≡ least_pages_of memories
    → program.most_pages ≡ most_pages_of memories pages → AllByRecursion IsMemoryTypeValid memories
    → FitsPages memories pages → IsTypedMemory program (empty_memory memories)
empty_typed program [] pages l e v f = record {
  pages = 0;
  whole = refl;
  least = omega (arith, l);
  within = omega arith;
  bytes = tt;
}
empty_typed program (t ∷ memories) pages l e v f = record {
  pages = t.limits.minimum;
  whole = length-replicate (t.limits.minimum * page_size) 0;
  least = omega (arith, l);
  within = rw e (limited t.limits.maximum v.0.1);
  bytes = all_replicate IsByte (t.limits.minimum * page_size) 0 (omega arith);
}
  where
    limited : (most : Option ℕ) → IfSome most (λ most. (t.limits.minimum ≤ most) × (most ≤ 2 ^ 16))
        → t.limits.minimum ≤ option_map_or (λ most. min most pages) most pages
    limited None h = f.0
    limited (Some most) h = let below = f.0 in let first = h.0 in omega arith

bytes_typed : (program : Program) (memory bytes next : List ℕ) (from : ℕ)
    → IsTypedMemory program memory → AllByRecursion IsByte bytes
    → with_segment memory bytes from ≡ Some next → IsTypedMemory program next
bytes_typed program memory bytes next from h k e =
    inside (nat_le (from + length bytes) (length memory)) refl e
  where
    inside : (b : Bool) → nat_le (from + length bytes) (length memory) ≡ b
        → (if b then Some (with_part memory from bytes) else None) ≡ Some next
        → IsTypedMemory program next
    inside false t e = absurd (cc)
    inside true t e =
        let enough : from + length bytes ≤ length memory = grind (arith, nat_tests) in
        let same : with_part memory from bytes ≡ next = cc in
        subst (IsTypedMemory program) same (memory_with_part program memory from bytes h k enough)

memory_filled : (m : Module) (program : Program) (globals : List Value) (segments : List Data)
    (memory filled : List ℕ) → AllByRecursion (IsDataValid m) segments
    → IsTypedMemory program memory → filled_memory globals segments memory ≡ Some filled
    → IsTypedMemory program filled
memory_filled m program globals [] memory filled v h e = let same : memory ≡ filled = cc in
    rw same at h
memory_filled m program globals (d ∷ segments) memory filled v h e =
    let next = and_then_some (λ memory'. filled_memory globals segments memory')
    (option_and_then (λ from. with_segment memory d.bytes from) (offset_of globals d.offset))
    filled e in
    let place = and_then_some (λ from. with_segment memory d.bytes from)
    (offset_of globals d.offset) next.0 next.1 in
    memory_filled m program globals segments next.0 filled v.1
    (bytes_typed program memory d.bytes next.0 place.0 h v.0.2 place.2) next.2

entries_typed : (program : Program) (fs : List FunctionType) (functions : List ℕ)
    → length fs ≡ length program.functions → AllByRecursion (IsIndex fs) functions
    → AllByRecursion (IsTypedEntry program) (map Some functions)
entries_typed program fs [] e v = tt
entries_typed program fs (f ∷ functions) e v =
    ((let inside = v.0 in omega arith), entries_typed program fs functions e v.1)

element_typed : (program : Program) (table next : List (Option ℕ)) (functions : List ℕ) (from : ℕ)
    → AllByRecursion (IsTypedEntry program) table
    → AllByRecursion (IsTypedEntry program) (map Some functions)
    → with_entries table functions from ≡ Some next → AllByRecursion (IsTypedEntry program) next
element_typed program table next functions from h k e =
    inside (nat_le (from + length functions) (length table)) e
  where
    inside : (b : Bool)
        → (if b then Some (take from table
        ++ (map Some functions ++ drop (from + length functions) table)) else None) ≡ Some next
        → AllByRecursion (IsTypedEntry program) next
    inside false e = absurd (cc)
    inside true e =
        let same : take from table ++ (map Some functions ++ drop (from + length functions) table)
        ≡ next = cc in
        subst (AllByRecursion (IsTypedEntry program)) same (all_both (IsTypedEntry program) _ _
        (all_take (IsTypedEntry program) from table h) (all_both (IsTypedEntry program) _ _ k
        (all_drop (IsTypedEntry program) (from + length functions) table h)))

table_filled : (m : Module) (program : Program) (fs : List FunctionType) (globals : List Value)
    (elements : List Element) (table filled : List (Option ℕ))
    → length fs ≡ length program.functions → AllByRecursion (IsElementValid m fs) elements
    → AllByRecursion (IsTypedEntry program) table
    → filled_table globals elements table ≡ Some filled
    → AllByRecursion (IsTypedEntry program) filled
table_filled m program fs globals [] table filled n v h e = let same : table ≡ filled = cc in
    rw same at h
table_filled m program fs globals (d ∷ elements) table filled n v h e =
    let next = and_then_some (λ table'. filled_table globals elements table')
    (option_and_then (λ from. with_entries table d.functions from) (offset_of globals d.offset))
    filled e in
    let place = and_then_some (λ from. with_entries table d.functions from)
    (offset_of globals d.offset) next.0 next.1 in
    table_filled m program fs globals elements next.0 filled n v.1
    (element_typed program table next.0 d.functions place.0 h
    (entries_typed program fs d.functions n v.0.2) place.2) next.2

empties_typed : (program : Program) (tables : List TableType)
    → AllByRecursion (IsTypedEntry program) (empty_table tables)
empties_typed program [] = tt
empties_typed program (t ∷ tables) = all_replicate (IsTypedEntry program) t.limits.minimum None tt

-- a constant of no imported globals is a constant of its type
constant_typed : (e : List Instruction) (t : ValueType) (v : Value) → IsConstant [] e t
    → constant_of [] e ≡ Some v → IsOf t v
constant_typed e t v (inl h) k =
    let here : constant_of [] (instr.Const h.0 ∷ instr.End ∷ []) ≡ Some v = (rw h.2 at k) in
    let same : h.0 ≡ v = cc in rw same at h.1
constant_typed e t v (inr h) k = let none = h.2 in absurd (cc)

globals_typed : (m : Module) (globals : List Global) (values : List Value)
    → imported_globals m.imports ≡ [] → AllByRecursion (IsGlobalValid m) globals
    → AreInitial globals values → AreOf (map value_type_of (map global_type_of globals)) values
globals_typed m [] [] n v h = tt
globals_typed m [] (x ∷ values) n v h = absurd h
globals_typed m (g ∷ globals) [] n v h = absurd h
globals_typed m (g ∷ globals) (x ∷ values) n v h = (
  constant_typed g.initial g.global_type.value_type x (rw n at v.0) h.0,
  globals_typed m globals values n v.1 h.1,
)

-- ---- the beginning

length_map : (callees : List Callee) → length (map signature_of callees) ≡ length callees
length_map [] = refl
length_map (x ∷ callees) = ap suc (length_map callees)

-- a function without parameters and results is one of the module's own
entry_of : (offer : Offer) (m : Module) (program : Program) (x : ℕ) (signature : FunctionType)
    → OffersNoEntry offer → AllByRecursion (IsOffered offer m.types) m.imports
    → AreCallees m (imported_functions m.imports) m.functions program.functions
    → slice_get (map signature_of program.functions) x ≡ Some signature → signature.parameters ≡ []
    → signature.results ≡ [] → IsEntry program x
entry_of offer m program x signature none h a e p r =
    let callee = callee_at program.functions x signature e in
    own_one callee.0 callee.1 callee.2
  where
    own_one : (callee : Callee) → slice_get program.functions x ≡ Some callee
        → signature_of callee ≡ signature → IsEntry program x
    own_one (Imported k) at same =
        let o = import_offered offer m m.imports m.functions program.functions x k h a at in
        absurd (none o.0 o.1 k o.2 (rw same p) (rw same r))
    own_one (Own k declared body) at same = (k, declared, body, at, rw same p)

calls_typed : (offer : Offer) (m : Module) (program : Program) (fs : List FunctionType)
    (start : Option ℕ) (entry : ℕ) → OffersNoEntry offer
    → AllByRecursion (IsOffered offer m.types) m.imports
    → AreCallees m (imported_functions m.imports) m.functions program.functions
    → fs ≡ map signature_of program.functions → IsStartValid fs start → IsEntry program entry
    → AllByRecursion (IsEntry program) (calls_of start entry)
calls_typed offer m program fs None entry none h a e v last = (last, tt)
calls_typed offer m program fs (Some x) entry none h a e v last =
    (entry_of offer m program x v.0 none h a (rw e at v.1) v.2 v.3, (last, tt))

store_typed : (offer : Offer) (pages : ℕ) (m : Module) (program : Program) (v : IsValid m)
    (link : IsLinkable offer pages m) (b : IsProgram m pages program) (store : Store)
    → IsInitialStore m store → IsTypedStore (module_context m v.functions) program store
store_typed offer pages m program v link b store s =
    let alone = no_globals offer m.types m.imports link.imports in
    let signatures = callee_signatures m (imported_functions m.imports) m.functions
    program.functions v.functions b.functions v.function_types in
    let count : length v.functions ≡ length program.functions =
    ap length signatures ∙ length_map program.functions in
    record {
      memory = memory_filled m program store.globals m.data_segments
          (empty_memory (memories_of m)) store.memory v.data_segments
          (empty_typed program (memories_of m) pages b.least_pages b.most_pages v.memories
          link.fits) s.memory;
      globals = (rw alone (globals_typed m m.globals store.globals alone v.globals s.globals));
      table = table_filled m program v.functions store.globals m.elements
          (empty_table (tables_of m)) store.table count v.elements
          (empties_typed program (tables_of m)) s.table;
    }

-- the functions' types are those by which the module is valid
same_types : (m : Module) (v : IsValid m) (functions : List FunctionType)
    → AreFunctionTypes m functions → v.functions ≡ functions
same_types m v functions h =
    one_list m.types (imported_functions m.imports
    ++ map function_type_of m.functions) v.functions functions v.function_types h

pub programs_typed : ProgramsTyped
programs_typed pages m functions program few v h b =
    subst (λ fs. IsTypedProgram (module_context m fs) program) (same_types m v functions h)
    (program_typed m pages program v b few)

-- before the host's first call, too, it is typed
pub first_typed : (offer : Offer) (pages : ℕ) (m : Module) (functions : List FunctionType)
    (program : Program) (store : Store) → OffersNoEntry offer → IsValid m
    → AreFunctionTypes m functions → (link : IsLinkable offer pages m) → IsProgram m pages program
    → IsInitialStore m store → IsTyped (module_context m functions) program (record {
      store = store;
      thread = [];
      later = calls_of m.start link.entry;
    })
first_typed offer pages m functions program store none v h link b is_store =
    let signatures = callee_signatures m (imported_functions m.imports) m.functions
    program.functions v.functions b.functions v.function_types in
    let same = one_list m.types (imported_functions m.imports
    ++ map function_type_of m.functions) link.has_entry.functions v.functions
    link.has_entry.function_types v.function_types in
    let at : slice_get (map signature_of program.functions) link.entry
    ≡ Some link.has_entry.signature = (rw (same, signatures) at link.has_entry.is) in
    let last = entry_of offer m program link.entry link.has_entry.signature none
    link.imports b.functions at link.has_entry.no_parameters link.has_entry.no_results in
    let begun : IsTyped (module_context m v.functions) program (record {
      store = store;
      thread = [];
      later = calls_of m.start link.entry;
    }) = record {
      store = store_typed offer pages m program v link b store is_store;
      thread = tt;
      later = calls_typed offer m program v.functions m.start link.entry none link.imports
          b.functions signatures v.start last;
    } in
    let P : List FunctionType → Type 0 =
    λ fs. IsTyped (module_context m fs) program (record {
      store = store;
      thread = [];
      later = calls_of m.start link.entry;
    }) in
    subst P (same_types m v functions h) begun

pub begins_typed : BeginsTyped
begins_typed offer pages m functions program d none few v h link b =
    let typed = programs_typed pages m functions program few v h b.is_program in
    let begun = first_typed offer pages m functions program b.store none v h link b.is_program
    b.is_store in
    let reduced = reduces_typed (module_context m functions) program (record {
      store = b.store;
      thread = [];
      later = calls_of m.start link.entry;
    }) d typed begun b.reduces in
    (typed, reduced.0, reduced.1)
