-- Tables and memories that segments fill.
use Rattle.std.proofs.Common.{◌≡◌, ℕ, ◌+◌, ◌≤◌, ◌<◌, Bool, true, false, if◌then◌else◌, List, []}
use Rattle.std.proofs.Common.{◌∷◌, ◌++◌, length, get_or, take, drop, map, Option, Some, None, refl}
use Rattle.std.proofs.Common.{sym, ap, ◌∙◌, subst, arith, length-append, length-take, length-drop}
use Rattle.std.specs.Prelude.{nat_le, IsSome}
use Rattle.std.specs.Option.{option_and_then}
use Rattle.std.specs.List.{AllByRecursion}
use Rattle.std.proofs.lemmas.Bool.Decides.{nat_tests}
use Rattle.std.proofs.lemmas.List.{length-map}
use Rattle.wasm_syntax.specs.declared.value.Value.{Value}
use Rattle.wasm_syntax.specs.declared.module.Element.{Element}
use Rattle.wasm_syntax.specs.declared.module.Data.{Data}
use Rattle.guest_memory.specs.rules.Bytes.{with_part}
use Rattle.wasm_rules.specs.Instantiation.{offset_of, with_entries, with_segment}
use Rattle.wasm_rules.specs.Instantiation.{filled_table, filled_memory}
use Rattle.wasm_validate.proofs.PartLemmas.Loops.{next}
use Rattle.machine.specs.Initial.{IsInside}
use Rattle.guest_memory.proofs.Ranges.{length-with_part}
use Rattle.wasm_rules.proofs.Soundness.Beginning.{and_then_some}

pub some_of : {X : Type 0} (o : Option X) → IsSome o → (x : X) × (o ≡ Some x)
some_of None h = absurd (cc)
some_of (Some x) h = (x, refl)

-- a value that a test lets through
passed_test : {X : Type 0} (n most : ℕ) (x : X) {y : X}
    → (if nat_le n most then Some x else None) ≡ Some y → (n ≤ most) × (x ≡ y)
passed_test {X} n most x {y} e = by_test (nat_le n most) refl e
  where
    by_test : (b : Bool) → nat_le n most ≡ b → (if b then Some x else None) ≡ Some y
        → (n ≤ most) × (x ≡ y)
    by_test false t e = absurd (cc)
    by_test true t e = ((grind (arith, nat_tests)), (cc))

let_through : {X : Type 0} (n most : ℕ) (x : X) → n ≤ most
    → (if nat_le n most then Some x else None) ≡ Some x
let_through {X} n most x h = let t : nat_le n most ≡ true = grind (arith, nat_tests) in
    ap (λ b. if b then Some x else None) t

-- ---- tables

abbrev pub entries_put : List (Option ℕ) → List ℕ → ℕ → List (Option ℕ)
entries_put table functions from =
    take from table ++ (map Some functions ++ drop (from + length functions) table)

pub length-entries_put : (table : List (Option ℕ)) (functions : List ℕ) (from : ℕ)
    → from + length functions ≤ length table
    → length (entries_put table functions from) ≡ length table
length-entries_put table functions from h =
    simp (length-append, length-take, length-drop, length-map) (omega arith)

pub with_entries_inside : (table : List (Option ℕ)) (functions : List ℕ) (from : ℕ)
    → from + length functions ≤ length table
    → with_entries table functions from ≡ Some (entries_put table functions from)
with_entries_inside table functions from h =
    let_through (from + length functions) (length table) (entries_put table functions from) h

-- what an element does first
pub record FirstElement (values : List Value) (e : Element) (elements : List Element)
    (table filled : List (Option ℕ)) : Type 0 where
  pub from : ℕ
  pub offset : offset_of values e.offset ≡ Some from
  pub inside : from + length e.functions ≤ length table
  pub others : filled_table values elements (entries_put table e.functions from) ≡ Some filled

pub first_element : (values : List Value) (e : Element) (elements : List Element)
    (table : List (Option ℕ)) {filled : List (Option ℕ)} → filled_table values (e ∷ elements) table
    ≡ Some filled
    → FirstElement values e elements table filled
first_element values e elements table {filled} h =
    let after = and_then_some (λ table'. filled_table values elements table')
    (option_and_then (λ from. with_entries table e.functions from) (offset_of values e.offset))
    filled h in
    let place = and_then_some (λ from. with_entries table e.functions from)
    (offset_of values e.offset) after.0 after.1 in
    let put = passed_test (place.0 + length e.functions) (length table)
    (entries_put table e.functions place.0) place.2 in
    let P : List (Option ℕ) → Type 0 = λ t. filled_table values elements t ≡ Some filled in
    record {
      from = place.0;
      offset = place.1;
      inside = put.0;
      others = subst P (sym put.1) after.2;
    }

abbrev pub IsElementInside : List Value → ℕ → Element → Type 0
IsElementInside values size e = IsInside values e.offset (length e.functions) size

pub table_from_inside : (values : List Value) (elements : List Element) (table : List (Option ℕ))
    {size : ℕ} → length table ≡ size → AllByRecursion (IsElementInside values size) elements
    → IsSome (filled_table values elements table)
table_from_inside values [] table n h = refl
table_from_inside values (e ∷ elements) table n h =
    let p = h.0 in
    let within : p.0 + length e.functions ≤ length table = omega (arith, n, p.2) in
    let put = with_entries_inside table e.functions p.0 within in
    let P : Option (List (Option ℕ)) → Type 0 =
    λ o. IsSome (option_and_then (λ table'. filled_table values elements table') o) in
    let Q : Option ℕ → Type 0 =
    λ o. IsSome (option_and_then (λ table'. filled_table values elements table')
    (option_and_then (λ from. with_entries table e.functions from) o)) in
    subst Q (sym p.1) (subst P (sym put) (table_from_inside values elements
    (entries_put table e.functions p.0) (length-entries_put table e.functions p.0 within ∙ n) h.1))

pub inside_from_table : (values : List Value) (elements : List Element) (table : List (Option ℕ))
    {filled : List (Option ℕ)} {size : ℕ} → length table ≡ size
    → filled_table values elements table ≡ Some filled
    → AllByRecursion (IsElementInside values size) elements
inside_from_table values [] table n h = tt
inside_from_table values (e ∷ elements) table n h =
    let f = first_element values e elements table h in (
      (f.from, f.offset, omega (arith, n, f.inside)),
      inside_from_table values elements (entries_put table e.functions f.from)
          (length-entries_put table e.functions f.from f.inside ∙ n) f.others,
    )

-- ---- memories

pub with_bytes_inside : (memory bytes : List ℕ) (from : ℕ) → from + length bytes ≤ length memory
    → with_segment memory bytes from ≡ Some (with_part memory from bytes)
with_bytes_inside memory bytes from h =
    let_through (from + length bytes) (length memory) (with_part memory from bytes) h

pub record FirstData (values : List Value) (d : Data) (segments : List Data)
    (memory filled : List ℕ) : Type 0 where
  pub from : ℕ
  pub offset : offset_of values d.offset ≡ Some from
  pub inside : from + length d.bytes ≤ length memory
  pub others : filled_memory values segments (with_part memory from d.bytes) ≡ Some filled

pub first_data : (values : List Value) (d : Data) (segments : List Data) (memory : List ℕ)
    {filled : List ℕ}
    → filled_memory values (d ∷ segments) memory ≡ Some filled
    → FirstData values d segments memory filled
first_data values d segments memory {filled} h =
    let after = and_then_some (λ memory'. filled_memory values segments memory')
    (option_and_then (λ from. with_segment memory d.bytes from) (offset_of values d.offset))
    filled h in
    let place = and_then_some (λ from. with_segment memory d.bytes from)
    (offset_of values d.offset) after.0 after.1 in
    let put = passed_test (place.0 + length d.bytes) (length memory)
    (with_part memory place.0 d.bytes) place.2 in
    let P : List ℕ → Type 0 = λ t. filled_memory values segments t ≡ Some filled in
    record {
      from = place.0;
      offset = place.1;
      inside = put.0;
      others = subst P (sym put.1) after.2;
    }

abbrev pub IsDataInside : List Value → ℕ → Data → Type 0
IsDataInside values size d = IsInside values d.offset (length d.bytes) size

pub memory_from_inside : (values : List Value) (segments : List Data) (memory : List ℕ) {size : ℕ}
    → length memory ≡ size → AllByRecursion (IsDataInside values size) segments
    → IsSome (filled_memory values segments memory)
memory_from_inside values [] memory n h = refl
memory_from_inside values (d ∷ segments) memory n h =
    let p = h.0 in
    let within : p.0 + length d.bytes ≤ length memory = omega (arith, n, p.2) in
    let put = with_bytes_inside memory d.bytes p.0 within in
    let P : Option (List ℕ) → Type 0 =
    λ o. IsSome (option_and_then (λ memory'. filled_memory values segments memory') o) in
    let Q : Option ℕ → Type 0 =
    λ o. IsSome (option_and_then (λ memory'. filled_memory values segments memory')
    (option_and_then (λ from. with_segment memory d.bytes from) o)) in
    subst Q (sym p.1) (subst P (sym put) (memory_from_inside values segments
    (with_part memory p.0 d.bytes) (length-with_part memory p.0 d.bytes within ∙ n) h.1))

pub inside_from_memory : (values : List Value) (segments : List Data) (memory : List ℕ)
    {filled : List ℕ} {size : ℕ} → length memory ≡ size → filled_memory values segments memory ≡
    Some filled
    → AllByRecursion (IsDataInside values size) segments
inside_from_memory values [] memory n h = tt
inside_from_memory values (d ∷ segments) memory n h =
    let f = first_data values d segments memory h in (
      (f.from, f.offset, omega (arith, n, f.inside)),
      inside_from_memory values segments (with_part memory f.from d.bytes)
          (length-with_part memory f.from d.bytes f.inside ∙ n) f.others,
    )

-- ---- loops over segments

pub element_next : (values : List Value) (elements : List Element) (i : ℕ) {e : Element}
    (table : List (Option ℕ)) {filled : List (Option ℕ)} → i < length elements → e ≡ get_or elements
    i e
    → filled_table values (drop i elements) table ≡ Some filled
    → FirstElement values e (drop (i + 1) elements) table filled
element_next values elements i {e} table {filled} lt is h =
    let P : List Element → Type 0 = λ es. filled_table values es table ≡ Some filled in
    first_element values e (drop (i + 1) elements) table (subst P (next elements i e lt is) h)

pub data_next : (values : List Value) (segments : List Data) (i : ℕ) (d : Data)
    (memory filled : List ℕ) → i < length segments → d ≡ get_or segments i d
    → filled_memory values (drop i segments) memory ≡ Some filled
    → FirstData values d (drop (i + 1) segments) memory filled
data_next values segments i d memory filled lt is h =
    let P : List Data → Type 0 = λ ds. filled_memory values ds memory ≡ Some filled in
    first_data values d (drop (i + 1) segments) memory (subst P (next segments i d lt is) h)
