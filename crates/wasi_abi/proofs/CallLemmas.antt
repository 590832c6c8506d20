-- Every call has a place in the table, and a name of its own.
use Rattle.std.proofs.Common.{◌≡◌, ◌≢◌, ℕ, ◌+◌, ◌<◌, List, [], ◌∷◌, length, get_or, Bool, true}
use Rattle.std.proofs.Common.{false, ◌&&◌, not, refl, sym, ◌∙◌, ap, lit<, below_more}
use Rattle.std.specs.Prelude.{Contains, Option, Some, map}
use Rattle.std.specs.List.{find, list_all, AllByRecursion, IsDistinct}
use Rattle.std.specs.Str.{bytes_eq}
use Rattle.std.proofs.lemmas.List.{get_or_default}
use Rattle.std.proofs.lemmas.Slice.Eq.{bytes_eq-Decides}
use Rattle.wasi_abi.specs.declared.call.Call.{Call}
use Rattle.wasi_abi.specs.declared.call.Call.TheVariants as call
use Rattle.wasi_abi.specs.rules.Calls.{all_calls, name_of}
use Rattle.wasm_syntax.proofs.Grammar.Rising.{both}

pub every_call : (c : Call) → Contains all_calls c
every_call call.ArgsGet = (0, lit< tt, refl)
every_call call.ArgsSizesGet = (1, lit< tt, refl)
every_call call.EnvironGet = (2, lit< tt, refl)
every_call call.EnvironSizesGet = (3, lit< tt, refl)
every_call call.ClockResGet = (4, lit< tt, refl)
every_call call.ClockTimeGet = (5, lit< tt, refl)
every_call call.FdClose = (6, lit< tt, refl)
every_call call.FdDatasync = (7, lit< tt, refl)
every_call call.FdFdstatGet = (8, lit< tt, refl)
every_call call.FdFdstatSetFlags = (9, lit< tt, refl)
every_call call.FdFilestatGet = (10, lit< tt, refl)
every_call call.FdFilestatSetSize = (11, lit< tt, refl)
every_call call.FdPread = (12, lit< tt, refl)
every_call call.FdPrestatGet = (13, lit< tt, refl)
every_call call.FdPrestatDirName = (14, lit< tt, refl)
every_call call.FdPwrite = (15, lit< tt, refl)
every_call call.FdRead = (16, lit< tt, refl)
every_call call.FdReaddir = (17, lit< tt, refl)
every_call call.FdSeek = (18, lit< tt, refl)
every_call call.FdSync = (19, lit< tt, refl)
every_call call.FdTell = (20, lit< tt, refl)
every_call call.FdWrite = (21, lit< tt, refl)
every_call call.PathCreateDirectory = (22, lit< tt, refl)
every_call call.PathFilestatGet = (23, lit< tt, refl)
every_call call.PathOpen = (24, lit< tt, refl)
every_call call.PathRemoveDirectory = (25, lit< tt, refl)
every_call call.PathRename = (26, lit< tt, refl)
every_call call.PathUnlinkFile = (27, lit< tt, refl)
every_call call.ProcExit = (28, lit< tt, refl)
every_call call.SchedYield = (29, lit< tt, refl)
every_call call.RandomGet = (30, lit< tt, refl)

-- the name is none of those that were passed, nor this one
pub passed : (xs : List Call) (i : ℕ) (name seen : List ℕ) → i < length xs
    → seen ≡ name_of (get_or xs i call.ArgsGet) → false ≡ bytes_eq seen name
    → ((k : ℕ) (d : Call) → k < i → name ≢ name_of (get_or xs k d)) → (k : ℕ) (d : Call) → k < i + 1
    → name ≢ name_of (get_or xs k d)
passed xs i name seen within is differs before =
    let here : (d : Call) → name ≢ name_of (get_or xs i d) =
    λ d e.
    let same : seen ≡ name = is ∙ (ap name_of (get_or_default xs i call.ArgsGet d within) ∙ sym e)
    in
    let yes : bytes_eq seen name ≡ true = (bytes_eq-Decides seen name).1 same in
    cc in
    let P : ℕ → Type 0 = λ k. (d : Call) → name ≢ name_of (get_or xs k d) in
    λ k d h. below_more P i (λ j below e. before j e below) here k h d

not_true : (a : Bool) → not a ≡ true → a ≡ false
not_true true h = cc h
not_true false h = refl

-- no text is there twice, as a test
differs : List (List ℕ) → Bool
differs [] = true
differs (x ∷ xs) = list_all (λ y. not (bytes_eq x y)) xs && differs xs

all_differ : (x : List ℕ) (xs : List (List ℕ)) → list_all (λ y. not (bytes_eq x y)) xs ≡ true
    → AllByRecursion (λ y. bytes_eq x y ≡ false) xs
all_differ x [] h = tt
all_differ x (y ∷ ys) h =
    let e = both (not (bytes_eq x y)) (list_all (λ z. not (bytes_eq x z)) ys) h in
    (not_true (bytes_eq x y) e.0, all_differ x ys e.1)

distinct_from_test : (xs : List (List ℕ)) → differs xs ≡ true → IsDistinct bytes_eq xs
unfolding IsDistinct differs
distinct_from_test [] h = tt
distinct_from_test (x ∷ xs) h = let e = both (list_all (λ y. not (bytes_eq x y)) xs) (differs xs) h
    in (all_differ x xs e.0, distinct_from_test xs e.1)

pub distinct_names : IsDistinct bytes_eq (map name_of all_calls)
unfolding differs
distinct_names = distinct_from_test (map name_of all_calls) refl

-- the call with a name
abbrev call_named : List ℕ → Option Call
call_named name = find (λ c. bytes_eq (name_of c) name) all_calls

call_named-name_of : (c : Call) → call_named (name_of c) ≡ Some c
call_named-name_of call.ArgsGet = refl
call_named-name_of _ = refl

pub name_of-injective : (c d : Call) → name_of c ≡ name_of d → c ≡ d
name_of-injective c d e =
    let same : Some c ≡ Some d = sym (call_named-name_of c)
    ∙ (ap call_named e ∙ call_named-name_of d) in
    cc
