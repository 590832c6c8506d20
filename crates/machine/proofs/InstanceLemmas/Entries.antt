-- Entries of a table, written one by one.
use Rattle.std.proofs.Common.{◌≡◌, ℕ, ◌+◌, ◌<◌, List, ◌∷◌, length, get_or, set, drop, Option}
use Rattle.std.proofs.Common.{Some, refl, sym, ap, ◌∙◌, arith, append_assoc}
use Rattle.std.proofs.lemmas.List.{take_more_set, drop-set-lt}
use Rattle.wasm_validate.proofs.PartLemmas.Loops.{next}
use Rattle.machine.proofs.InstanceLemmas.Filled.{entries_put}

pub put_more : (table : List (Option ℕ)) (f : ℕ) (functions : List ℕ) (from : ℕ)
    → from < length table → entries_put (set table from (Some f)) functions (from + 1)
    ≡ entries_put table (f ∷ functions) from
put_more table f functions from h =
    let front = take_more_set table from (Some f) h in
    let same : (from + 1) + length functions ≡ from + length (f ∷ functions) = omega arith in
    let back : drop ((from + 1) + length functions) (set table from (Some f))
    ≡ drop (from + length (f ∷ functions)) table =
    drop-set-lt ((from + 1) + length functions) table from (Some f) (omega arith)
    ∙ ap (λ n. drop n table) same in
    rw (front, back, append_assoc) refl

-- the functions from here on, by this one and what follows it
pub put_next : (table : List (Option ℕ)) (functions : List ℕ) (i from : ℕ) {f : ℕ}
    → i < length functions → f ≡ get_or functions i f → from + i < length table
    → entries_put (set table (from + i) (Some f)) (drop (i + 1) functions) (from + (i + 1))
    ≡ entries_put table (drop i functions) (from + i)
put_next table functions i from {f} lt is h =
    let place : from + (i + 1) ≡ (from + i) + 1 = omega arith in
    ap (λ n. entries_put (set table (from + i) (Some f)) (drop (i + 1) functions) n) place
    ∙ (put_more table f (drop (i + 1) functions) (from + i) h
    ∙ ap (λ fs. entries_put table fs (from + i)) (sym (next functions i f lt is)))
