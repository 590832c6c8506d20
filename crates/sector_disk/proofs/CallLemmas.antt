-- The writes and syncs that were asked for, one call on and over several.
use Rattle.std.proofs.Common.{◌≡◌, ℕ, zero, suc, ◌+◌, ◌-◌, ◌<◌, ◌≤◌, List, [], ◌∷◌, ◌++◌, length}
use Rattle.std.proofs.Common.{drop, Result, refl, sym, ap, ◌∙◌, subst, ⊎_elim, arith, append_assoc}
use Rattle.std.proofs.Math.Seq.{drop-append_seam, drop-append-add}
use Rattle.std.proofs.lemmas.List.{drop_all, drop-append-le, drop-drop}
use Rattle.std.proofs.lemmas.Bool.{cases_lt}
use Rattle.std.proofs.lemmas.Result.{on_ok_weaker}
use Rattle.sector_disk.specs.rules.Medium.{Medium, BeginsCalls, PerformsCalls}
use Rattle.sector_disk.specs.rules.Calls.{rising_writes}
use Rattle.sector_disk.specs.declared.disk_call.DiskCall.{DiskCall}
use Rattle.sector_disk.specs.declared.disk_call.DiskCall.TheVariants.{WriteOf}

-- two lists with the same after them
onto : {a b : List DiskCall} (before : List DiskCall) → a ≡ b → a ++ before ≡ b ++ before
onto before e = ap (λ (l : List DiskCall). l ++ before) e

-- no call
pub none_begun : (calls : List DiskCall) (old new : Medium) → new.calls ≡ old.calls
    → BeginsCalls calls old new
none_begun calls old new same =
    (length calls, same ∙ sym (onto old.calls (drop_all (length calls) calls (omega arith))))

pub no_calls : (calls : List DiskCall) (m : Medium) → BeginsCalls calls m m
no_calls calls m = none_begun calls m m refl

-- some calls, and then others
pub begun_then : (earlier later : List DiskCall) (old mid new : Medium)
    → mid.calls ≡ earlier ++ old.calls → BeginsCalls later mid new
    → BeginsCalls (later ++ earlier) old new
begun_then earlier later old mid new made begun =
    let n = begun.0 in
    let all : new.calls ≡ drop n later ++ (earlier ++ old.calls) =
    begun.1 ∙ ap (λ (l : List DiskCall). drop n later ++ l) made in
    ⊎_elim
    (λ (less : n < length later). (let r : BeginsCalls (later ++ earlier) old new = (
      n,
      all ∙ sym (append_assoc (drop n later) earlier old.calls)
          ∙ onto old.calls (sym (drop-append-le n later earlier (omega arith))),
    ) in r))
    (λ (none : length later ≤ n). (
      length later,
      all ∙ onto (earlier ++ old.calls) (drop_all n later none)
          ∙ onto old.calls (sym (drop-append_seam later earlier)),
    ))
    (cases_lt n (length later))

pub performed_then : {T E : Type 0} (earlier later : List DiskCall) (result : Result T E)
    (old mid new : Medium) → mid.calls ≡ earlier ++ old.calls → PerformsCalls later result mid new
    → PerformsCalls (later ++ earlier) result old new
performed_then earlier later result old mid new made makes = record {
  all = on_ok_weaker result
      (λ (all : new.calls ≡ later ++ mid.calls).
      all ∙ ap (λ (l : List DiskCall). later ++ l) made
      ∙ sym (append_assoc later earlier old.calls))
      makes.all;
  begun = begun_then earlier later old mid new made makes.begun;
}

-- calls that are left out, beside those that follow
pub begun_first : (earlier later : List DiskCall) (old mid : Medium) → BeginsCalls earlier old mid
    → BeginsCalls (later ++ earlier) old mid
begun_first earlier later old mid begun = (
  length later + begun.0,
  begun.1 ∙ onto old.calls (sym (drop-append-add later earlier begun.0)),
)

-- reads, and then calls
pub begun_since : (calls : List DiskCall) (old mid new : Medium) → mid.calls ≡ old.calls
    → BeginsCalls calls mid new → BeginsCalls calls old new
begun_since calls old mid new same begun =
    (begun.0, begun.1 ∙ ap (λ (l : List DiskCall). drop begun.0 calls ++ l) same)

pub performed_since : {T E : Type 0} (calls : List DiskCall) (result : Result T E)
    (old mid new : Medium) → mid.calls ≡ old.calls → PerformsCalls calls result mid new
    → PerformsCalls calls result old new
performed_since calls result old mid new same makes = record {
  all = on_ok_weaker result
      (λ (all : new.calls ≡ calls ++ mid.calls).
      all ∙ ap (λ (l : List DiskCall). calls ++ l) same)
      makes.all;
  begun = begun_since calls old mid new same makes.begun;
}

-- ---- one write to each of several sectors

pub rising_one : (at n : ℕ) → rising_writes at (n + 1) ≡ WriteOf (at + n) ∷ rising_writes at n
rising_one at n = ap (λ k. rising_writes at k) (let e : n + 1 ≡ suc n = omega arith in e)

-- the first of them
rising_front : (k at n : ℕ) → drop k (rising_writes at (k + n)) ≡ rising_writes at n
rising_front zero at n =
    ap (λ m. rising_writes at m) (let e : zero + n ≡ n = omega arith in e)
rising_front (suc k) at n =
    let e : suc k + n ≡ suc (k + n) = omega arith in
    ap (λ m. drop (suc k) (rising_writes at m)) e ∙ rising_front k at n

pub rising_longer : (at n m : ℕ) (old new : Medium) → n ≤ m
    → BeginsCalls (rising_writes at n) old new → BeginsCalls (rising_writes at m) old new
rising_longer at n m old new le begun =
    let k = m - n in
    let e : k + n ≡ m = omega arith in
    let front : rising_writes at n ≡ drop k (rising_writes at m) =
    sym (rising_front k at n) ∙ ap (λ j. drop k (rising_writes at j)) e in (
      k + begun.0,
      begun.1 ∙ onto old.calls (ap (λ (l : List DiskCall). drop begun.0 l) front)
          ∙ onto old.calls (drop-drop begun.0 k (rising_writes at m)),
    )

-- one write more
module _ (at n : ℕ) (old mid new : Medium)
    (so_far : mid.calls ≡ rising_writes at n ++ old.calls) where
  pub rising_begun : (m : ℕ) → n < m → BeginsCalls (WriteOf (at + n) ∷ []) mid new
      → BeginsCalls (rising_writes at m) old new
  rising_begun m lt begun =
      let one = WriteOf (at + n) ∷ [] in
      let more = begun_then (rising_writes at n) one old mid new so_far begun in
      let next = subst (λ (l : List DiskCall). BeginsCalls l old new) (sym (rising_one at n)) more
      in
      rising_longer at (n + 1) m old new (omega arith) next

  pub rising_more : new.calls ≡ (WriteOf (at + n) ∷ []) ++ mid.calls
      → new.calls ≡ rising_writes at (n + 1) ++ old.calls
  rising_more all =
      all ∙ ap (λ (l : List DiskCall). WriteOf (at + n) ∷ l) so_far
      ∙ onto old.calls (sym (rising_one at n))
