-- What the calls of a commit ask the disk for, one after another.
use Rattle.std.proofs.Common.{◌≡◌, ◌≤◌, ℕ, zero, suc, ◌+◌, ◌-◌, List, [], ◌∷◌, ◌++◌, Result}
use Rattle.std.specs.Prelude.{Ok, Err}
use Rattle.std.proofs.Common.{refl, sym, ap, ◌∙◌, subst, inl, inr, ⊎_elim, arith, append_assoc}
use Rattle.sector_disk.specs.rules.Medium.{Medium, BeginsCalls}
use Rattle.sector_disk.specs.rules.Calls.{rising_writes}
use Rattle.sector_disk.specs.declared.disk_call.DiskCall.{DiskCall}
use Rattle.sector_disk.specs.declared.disk_call.DiskCall.TheVariants.{WriteOf, Sync}
use Rattle.sector_disk.proofs.CallLemmas.{no_calls, begun_then, begun_first, performed_then}
use Rattle.sector_disk.proofs.CallLemmas.{rising_longer}
use Rattle.disk_layout.specs.rules.Places.{head_place}
use Rattle.snapshot.specs.declared.writing.Writing.{Writing}
use Rattle.snapshot.specs.declared.writing.Writing.TheVariants.{Whole, Changes}
use Rattle.snapshot.specs.rules.Calls.{SomeRising, AreStores, AreaStores, PerformsStores}
use Rattle.snapshot.specs.rules.Calls.{PerformsStoresAndHead, with_head}

abbrev pub stores : Writing → ℕ → ℕ → AreaStores
stores writing at n = record { writing = writing; first = at; count = n }

-- they are begun, and they are all made
abbrev pub BeginsStores : Writing → ℕ → ℕ → Medium → Medium → Type 0
BeginsStores writing at n old new =
    (calls : List DiskCall) × AreStores writing at n calls × BeginsCalls calls old new

abbrev pub HasStored : Writing → ℕ → ℕ → Medium → Medium → Type 0
HasStored writing at n old new =
    (calls : List DiskCall) × AreStores writing at n calls × (new.calls ≡ calls ++ old.calls)

-- ---- one sector, and none

pub one_always : (k : ℕ) → AreStores Whole k 1 (WriteOf k ∷ [])
one_always k = ap (λ j. WriteOf j ∷ []) (let e : k ≡ k + 0 = omega arith in e)

pub one_changed : (k : ℕ) → AreStores Changes k 1 (WriteOf k ∷ [])
one_changed k = inr ([], one_always k, refl)

-- no sector was stored
pub some_none : (at n : ℕ) → SomeRising at n []
some_none at zero = refl
some_none at (suc n) = inl (some_none at n)

pub none_changed : (at n : ℕ) → AreStores Changes at n []
none_changed at n = some_none at n

pub stores_none : (writing : Writing) (at : ℕ) → AreStores writing at 0 []
stores_none Whole at = refl
stores_none Changes at = refl

pub none_stored : (writing : Writing) (at n : ℕ) (m : Medium) → BeginsStores writing at n m m
none_stored Whole at n m = (rising_writes at n, refl, no_calls (rising_writes at n) m)
none_stored Changes at n m = ([], some_none at n, no_calls [] m)

-- ---- more sectors

rising_append : (at n m : ℕ)
    → rising_writes at (n + m) ≡ rising_writes (at + n) m ++ rising_writes at n
rising_append at n zero =
    ap (λ j. rising_writes at j) (let e : n + zero ≡ n = omega arith in e)
rising_append at n (suc m) =
    let one : n + suc m ≡ suc (n + m) = omega arith in
    let last : at + (n + m) ≡ at + n + m = omega arith in
    ap (λ j. rising_writes at j) one ∙ ap (λ j. WriteOf j ∷ rising_writes at (n + m)) last
    ∙ ap (λ (l : List DiskCall). WriteOf (at + n + m) ∷ l) (rising_append at n m)

some_append : (at n m : ℕ) (a b : List DiskCall) → SomeRising at n a → SomeRising (at + n) m b
    → SomeRising at (n + m) (b ++ a)
some_append at n zero a b some none =
    let P : List DiskCall → Type 0 = λ l. SomeRising at (n + zero) (l ++ a) in
    let e : n ≡ n + zero = omega arith in
    subst P (sym none) (subst (λ (j : ℕ). SomeRising at j a) e some)
some_append at n (suc m) a b some more =
    let R : Type 0 = SomeRising at (suc (n + m)) (b ++ a) in
    let one : suc (n + m) ≡ n + suc m = omega arith in
    let last : at + n + m ≡ at + (n + m) = omega arith in
    subst (λ (j : ℕ). SomeRising at j (b ++ a)) one
    (⊎_elim
    (λ (fewer : SomeRising (at + n) m b).
    (let r : R = inl (some_append at n m a b some fewer) in r))
    (λ (newest : (earlier : List DiskCall) × (b ≡ WriteOf (at + n + m) ∷ earlier)
    × SomeRising (at + n) m earlier).
    inr (
      newest.0 ++ a,
      ap (λ (l : List DiskCall). l ++ a) newest.1 ∙ ap (λ j. WriteOf j ∷ (newest.0 ++ a)) last,
      some_append at n m a newest.0 some newest.2,
    ))
    more)

stores_append : (writing : Writing) (at n m : ℕ) (a b : List DiskCall)
    → AreStores writing at n a → AreStores writing (at + n) m b
    → AreStores writing at (n + m) (b ++ a)
stores_append Whole at n m a b one two =
    ap (λ (l : List DiskCall). l ++ a) two
    ∙ ap (λ (l : List DiskCall). rising_writes (at + n) m ++ l) one ∙ sym (rising_append at n m)
stores_append Changes at n m a b one two = some_append at n m a b one two

some_longer : (at n k : ℕ) (calls : List DiskCall) → SomeRising at n calls
    → SomeRising at (n + k) calls
some_longer at n k calls some = some_append at n k calls [] some (some_none (at + n) k)

pub begun_longer : (writing : Writing) (at n m : ℕ) (old new : Medium) → n ≤ m
    → BeginsStores writing at n old new → BeginsStores writing at m old new
begun_longer Whole at n m old new le begun =
    let all = subst (λ (l : List DiskCall). BeginsCalls l old new) begun.1 begun.2 in
    (rising_writes at m, refl, rising_longer at n m old new le all)
begun_longer Changes at n m old new le begun =
    let e : n + (m - n) ≡ m = omega arith in
    let some = some_longer at n (m - n) begun.0 begun.1 in
    (begun.0, subst (λ (j : ℕ). SomeRising at j begun.0) e some, begun.2)

-- ---- one run of stores, and then another

module _ (writing : Writing) (at n m : ℕ) (old mid new : Medium)
    (one : HasStored writing at n old mid) where
  -- the calls of both
  both_are : (calls : List DiskCall) → AreStores writing (at + n) m calls
      → AreStores writing at (n + m) (calls ++ one.0)
  both_are calls are = stores_append writing at n m one.0 calls one.1 are

  pub stored_then : HasStored writing (at + n) m mid new → HasStored writing at (n + m) old new
  stored_then two = (
    two.0 ++ one.0,
    both_are two.0 two.1,
    two.2 ∙ ap (λ (l : List DiskCall). two.0 ++ l) one.2
        ∙ sym (append_assoc two.0 one.0 old.calls),
  )

  pub begun_stores_then : BeginsStores writing (at + n) m mid new
      → BeginsStores writing at (n + m) old new
  begun_stores_then two = (
    two.0 ++ one.0,
    both_are two.0 two.1,
    begun_then one.0 two.0 old mid new one.2 two.2,
  )

  pub head_then : {T E : Type 0} (g : ℕ) (result : Result T E)
      → PerformsStoresAndHead (stores writing (at + n) m) g result mid new
      → PerformsStoresAndHead (stores writing at (n + m)) g result old new
  head_then g result two = (
    two.0 ++ one.0,
    both_are two.0 two.1,
    performed_then one.0 (with_head g two.0) result old mid new one.2 two.2,
  )

pub performs_then : {T E : Type 0} (writing : Writing) (at n m : ℕ) (old mid new : Medium)
    → HasStored writing at n old mid → (result : Result T E)
    → PerformsStores (stores writing (at + n) m) result mid new
    → PerformsStores (stores writing at (n + m)) result old new
performs_then writing at n m old mid new one (Ok done) two =
    let all = stored_then writing at n m old mid new one (two.0, two.1, two.2.all) in
    (all.0, all.1, record { all = all.2; begun = (0, all.2) })
performs_then writing at n m old mid new one (Err fault) two =
    let begun = begun_stores_then writing at n m old mid new one (two.0, two.1, two.2.begun) in
    (begun.0, begun.1, record { all = tt; begun = begun.2 })

-- the head is never begun
abbrev pub BeginsStoresAndHead : AreaStores → ℕ → Medium → Medium → Type 0
BeginsStoresAndHead stores g old new = (calls : List DiskCall)
    × AreStores stores.writing stores.first stores.count calls
    × BeginsCalls (with_head g calls) old new

pub no_head : (writing : Writing) (at n g : ℕ) (old new : Medium)
    → BeginsStores writing at n old new
    → BeginsStoresAndHead (stores writing at n) g old new
no_head writing at n g old new begun =
    let rest = Sync ∷ WriteOf (head_place g) ∷ Sync ∷ [] in
    (begun.0, begun.1, begun_first begun.0 rest old new begun.2)

-- ---- the same stores

pub same_stores : (writing was : Writing) (at place n m : ℕ) → was ≡ writing → place ≡ at → m ≡ n
    → stores was place m ≡ stores writing at n
same_stores writing was at place n m same here many = rw (same, here, many) refl

pub has_stored_at : {one other : AreaStores} (old new : Medium) → one ≡ other
    → HasStored one.writing one.first one.count old new
    → HasStored other.writing other.first other.count old new
has_stored_at old new e stored =
    subst (λ (s : AreaStores). HasStored s.writing s.first s.count old new) e stored

pub begun_at : {one other : AreaStores} (old new : Medium) → one ≡ other
    → BeginsStores one.writing one.first one.count old new
    → BeginsStores other.writing other.first other.count old new
begun_at old new e begun =
    subst (λ (s : AreaStores). BeginsStores s.writing s.first s.count old new) e begun

pub performs_at : {T E : Type 0} {one other : AreaStores} (result : Result T E) (old new : Medium)
    → one ≡ other → PerformsStores one result old new → PerformsStores other result old new
performs_at result old new e makes =
    subst (λ (s : AreaStores). PerformsStores s result old new) e makes

pub head_at : {T E : Type 0} {one other : AreaStores} (g h : ℕ) (result : Result T E)
    (old new : Medium) → one ≡ other → h ≡ g → PerformsStoresAndHead one h result old new
    → PerformsStoresAndHead other g result old new
head_at {one = one} {other = other} g h result old new e whose makes =
    let same = subst (λ (s : AreaStores). PerformsStoresAndHead s h result old new) e makes in
    subst (λ (j : ℕ). PerformsStoresAndHead other j result old new) whose same
