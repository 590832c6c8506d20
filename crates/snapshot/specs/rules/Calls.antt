-- What a commit asks the disk for (this project's own). The newest call is the first.
use Rattle.std.specs.Prelude.{◌≡◌, ◌⊎◌, ℕ, zero, suc, ◌+◌, List, [], ◌∷◌, Result}
use Rattle.sector_disk.specs.rules.Medium.{Medium, PerformsCalls}
use Rattle.sector_disk.specs.rules.Calls.{rising_writes}
use Rattle.sector_disk.specs.declared.disk_call.DiskCall.{DiskCall}
use Rattle.sector_disk.specs.declared.disk_call.DiskCall.TheVariants.{WriteOf, Sync}
use Rattle.disk_layout.specs.rules.Places.{head_place}
use Rattle.snapshot.specs.declared.writing.Writing.{Writing}
use Rattle.snapshot.specs.declared.writing.Writing.TheVariants.{Whole, Changes}

-- some of so many sectors from this one on are written: each once at most, in rising order
abbrev pub SomeRising : ℕ → ℕ → List DiskCall → Type 0
SomeRising at zero calls = calls ≡ []
SomeRising at (suc n) calls = SomeRising at n calls
    ⊎ ((earlier : List DiskCall) × (calls ≡ WriteOf (at + n) ∷ earlier) × SomeRising at n earlier)

-- written whole all of the sectors are written, else some of them
abbrev pub AreStores : Writing → ℕ → ℕ → List DiskCall → Type 0
AreStores Whole at n calls = calls ≡ rising_writes at n
AreStores Changes at n calls = SomeRising at n calls

-- how many sectors are stored, from which one on, and whether whole
pub record AreaStores : Type 0 where
  pub writing : Writing
  pub first : ℕ
  pub count : ℕ

-- these sectors are stored
abbrev pub PerformsStores : {T E : Type 0} → AreaStores → Result T E → Medium → Medium → Type 0
PerformsStores stores result old new = (calls : List DiskCall)
    × AreStores stores.writing stores.first stores.count calls × PerformsCalls calls result old new

-- after these calls the head of generation g is written, between two syncs
abbrev pub with_head : ℕ → List DiskCall → List DiskCall
with_head g calls = Sync ∷ WriteOf (head_place g) ∷ Sync ∷ calls

-- these sectors are stored, and then the head of generation g
abbrev pub PerformsStoresAndHead : {T E : Type 0} → AreaStores → ℕ → Result T E → Medium → Medium
    → Type 0
PerformsStoresAndHead stores g result old new = (calls : List DiskCall)
    × AreStores stores.writing stores.first stores.count calls
    × PerformsCalls (with_head g calls) result old new
