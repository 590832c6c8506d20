-- A disk at a moment, as the contracts see it. It has what reads give, what a cut may leave, and
-- what a cut may have left since.
use Rattle.std.specs.Prelude.{◌≡◌, ◌⊎◌, ◌<◌, ◌≤◌, ◌+◌, ◌-◌, ◌^◌, ℕ, List, [], ◌∷◌, ◌++◌, drop}
use Rattle.std.specs.Prelude.{Result, OnOk, OnErr, IsErr, IsErrOf}
use Rattle.sector_disk.specs.rules.DiskImage.{DiskImage, sector_at, with_front, IsDiskImage, IsTorn}
use Rattle.sector_disk.specs.rules.DiskImage.{IsWritten}
use Rattle.sector_disk.specs.declared.disk_call.DiskCall.{DiskCall}
use Rattle.sector_disk.specs.declared.disk_call.DiskCall.TheVariants.{WriteOf, Sync}
use Rattle.sector_disk.specs.declared.fault.DiskFault.{DiskFault}
use Rattle.sector_disk.specs.declared.fault.DiskFault.TheVariants.{Range, Memory}
use Rattle.sector_disk.specs.declared.sector.TheConstants.{SECTOR_SIZE}

-- Of a disk that obeys the model reads give one image. Of one whose answers fit no image, there is
-- none in any of these sets.
pub record Medium : Type 1 where
  pub sectors : ℕ
  -- where it is to stop and to fail, as numbers, which no call changes
  pub fault_plan : List ℕ
  -- what reads give without a cut
  pub shows : DiskImage → Type 0
  -- what a cut now may leave
  pub crash_images : DiskImage → Type 0
  -- reads give the first of these, and then a cut now may leave the second
  pub crash_pairs : DiskImage → DiskImage → Type 0
  -- a number that doesn't fall
  pub moment : ℕ
  -- what a cut at some moment since that one may have left, a moment inside a call included
  pub crash_images_since : ℕ → DiskImage → Type 0
  -- the same, where reads now give the first of these
  pub crash_pairs_since : ℕ → DiskImage → DiskImage → Type 0
  -- how often the disk itself has failed
  pub faults : ℕ
  -- how many writes it has taken since the last good sync, and how many it surely takes between two
  pub unsynced : ℕ
  pub room : ℕ
  -- there were so many unsynced writes at some moment since that one
  pub unsynced_since : ℕ → ℕ → Type 0
  -- the writes and syncs that it was asked for, the newest first; of those that failed some may
  -- be missing
  pub calls : List DiskCall
  -- how many calls it says were begun; a disk that counts none says 0
  pub counted : ℕ
  pub fits : sectors < 2 ^ 64
  -- the sets are those of the pairs
  pub of_shows : (image : DiskImage) → shows image → (crashed : DiskImage)
      × crash_pairs image crashed
  pub of_crash : (image : DiskImage) → crash_images image → (shown : DiskImage)
      × crash_pairs shown image
  pub of_pair : (shown image : DiskImage) → crash_pairs shown image → shows shown
      × crash_images image
  pub of_since : (t : ℕ) (image : DiskImage) → crash_images_since t image → (shown : DiskImage)
      × crash_pairs_since t shown image
  pub of_pair_since : (t : ℕ) (shown image : DiskImage) → crash_pairs_since t shown image
      → shows shown × crash_images_since t image
  -- this moment is one of those since an earlier one, and since this moment there is no other
  pub counts_now : (t : ℕ) (image : DiskImage) → t ≤ moment → crash_images image
      → crash_images_since t image
  pub only_now : (image : DiskImage) → crash_images_since moment image → crash_images image
  pub only_pair : (shown image : DiskImage) → crash_pairs_since moment shown image
      → crash_pairs shown image
  pub count_now : (t : ℕ) → t ≤ moment → unsynced_since t unsynced
  pub only_count : (n : ℕ) → unsynced_since moment n → n ≡ unsynced
  -- a cut may leave all that reads give, and in any sector a longer front of that than it did
  pub may_stay : (shown image : DiskImage) → crash_pairs shown image → crash_pairs shown shown
  pub may_keep : (shown image : DiskImage) → crash_pairs shown image → (k front : ℕ)
      → front ≤ SECTOR_SIZE → crash_pairs shown (with_front image k front (sector_at shown k))
  pub is_disk_image : (image : DiskImage) → crash_images image → IsDiskImage sectors image

-- how many more writes it surely takes before a good sync
abbrev pub spare : Medium → ℕ
spare medium = medium.room - medium.unsynced

-- an image of these, after a step
abbrev pub After : (DiskImage → DiskImage → Type 0) → (DiskImage → Type 0) → DiskImage → Type 0
After step old image = (before : DiskImage) × old before × step before image

-- each new image is an old one after a step
abbrev pub Follows : (DiskImage → DiskImage → Type 0) → (DiskImage → Type 0)
    → (DiskImage → Type 0) → Type 0
Follows step old new = (image : DiskImage) → new image → After step old image

-- Time goes on, and faults don't fall. A cut in between leaves what it may have left before, or
-- what has P.
pub record Passes (old new : Medium) (P : DiskImage → Type 0) : Type 0 where
  pub sectors : new.sectors ≡ old.sectors
  pub fault_plan : new.fault_plan ≡ old.fault_plan
  pub room : new.room ≡ old.room
  pub faults : old.faults ≤ new.faults
  pub later : old.moment ≤ new.moment
  pub nothing_else : (t : ℕ) (image : DiskImage) → t ≤ old.moment → new.crash_images_since t image
      → old.crash_images_since t image ⊎ P image

-- what a cut at an earlier moment may have left is not forgotten
abbrev pub Keeps : Medium → Medium → Type 0
Keeps old new = (t : ℕ) (image : DiskImage) → t ≤ old.moment → old.crash_images_since t image
    → new.crash_images_since t image

-- a cut at any moment since old leaves an image that has P
pub record LeavesOnly (old new : Medium) (P : DiskImage → Type 0) : Type 0 where
  pub each : (image : DiskImage) → new.crash_images_since old.moment image → P image
  pub passes : Passes old new P

-- the same for what reads give and what a cut may leave together
abbrev pub BothFollow : (DiskImage → DiskImage → Type 0) → (DiskImage → DiskImage → Type 0)
    → Medium → Medium → Type 0
BothFollow shown_step crashed_step old new =
    (shown image : DiskImage) → new.crash_pairs shown image → (was_shown : DiskImage)
    × (was_crashed : DiskImage) × old.crash_pairs was_shown was_crashed × shown_step was_shown shown
    × crashed_step was_crashed image

-- at each moment in between there were as many unsynced writes as at one before, or so many at most
pub record CountsUpTo (most : ℕ) (old new : Medium) : Type 0 where
  pub keeps : (t n : ℕ) → t ≤ old.moment → old.unsynced_since t n → new.unsynced_since t n
  pub grows : (t n : ℕ) → t ≤ old.moment → new.unsynced_since t n → old.unsynced_since t n
      ⊎ (n ≤ most)

-- so many calls at most were counted in between
abbrev pub CallsUpTo : ℕ → Medium → Medium → Type 0
CallsUpTo most old new = new.counted ≤ old.counted + most

-- no image is added to what reads give and to what a cut may leave, or may have left since, and no
-- write
pub record Stays (old new : Medium) : Type 0 where
  pub crash_pairs : (shown image : DiskImage) → new.crash_pairs shown image
      → old.crash_pairs shown image
  pub since : (t : ℕ) (shown image : DiskImage) → t ≤ old.moment
      → new.crash_pairs_since t shown image → old.crash_pairs_since t shown image
  pub unsynced : new.unsynced ≤ old.unsynced

-- sector k of all that reads give has these bytes
abbrev pub Holds : Medium → ℕ → List ℕ → Type 0
Holds medium k bytes = (image : DiskImage) → medium.shows image → sector_at image k ≡ bytes

-- as after a good sync: a cut leaves what reads give
pub record IsAllSynced (medium : Medium) : Type 0 where
  pub same : (shown image : DiskImage) → medium.crash_pairs shown image → image ≡ shown
  pub unsynced : medium.unsynced ≡ 0

-- a write of which some prefix was left
pub record Tears (k : ℕ) (bytes : List ℕ) (old new : Medium) : Type 0 where
  pub both : BothFollow (IsTorn k bytes) (IsTorn k bytes) old new
  pub unsynced : new.unsynced ≤ old.unsynced + 1

-- a whole write, which a cut may tear
pub record TakesWrite (k : ℕ) (bytes : List ℕ) (old new : Medium) : Type 0 where
  pub both : BothFollow (IsWritten k bytes) (IsTorn k bytes) old new
  pub unsynced : new.unsynced ≡ old.unsynced + 1

-- Some of these calls have been performed, from the oldest on: none but the newest are left out.
abbrev pub BeginsCalls : List DiskCall → Medium → Medium → Type 0
BeginsCalls calls old new = (left_out : ℕ) × (new.calls ≡ drop left_out calls ++ old.calls)

-- Where it answers Ok, just these calls have been performed, the newest first. Else they were
-- begun.
pub record PerformsCalls {T E : Type 0} (calls : List DiskCall) (result : Result T E)
    (old new : Medium) : Type 0 where
  pub all : OnOk result (new.calls ≡ calls ++ old.calls)
  pub begun : BeginsCalls calls old new

-- a call answers an error only where the disk failed, or for a cause that is named
pub record HasCause {T : Type 0} (is_out is_full : Type 0) (result : Result T DiskFault)
    (old new : Medium) : Type 0 where
  pub fault : IsErr result → (is_out ⊎ is_full) ⊎ (old.faults < new.faults)
  pub range : IsErrOf result Range → is_out
  pub no_memory : IsErrOf result Memory → ⊥

-- within a disk's sectors a call fails with a fault of the disk itself
pub record FailsInside {T : Type 0} (result : Result T DiskFault) : Type 0 where
  pub no_range : IsErrOf result Range → ⊥
  pub no_memory : IsErrOf result Memory → ⊥

-- a read of sector k, which gives what it holds
pub record Reads {T : Type 0} (k : ℕ) (into : List ℕ) (result : Result T DiskFault)
    (old new : Medium) : Type 0 where
  pub inside : OnOk result (k < old.sectors)
  pub bytes : OnOk result (Holds new k into)
  pub stays : Stays old new
  pub unsynced : new.unsynced ≡ old.unsynced
  pub counts : CountsUpTo old.unsynced old new
  pub calls : new.calls ≡ old.calls
  pub counted : CallsUpTo 1 old new
  pub passes : Passes old new new.crash_images
  pub cause : HasCause (old.sectors ≤ k) ⊥ result old new

-- a write to sector k: all of it where it answers Ok, else some prefix
pub record Writes {T : Type 0} (k : ℕ) (bytes : List ℕ) (result : Result T DiskFault)
    (old new : Medium) : Type 0 where
  pub inside : OnOk result (k < old.sectors)
  pub whole : OnOk result (TakesWrite k bytes old new)
  pub tears : Tears k bytes old new
  pub counts : CountsUpTo (old.unsynced + 1) old new
  pub calls : PerformsCalls (WriteOf k ∷ []) result old new
  pub counted : CallsUpTo 1 old new
  pub passes : Passes old new new.crash_images
  pub cause : HasCause (old.sectors ≤ k) (spare old ≡ 0) result old new

-- a sync, which makes durable what reads give where it answers Ok, else nothing
pub record SyncsMedium {T : Type 0} (result : Result T DiskFault) (old new : Medium) : Type 0 where
  pub all_synced : OnOk result (IsAllSynced new)
  pub stays : Stays old new
  pub unsynced : OnErr result (new.unsynced ≡ old.unsynced)
  pub counts : CountsUpTo old.unsynced old new
  pub calls : PerformsCalls (Sync ∷ []) result old new
  pub counted : CallsUpTo 1 old new
  pub passes : Passes old new new.crash_images
  pub cause : HasCause ⊥ ⊥ result old new
