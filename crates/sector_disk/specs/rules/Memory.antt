-- A disk in memory, as the contracts see it.
use Rattle.std.specs.Prelude.{◌≡◌, ◌⊎◌, ◌≤◌, ◌++◌, ℕ, List, [], ◌∷◌, All, length}
use Rattle.std.specs.Prelude.{nat_le, if◌then◌else◌, Result, Ok, Err, refl}
use Rattle.std.proofs.Common.{inl}
use Rattle.sector_disk.specs.rules.DiskImage.{DiskImage}
use Rattle.sector_disk.specs.rules.Medium.{Medium}
use Rattle.sector_disk.specs.rules.Counts.{HadCount}
use Rattle.sector_disk.specs.rules.Pending.{Leaves, replayed, torn_by, HadCrashImage}
use Rattle.sector_disk.specs.laws.Counts.{count_only}
use Rattle.sector_disk.specs.laws.Memory.{vec_fits, memory_stays, memory_only, memory_may_stay}
use Rattle.sector_disk.specs.laws.Memory.{memory_may_keep}
use Rattle.sector_disk.specs.laws.Pending.{disk_image-crashed}
use Rattle.sector_disk.specs.declared.disk_call.DiskCall.{DiskCall}
use Rattle.sector_disk.specs.declared.fault.DiskFault.{DiskFault}
use Rattle.sector_disk.specs.declared.fault.DiskFault.TheVariants.{Range, Io}
use Rattle.sector_disk.specs.declared.memory.MemDisk.{MemDisk}
use Rattle.sector_disk.specs.declared.write.Write.{Write}
use Rattle.sector_disk.specs.declared.sector.TheConstants.{SECTOR_SIZE}

-- what the last good sync left, the writes since, the oldest first, and how many writes there is
-- room for between two good syncs
pub record MemoryState : Type 0 where
  pub durable : DiskImage
  pub pending : List Write
  pub limit : ℕ

-- the state of a disk in memory
abbrev pub memory_state_of : MemDisk → MemoryState
memory_state_of d = record { durable = d.durable.items; pending = d.pending.items; limit = d.limit }

-- what reads give: the writes, whole, over what is durable
abbrev pub shown_by : MemoryState → DiskImage
shown_by state = replayed state.pending state.durable

-- a read past the last sector is out of range
abbrev pub read_answer : MemoryState → ℕ → Result (Unit {0}) DiskFault
read_answer state k = if nat_le (length state.durable) k then Err Range else Ok tt

-- so is a write, and one for which there is no room fails
abbrev pub write_answer : MemoryState → ℕ → Result (Unit {0}) DiskFault
write_answer state k = if nat_le (length state.durable) k then Err Range
    else (if nat_le state.limit (length state.pending) then Err Io else Ok tt)

-- the state after a write, which no sync has made durable
abbrev pub after_write : MemoryState → ℕ → List ℕ → MemoryState
after_write state k bytes =
    record state { pending = state.pending ++ (record { sector = k; bytes = bytes }) ∷ [] }

-- the state in which this image is durable and no write is pending
abbrev pub made_durable : MemoryState → DiskImage → MemoryState
made_durable state image = record { durable = image; pending = []; limit = state.limit }

-- a good sync makes durable what reads give
abbrev pub after_sync : MemoryState → MemoryState
after_sync state = made_durable state (shown_by state)

-- a cut leaves of each write the front that its number names
abbrev pub after_cut : MemoryState → List ℕ → MemoryState
after_cut state tears = made_durable state (torn_by tears state.pending state.durable)

-- the calls that a log of them holds
abbrev pub calls_in : List (DiskCall × Unit {0}) → List DiskCall
calls_in [] = []
calls_in (call ∷ earlier) = call.0 ∷ calls_in earlier

-- It never fails of itself. Its last fields are laws, which `specs/laws/Memory.antt` has.
abbrev pub memory_medium : MemDisk → Medium
memory_medium d = record {
  sectors = length d.durable.items;
  fault_plan = [];
  shows = λ image. image ≡ d.shown.items;
  crash_images = λ image. Leaves d.pending.items d.durable.items image;
  crash_pairs = λ shown image. (shown ≡ d.shown.items) × Leaves d.pending.items
      d.durable.items image;
  of_shows = λ image e. (d.shown.items, (e, memory_stays d));
  of_crash = λ image crashed. (d.shown.items, (refl, crashed));
  of_pair = λ shown image both. both;
  moment = length d.past.items;
  crash_images_since = λ t image. Leaves d.pending.items d.durable.items image
      ⊎ HadCrashImage t d.past.items image;
  faults = 0;
  unsynced = length d.pending.items;
  room = d.limit;
  unsynced_since = λ t n. (n ≡ length d.pending.items) ⊎ HadCount t d.past.items n;
  calls = calls_in d.calls.items;
  counted = 0;
  fits = vec_fits d.durable;
  crash_pairs_since = λ t shown image. (shown ≡ d.shown.items)
      × (Leaves d.pending.items d.durable.items image ⊎ HadCrashImage t d.past.items image);
  of_since = λ t image since. (d.shown.items, (refl, since));
  of_pair_since = λ t shown image both. both;
  counts_now = λ t image le crashed. inl crashed;
  only_now = λ image since. memory_only d image since;
  only_pair = λ shown image both. (both.0, memory_only d image both.1);
  count_now = λ t le. inl refl;
  only_count = λ n since. count_only d.past.items (length d.pending.items) n since;
  may_stay = λ shown image both. memory_may_stay d shown image both;
  may_keep = λ shown image both k front le. memory_may_keep d shown image both k front le;
  is_disk_image = λ image crashed. disk_image-crashed _ d.pending.items d.durable.items image d.full
      d.within crashed;
}

-- each image that a cut may leave is had by numbers of at most a sector's size
abbrev pub IsEveryCut : MemDisk → Type 0
IsEveryCut d = (image : DiskImage) → (memory_medium d).crash_images image → (tears : List ℕ)
    × All (λ tear. tear ≤ SECTOR_SIZE) tears
    × (image ≡ (after_cut (memory_state_of d) tears).durable)
