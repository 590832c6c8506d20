-- Laws of a disk in memory, which make it a medium.
use Rattle.std.specs.Prelude.{◌≡◌, ◌⊎◌, ◌<◌, ◌≤◌, ◌^◌, ℕ, List, Vec, length}
use Rattle.std.specs.declared.alloc.Global.{Global}
use Rattle.std.proofs.Common.{⊎_elim, arith, sym, subst, ◌∙◌}
use Rattle.sector_disk.specs.rules.DiskImage.{DiskImage, sector_at, with_front}
use Rattle.sector_disk.specs.rules.Pending.{Leaves, HadCrashImage}
use Rattle.sector_disk.specs.laws.Pending.{whole_crashed, keeps_more, none_crashed}
use Rattle.sector_disk.specs.declared.memory.MemDisk.{MemDisk}
use Rattle.sector_disk.specs.declared.sector.TheConstants.{SECTOR_SIZE}

-- a `Vec` has fewer items than there are numbers
pub vec_fits : (v : Vec (List ℕ) Global) → length v.items < 2 ^ 64
vec_fits v = omega (arith, v.ok.0, v.ok.1, v.small)

-- a cut may leave all that reads give
pub memory_stays : (d : MemDisk) → Leaves d.pending.items d.durable.items d.shown.items
memory_stays d =
    subst (λ i. Leaves d.pending.items d.durable.items i) (sym d.replayed)
    (whole_crashed _ d.pending.items d.durable.items d.full d.within)

-- since this moment there is no other
pub memory_only : (d : MemDisk) (image : DiskImage) → Leaves d.pending.items d.durable.items image
    ⊎ HadCrashImage (length d.past.items) d.past.items image
    → Leaves d.pending.items d.durable.items image
memory_only d image since =
    ⊎_elim (λ crashed. crashed) (λ had.
    absurd (none_crashed (length d.past.items) d.past.items image (omega arith) had)) since

-- what reads give may be left, whatever else may be
pub memory_may_stay : (d : MemDisk) (shown image : DiskImage)
    → (shown ≡ d.shown.items) × Leaves d.pending.items d.durable.items image
    → (shown ≡ d.shown.items) × Leaves d.pending.items d.durable.items shown
memory_may_stay d shown image both = (
  both.0,
  subst (λ i. Leaves d.pending.items d.durable.items i) (sym both.0) (memory_stays d),
)

-- in any sector a longer front of what reads give may be left
pub memory_may_keep : (d : MemDisk) (shown image : DiskImage)
    → (shown ≡ d.shown.items) × Leaves d.pending.items d.durable.items image
    → (k front : ℕ) → front ≤ SECTOR_SIZE → (shown ≡ d.shown.items)
    × Leaves d.pending.items d.durable.items (with_front image k front (sector_at shown k))
memory_may_keep d shown image both k front le = (
  both.0,
  subst (λ i. Leaves d.pending.items d.durable.items (with_front image k front (sector_at i k)))
      (sym (both.0 ∙ d.replayed))
      (keeps_more _ d.pending.items d.durable.items image k front d.full d.within le both.1),
)
