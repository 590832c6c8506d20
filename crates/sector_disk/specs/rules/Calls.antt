-- The writes and syncs that a disk was asked for. The newest is the first.
use Rattle.std.specs.Prelude.{ℕ, zero, suc, ◌+◌, List, [], ◌∷◌}
use Rattle.sector_disk.specs.declared.disk_call.DiskCall.{DiskCall}
use Rattle.sector_disk.specs.declared.disk_call.DiskCall.TheVariants.{WriteOf, Sync}

-- one write to each of so many sectors from this one on, in rising order
abbrev pub rising_writes : ℕ → ℕ → List DiskCall
rising_writes at zero = []
rising_writes at (suc n) = WriteOf (at + n) ∷ rising_writes at n

-- these writes, and then one sync
abbrev pub synced_writes : ℕ → ℕ → List DiskCall
synced_writes at n = Sync ∷ rising_writes at n
