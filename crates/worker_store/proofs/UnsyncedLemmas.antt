-- How many writes of a store wait for a sync at once, one call after another.
use Rattle.std.proofs.Common.{◌≤◌, ℕ, ◌+◌, arith}
use Rattle.sector_disk.specs.rules.Medium.{Medium, CountsUpTo, IsAllSynced}
use Rattle.sector_disk.proofs.CountLemmas.{counts_then}

-- a call that begins on a synced disk
pub synced_then : (a b most : ℕ) (old mid new : Medium) → IsAllSynced mid → a ≤ most → b ≤ most
    → old.moment ≤ mid.moment → CountsUpTo a old mid → CountsUpTo (mid.unsynced + b) mid new
    → CountsUpTo most old new
synced_then a b most old mid new all_synced ale ble later one two =
    let none = all_synced.unsynced in
    counts_then a (mid.unsynced + b) most old mid new ale (omega (arith, none)) later one two

-- a call that leaves so many unsynced writes at most, and then another
pub more_then : (a b : ℕ) (old mid new : Medium) → mid.unsynced ≤ old.unsynced + a
    → old.moment ≤ mid.moment → CountsUpTo (old.unsynced + a) old mid
    → CountsUpTo (mid.unsynced + b) mid new → CountsUpTo (old.unsynced + (a + b)) old new
more_then a b old mid new few later one two =
    counts_then (old.unsynced + a) (mid.unsynced + b) (old.unsynced + (a + b)) old mid new
    (omega arith) (omega (arith, few)) later one two
