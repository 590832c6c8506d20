-- What a start keeps of a disk in memory, sector after sector.
use Rattle.std.proofs.Common.{◌≡◌, ℕ, ◌+◌, ◌<◌, ◌≤◌, ◌++◌, List, [], ◌∷◌, length, take, get_or}
use Rattle.std.proofs.Common.{Bool, true, false, refl, sym, ap, ◌∙◌, arith}
use Rattle.std.specs.Prelude.{Result, Ok, Err, nat_le, if◌then◌else◌}
use Rattle.std.proofs.lemmas.Bool.Decides.{nat_tests}
use Rattle.std.proofs.lemmas.List.{take_all, take_more}
use Rattle.sector_disk.specs.declared.fault.DiskFault.{DiskFault}
use Rattle.sector_disk.specs.declared.fault.DiskFault.TheVariants.{Range}
use Rattle.sector_disk.specs.declared.memory.MemDisk.{MemDisk}
use Rattle.sector_disk.specs.declared.write.Write.{Write}
use Rattle.sector_disk.specs.laws.Pending.{length-replayed}
use Rattle.sector_disk.specs.rules.DiskImage.{DiskImage, sector_at}
use Rattle.sector_disk.specs.rules.Memory.{memory_state_of, shown_by, read_answer, MemoryState}
use Rattle.worker.specs.declared.story.starting.StoryStart.{StoryStart}
use Rattle.worker.specs.Going.{HasSize}

-- ---- what reads give

abbrev answer_by : Bool → Result (Unit {0}) DiskFault
answer_by past = if past then Err Range else Ok tt

read_within : (disk : MemDisk) (k : ℕ) → k < length disk.durable.items
    → read_answer (memory_state_of disk) k ≡ Ok tt
read_within disk k within = by (nat_le (length disk.durable.items) k) refl
  where
    by : (b : Bool) → nat_le (length disk.durable.items) k ≡ b → answer_by b ≡ answer_by false
    by true past = absurd (grind (arith, nat_tests))
    by false past = refl

-- a disk that is as it was answers well
pub read_now : (start disk : MemDisk) (k : ℕ) (result : Result (Unit {0}) DiskFault)
    → disk ≡ start → k < length start.durable.items
    → result ≡ read_answer (memory_state_of disk) k → result ≡ Ok tt
read_now start disk k result same within answer =
    answer ∙ ap (λ (d : MemDisk). read_answer (memory_state_of d) k) same
    ∙ read_within start k within

-- one sector more
pub read_more : (disk start : MemDisk) (sectors sectors' : DiskImage) (bytes : List ℕ) (k : ℕ)
    → disk ≡ start → k < length start.durable.items
    → sectors ≡ take k (shown_by (memory_state_of start))
    → bytes ≡ sector_at (shown_by (memory_state_of disk)) k → sectors' ≡ sectors ++ bytes ∷ []
    → sectors' ≡ take (k + 1) (shown_by (memory_state_of start))
read_more disk start sectors sectors' bytes k same within so_far is more =
    let shown = shown_by (memory_state_of start) in
    let long : length shown ≡ length start.durable.items =
    length-replayed start.pending.items start.durable.items in
    let here : bytes ≡ get_or shown k [] =
    is ∙ ap (λ (d : MemDisk). sector_at (shown_by (memory_state_of d)) k) same in
    more ∙ ap (λ (l : DiskImage). l ++ bytes ∷ []) so_far
    ∙ ap (λ (b : List ℕ). take k shown ++ b ∷ []) here
    ∙ sym (take_more shown k [] (omega (arith, within, long)))

pub all_read : (start : MemDisk) (sectors : DiskImage) (k : ℕ) → length start.durable.items ≤ k
    → sectors ≡ take k (shown_by (memory_state_of start))
    → sectors ≡ shown_by (memory_state_of start)
all_read start sectors k past so_far =
    let shown = shown_by (memory_state_of start) in
    let long : length shown ≡ length start.durable.items =
    length-replayed start.pending.items start.durable.items in
    so_far ∙ take_all k shown (omega (arith, past, long))

-- ---- what is written

abbrev state_of : DiskImage → List Write → ℕ → MemoryState
state_of durable pending limit = record { durable = durable; pending = pending; limit = limit }

-- the first sectors are on a disk of this size, and no write of it waits for a sync
pub record HasPut (start : StoryStart) (k : ℕ) (disk : MemDisk) : Type 0 where
  pub there : take k disk.durable.items ≡ take k start.sectors.items
  pub count : length disk.durable.items ≡ length start.sectors.items
  pub rest : memory_state_of disk ≡ state_of disk.durable.items [] start.writes

pub none_put : (start : StoryStart) (disk : MemDisk)
    → HasSize (length start.sectors.items) start.writes disk → disk.pending.items ≡ []
    → HasPut start 0 disk
none_put start disk size synced = record {
  there = refl;
  count = size.sectors_are;
  rest = ap (λ (p : List Write). state_of disk.durable.items p disk.limit) synced
      ∙ ap (λ (n : ℕ). state_of disk.durable.items [] n) size.writes_are;
}
