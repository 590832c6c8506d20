-- A disk in memory.
use Rattle.std.proofs.Common.{◌≡◌, length, ap, ◌∙◌}
use Rattle.sector_disk.specs.laws.Pending.{length-replayed}
use Rattle.sector_disk.specs.declared.memory.MemDisk.{MemDisk}

pub shown_size : (d : MemDisk) → length d.shown.items ≡ length d.durable.items
shown_size d = ap length d.replayed ∙ length-replayed d.pending.items d.durable.items
