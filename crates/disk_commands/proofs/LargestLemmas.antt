-- How large the disk of a worker can be.
use Rattle.std.proofs.Common.{arith}
use Rattle.disk_layout.proofs.ReadingLemmas.WrittenLemmas.{config_within}
use Rattle.disk_commands.specs.laws.LargestDisks.{LargestDisksArePictured}

pub largest_disks_are_pictured : LargestDisksArePictured
largest_disks_are_pictured config wasm limits short =
    let within = config_within config limits in
    let pages = limits.in_range.pages.1 in
    let files = limits.in_range.files.1 in
    let journal = limits.in_range.journal.1 in
    omega (arith, within, pages, files, journal, short)
