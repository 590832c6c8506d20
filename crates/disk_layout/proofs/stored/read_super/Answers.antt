use Rattle.std.proofs.Common.{length, ap, sym, ◌∙◌, subst, arith, List, ℕ, Ok}
use Rattle.sector_disk.specs.rules.DiskImage.{sector_at}
use Rattle.sector_disk.proofs.Moments.{stays_shows}
use Rattle.disk_layout.specs.rules.Sectors.{super_of}
use Rattle.disk_layout.specs.rules.Stored.{Checks, IsKnown}
use Rattle.disk_layout.proofs.ReadLemmas.{no_reads, read_more, reads_then, finds_split}
use Rattle.disk_layout.proofs.stored.read_super.Goals as goal

pub returns-in-Err-clause-reads : goal.returns-in-Err-clause-reads
returns-in-Err-clause-reads g c =
    let old = g.D.Disk.medium c.args.disk.now in
    read_more old old (g.D.Disk.medium c.read.new.self) _ _ c.read.result
    (no_reads old) c.read.ensures

pub returns-in_err-bytes-clause-reads : goal.returns-in_err-bytes-clause-reads
returns-in_err-bytes-clause-reads g c =
    let old = g.D.Disk.medium c.args.disk.now in
    let mid = g.D.Disk.medium c.read.new.self in
    reads_then old mid (g.D.Disk.medium c.read_sectors.new.disk)
    (read_more old old mid _ _ c.read.result (no_reads old) c.read.ensures)
    c.read_sectors.ensures.reads

pub split-requires : goal.split-requires
split-requires g c =
    let ok = c.in_ok-contents.ensures in
    let long = c.in_ok-bytes.ensures.len in
    let same = ap length c.as_slice.ensures.value in
    let consistent = ok.2 in
    omega (arith, consistent, long, same)

pub returns-clause-reads : goal.returns-clause-reads
returns-clause-reads g c =
    let old = g.D.Disk.medium c.args.disk.now in
    let mid = g.D.Disk.medium c.read.new.self in
    reads_then old mid (g.D.Disk.medium c.read_sectors.new.disk)
    (read_more old old mid _ _ c.read.result (no_reads old) c.read.ensures)
    c.read_sectors.ensures.reads

pub returns-clause-finds : goal.returns-clause-finds
returns-clause-finds g c = λ image shows.
    let old = g.D.Disk.medium c.args.disk.now in
    let mid = g.D.Disk.medium c.read.new.self in
    let new = g.D.Disk.medium c.read_sectors.new.disk in
    let stays = c.read_sectors.ensures.reads.stays in
    let here = c.in_default.ensures.bytes image (stays_shows mid new stays image shows) in
    let bytes = c.as_slice.ensures.value ∙ c.in_ok-bytes.ensures.bytes image shows in
    let check = c.in_ok-contents.ensures in
    let count = c.sectors-sectors.ensures in
    let room = check.3 in
    let says : Checks old.sectors (sector_at image 0) (Ok c.in_ok-contents.contents) = (
      subst (λ (l : List ℕ). IsKnown l) (sym here) check.0,
      check.1 ∙ ap (λ (l : List ℕ). super_of l) (sym here),
      check.2,
      omega (arith, room, count),
    ) in
    finds_split old.sectors image c.in_ok-contents.contents c.as_slice.result.now c.split.result
    says bytes c.split.ensures
