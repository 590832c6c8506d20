use Rattle.std.proofs.Common.{List, ℕ, sym, subst}
use Rattle.sector_disk.proofs.Moments.{stays_shows}
use Rattle.disk_layout.proofs.ReadLemmas.{no_reads, read_more}
use Rattle.snapshot.specs.Heads.{HeadIn}
use Rattle.snapshot.proofs.newest.newest_head.Goals as goal

pub returns-in_err-read-2-clause-reads : goal.returns-in_err-read-2-clause-reads
returns-in_err-read-2-clause-reads g c =
    let old = g.D.Disk.medium c.args.disk.now in
    let mid = g.D.Disk.medium c.read.new.self in
    read_more old mid (g.D.Disk.medium c.read-2.new.self) _ _ c.read-2.result
    (read_more old old mid _ _ c.read.result (no_reads old) c.read.ensures) c.read-2.ensures

pub returns-clause-reads : goal.returns-clause-reads
returns-clause-reads g c =
    let old = g.D.Disk.medium c.args.disk.now in
    let mid = g.D.Disk.medium c.read.new.self in
    read_more old mid (g.D.Disk.medium c.read-2.new.self) _ _ c.read-2.result
    (read_more old old mid _ _ c.read.result (no_reads old) c.read.ensures) c.read-2.ensures

pub returns-clause-finds : goal.returns-clause-finds
returns-clause-finds g c = λ image shows.
    let mid = g.D.Disk.medium c.read.new.self in
    let new = g.D.Disk.medium c.read-2.new.self in
    let first = c.in_ok-read.ensures.bytes image
    (stays_shows mid new c.read-2.ensures.stays image shows) in
    let second = c.in_ok-read-2.ensures.bytes image shows in
    c.newer_head.ensures image (subst (λ (s : List ℕ). HeadIn 0 s c.head_in.result)
    (sym first) c.head_in.ensures) (subst (λ (s : List ℕ). HeadIn 1 s c.head_in-2.result)
    (sym second) c.head_in-2.ensures)
