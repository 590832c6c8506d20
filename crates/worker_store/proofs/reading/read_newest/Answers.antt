use Rattle.std.proofs.Common.{◌<◌, rules, arith, ℕ, ap, sym, subst, inl, inr, ⊎_elim, ◌∙◌}
use Rattle.std.proofs.lemmas.Bool.{false≢true}
use Rattle.disk_layout.specs.declared.head.Head.{Head}
use Rattle.disk_layout.specs.rules.Places.{journal_place, total_sectors}
use Rattle.snapshot.specs.rules.Heads.{FindsHead}
use Rattle.std.specs.Prelude.{Result, Err, List, IsTrue, Option}
use Rattle.sector_disk.proofs.Moments.{stays_shows}
use Rattle.snapshot.specs.declared.fault.SnapshotFault.{SnapshotFault}
use Rattle.snapshot.specs.declared.snapshots.Snapshots.{Snapshots}
use Rattle.snapshot.specs.rules.Snapshots.{is_failed}
use Rattle.worker_store.proofs.NewestLemmas.{judged, process_image_wrong, other_version}
use Rattle.worker_store.proofs.NewestLemmas.{short_journal, reads_newest}
use Rattle.disk_layout.specs.declared.damage.Damage.TheVariants as damage
use Rattle.disk_layout.specs.declared.fault.LayoutFault.TheVariants as layout
use Rattle.snapshot.specs.declared.fault.SnapshotFault.TheVariants.{Damaged}
use Rattle.worker_store.specs.declared.read_fault.ReadFault.TheVariants as read
use Rattle.worker_store.proofs.ReadCauseLemmas.{head_cause, snapshot_later}
use Rattle.worker_store.proofs.ReadLemmas.{idle_works}
use Rattle.worker_store.proofs.reading.read_newest.Goals as goal

pub returns-in-Ok-process_image_of-clause-tells : goal.returns-in-Ok-process_image_of-clause-tells
returns-in-Ok-process_image_of-clause-tells g c image shown =
    let before = stays_shows (g.D.Disk.medium c.newest_head.new.disk)
    (g.D.Disk.medium c.process_image_of.new.disk) c.process_image_of.ensures.reads.stays
    image shown in
    let known = c.in-Some-known_version in
    judged c.args.geometry.now image c.in-Ok.found c.in-Some.head c.in-Some.is
    (c.in-Ok.ensures.finds image before) known.version known.ensures
    (c.takes_records.ensures.0 c.if-not-takes_records.false) c.in-Ok-process_image_of.process_image
    (c.in-Ok-process_image_of.ensures.process_image image shown) c.judge_mark.result
    c.judge_mark.ensures

pub returns-clause-tells : goal.returns-clause-tells
returns-clause-tells g c image shown =
    let before = stays_shows (g.D.Disk.medium c.newest_head.new.disk)
    (g.D.Disk.medium c.process_image_of.new.disk) c.process_image_of.ensures.reads.stays
    image shown in
    let known = c.in-Some-known_version in
    process_image_wrong c.args.geometry.now image c.in-Ok.found c.in-Some.head c.in-Some.is
    (c.in-Ok.ensures.finds image before) known.version known.ensures
    (c.takes_records.ensures.0 c.if-not-takes_records.false) c.in-Err-process_image_of.fault
    c.from-in-Err-process_image_of.result c.from-in-Err-process_image_of.ensures
    (λ same. idle_works c.new-snapshots.result c.new-snapshots.ensures.idle
    (subst (λ (s : Snapshots). IsTrue (is_failed s)) c.in-Ok.ensures.same
    (c.in-Err-process_image_of.ensures.fails.refused.0 (ap (λ (f : SnapshotFault).
    (let r : Result (List ℕ) SnapshotFault = Err f in r)) same))))
    (c.in-Err-process_image_of.ensures.process_image image shown)

pub returns-in-Err-newest_head-clause-tells : goal.returns-in-Err-newest_head-clause-tells
returns-in-Err-newest_head-clause-tells g c = search rules

pub returns-in_default-found-clause-tells : goal.returns-in_default-found-clause-tells
returns-in_default-found-clause-tells g c image shown =
    inl (subst (λ (o : Option Head). FindsHead image o) c.in_default-found.is
    (c.in-Ok.ensures.finds image shown))

pub returns-in_default-known_version-clause-tells :
    goal.returns-in_default-known_version-clause-tells
returns-in_default-known_version-clause-tells g c image shown =
    other_version c.args.geometry.now image c.in-Ok.found c.in-Some.head c.in-Some.is
    (c.in-Ok.ensures.finds image shown) c.in_default-known_version.ensures

pub returns-then-not-takes_records-clause-tells : goal.returns-then-not-takes_records-clause-tells
returns-then-not-takes_records-clause-tells g c image shown =
    let known = c.in-Some-known_version in
    short_journal c.args.geometry.now image c.in-Ok.found c.in-Some.head c.in-Some.is
    (c.in-Ok.ensures.finds image shown) known.version known.ensures
    (λ takes. false≢true (sym c.if-not-takes_records.true ∙ c.takes_records.ensures.1 takes))

-- ---- where a savepoint is

pub returns-in-Err-newest_head-clause-finds : goal.returns-in-Err-newest_head-clause-finds
returns-in-Err-newest_head-clause-finds g c image shown =
    reads_newest c.args.geometry.now image (Err c.from.result)
    (returns-in-Err-newest_head-clause-tells g c image shown)

pub returns-in_default-found-clause-finds : goal.returns-in_default-found-clause-finds
returns-in_default-found-clause-finds g c image shown =
    reads_newest c.args.geometry.now image (Err (read.Snapshot Damaged))
    (returns-in_default-found-clause-tells g c image shown)

pub returns-in_default-known_version-clause-finds :
    goal.returns-in_default-known_version-clause-finds
returns-in_default-known_version-clause-finds g c image shown =
    reads_newest c.args.geometry.now image (Err (read.Layout layout.Version))
    (returns-in_default-known_version-clause-tells g c image shown)

pub returns-then-not-takes_records-clause-finds : goal.returns-then-not-takes_records-clause-finds
returns-then-not-takes_records-clause-finds g c image shown =
    reads_newest c.args.geometry.now image
    (Err (read.Layout (layout.Damaged damage.ShortJournal)))
    (returns-then-not-takes_records-clause-tells g c image shown)

pub returns-in-Ok-process_image_of-clause-finds : goal.returns-in-Ok-process_image_of-clause-finds
returns-in-Ok-process_image_of-clause-finds g c image shown =
    reads_newest c.args.geometry.now image c.judge_mark.result
    (returns-in-Ok-process_image_of-clause-tells g c image shown)

pub returns-clause-finds : goal.returns-clause-finds
returns-clause-finds g c image shown =
    reads_newest c.args.geometry.now image (Err c.from-in-Err-process_image_of.result)
    (returns-clause-tells g c image shown)

-- ---- when an error comes

pub returns-in-Err-clause-cause : goal.returns-in-Err-clause-cause
returns-in-Err-clause-cause g c =
    let few : (g.D.Disk.medium c.args.disk.now).sectors < total_sectors c.args.geometry.now =
    let f = c.in-Err.ensures.too_few.1 in let n = c.total_sectors.ensures in omega (arith, f, n) in
    inl few

pub returns-in-Err-newest_head-clause-cause : goal.returns-in-Err-newest_head-clause-cause
returns-in-Err-newest_head-clause-cause g c =
    let old = g.D.Disk.medium c.args.disk.now in
    let enough = c.in_default.ensures.enough in
    let total = c.total_sectors.ensures in
    inr (head_cause (Option Head) old (g.D.Disk.medium c.newest_head.new.disk)
    c.in-Err-newest_head.fault c.from.result c.from.ensures c.new-snapshots.result
    c.new-snapshots.ensures.idle (⊎_elim (λ failed. inl failed)
    (λ told. inr (
      told.0,
      told.1,
      ⊎_elim (λ (few : old.sectors < 3). absurd (omega (arith, few, enough, total)))
          (λ failure. failure) told.2,
    )) (c.in-Err-newest_head.ensures.cause (search rules))))

pub returns-clause-cause : goal.returns-clause-cause
returns-clause-cause g c =
    let old = g.D.Disk.medium c.args.disk.now in
    let mid = g.D.Disk.medium c.newest_head.new.disk in
    let enough = c.in_default.ensures.enough in
    let total = c.total_sectors.ensures in
    let reads = c.in-Ok.ensures.reads in
    let same = reads.leaves.passes.sectors in
    inr (snapshot_later (List ℕ) old (g.D.Disk.medium c.process_image_of.new.disk) mid reads
    c.in-Err-process_image_of.fault c.from-in-Err-process_image_of.result
    c.from-in-Err-process_image_of.ensures
    (λ same. idle_works c.new-snapshots.result c.new-snapshots.ensures.idle
    (subst (λ (s : Snapshots). IsTrue (is_failed s)) c.in-Ok.ensures.same
    (c.in-Err-process_image_of.ensures.fails.refused.0 (ap (λ (f : SnapshotFault).
    (let r : Result (List ℕ) SnapshotFault = Err f in r)) same))))
    (λ fault is. ⊎_elim
    (λ (few : mid.sectors < journal_place c.args.geometry.now).
    absurd (omega (arith, few, same, enough, total)))
    (λ failure. failure) (c.in-Err-process_image_of.ensures.cause fault is)))
