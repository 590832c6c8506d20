use Rattle.std.proofs.Common.{◌≡◌, ◌+◌, ◌++◌, ℕ, List, [], ◌∷◌, length, replicate, sym, subst}
use Rattle.std.proofs.Common.{arith}
use Rattle.std.proofs.lemmas.List.{length-replicate}
use Rattle.std.proofs.lemmas.Result.{on_ok_weaker}
use Rattle.sector_disk.specs.rules.Calls.{rising_writes}
use Rattle.sector_disk.specs.rules.Medium.{BeginsCalls, PerformsCalls}
use Rattle.sector_disk.proofs.CountLemmas.{counts_more}
use Rattle.sector_disk.proofs.Moments.{shows_follow}
use Rattle.disk_layout.specs.rules.Contents.{contents_sectors}
use Rattle.disk_layout.specs.rules.Places.{rounded_up}
use Rattle.worker_store.specs.laws.Creations.{zero_sector}
use Rattle.worker_store.specs.rules.Creations.{behind_calls}
use Rattle.worker_store.specs.Filling.{behind_sectors}
use Rattle.worker_store.proofs.CreationLemmas.{two_leave_none, three_leave_none, behind_awaits}
use Rattle.worker_store.proofs.CreationLemmas.{err_calls, behind_first, behind_second, behind_all}
use Rattle.worker_store.proofs.UnsyncedLemmas.{more_then}
use Rattle.worker_store.proofs.contents.write_behind.Goals as goal

pub returns-in_err-write_contents-clause-calls : goal.returns-in_err-write_contents-clause-calls
returns-in_err-write_contents-clause-calls g c =
    let old = g.D.Disk.medium c.args.disk.now in
    let mid = g.D.Disk.medium c.write_contents.new.disk in
    let geometry = c.args.geometry.now in
    err_calls (behind_calls geometry) c.from_residual.result old mid c.from_residual.ensures.0
    (behind_first geometry old mid
    (subst (λ n. BeginsCalls (rising_writes 3 n) old mid) (sym c.requires.module_sectors)
    c.write_contents.ensures.calls.begun))

pub returns-in_err-write_run-clause-none : goal.returns-in_err-write_run-clause-none
returns-in_err-write_run-clause-none g c all =
    let sectors : List (List ℕ) = contents_sectors (c.args.config.now ++ c.args.wasm.now) in
    two_leave_none (length sectors) sectors (zero_sector ∷ zero_sector ∷ [])
    (g.D.Disk.medium c.args.disk.now) (g.D.Disk.medium c.write_contents.new.disk)
    (g.D.Disk.medium c.write_run.new.disk) all c.write_contents.ensures.any_moment
    c.write_run.ensures.any_moment

pub returns-in_err-write_run-clause-calls : goal.returns-in_err-write_run-clause-calls
returns-in_err-write_run-clause-calls g c =
    let old = g.D.Disk.medium c.args.disk.now in
    let mid = g.D.Disk.medium c.write_contents.new.disk in
    let next = g.D.Disk.medium c.write_run.new.disk in
    let geometry = c.args.geometry.now in
    err_calls (behind_calls geometry) c.from_residual-in_err-write_run.result old next
    c.from_residual-in_err-write_run.ensures.0
    (behind_second geometry old mid next
    (subst (λ n. mid.calls ≡ rising_writes 3 n ++ old.calls) (sym c.requires.module_sectors)
    c.in_ok-write_contents.ensures.calls.all) c.write_run.ensures.calls.begun)

pub returns-clause-none : goal.returns-clause-none
returns-clause-none g c all =
    let sectors : List (List ℕ) = contents_sectors (c.args.config.now ++ c.args.wasm.now) in
    let journal : List (List ℕ) =
    replicate c.args.geometry.now.journal_sectors zero_sector in
    three_leave_none (length sectors) (length journal) c.journal_place.result sectors
    (zero_sector ∷ zero_sector ∷ []) journal
    (g.D.Disk.medium c.args.disk.now) (g.D.Disk.medium c.write_contents.new.disk)
    (g.D.Disk.medium c.write_run.new.disk) (g.D.Disk.medium c.write_zeros.new.disk)
    (let e = c.journal_place.ensures in omega (arith, e)) all
    c.write_contents.ensures.any_moment c.write_run.ensures.any_moment
    c.write_zeros.ensures.any_moment

pub returns-clause-awaits : goal.returns-clause-awaits
returns-clause-awaits g c settings spelled placed none =
    let old = g.D.Disk.medium c.args.disk.now in
    let mid = g.D.Disk.medium c.write_contents.new.disk in
    let next = g.D.Disk.medium c.write_run.new.disk in
    let new = g.D.Disk.medium c.write_zeros.new.disk in
    on_ok_weaker c.write_zeros.result
    (λ whole. behind_awaits settings c.args.config.now c.args.wasm.now c.args.geometry.now old mid
    next new c.journal_place.result c.journal_place.ensures spelled placed none
    (shows_follow old mid _ _ c.in_ok-write_contents.ensures.stored)
    (shows_follow mid next _ _ c.in_ok-write_run.ensures.whole)
    (shows_follow next new _ _ whole)) c.write_zeros.ensures.whole

pub returns-clause-calls : goal.returns-clause-calls
returns-clause-calls g c =
    let old = g.D.Disk.medium c.args.disk.now in
    let mid = g.D.Disk.medium c.write_contents.new.disk in
    let next = g.D.Disk.medium c.write_run.new.disk in
    let new = g.D.Disk.medium c.write_zeros.new.disk in
    let geometry = c.args.geometry.now in
    behind_all geometry c.write_zeros.result old mid next new
    (subst (λ n. mid.calls ≡ rising_writes 3 n ++ old.calls) (sym c.requires.module_sectors)
    c.in_ok-write_contents.ensures.calls.all) c.in_ok-write_run.ensures.calls.all
    (subst (λ k. PerformsCalls (rising_writes k geometry.journal_sectors) c.write_zeros.result next
    new) c.journal_place.ensures
    (subst (λ n. PerformsCalls (rising_writes c.journal_place.result n)
    c.write_zeros.result next new) (length-replicate geometry.journal_sectors zero_sector)
    c.write_zeros.ensures.calls))

pub returns-clause-asks : goal.returns-clause-asks
returns-clause-asks g c =
    let long = length-replicate c.args.geometry.now.journal_sectors zero_sector in
    omega (
      arith,
      long,
      c.requires.module_sectors,
      c.write_contents.ensures.asks,
      c.write_run.ensures.counted,
      c.write_zeros.ensures.counted,
    )

pub returns-in_err-write_contents-clause-counts : goal.returns-in_err-write_contents-clause-counts
returns-in_err-write_contents-clause-counts g c =
    let old = g.D.Disk.medium c.args.disk.now in
    let geometry = c.args.geometry.now in
    counts_more (old.unsynced
    + rounded_up (length c.args.config.now + length c.args.wasm.now))
    (old.unsynced + behind_sectors geometry) old (g.D.Disk.medium c.write_contents.new.disk)
    (omega (arith, c.requires.module_sectors)) c.write_contents.ensures.counts

pub returns-in_err-write_run-clause-counts : goal.returns-in_err-write_run-clause-counts
returns-in_err-write_run-clause-counts g c =
    let old = g.D.Disk.medium c.args.disk.now in
    let mid = g.D.Disk.medium c.write_contents.new.disk in
    let next = g.D.Disk.medium c.write_run.new.disk in
    let geometry = c.args.geometry.now in
    let many : ℕ = rounded_up (length c.args.config.now + length c.args.wasm.now) in
    let leaves = c.write_contents.ensures.any_moment in
    let p = leaves.passes in
    let is = c.in_ok-write_contents.ensures.unsynced in
    counts_more (old.unsynced + (many + 2)) (old.unsynced + behind_sectors geometry) old next
    (omega (arith, c.requires.module_sectors))
    (more_then many 2 old mid next (omega (arith, is)) p.later c.write_contents.ensures.counts
    c.write_run.ensures.counts)

pub returns-clause-unsynced : goal.returns-clause-unsynced
returns-clause-unsynced g c =
    let one = c.in_ok-write_contents.ensures.unsynced in
    let two = c.write_run.ensures.unsynced in
    let three = c.write_zeros.ensures.unsynced in
    let many = length-replicate c.args.geometry.now.journal_sectors zero_sector in
    on_ok_weaker c.write_zeros.result
    (λ whole. omega (arith, one, two, three, many, c.requires.module_sectors))
    c.write_zeros.ensures.whole

pub returns-clause-counts : goal.returns-clause-counts
returns-clause-counts g c =
    let old = g.D.Disk.medium c.args.disk.now in
    let mid = g.D.Disk.medium c.write_contents.new.disk in
    let next = g.D.Disk.medium c.write_run.new.disk in
    let new = g.D.Disk.medium c.write_zeros.new.disk in
    let geometry = c.args.geometry.now in
    let many : ℕ = rounded_up (length c.args.config.now + length c.args.wasm.now) in
    let journal : ℕ = length (replicate geometry.journal_sectors zero_sector) in
    let first = c.write_contents.ensures.any_moment in
    let p = first.passes in
    let second = c.write_run.ensures.any_moment in
    let q = second.passes in
    let one = c.in_ok-write_contents.ensures.unsynced in
    let two = c.write_run.ensures.unsynced in
    counts_more (old.unsynced + ((many + 2) + journal)) (old.unsynced + behind_sectors geometry)
    old new
    (omega (
      arith,
      c.requires.module_sectors,
      length-replicate geometry.journal_sectors zero_sector,
    ))
    (more_then (many + 2) journal old next new (omega (arith, one, two))
    (omega (arith, p.later, q.later))
    (more_then many 2 old mid next (omega (arith, one)) p.later c.write_contents.ensures.counts
    c.write_run.ensures.counts)
    c.write_zeros.ensures.counts)
