use Rattle.std.proofs.Common.{◌≡◌, ◌∙◌, ◌-◌, [], ◌∷◌, ◌++◌, ℕ, List, sym, ap, subst, take}
use Rattle.std.proofs.Common.{arith, rules}
use Rattle.std.proofs.lemmas.Result.{on_ok_weaker}
use Rattle.sector_disk.specs.rules.Calls.{rising_writes}
use Rattle.sector_disk.specs.rules.Copying.{copying_writes, sector_of_zeros}
use Rattle.sector_disk.specs.rules.DiskImage.{DiskImage, sector_at}
use Rattle.sector_disk.specs.rules.Medium.{BeginsCalls, PerformsCalls}
use Rattle.sector_disk.specs.declared.disk_call.DiskCall.{DiskCall}
use Rattle.sector_disk.specs.declared.disk_call.DiskCall.TheVariants.{WriteOf, Sync}
use Rattle.sector_disk.proofs.Moments.{leaves_synced, leaves_weaker, stays_shows}
use Rattle.sector_disk.proofs.CallLemmas.{no_calls, begun_first, begun_then, performed_then}
use Rattle.sector_disk.proofs.CopyLemmas.{image_shown, sectors_same, leaves_then, left_before}
use Rattle.sector_disk.proofs.CopyLemmas.{left_then, rest_there, whole_there, zero_there}
use Rattle.sector_disk.proofs.copying.copy_disk.Goals as goal

pub returns-then-sectors-eq0-clause-calls : goal.returns-then-sectors-eq0-clause-calls
returns-then-sectors-eq0-clause-calls g c =
    record { all = search rules; begun = no_calls _ (g.C.Disk.medium c.args.copy.now) }

pub returns-in_err-copy_run-clause-any_moment : goal.returns-in_err-copy_run-clause-any_moment
returns-in_err-copy_run-clause-any_moment g c = λ shown shows zero_first.
    let old = g.C.Disk.medium c.args.copy.now in
    let original = g.O.Disk.medium c.copy_run.new.original in
    let run = c.copy_run.ensures in
    let is = image_shown original shown shows in
    let same = run.only_read.leaves.passes in
    let s = same.sectors in
    let long = is.count in
    leaves_weaker old (g.C.Disk.medium c.copy_run.new.copy) _ _ (run.any_moment shown shows)
    (left_before c.sectors-sectors.result shown old (omega arith) (sym c.sectors-sectors.ensures)
    (omega arith) (is.full 0 (omega arith)) zero_first)

pub returns-in_err-copy_run-clause-calls : goal.returns-in_err-copy_run-clause-calls
returns-in_err-copy_run-clause-calls g c =
    let old = g.C.Disk.medium c.args.copy.now in
    let made = c.copy_run.ensures.calls in
    let count = c.sectors-sectors.result in
    record {
      all = search rules;
      begun = subst (λ (n : ℕ). BeginsCalls (copying_writes n) old
          (g.C.Disk.medium c.copy_run.new.copy)) c.sectors-sectors.ensures
          (begun_first (rising_writes 1 (count - 1)) (Sync ∷ WriteOf 0 ∷ Sync ∷ []) old
          (g.C.Disk.medium c.copy_run.new.copy) made.begun);
    }

pub returns-in_err-sync_copy-clause-any_moment : goal.returns-in_err-sync_copy-clause-any_moment
returns-in_err-sync_copy-clause-any_moment g c = λ shown shows zero_first.
    let old = g.C.Disk.medium c.args.copy.now in
    let mid = g.C.Disk.medium c.copy_run.new.copy in
    let new = g.C.Disk.medium c.sync_copy.new.copy in
    let original = g.O.Disk.medium c.copy_run.new.original in
    let run = c.copy_run.ensures in
    let sync = c.sync_copy.ensures in
    let is = image_shown original shown shows in
    let same = run.only_read.leaves.passes in
    let s = same.sectors in
    let long = is.count in
    leaves_synced old mid new _ (leaves_weaker old mid _ _ (run.any_moment shown shows)
    (left_before c.sectors-sectors.result shown old (omega arith) (sym c.sectors-sectors.ensures)
    (omega arith) (is.full 0 (omega arith)) zero_first)) sync.stays sync.passes

pub returns-in_err-sync_copy-clause-calls : goal.returns-in_err-sync_copy-clause-calls
returns-in_err-sync_copy-clause-calls g c =
    let old = g.C.Disk.medium c.args.copy.now in
    let mid = g.C.Disk.medium c.copy_run.new.copy in
    let new = g.C.Disk.medium c.sync_copy.new.copy in
    let made = c.in_ok-copy_run.ensures.calls in
    let sync = c.sync_copy.ensures.calls in
    let count = c.sectors-sectors.result in
    record {
      all = search rules;
      begun = subst (λ (n : ℕ). BeginsCalls (copying_writes n) old new) c.sectors-sectors.ensures
          (begun_first (Sync ∷ rising_writes 1 (count - 1)) (Sync ∷ WriteOf 0 ∷ []) old new
          (begun_then (rising_writes 1 (count - 1)) (Sync ∷ []) old mid new made.all sync.begun));
    }

pub returns-in_err-copy_run-2-clause-any_moment : goal.returns-in_err-copy_run-2-clause-any_moment
returns-in_err-copy_run-2-clause-any_moment g c = λ shown shows zero_first.
    let old = g.C.Disk.medium c.args.copy.now in
    let first = g.C.Disk.medium c.copy_run.new.copy in
    let mid = g.C.Disk.medium c.sync_copy.new.copy in
    let new = g.C.Disk.medium c.copy_run-2.new.copy in
    let source = g.O.Disk.medium c.copy_run.new.original in
    let original = g.O.Disk.medium c.copy_run-2.new.original in
    let run = c.in_ok-copy_run.ensures in
    let sync = c.in_ok-sync_copy.ensures in
    let last = c.copy_run-2.ensures in
    let was = stays_shows source original last.only_read.stays shown shows in
    let is = image_shown source shown was in
    let same = run.only_read.leaves.passes in
    let s = same.sectors in
    let long = is.count in
    let count = c.sectors-sectors.result in
    let is_count = sym c.sectors-sectors.ensures in
    let full = is.full 0 (omega arith) in
    let whole = run.whole shown was in
    let rest = rest_there count shown old (omega arith) is_count first whole mid sync.stays
    sync.all_synced in
    let zero : (image : DiskImage) → mid.crash_images image → sector_at image 0 ≡ sector_of_zeros =
    λ image crashed. zero_there count shown old (omega arith) is_count first whole mid
    sync.stays sync.all_synced image crashed zero_first in
    leaves_then old mid new _ (leaves_synced old first mid _ (leaves_weaker old first _ _
    (run.any_moment shown was) (left_before count shown old (omega arith) is_count (omega arith)
    full zero_first)) sync.stays sync.passes)
    (leaves_weaker mid new _ _ (last.any_moment shown shows) (left_then count shown old
    (omega arith) is_count (omega arith) full mid rest zero))

pub returns-in_err-copy_run-2-clause-calls : goal.returns-in_err-copy_run-2-clause-calls
returns-in_err-copy_run-2-clause-calls g c =
    let old = g.C.Disk.medium c.args.copy.now in
    let first = g.C.Disk.medium c.copy_run.new.copy in
    let mid = g.C.Disk.medium c.sync_copy.new.copy in
    let new = g.C.Disk.medium c.copy_run-2.new.copy in
    let made = c.in_ok-copy_run.ensures.calls in
    let sync = c.in_ok-sync_copy.ensures.calls in
    let last = c.copy_run-2.ensures.calls in
    let count = c.sectors-sectors.result in
    let synced : mid.calls ≡ (Sync ∷ rising_writes 1 (count - 1)) ++ old.calls =
    sync.all ∙ ap (λ (l : List DiskCall). Sync ∷ l) made.all in
    record {
      all = search rules;
      begun = subst (λ (n : ℕ). BeginsCalls (copying_writes n) old new) c.sectors-sectors.ensures
          (begun_first (WriteOf 0 ∷ Sync ∷ rising_writes 1 (count - 1)) (Sync ∷ []) old new
          (begun_then (Sync ∷ rising_writes 1 (count - 1)) (WriteOf 0 ∷ []) old mid new synced
          last.begun));
    }

pub returns-clause-copied : goal.returns-clause-copied
returns-clause-copied g c =
    let old = g.C.Disk.medium c.args.copy.now in
    let first = g.C.Disk.medium c.copy_run.new.copy in
    let mid = g.C.Disk.medium c.sync_copy.new.copy in
    let new = g.C.Disk.medium c.copy_run-2.new.copy in
    let end = g.C.Disk.medium c.sync_copy-2.new.copy in
    let source = g.O.Disk.medium c.copy_run.new.original in
    let original = g.O.Disk.medium c.copy_run-2.new.original in
    let run = c.in_ok-copy_run.ensures in
    let sync = c.in_ok-sync_copy.ensures in
    let last = c.in_ok-copy_run-2.ensures in
    let count = c.sectors-sectors.result in
    let is_count = sym c.sectors-sectors.ensures in
    let ending = c.sync_copy-2.ensures in
    let same_end : end.sectors ≡ old.sectors = sectors_same old first mid new end _ _ _ _
    run.passes sync.passes last.passes ending.passes in
    let same = run.only_read.leaves.passes in
    let s = same.sectors in
    on_ok_weaker c.sync_copy-2.result (λ synced shown image shows crashed.
    let was = stays_shows source original last.only_read.stays shown shows in
    let is = image_shown source shown was in
    let long = is.count in
    let full = is.full 0 (omega arith) in
    let rest = rest_there count shown old (omega arith) is_count first (run.whole shown was) mid
    sync.stays sync.all_synced in
    whole_there count shown old (omega arith) is_count (omega arith) full mid rest new
    (last.whole shown shows) end ending.stays synced image crashed
    ∙ ap (λ n. take n shown) (c.sectors-sectors.ensures ∙ sym same_end)) ending.all_synced

pub returns-clause-any_moment : goal.returns-clause-any_moment
returns-clause-any_moment g c = λ shown shows zero_first.
    let old = g.C.Disk.medium c.args.copy.now in
    let first = g.C.Disk.medium c.copy_run.new.copy in
    let mid = g.C.Disk.medium c.sync_copy.new.copy in
    let new = g.C.Disk.medium c.copy_run-2.new.copy in
    let end = g.C.Disk.medium c.sync_copy-2.new.copy in
    let source = g.O.Disk.medium c.copy_run.new.original in
    let original = g.O.Disk.medium c.copy_run-2.new.original in
    let run = c.in_ok-copy_run.ensures in
    let sync = c.in_ok-sync_copy.ensures in
    let last = c.copy_run-2.ensures in
    let ending = c.sync_copy-2.ensures in
    let was = stays_shows source original last.only_read.stays shown shows in
    let is = image_shown source shown was in
    let same = run.only_read.leaves.passes in
    let s = same.sectors in
    let long = is.count in
    let count = c.sectors-sectors.result in
    let is_count = sym c.sectors-sectors.ensures in
    let full = is.full 0 (omega arith) in
    let whole = run.whole shown was in
    let rest = rest_there count shown old (omega arith) is_count first whole mid sync.stays
    sync.all_synced in
    let zero : (image : DiskImage) → mid.crash_images image → sector_at image 0 ≡ sector_of_zeros =
    λ image crashed. zero_there count shown old (omega arith) is_count first whole mid
    sync.stays sync.all_synced image crashed zero_first in
    leaves_synced old new end _ (leaves_then old mid new _ (leaves_synced old first mid _
    (leaves_weaker old first _ _ (run.any_moment shown was) (left_before count shown old
    (omega arith) is_count (omega arith) full zero_first)) sync.stays sync.passes)
    (leaves_weaker mid new _ _ (last.any_moment shown shows) (left_then count shown old
    (omega arith) is_count (omega arith) full mid rest zero))) ending.stays ending.passes

pub returns-clause-calls : goal.returns-clause-calls
returns-clause-calls g c =
    let old = g.C.Disk.medium c.args.copy.now in
    let mid = g.C.Disk.medium c.sync_copy.new.copy in
    let new = g.C.Disk.medium c.copy_run-2.new.copy in
    let end = g.C.Disk.medium c.sync_copy-2.new.copy in
    let made = c.in_ok-copy_run.ensures.calls in
    let sync = c.in_ok-sync_copy.ensures.calls in
    let last = c.in_ok-copy_run-2.ensures.calls in
    let count = c.sectors-sectors.result in
    let all : new.calls ≡ (WriteOf 0 ∷ Sync ∷ rising_writes 1 (count - 1)) ++ old.calls =
    last.all ∙ ap (λ (l : List DiskCall). WriteOf 0 ∷ l) (sync.all
    ∙ ap (λ (l : List DiskCall). Sync ∷ l) made.all) in
    subst (λ (n : ℕ). PerformsCalls (copying_writes n) c.sync_copy-2.result old end)
    c.sectors-sectors.ensures
    (performed_then (WriteOf 0 ∷ Sync ∷ rising_writes 1 (count - 1)) (Sync ∷ [])
    c.sync_copy-2.result old new end all c.sync_copy-2.ensures.calls)
