-- Worked examples of images, of runs of writes, of what is counted, and of folders.
use Rattle.std.specs.Prelude.{◌≡◌, ◌<◌, ◌≤◌, ◌+◌, ◌-◌, ◌^◌, ◌++◌, ℕ, List, [], ◌∷◌, Option, Some}
use Rattle.std.specs.Prelude.{None, replicate, refl, Bool, true, false, IsTrue, codes}
use Rattle.sector_disk.specs.rules.DiskImage.{DiskImage, sector_at, with_sector, front_over}
use Rattle.sector_disk.specs.rules.DiskImage.{with_front, IsDiskImage, IsTornWithin}
use Rattle.std.proofs.Common.{zero, suc, length, drop, sym, ap, ◌∙◌, arith}
use Rattle.std.proofs.lemmas.List.{drop_all}
use Rattle.sector_disk.specs.rules.Medium.{Medium, BeginsCalls, spare}
use Rattle.sector_disk.specs.rules.Calls.{rising_writes, synced_writes}
use Rattle.sector_disk.specs.rules.Memory.{calls_in}
use Rattle.sector_disk.specs.rules.Run.{IsTornRun, IsWrittenRun}
use Rattle.sector_disk.specs.rules.Pending.{replayed, torn_by}
use Rattle.sector_disk.specs.rules.Answered.{AnsweredCalls, faults_of, unsynced_of, file_calls}
use Rattle.sector_disk.specs.rules.Answered.{is_given_up}
use Rattle.sector_disk.specs.rules.Folder.{folder_of}
use Rattle.sector_disk.specs.rules.Trouble.{counted, call_number, trouble_at, point_numbers}
use Rattle.sector_disk.specs.rules.Trouble.{CallCounts, troubled, LeavesFront}
use Rattle.sector_disk.specs.declared.write.Write.{Write}
use Rattle.sector_disk.specs.declared.disk_call.DiskCall.{DiskCall}
use Rattle.sector_disk.specs.declared.disk_call.DiskCall.TheVariants.{WriteOf, Sync}
use Rattle.sector_disk.specs.declared.fault_point.FaultPoint.{FaultPoint}
use Rattle.sector_disk.specs.declared.trouble.Trouble.TheVariants.{Stops, Stopped, Fails}
use Rattle.sector_disk.specs.declared.file_call.FileCall.TheVariants.{Read, Wrote, Tore, Synced}
use Rattle.sector_disk.specs.declared.file_call.FileCall.TheVariants.{Failed}
use Rattle.sector_disk.specs.declared.file_call.Failure.TheVariants.{OfRead, OfSync, Refused}

-- three sectors of two bytes
abbrev pub three : DiskImage
three = (1 ∷ 1 ∷ []) ∷ (2 ∷ 2 ∷ []) ∷ (3 ∷ 3 ∷ []) ∷ []

-- of these, the middle one and the last with other bytes
abbrev pub with_both : List ℕ → List ℕ → DiskImage
with_both middle last = (1 ∷ 1 ∷ []) ∷ middle ∷ last ∷ []

-- what is written there
abbrev pub eights_and_nines : DiskImage
eights_and_nines = (8 ∷ 8 ∷ []) ∷ (9 ∷ 9 ∷ []) ∷ []

abbrev pub write_of : ℕ → List ℕ → Write
write_of k bytes = record { sector = k; bytes = bytes }

-- two writes to the middle, and one to the last
abbrev pub three_writes : List Write
three_writes = write_of 1 (8 ∷ 8 ∷ []) ∷ write_of 1 (4 ∷ 5 ∷ []) ∷ write_of 2 (9 ∷ 9 ∷ []) ∷ []

pub record DiskImageExamples : Type 0 where
  pub front : front_over 1 (8 ∷ 8 ∷ []) (2 ∷ 2 ∷ []) ≡ 8 ∷ 2 ∷ []
  pub front_there : with_front three 1 1 (8 ∷ 8 ∷ []) ≡ with_both (8 ∷ 2 ∷ []) (3 ∷ 3 ∷ [])
  pub sector_there : with_sector three 2 (9 ∷ []) ≡ with_both (2 ∷ 2 ∷ []) (9 ∷ [])
  pub none_there : with_sector three 3 (9 ∷ []) ≡ three
  pub nothing_there : sector_at three 3 ≡ []
  pub all_whole : replayed three_writes three ≡ with_both (4 ∷ 5 ∷ []) (9 ∷ 9 ∷ [])
  pub each_torn : torn_by (2 ∷ 1 ∷ 0 ∷ []) three_writes three ≡ with_both (4 ∷ 8 ∷ []) (3 ∷ 3 ∷ [])
  pub missing_are_whole : torn_by (0 ∷ []) three_writes three
      ≡ with_both (4 ∷ 5 ∷ []) (9 ∷ 9 ∷ [])
  pub larger_are_whole : torn_by (0 ∷ 600 ∷ 513 ∷ []) three_writes three
      ≡ with_both (4 ∷ 5 ∷ []) (9 ∷ 9 ∷ [])

-- ---- images and runs, and what is none

pub record RunExamples : Type 0 where
  pub image : IsDiskImage 1 (replicate 512 0 ∷ [])
  pub short_sector : IsDiskImage 1 (replicate 511 0 ∷ []) → ⊥
  pub too_few_sectors : IsDiskImage 2 (replicate 512 0 ∷ []) → ⊥
  pub torn_within : IsTornWithin 1 1 (8 ∷ 8 ∷ []) three (with_both (8 ∷ 2 ∷ []) (3 ∷ 3 ∷ []))
  pub torn_beyond : IsTornWithin 1 1 (8 ∷ 8 ∷ []) three (with_both (8 ∷ 8 ∷ []) (3 ∷ 3 ∷ [])) → ⊥
  pub written : IsWrittenRun 1 eights_and_nines 2 three (with_both (8 ∷ 8 ∷ []) (9 ∷ 9 ∷ []))
  pub first_written : IsWrittenRun 1 eights_and_nines 1 three
      (with_both (8 ∷ 8 ∷ []) (3 ∷ 3 ∷ []))
  pub last_not_written : IsWrittenRun 1 eights_and_nines 2 three
      (with_both (8 ∷ 8 ∷ []) (3 ∷ 3 ∷ [])) → ⊥
  pub written_beyond : IsWrittenRun 1 eights_and_nines 1 three
      (with_both (8 ∷ 8 ∷ []) (9 ∷ 9 ∷ [])) → ⊥
  pub written_before : IsWrittenRun 1 eights_and_nines 2 three
      ((7 ∷ 7 ∷ []) ∷ eights_and_nines) → ⊥
  pub written_longer : IsWrittenRun 1 eights_and_nines 2 three
      (with_both (8 ∷ 8 ∷ []) (9 ∷ 9 ∷ []) ++ (4 ∷ []) ∷ []) → ⊥
  pub torn : IsTornRun 1 eights_and_nines 2 three (with_both (8 ∷ 2 ∷ []) (3 ∷ 3 ∷ []))
  pub torn_beside : IsTornRun 1 eights_and_nines 2 three
      (with_both (2 ∷ 8 ∷ []) (3 ∷ 3 ∷ [])) → ⊥
  pub torn_beyond_the_run : IsTornRun 1 eights_and_nines 1 three
      (with_both (8 ∷ 2 ∷ []) (9 ∷ 3 ∷ [])) → ⊥
  pub torn_before : IsTornRun 1 eights_and_nines 2 three
      ((7 ∷ 1 ∷ []) ∷ eights_and_nines) → ⊥
  pub torn_longer : IsTornRun 1 eights_and_nines 2 three (three ++ (4 ∷ []) ∷ []) → ⊥

-- ---- what is counted

-- a good write, a good sync, a read that failed, and two writes, the last of which failed; the
-- newest is the first
abbrev pub five_calls : AnsweredCalls
five_calls = (Tore 1, []) ∷ (Wrote 1, []) ∷ (Failed OfRead, []) ∷ (Synced, []) ∷ (Wrote 0, []) ∷ []

abbrev pub at_third : ℕ → Option FaultPoint
at_third front = Some (record { call = 3; front = front })

pub record CountExamples : Type 0 where
  pub faults : faults_of five_calls ≡ 2
  pub unsynced : unsynced_of five_calls ≡ 2
  pub after_a_read : unsynced_of ((Read 0, []) ∷ five_calls) ≡ 2
  pub after_a_failed_sync : unsynced_of ((Failed OfSync, []) ∷ five_calls) ≡ 2
  pub after_a_sync : unsynced_of ((Synced, []) ∷ five_calls) ≡ 0
  pub one_more : counted 7 ≡ 8
  pub no_more : counted (2 ^ 64 - 1) ≡ 2 ^ 64 - 1
  pub numbered : call_number (record { reads = 1; writes = 2; syncs = 4 }) ≡ 7
  pub before_a_stop : trouble_at (at_third 7) None 2 ≡ None
  pub at_a_stop : trouble_at (at_third 600) (at_third 7) 3 ≡ Some (Stops 512)
  pub after_a_stop : trouble_at (at_third 7) None 4 ≡ Some Stopped
  pub at_a_failure : trouble_at None (at_third 7) 3 ≡ Some (Fails 7)
  pub after_a_failure : trouble_at None (at_third 7) 4 ≡ None
  pub fault_plan : point_numbers (at_third 7) ≡ 1 ∷ 3 ∷ 7 ∷ []
  pub plans_nothing : point_numbers None ≡ 0 ∷ []
  -- a failed read is not for good, and a failed write or sync is
  pub read_on : is_given_up (drop 1 five_calls) ≡ false
  pub given_up_by_a_write : is_given_up five_calls ≡ true
  pub given_up_by_a_sync : is_given_up ((Failed OfSync, []) ∷ drop 1 five_calls) ≡ true
  pub given_up_for_good : is_given_up ((Failed Refused, []) ∷ five_calls) ≡ true

-- ---- what was asked for; the newest call is the first

pub record CallExamples : Type 0 where
  pub rising : rising_writes 7 3 ≡ WriteOf 9 ∷ WriteOf 8 ∷ WriteOf 7 ∷ []
  pub none : rising_writes 7 0 ≡ []
  pub synced : synced_writes 7 2 ≡ Sync ∷ WriteOf 8 ∷ WriteOf 7 ∷ []
  pub of_a_file : file_calls five_calls ≡ WriteOf 1 ∷ WriteOf 1 ∷ Sync ∷ WriteOf 0 ∷ []
  pub without_reads : file_calls ((Read 5, []) ∷ (Wrote 4, []) ∷ []) ≡ WriteOf 4 ∷ []
  pub of_a_memory : calls_in ((Sync, tt) ∷ (WriteOf 4, tt) ∷ []) ≡ Sync ∷ WriteOf 4 ∷ []

-- ---- the folders of paths

pub record FolderExamples : Type 0 where
  pub current : folder_of (codes "x") ≡ codes "."
  pub named_current : folder_of (codes "./x") ≡ codes "."
  pub inside : folder_of (codes "a/x") ≡ codes "a"
  pub root : folder_of (codes "/x") ≡ codes "/"
  pub inside_the_root : folder_of (codes "/a/x") ≡ codes "/a"
  pub two_slashes : folder_of (codes "a//x") ≡ codes "a/"

-- ---- laws of any disk, which no contract can name: they are here with their proofs

pub troubles_are_faults : (below : Medium) (stop fail : Option FaultPoint) (n : ℕ)
    (begun : CallCounts)
    → (troubled below stop fail n begun).faults ≡ below.faults + n
troubles_are_faults below stop fail n begun = refl

pub both_are_planned : (below : Medium) (stop fail : Option FaultPoint) (n : ℕ)
    (begun : CallCounts)
    → (troubled below stop fail n begun).fault_plan
    ≡ point_numbers stop ++ point_numbers fail ++ below.fault_plan
both_are_planned below stop fail n begun = refl

-- a front is taken wherever there is room for one more write
pub front_is_taken : (front k : ℕ) (bytes : List ℕ) (is_taken : Bool) (old new : Medium)
    → LeavesFront front k bytes is_taken old new → k < old.sectors → old.unsynced + 1 ≤ old.room
    → new.faults ≡ old.faults → IsTrue is_taken
front_is_taken front k bytes is_taken old new leaves inside room same =
    leaves.taken inside (let some : 0 < spare old = omega (arith, room) in some) same

-- reads then give just that front over what they gave
pub front_is_exact : (front k : ℕ) (bytes : List ℕ) (is_taken : Bool) (old new : Medium)
    (shown crashed : DiskImage) → LeavesFront front k bytes is_taken old new → IsTrue is_taken
    → new.crash_pairs shown crashed → (was : DiskImage) × old.shows was
    × (shown ≡ with_front was k front bytes)
front_is_exact front k bytes is_taken old new shown crashed leaves taken pair =
    let both = leaves.exactly taken shown crashed pair in
    (both.0, (old.of_pair both.0 both.1 both.2).0, both.3)

-- a disk that is told where to stop or to fail was asked for what the disk below was asked for
pub calls_are_below : (below : Medium) (stop fail : Option FaultPoint) (n : ℕ)
    (begun : CallCounts)
    → (troubled below stop fail n begun).calls ≡ below.calls
calls_are_below below stop fail n begun = refl

-- and it counts its own calls, also those that the disk below isn't asked for
pub its_own_are_counted : (below : Medium) (stop fail : Option FaultPoint)
    (n reads writes syncs : ℕ)
    → reads + writes + syncs < 2 ^ 64
    → (troubled below stop fail n
    (record { reads = reads; writes = writes; syncs = syncs })).counted
    ≡ reads + writes + syncs
its_own_are_counted below stop fail n reads writes syncs few = omega arith

-- of two writes and a sync the first write alone may be made, but not the second alone
pub oldest_is_begun : (old new : Medium) → new.calls ≡ WriteOf 7 ∷ old.calls
    → BeginsCalls (synced_writes 7 2) old new
oldest_is_begun old new made = (2, made)

pub newer_is_not_begun : (old new : Medium) → new.calls ≡ WriteOf 8 ∷ old.calls
    → BeginsCalls (synced_writes 7 2) old new → ⊥
newer_is_not_begun old new made begun = none begun.0 (sym made ∙ begun.1)
  where
    first_sector : List DiskCall → ℕ
    first_sector [] = 0
    first_sector (WriteOf k ∷ calls) = k
    first_sector (Sync ∷ calls) = 0

    none : (n : ℕ) → WriteOf 8 ∷ old.calls ≡ drop n (synced_writes 7 2) ++ old.calls → ⊥
    none zero e =
        let l : suc (length old.calls) ≡ suc (suc (suc (length old.calls))) = ap length e in
        omega (arith, l)
    none (suc zero) e =
        let l : suc (length old.calls) ≡ suc (suc (length old.calls)) = ap length e in
        omega (arith, l)
    none (suc (suc zero)) e = let k : 8 ≡ 7 = ap first_sector e in omega (arith, k)
    none (suc (suc (suc n))) e =
        let l = ap length e in
        let rest = ap (λ (x : List DiskCall). length (x ++ old.calls))
        (drop_all n [] (omega arith)) in
        let m : suc (length old.calls) ≡ length old.calls = l ∙ rest in
        omega (arith, m)
