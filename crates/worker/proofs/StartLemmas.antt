-- Lives that go on from others, and from a copy of the disk that those have left.
use Rattle.std.proofs.Common.{◌≡◌, ℕ, ◌+◌, ◌<◌, ◌≤◌, ◌++◌, List, [], ◌∷◌, length, take, get_or}
use Rattle.std.proofs.Common.{refl, sym, ap, ◌∙◌, subst, append_assoc, length-append, ◌^◌}
use Rattle.std.specs.Prelude.{Option, Some, None, IfSome}
use Rattle.std.proofs.lemmas.List.{append-nil, length-take-le, take_all, take_at, take_more}
use Rattle.wasm_syntax.specs.declared.module.Module.{Module}
use Rattle.wasi_abi.specs.rules.Configs.{Settings}
use Rattle.sector_disk.specs.declared.memory.MemDisk.{MemDisk}
use Rattle.sector_disk.specs.rules.DiskImage.{DiskImage}
use Rattle.sector_disk.specs.rules.Pending.{Leaves}
use Rattle.sector_disk.specs.rules.Memory.{after_cut, memory_medium, memory_state_of, MemoryState}
use Rattle.disk_layout.specs.rules.Places.{geometry_of, total_sectors}
use Rattle.disk_layout.specs.rules.Unsynced.{most_unsynced}
use Rattle.worker_store.specs.restart_theorem.Promises.{Promise, nothing_yet}
use Rattle.worker_store.specs.restart_theorem.Holds.{IsBounded}
use Rattle.worker.specs.declared.story.life.PlannedLife.{PlannedLife}
use Rattle.worker.specs.declared.story.report.LifeReport.{LifeReport}
use Rattle.worker.specs.declared.story.starting.StoryStart.{StoryStart}
use Rattle.worker.specs.rules.StoryDisks.{IsEmptyDiskFor, IsRunOn, TellsLives, copied}
use Rattle.worker.specs.Going.{GoOnBehind, GoneOn, HasSize, HaveStarted, IsKeptOn, LivesOn}
use Rattle.worker.specs.Going.{AddsReports, kept_at}
use Rattle.worker_store.specs.restart_theorem.Successions.{promised_by_all}
use Rattle.worker.proofs.GoingLemmas.{no_life_so_far, one_more_has_gone}

-- ---- a copy of the disk

-- it keeps the same promise
kept_on_copy : (m : Module) (bytes : List ℕ) (config : Settings) (promise : Promise)
    (last copy : MemDisk) → memory_state_of copy ≡ memory_state_of last
    → IsKeptOn m bytes config promise last → IsKeptOn m bytes config promise copy
kept_on_copy m bytes config promise last copy same kept = record {
  keeps = λ image leaves. kept.keeps image (left image leaves);
  within = λ image leaves. subst
      (λ (s : MemoryState). IsBounded promise.events (length s.durable) image) (sym same)
      (kept.within image (left image leaves));
  room = record {
    sectors = subst (λ (s : MemoryState). total_sectors (geometry_of config (length bytes))
        ≡ length s.durable) (sym same) kept.room.sectors;
    writes = subst (λ (s : MemoryState). most_unsynced (geometry_of config (length bytes))
        ≤ s.limit) (sym same) kept.room.writes;
  };
}
  where
    left : (image : DiskImage) → Leaves copy.pending.items copy.durable.items image
        → Leaves last.pending.items last.durable.items image
    left image leaves =
        subst (λ (s : MemoryState). Leaves s.pending s.durable image) same leaves

-- lives that have gone on to a disk have gone on to its copy
copy_has_gone : (bytes : List ℕ) (config : Settings) (planned : List PlannedLife)
    (reports : List LifeReport) (last copy : MemDisk)
    → memory_state_of copy ≡ memory_state_of last → GoneOn bytes config planned reports last
    → GoneOn bytes config planned reports copy
copy_has_gone bytes config planned reports last copy same so_far m accepted =
    let gone = so_far m accepted in
    record {
      lives = gone.lives;
      go_on = gone.go_on;
      told = gone.told;
      first = gone.first;
      empty = gone.empty;
      run = copied gone.run same;
      few = gone.few;
      kept = kept_on_copy m bytes config (promised_by_all nothing_yet gone.lives) last copy same
          gone.kept;
    }

-- ---- lives behind others

-- none yet
pub none_goes_on : (bytes : List ℕ) (config : Settings) (told : List LifeReport) (disk : MemDisk)
    → GoOnBehind bytes config [] disk told disk told
none_goes_on bytes config told disk earlier before gone =
    subst (λ (p : List PlannedLife). GoneOn bytes config p (before ++ told) disk)
    (sym (append-nil earlier)) gone

pub none_told : (told : List LifeReport) → AddsReports [] told told
none_told told = ([], sym (append-nil told), refl)

-- one more
pub one_goes_on : (bytes : List ℕ) (config : Settings) (all : List PlannedLife) (i : ℕ)
    (one : PlannedLife) (told reports reports' : List LifeReport) (report : LifeReport)
    (first found next : MemDisk) → i < length all → one ≡ get_or all i one
    → GoOnBehind bytes config (take i all) first told found reports
    → LivesOn bytes config one found report next → IsRunOn bytes config one report found next
    → reports' ≡ reports ++ report ∷ []
    → GoOnBehind bytes config (take (i + 1) all) first told next reports'
one_goes_on bytes config all i one told reports reports' report first found next within is so_far
    lives run more earlier before gone =
    let whole : take (i + 1) all ≡ take i all ++ one ∷ [] =
    take_more all i one within ∙ ap (λ (p : PlannedLife). take i all ++ p ∷ []) (sym is) in
    let front : (earlier ++ take i all) ++ one ∷ [] ≡ earlier ++ take (i + 1) all =
    append_assoc earlier (take i all) (one ∷ [])
    ∙ ap (λ (p : List PlannedLife). earlier ++ p) (sym whole) in
    let behind : (before ++ reports) ++ report ∷ [] ≡ before ++ reports' =
    append_assoc before reports (report ∷ [])
    ∙ ap (λ (r : List LifeReport). before ++ r) (sym more) in
    subst (λ (p : List PlannedLife). GoneOn bytes config p (before ++ reports') next) front
    (subst (λ (r : List LifeReport). GoneOn bytes config ((earlier ++ take i all) ++ one ∷ []) r
    next) behind
    (one_more_has_gone bytes config (earlier ++ take i all) (before ++ reports) found next one
    report (so_far earlier before gone) lives run))

pub one_told : (all : List PlannedLife) (i : ℕ) (one : PlannedLife)
    (told reports reports' : List LifeReport) (report : LifeReport) → i < length all
    → AddsReports (take i all) told reports → reports' ≡ reports ++ report ∷ []
    → AddsReports (take (i + 1) all) told reports'
one_told all i one told reports reports' report within (so_far, are, counted) more = (
  so_far ++ report ∷ [],
  more ∙ ap (λ (r : List LifeReport). r ++ report ∷ []) are
      ∙ append_assoc told so_far (report ∷ []),
  length-append so_far (report ∷ [])
      ∙ ap (λ (k : ℕ). k + 1) counted
      ∙ sym (length-append (take i all) (get_or all i one ∷ []))
      ∙ sym (ap length (take_more all i one within)),
)

-- all of them
pub all_go_on : (bytes : List ℕ) (config : Settings) (all : List PlannedLife) (i : ℕ)
    (told reports : List LifeReport) (first last : MemDisk) → length all ≤ i
    → GoOnBehind bytes config (take i all) first told last reports
    → GoOnBehind bytes config all first told last reports
all_go_on bytes config all i told reports first last whole so_far =
    subst (λ (p : List PlannedLife). GoOnBehind bytes config p first told last reports)
    (take_all i all whole) so_far

pub all_told : (all : List PlannedLife) (i : ℕ) (told reports : List LifeReport) → length all ≤ i
    → AddsReports (take i all) told reports → AddsReports all told reports
all_told all i told reports whole so_far =
    subst (λ (p : List PlannedLife). AddsReports p told reports) (take_all i all whole) so_far

-- ---- what is told of them

lives_are_told : (bytes : List ℕ) (config : Settings) (planned : List PlannedLife)
    (reports : List LifeReport) (disk : MemDisk) → GoneOn bytes config planned reports disk
    → TellsLives bytes config planned reports
lives_are_told bytes config planned reports disk so_far m accepted =
    let gone = so_far m accepted in
    (gone.lives, gone.go_on, gone.told, gone.few, gone.first, disk, gone.empty, gone.run)

-- behind no others
pub all_are_told : (bytes : List ℕ) (config : Settings) (planned : List PlannedLife)
    (told reports : List LifeReport) (first last : MemDisk) → told ≡ []
    → (length bytes < 2 ^ 32 → IsEmptyDiskFor bytes config first)
    → GoOnBehind bytes config planned first told last reports
    → TellsLives bytes config planned reports
all_are_told bytes config planned told reports first last none made go_on =
    lives_are_told bytes config planned reports last
    (go_on [] [] (no_life_so_far bytes config told first none made))

-- behind those that have led to a start
pub told_from : (bytes : List ℕ) (config : Settings) (planned : List PlannedLife)
    (start : StoryStart) (told reports : List LifeReport) (first last : MemDisk) → told ≡ []
    → memory_state_of first ≡ kept_at start
    → GoOnBehind bytes config planned first told last reports
    → (earlier : List PlannedLife) (before : List LifeReport)
    → HaveStarted bytes config earlier before start
    → TellsLives bytes config (earlier ++ planned) (before ++ reports)
told_from bytes config planned start told reports first last none kept go_on earlier before started
    = lives_are_told bytes config (earlier ++ planned) (before ++ reports) last
    (go_on earlier before (subst (λ (r : List LifeReport). GoneOn bytes config earlier r first)
    (sym (ap (λ (r : List LifeReport). before ++ r) none ∙ append-nil before))
    (started first kept)))

-- ---- a start

-- lives before a place, and those from it on
pub halted_are_told : (bytes : List ℕ) (config : Settings)
    (all earlier later : List PlannedLife) (told mid reports : List LifeReport)
    (first left left' last : MemDisk) → told ≡ [] → left' ≡ left → earlier ++ later ≡ all
    → (length bytes < 2 ^ 32 → IsEmptyDiskFor bytes config first)
    → GoOnBehind bytes config earlier first told left mid
    → GoOnBehind bytes config later left' mid last reports → TellsLives bytes config all reports
halted_are_told bytes config all earlier later told mid reports first left left' last none same
    whole made before after =
    subst (λ (p : List PlannedLife). TellsLives bytes config p reports) whole
    (lives_are_told bytes config (earlier ++ later) reports last (after earlier []
    (subst (λ (d : MemDisk). GoneOn bytes config earlier mid d) (sym same)
    (before [] [] (no_life_so_far bytes config told first none made)))))

-- what is told of the first of them
told_first : (planned : List PlannedLife) (told mid reports more : List LifeReport)
    → told ≡ [] → AddsReports planned told mid → reports ≡ mid ++ more
    → take (length planned) reports ≡ mid
told_first planned told mid reports more none (these, are, counted) behind =
    let same : mid ≡ these = are ∙ ap (λ (r : List LifeReport). r ++ these) none in
    let long : length mid ≡ length planned = ap length same ∙ counted in
    ap (take (length planned)) behind ∙ take_at mid more (length planned) long

pub have_started : (bytes : List ℕ) (config : Settings) (all later : List PlannedLife)
    (place : ℕ) (told mid reports : List LifeReport) (first left : MemDisk)
    (found : Option StoryStart) → place ≤ length all → told ≡ []
    → (length bytes < 2 ^ 32 → IsEmptyDiskFor bytes config first)
    → GoOnBehind bytes config (take place all) first told left mid
    → AddsReports (take place all) told mid → AddsReports later mid reports
    → IfSome found (λ start. memory_state_of left ≡ kept_at start)
    → IfSome found (HaveStarted bytes config (take place all) (take place reports))
have_started bytes config all later place told mid reports first left None within none made before
    these behind kept = tt
have_started bytes config all later place told mid reports first left (Some start) within none made
    before these behind kept =
    let earlier = take place all in
    let front : take place reports ≡ mid =
    ap (λ (n : ℕ). take n reports) (sym (length-take-le place all within))
    ∙ told_first earlier told mid reports behind.0 none these behind.1 in
    λ copy same. subst (λ (r : List LifeReport). GoneOn bytes config earlier r copy) (sym front)
    (copy_has_gone bytes config earlier mid left copy (same ∙ sym kept)
    (before [] [] (no_life_so_far bytes config told first none made)))

-- ---- the disk of a room

pub cut_has_size : (sectors writes : ℕ) (used cut : MemDisk) (tears : List ℕ)
    → HasSize sectors writes used → memory_state_of cut ≡ after_cut (memory_state_of used) tears
    → (memory_medium used).crash_images (after_cut (memory_state_of used) tears).durable
    → HasSize sectors writes cut
cut_has_size sectors writes used cut tears size is was =
    let image : DiskImage = (after_cut (memory_state_of used) tears).durable in
    let is_disk_image = (memory_medium used).is_disk_image image was in
    record {
      sectors_are = ap (λ (s : MemoryState). length s.durable) is ∙ is_disk_image.count
          ∙ size.sectors_are;
      writes_are = ap (λ (s : MemoryState). s.limit) is ∙ size.writes_are;
    }
