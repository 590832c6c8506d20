-- What disk images stand for.
use Rattle.std.proofs.Common.{◌≡◌, ℕ, zero, suc, ◌+◌, ◌%◌, ◌^◌, ◌<◌, ◌≤◌, Bool, false, List}
use Rattle.std.proofs.Common.{[], ◌++◌, Some, Result, Ok, if◌then◌else◌, refl, sym, ap, ◌∙◌}
use Rattle.std.proofs.Common.{subst, arith, lit≤, get_or}
use Rattle.std.specs.Prelude.{map, length, take}
use Rattle.std.proofs.lemmas.Bool.{eq-eqb}
use Rattle.sha2.specs.Sha256.{sha256}
use Rattle.sha2.proofs.Facts256.{length-sha256}
use Rattle.wasi_abi.specs.rules.Layouts.{padding}
use Rattle.wasm_syntax.specs.declared.module.Module.{Module}
use Rattle.wasi_abi.specs.rules.Configs.{Settings}
use Rattle.wasi_abi.specs.rules.Versions.{version_number}
use Rattle.process_rules.specs.Runs.{Kept, Runs}
use Rattle.process_rules.proofs.Growing.{move_counts, runs_count, start_counts}
use Rattle.process_rules.proofs.ReachedStates.{reached_versions}
use Rattle.process_rules.proofs.Quiet.{runs_join}
use Rattle.state_image.specs.rules.ProcessImage.{process_image}
use Rattle.sector_disk.specs.rules.DiskImage.{DiskImage, sector_at}
use Rattle.disk_layout.specs.rules.Places.{Geometry, geometry_of, config_bytes, head_place}
use Rattle.disk_layout.specs.rules.Places.{journal_place, total_sectors}
use Rattle.disk_layout.specs.declared.superblock.TheConstants.{SUPER_END_MARK}
use Rattle.disk_layout.specs.rules.Sectors.{IsMarked, super_bytes, stamp_of, shown_generation}
use Rattle.disk_layout.specs.rules.Sectors.{HoldsProcessImage}
use Rattle.disk_layout.specs.rules.Journal.{is_of}
use Rattle.journal.specs.rules.Steps.{JournalHolds}
use Rattle.journal.proofs.HeldLemmas.{holds_one_list, holds_none_of_later}
use Rattle.worker_store.proofs.LawLemmas.Sectors.{none_after_of}
use Rattle.disk_layout.specs.declared.fault.LayoutFault.{LayoutFault}
use Rattle.disk_layout.specs.declared.reading.contents.Contents.{Contents}
use Rattle.disk_layout.specs.rules.Held.{GivesContents}
use Rattle.disk_layout.proofs.FieldLemmas.{drop_over}
use Rattle.disk_layout.proofs.ReadingLemmas.HeldLemmas.{one_answer}
use Rattle.disk_layout.proofs.ReadingLemmas.WrittenLemmas.{reads_what_is_written}
use Rattle.disk_layout.proofs.JournalLemmas.{is_of_other}
use Rattle.record_replay.specs.rules.Records.{none as no_record, more, given_in}
use Rattle.record_replay.proofs.Recordings.{recorded_runs}
use Rattle.worker_store.specs.restart_theorem.Stands.{ShowsNoneLater, StandsFor}
use Rattle.worker_store.specs.restart_theorem.laws.Disks.{StandsForWhatIsReached, RecordsAscend}
use Rattle.worker_store.specs.restart_theorem.laws.Disks.{StandsByItsParts, BlankStandsForNone}
use Rattle.worker_store.specs.restart_theorem.laws.Disks.{NoLaterProcessImage, NoLaterSector}
use Rattle.worker_store.specs.restart_theorem.laws.Disks.{NoLaterRecord, OneGeneration, tiny}
use Rattle.worker_store.specs.restart_theorem.laws.Disks.{tiny_disk, DiskExamples, OneSpelledWorker}
use Rattle.worker_store.specs.restart_theorem.laws.Disks.{StandsWithin, BlankIsWithin}
use Rattle.worker_store.specs.restart_theorem.laws.Disks.{HeadsTellWidenings}
use Rattle.worker_store.specs.restart_theorem.laws.Copies.{StandsByItsContents}

-- ---- what is reached

pub what_stands_is_reached : StandsForWhatIsReached
what_stands_is_reached disk m config kept n stands =
    let on = recorded_runs stands.reached.guest stands.process stands.last stands.records
    stands.recorded in
    let runs : Runs stands.reached.guest stands.reached.start
    (stands.front ++ map given_in stands.records) (stands.steps + on.steps) stands.last =
    runs_join stands.reached.guest stands.reached.start stands.process stands.last stands.front
    (map given_in stands.records) stands.steps on.steps stands.reached.runs on.runs in
    let counted : stands.last.steps ≡ stands.reached.start.steps + (stands.steps + on.steps) =
    runs_count stands.reached.guest stands.reached.start stands.last _ _ runs in
    let from_none : stands.reached.start.steps ≡ 0 =
    start_counts m config stands.reached.guest stands.reached.start stands.reached.begins in
    let at : n ≡ stands.last.steps = stands.at_step in
    let steps : n ≡ stands.steps + on.steps = omega (arith, counted, from_none, at) in (
      stands.last,
      record {
        guest = stands.reached.guest;
        start = stands.reached.start;
        begins = stands.reached.begins;
        runs = rw (stands.rest, steps) runs;
      },
    )

pub records_ascend : RecordsAscend
records_ascend guest p q records (no_record {p = p'}) = omega arith
records_ascend guest p q records (more {p = p'} {q = before} {r = after} {s = last} {a = a} {n =
    n} {records = rest} first moves recorded) =
    let counted : before.steps ≡ p'.steps + n = runs_count guest p' before [] n first in
    let taken : after.steps ≡ before.steps + 1 = move_counts guest before after (Some a) moves in
    (omega (arith, counted, taken), records_ascend guest after last rest recorded)

pub heads_tell_widenings : HeadsTellWidenings
heads_tell_widenings disk m config kept n stands =
    let shown = stands.shown in
    shown.version ∙ reached_versions m config stands.front stands.steps stands.process
    stands.reached

pub stands_by_its_parts : StandsByItsParts
stands_by_its_parts disk m config kept n stands =
    let version = heads_tell_widenings disk m config kept n stands in
    let accepted = stands.accepted in
    let limits = accepted.limits in
    let settings = stands.settings in
    let range = settings.in_range in
    let numbers = stands.numbers in
    record {
      spelled = accepted.spelled;
      size = limits.size;
      pages = range.pages;
      worker = stands.worker;
      held_image = subst (λ v. HoldsProcessImage (geometry_of config (length stands.wasm)) disk
          stands.generation (version_number v) (process_image stands.saved)) version stands.holds;
      records = subst (λ v. JournalHolds (geometry_of config (length stands.wasm)) v
          stands.generation stands.records disk) version stands.in_journal;
      kept_answers = stands.rest;
      steps = subst (λ k. k < 2 ^ 63) (sym stands.at_step) numbers.steps;
    }

-- ---- marks and generations

marks_there : (geometry : Geometry) (digest : List ℕ) → length digest ≡ 32
    → IsMarked (super_bytes geometry digest)
marks_there geometry digest size =
    record {
      first = refl;
      last = ap (λ l. take 8 l)
          (drop_over digest (padding 440 ++ SUPER_END_MARK) 32 440 size);
    }

pub blank_stands_for_none : BlankStandsForNone
blank_stands_for_none disk m config kept n blank stands =
    let digest : List ℕ = sha256 (config_bytes config ++ stands.wasm) in
    blank (subst IsMarked (sym stands.worker.super)
    (marks_there (geometry_of config (length stands.wasm)) digest
    (length-sha256 (config_bytes config ++ stands.wasm))))

shown_where : (place : ℕ) (sector : List ℕ) → (stamp_of sector).place ≡ place
    → shown_generation place sector ≡ (stamp_of sector).generation
shown_where place sector e = ap (λ (b : Bool). if b then (stamp_of sector).generation else 0)
    (eq-eqb (stamp_of sector).place place e)

head_below : (geometry : Geometry) (disk : DiskImage) (g x : ℕ) → x < 2
    → ShowsNoneLater geometry disk g → shown_generation 1 (sector_at disk (1 + x)) ≤ g
head_below geometry disk g zero h shows = shows.first_head
head_below geometry disk g (suc zero) h shows = shows.second_head
head_below geometry disk g (suc (suc x)) h shows = absurd (too_large x h)
  where
    too_large : (x : ℕ) → suc (suc x) < 2 → ⊥
    too_large x h = omega (arith, h)

pub no_later_process_image : NoLaterProcessImage
no_later_process_image geometry shape disk g h version bytes shows holds =
    let below = head_below geometry disk g (h % 2) (omega arith) shows in
    let sector : List ℕ = sector_at disk (head_place h) in
    let same : h ≡ (stamp_of sector).generation = ap (λ z. z.generation) holds.newest.is in
    rw (same ∙ sym (shown_where 1 sector holds.newest.complete.place)) below

pub one_generation : OneGeneration
one_generation disk m other config settings kept others n k left right =
    let up = no_later_process_image _ _ disk right.generation left.generation _ _ right.none_later
    left.holds in
    let down = no_later_process_image _ _ disk left.generation right.generation _ _ left.none_later
    right.holds in
    omega (arith, up, down)

-- the contents that a worker's disk gives
abbrev contents_of : Settings → List ℕ → Contents
contents_of config wasm = record {
  geometry = geometry_of config (length wasm);
  config = config;
  wasm = wasm;
}

-- so they are read on any disk that has room
gives_contents : (disk : DiskImage) (m : Module) (config : Settings) (kept : List Kept)
    (n sectors : ℕ) (stands : StandsFor disk m config kept n)
    → total_sectors (geometry_of config (length stands.wasm)) ≤ sectors
    → GivesContents sectors disk (Ok (contents_of config stands.wasm))
gives_contents disk m config kept n sectors stands room =
    let size : length stands.wasm ≤ 2097152 = stands.accepted.limits.size in
    let long : length stands.wasm < 2 ^ 32 = omega (arith, size) in
    reads_what_is_written sectors disk config stands.wasm stands.settings long stands.worker room

same_contents : (a b : Contents) (one other : Result Contents LayoutFault) → one ≡ Ok a
    → other ≡ Ok b → one ≡ other → a ≡ b
same_contents a b one other x y e = cc

pub one_spelled_worker : OneSpelledWorker
one_spelled_worker disk m other config settings kept others n k left right =
    let x : ℕ = total_sectors (geometry_of config (length left.wasm)) in
    let y : ℕ = total_sectors (geometry_of settings (length right.wasm)) in
    let same = same_contents (contents_of config left.wasm) (contents_of settings right.wasm)
    (Ok (contents_of config left.wasm)) (Ok (contents_of settings right.wasm)) refl refl
    (one_answer (x + y) disk (Ok (contents_of config left.wasm))
    (Ok (contents_of settings right.wasm)) tt tt
    (gives_contents disk m config kept n (x + y) left (omega arith))
    (gives_contents disk other settings others k (x + y) right (omega arith))) in
    (ap (λ (c : Contents). c.config) same, ap (λ (c : Contents). c.wasm) same)

pub stands_by_its_contents : StandsByItsContents
stands_by_its_contents disk m config kept n c stands held =
    let x : ℕ = total_sectors c.geometry in
    let y : ℕ = total_sectors (geometry_of config (length stands.wasm)) in
    let found : Contents = contents_of config stands.wasm in
    let same = same_contents c found (Ok c) (Ok found) refl refl
    (one_answer (x + y) disk (Ok c) (Ok found) tt tt (held, omega arith)
    (gives_contents disk m config kept n (x + y) stands (omega arith))) in (
      ap (λ (d : Contents). d.config) same,
      ap (λ (d : Contents). d.wasm) same,
      ap (λ (d : Contents). d.geometry) same,
    )

pub stands_within : StandsWithin
stands_within disk m config kept n latest sectors stands early room other settings others k
    again =
    let one = one_generation disk m other config settings kept others n k stands again in
    let spelled = one_spelled_worker disk m other config settings kept others n k stands again in
    (rw one at early, rw (spelled.0, spelled.1) at room)

pub blank_is_within : BlankIsWithin
blank_is_within disk latest sectors blank m config kept n stands =
    absurd (blank_stands_for_none disk m config kept n blank stands)

not_of : (h place : ℕ) (sector : List ℕ) → shown_generation place sector < h
    → is_of h place sector ≡ false
not_of h place sector below = is_of_other h place sector
    (λ e. earlier (shown_generation place sector) h below e)
  where
    earlier : (n h : ℕ) → n < h → n ≡ h → ⊥
    earlier n h below e = omega (arith, below, e)

pub no_later_sector : NoLaterSector
no_later_sector geometry disk g h k shows later within =
    let below = shows.journal k within in
    not_of h (k + 1) (sector_at disk (journal_place geometry + k)) (omega (arith, below, later))

pub no_later_record : NoLaterRecord
no_later_record geometry v disk g h records shows later holds =
    holds_one_list geometry v h records [] disk holds
    (holds_none_of_later geometry v h disk (λ k within.
    let below = none_after_of geometry disk g shows k within in omega (arith, below, later)))

-- ---- examples

pub disk_examples : DiskExamples
disk_examples = record {
  longest_payload = refl;
  none_later = record { first_head = lit≤ tt; second_head = lit≤ tt; journal = only_first };
  first_head_later = λ shows. (let h : 4 ≤ 3 = shows.first_head in omega (arith, h));
  second_head_later = λ shows. (let h : 5 ≤ 3 = shows.second_head in omega (arith, h));
  journal_later = λ shows. (let h : 4 ≤ 3 = shows.journal 0 (omega arith) in omega (arith, h));
  no_sectors = λ marks. differ 0 68 (ap (λ l. get_or l 0 0) marks.first) (omega arith);
  zeros = λ marks. differ 0 68 (ap (λ l. get_or l 0 0) marks.first) (omega arith);
  torn = λ marks. differ 0 33 (ap (λ l. get_or l 0 0) marks.last) (omega arith);
  marked = λ blank. blank (record { first = refl; last = refl });
}
  where
    differ : (a b : ℕ) → a ≡ b → a + 1 ≤ b → ⊥
    differ a b e h = omega (arith, e, h)

    only_first : (k : ℕ) → k < 1 → shown_generation (k + 1)
        (sector_at (tiny_disk 2 3 3) (journal_place tiny + k)) ≤ 3
    only_first zero h = lit≤ tt
    only_first (suc k) h = absurd (none_left k h)
      where
        none_left : (k : ℕ) → suc k < 1 → ⊥
        none_left k h = omega (arith, h)
