-- Images that begin with the same sectors.
use Rattle.std.proofs.Common.{◌≡◌, ℕ, ◌+◌, ◌<◌, ◌≤◌, List, [], length, take, sym, ap, ◌∙◌}
use Rattle.std.proofs.Common.{subst, inr, arith}
use Rattle.std.proofs.lemmas.List.{get_or-take}
use Rattle.wasm_syntax.specs.declared.module.Module.{Module}
use Rattle.wasi_abi.specs.rules.Configs.{Settings}
use Rattle.wasi_abi.specs.rules.Versions.{version_number}
use Rattle.process_rules.specs.Runs.{Kept}
use Rattle.state_image.specs.rules.ProcessImage.{Saved, process_image}
use Rattle.sector_disk.specs.rules.DiskImage.{DiskImage, sector_at}
use Rattle.sector_disk.specs.rules.File.{file_medium}
use Rattle.disk_layout.specs.rules.Places.{Geometry, geometry_of, journal_place, total_sectors}
use Rattle.disk_layout.specs.rules.Sectors.{shown_generation}
use Rattle.journal.specs.rules.Steps.{ShowsNoneAfter}
use Rattle.journal.proofs.HeldLemmas.{holds_still}
use Rattle.worker_store.specs.restart_theorem.Stands.{ShowsNoneLater, StandsFor}
use Rattle.worker_store.specs.restart_theorem.laws.Copies.{BeginAlike, FirstSectorsDecide}
use Rattle.worker_store.specs.restart_theorem.laws.Copies.{LivesOnCopiesGoOn, TheSameIsHeld}
use Rattle.worker_store.specs.restart_theorem.laws.Copies.{TheSameIsWithin}
use Rattle.worker_store.specs.rules.Savepoints.{IsAtSavepoint}
use Rattle.worker_store.specs.laws.Savepoints.{StandsBySaved, point_of}
use Rattle.worker_store.proofs.LawLemmas.Points.{by_point}
use Rattle.worker_store.proofs.LawLemmas.Sectors.{SameSector, contents_below, head_stays}
use Rattle.worker_store.proofs.LawLemmas.Sectors.{none_after_of, none_later_of}
use Rattle.worker_store.proofs.LawLemmas.Sectors.{process_image_below, some_below, worker_stays}
use Rattle.worker_store.proofs.RestartLemmas.Disks.{one_spelled_worker}
use Rattle.worker_store.proofs.RestartLemmas.FileLives.{promised_lives_on_files}

-- ---- sectors

same_at : (sectors : ℕ) (disk copy : DiskImage) → BeginAlike sectors disk copy → (k : ℕ)
    → k < sectors → SameSector disk copy k
same_at sectors disk copy alike k within =
    sym (get_or-take sectors copy k [] within)
    ∙ ap (λ (image : DiskImage). sector_at image k) alike
    ∙ get_or-take sectors disk k [] within

-- all that a worker has is among its sectors
below_journal : (g : Geometry) (k : ℕ) → k < journal_place g → k < total_sectors g
below_journal g k below = omega (arith, below)

in_journal : (g : Geometry) (k : ℕ) → k < g.journal_sectors → journal_place g + k < total_sectors g
in_journal g k within = omega (arith, within)

module _ (geometry : Geometry) (disk copy : DiskImage)
    (alike : BeginAlike (total_sectors geometry) disk copy) where
  same_below : (k : ℕ) → k < journal_place geometry → SameSector disk copy k
  same_below k below =
      same_at (total_sectors geometry) disk copy alike k (below_journal geometry k below)

  same_journal : (k : ℕ) → k < geometry.journal_sectors
      → SameSector disk copy (journal_place geometry + k)
  same_journal k within =
      same_at (total_sectors geometry) disk copy alike (journal_place geometry + k)
      (in_journal geometry k within)

  none_later_stays : (g : ℕ) → ShowsNoneLater geometry disk g → ShowsNoneLater geometry copy g
  none_later_stays g shows =
      let after : ShowsNoneAfter geometry g disk = none_after_of geometry disk g shows in
      none_later_of geometry copy g
      (head_stays disk copy g 1 (same_below 1 (some_below geometry 1 (omega arith)))
      shows.first_head)
      (head_stays disk copy g 2 (same_below 2 (some_below geometry 2 (omega arith)))
      shows.second_head)
      (λ k within. subst (λ (s : List ℕ). shown_generation (1 + k) s ≤ g)
      (sym (same_journal k within)) (after k within))

-- ---- what they stand for

stays_at_point : (disk copy : DiskImage) (m : Module) (config : Settings) (kept : List Kept)
    (n : ℕ) (stands : StandsFor disk m config kept n)
    → BeginAlike (total_sectors (geometry_of config (length stands.wasm))) disk copy
    → IsAtSavepoint (point_of stands) stands.records stands.last copy
stays_at_point disk copy m config kept n stands alike =
    let g : Geometry = geometry_of config (length stands.wasm) in
    record {
      worker = worker_stays config stands.wasm disk copy
          (same_below g disk copy alike 0 (some_below g 0 (omega arith)))
          (λ k from below. same_below g disk copy alike k (contents_below g k below))
          stands.worker;
      holds = process_image_below g disk copy stands.generation
          (version_number stands.saved.version) (process_image stands.saved)
          (same_below g disk copy alike) stands.holds;
      in_journal = holds_still g stands.saved.version stands.generation stands.records disk copy
          (same_journal g disk copy alike) stands.in_journal;
      recorded = stands.recorded;
      numbers = stands.numbers;
      none_later = none_later_stays g disk copy alike stands.generation stands.none_later;
    }

stands_still : (disk copy : DiskImage) (m : Module) (config : Settings) (kept : List Kept)
    (n : ℕ) (stands : StandsFor disk m config kept n)
    → BeginAlike (total_sectors (geometry_of config (length stands.wasm))) disk copy
    → StandsBySaved (point_of stands) kept n copy
stands_still disk copy m config kept n stands alike =
    by_point m config (point_of stands) stands.records stands.last copy kept n
    (stays_at_point disk copy m config kept n stands alike) stands.rest stands.at_step

-- workers that one image stands for have as many sectors as each other
as_many : (disk : DiskImage) (m other : Module) (config settings : Settings)
    (kept others : List Kept) (n k : ℕ) (left : StandsFor disk m config kept n)
    (right : StandsFor disk other settings others k)
    → total_sectors (geometry_of config (length left.wasm))
    ≡ total_sectors (geometry_of settings (length right.wasm))
as_many disk m other config settings kept others n k left right =
    let spelled = one_spelled_worker disk m other config settings kept others n k left right in
    ap (λ (c : Settings). total_sectors (geometry_of c (length left.wasm))) spelled.0
    ∙ ap (λ (w : List ℕ). total_sectors (geometry_of settings (length w))) spelled.1

stand_still : (disk copy : DiskImage) (m other : Module) (config settings : Settings)
    (kept others : List Kept) (n k : ℕ) (left : StandsFor disk m config kept n)
    → BeginAlike (total_sectors (geometry_of config (length left.wasm))) disk copy
    → (right : StandsFor disk other settings others k)
    → StandsBySaved (point_of right) others k copy
stand_still disk copy m other config settings kept others n k left alike right =
    stands_still disk copy other settings others k right
    (subst (λ (sectors : ℕ). BeginAlike sectors disk copy)
    (as_many disk m other config settings kept others n k left right) alike)

pub first_sectors_decide : FirstSectorsDecide
first_sectors_decide disk copy m config kept n stands alike =
    let again = stands_still disk copy m config kept n stands alike in
    let back : BeginAlike (total_sectors (geometry_of config (length again.stands.wasm))) copy
    disk =
    subst (λ (w : List ℕ). BeginAlike (total_sectors (geometry_of config (length w))) copy disk)
    (sym again.wasm) (sym alike) in
    record {
      whatever = λ other settings others k right.
          stand_still disk copy m other config settings kept others n k stands alike right;
      nothing_else = λ other settings others k right.
          stand_still copy disk m other config settings kept others n k again.stands back right;
    }

-- ---- what they hold of a promise

pub the_same_is_held : TheSameIsHeld
the_same_is_held m config then now disk copy same holds =
    let again = same.whatever m config (take holds.held now.kept) holds.steps holds.stands in
    record {
      created = holds.created;
      held = holds.held;
      steps = holds.steps;
      stands = again.stands;
      holds = holds.holds;
      snapshot_heard = subst (λ (s : Saved). s.lines ≤ now.heard) (sym again.saved)
          holds.snapshot_heard;
      snapshot_passed = subst (λ (s : Saved). then.passed ≤ s.lines) (sym again.saved)
          holds.snapshot_passed;
    }

pub the_same_is_within : TheSameIsWithin
the_same_is_within latest sectors disk copy same bounded m config kept n stands =
    let first = same.nothing_else m config kept n stands in
    let within = bounded m config kept n first.stands in (
      subst (λ (g : ℕ). g ≤ latest) first.generation within.0,
      subst (λ (w : List ℕ). total_sectors (geometry_of config (length w)) ≤ sectors) first.wasm
          within.1,
    )

module _ {F : Type 0} where
  pub lives_on_copies_go_on : LivesOnCopiesGoOn F
  lives_on_copies_go_on image copy disk same opened m config so_far holds bounded inputs lives
      lived =
      promised_lives_on_files copy disk opened m config so_far
      (inr (the_same_is_held m config so_far so_far image copy same holds))
      (the_same_is_within so_far.events (file_medium disk).sectors image copy same bounded)
      inputs lives lived
