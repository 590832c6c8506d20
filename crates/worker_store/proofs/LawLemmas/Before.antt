-- What a commit leaves of an image, whatever generation that stands by.
use Rattle.std.proofs.Common.{◌≡◌, ℕ, ◌+◌, List, length, sym, ◌∙◌, subst, inl, inr, ⊎_elim}
use Rattle.wasm_syntax.specs.declared.module.Module.{Module}
use Rattle.wasi_abi.specs.rules.Configs.{Settings}
use Rattle.process_rules.specs.Runs.{Kept}
use Rattle.state_image.specs.rules.ProcessImage.{process_image}
use Rattle.sector_disk.specs.rules.DiskImage.{DiskImage}
use Rattle.disk_layout.specs.rules.Places.{Geometry, geometry_of}
use Rattle.wasi_abi.specs.rules.Versions.{version_number}
use Rattle.snapshot.specs.rules.Steps.{Fills, Commits, Replaces}
use Rattle.worker_store.specs.rules.Savepoints.{Savepoint, IsAtSavepoint, IsNextPoint, StandsBefore}
use Rattle.worker_store.specs.laws.Savepoints.{point_of, StandsBySaved}
use Rattle.worker_store.specs.laws.Commits.{FillingKeepsWorker, CommitKeepsWorker, ReplacingBegins}
use Rattle.worker_store.proofs.LawLemmas.Points.{by_point, is_at_its_savepoint}
use Rattle.worker_store.proofs.LawLemmas.Replacing.{filling_keeps_point, commit_leaves_one_of_two}
use Rattle.worker_store.proofs.LawLemmas.Replacing.{commit_begins_next}

abbrev place_of : Settings → List ℕ → Geometry
place_of config wasm = geometry_of config (length wasm)

module _ (m : Module) (config : Settings) (next : Savepoint m config) (kept : List Kept) (n : ℕ)
    (old new : DiskImage) (before : StandsBefore next kept n old) where
  there : IsAtSavepoint (point_of before.stands) before.stands.records before.stands.last old
  there = is_at_its_savepoint old m config kept n before.stands

  is_next : IsNextPoint (point_of before.stands) next
  is_next = record {
    wasm = before.wasm;
    generation = before.generation;
    numbers = before.numbers;
  }

  -- where it is at the same savepoint
  stays_before : IsAtSavepoint (point_of before.stands) before.stands.records before.stands.last
      new → StandsBefore next kept n new
  stays_before now =
      let was = before.stands in
      let by : StandsBySaved (point_of was) kept n new =
      by_point m config (point_of was) was.records was.last new kept n now was.rest was.at_step
      in
      record {
        stands = by.stands;
        wasm = before.wasm ∙ sym by.wasm;
        generation = subst (λ g. next.generation ≡ g + 1) (sym by.generation)
            before.generation;
        numbers = before.numbers;
      }

pub filling_keeps_worker : FillingKeepsWorker
filling_keeps_worker m config next kept n old new before fills =
    let was = before.stands in
    let at = there m config next kept n old new before in
    stays_before m config next kept n old new before
    (filling_keeps_point m config (point_of was) was.records was.last old new at
    (subst (λ g. Fills (place_of config was.wasm) g old new) before.generation
    (subst (λ w. Fills (place_of config w) next.generation old new) before.wasm fills)))

pub commit_keeps_worker : CommitKeepsWorker
commit_keeps_worker m config next kept n old new before commits =
    let was = before.stands in
    let at = there m config next kept n old new before in
    let bytes : List ℕ = process_image next.saved in
    let version : ℕ = version_number next.saved.version in
    ⊎_elim
    (λ now. inl (stays_before m config next kept n old new before now))
    (λ begins. inr begins)
    (commit_leaves_one_of_two m config (point_of was) next was.records was.last old new at
    (is_next m config next kept n old new before)
    (subst (λ w. Commits (place_of config w) next.generation version bytes old new)
    before.wasm commits))

pub replacing_begins : ReplacingBegins
replacing_begins m config next kept n old new before replaces =
    let was = before.stands in
    let at = there m config next kept n old new before in
    let bytes : List ℕ = process_image next.saved in
    let version : ℕ = version_number next.saved.version in
    commit_begins_next m config (point_of was) next was.records was.last old new at
    (is_next m config next kept n old new before)
    (subst (λ w. Replaces (place_of config w) next.generation version bytes old new)
    before.wasm replaces)
