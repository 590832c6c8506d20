-- What is read of an image that stands for a worker.
use Rattle.std.proofs.Common.{◌≡◌, ◌^◌, ◌<◌, ◌≤◌, ℕ, List, length, take, Some, None, Ok, refl}
use Rattle.std.proofs.Common.{sym, ap, ◌∙◌, arith}
use Rattle.sha2.specs.Sha256.{sha256}
use Rattle.wasm_syntax.specs.declared.module.Module.{Module}
use Rattle.wasi_abi.specs.rules.Configs.{Settings}
use Rattle.process_rules.specs.Processes.{ProcessState}
use Rattle.state_image.specs.rules.ProcessImage.{process_image}
use Rattle.sector_disk.specs.rules.DiskImage.{DiskImage, sector_at}
use Rattle.disk_layout.specs.rules.Places.{area_place, head_place}
use Rattle.disk_layout.specs.rules.Sectors.{IsNewest, bytes_from, head_of}
use Rattle.disk_layout.specs.rules.Journal.{Record}
use Rattle.disk_layout.specs.declared.geometry.Geometry.{Geometry}
use Rattle.disk_layout.specs.declared.head.Head.{Head}
use Rattle.wasi_abi.specs.rules.Versions.{version_number}
use Rattle.disk_layout.proofs.ReadingLemmas.HeldLemmas.{one_answer}
use Rattle.disk_layout.proofs.ReadingLemmas.WrittenLemmas.{reads_what_is_written}
use Rattle.journal.proofs.HeldLemmas.{holds_one_list}
use Rattle.snapshot.specs.rules.Heads.{FindsHead}
use Rattle.snapshot.proofs.AreaLemmas.{one_newest}
use Rattle.snapshot.proofs.LawLemmas.{shows_one}
use Rattle.worker_store.specs.rules.Savepoints.{Savepoint, places, IsAtSavepoint}
use Rattle.worker_store.specs.laws.Readings.{ReadsTheModule, FindsThePoint, ReadsThePoint}
use Rattle.worker_store.specs.laws.Readings.{ReadsUndamaged, FindsNewestPoint, HoldsTheRecords}

pub reads_the_module : ReadsTheModule
reads_the_module m config point records last disk sectors answer at room of_disk gives =
    let accepted = point.accepted in
    let limits = accepted.limits in
    let size : length point.wasm ≤ 2097152 = limits.size in
    let long : length point.wasm < 2 ^ 32 = omega (arith, size) in
    let written = reads_what_is_written sectors disk config point.wasm point.settings long at.worker
    room in
    one_answer sectors disk answer
    (Ok (record { geometry = places point; config = config; wasm = point.wasm })) of_disk tt gives
    written

-- the head of the savepoint
abbrev head_in : {m : Module} {config : Settings} → Savepoint m config → Head
head_in point = record {
  version = version_number point.saved.version;
  length_in_bytes = length (process_image point.saved);
  digest = sha256 (process_image point.saved);
  generation = point.generation;
}

-- of two newest heads of an image
one_head : (disk : DiskImage) (a b : ℕ) (h k : Head) → IsNewest disk a h → IsNewest disk b k → h ≡ k
one_head disk a b h k one two =
    one.is ∙ ap (λ n. head_of (sector_at disk (head_place n))) (one_newest disk a b h k one two)
    ∙ sym two.is

pub finds_the_point : FindsThePoint
finds_the_point m config point records last disk None at none =
    let holds = at.holds in
    absurd (shows_one.some (places point) disk point.generation (version_number point.saved.version)
    (process_image point.saved) holds none)
finds_the_point m config point records last disk (Some head) at newest =
    let holds = at.holds in
    let same : head ≡ head_in point =
    one_head disk head.generation point.generation head (head_in point) newest holds.newest in
    (head, refl, ap (λ (h : Head). h.generation) same, ap (λ (h : Head). h.version) same)

-- what the head names
names_the_point : (m : Module) (config : Settings) (point : Savepoint m config)
    (records : List Record) (last : ProcessState) (disk : DiskImage) (head : Head)
    → IsAtSavepoint point records last disk → FindsHead disk (Some head)
    → head ≡ head_in point
names_the_point m config point records last disk head at newest =
    let holds = at.holds in
    one_head disk head.generation point.generation head (head_in point) newest holds.newest

pub reads_the_point : ReadsThePoint
reads_the_point m config point records last disk head bytes at newest names =
    let geometry : Geometry = places point in
    let holds = at.holds in
    let same = names_the_point m config point records last disk head at newest in
    let long : length bytes ≡ length (process_image point.saved) =
    sym names.len ∙ ap (λ (h : Head). h.length_in_bytes) same in
    sym names.area
    ∙ ap (λ n. take n (bytes_from disk (area_place geometry head.generation)
    geometry.area_sectors)) long
    ∙ ap (λ (h : Head). take (length (process_image point.saved))
    (bytes_from disk (area_place geometry h.generation) geometry.area_sectors)) same
    ∙ holds.area

pub reads_undamaged : ReadsUndamaged
reads_undamaged m config point records last disk head at newest damaged =
    let geometry : Geometry = places point in
    let holds = at.holds in
    let same = names_the_point m config point records last disk head at newest in
    damaged (process_image point.saved) (record {
      len = ap (λ (h : Head). h.length_in_bytes) same;
      digest = ap (λ (h : Head). h.digest) same;
      area = ap (λ (h : Head). take (length (process_image point.saved))
          (bytes_from disk (area_place geometry h.generation) geometry.area_sectors)) same
          ∙ holds.area;
    })

pub finds_newest_point : FindsNewestPoint
finds_newest_point m config point records last disk at = record {
  found = λ s held.
      shows_one.same (places point) disk s.generation point.generation s.version
      (version_number point.saved.version) s.process_image (process_image point.saved)
      held at.holds;
  some = λ none.
      shows_one.some (places point) disk point.generation (version_number point.saved.version)
      (process_image point.saved)
      at.holds none;
  whole = λ damaged.
      shows_one.whole (places point) disk point.generation (version_number point.saved.version)
      (process_image point.saved)
      at.holds damaged;
}

pub holds_the_records : HoldsTheRecords
holds_the_records m config point records others last disk at holds =
    holds_one_list (places point) point.saved.version point.generation others records disk holds
    at.in_journal
