-- An image in front of other bytes tells its process, and that nothing is after it.
use Rattle.std.proofs.Common.{◌≡◌, ℕ, List, [], ◌++◌, sym, ap, ◌∙◌, append-nil, append_assoc}
use Rattle.std.specs.Prelude.{Option}
use Rattle.file_tree.specs.rules.Files.{Files}
use Rattle.wasi_calls_rules.specs.WasiStates.{Descriptor}
use Rattle.state_image.specs.rules.ProcessImage.{Saved, Numbered, items_bytes, descriptor_bytes}
use Rattle.state_image.specs.rules.ProcessImage.{open_from, process_image_mark, counts_bytes}
use Rattle.state_image.specs.rules.ProcessImage.{phase_bytes, streams_bytes, machine_bytes}
use Rattle.state_image.specs.rules.ProcessImage.{files_bytes, process_image}
use Rattle.state_image.specs.restoring.Processes.{progress_before}
use Rattle.state_image.proofs.Marks.{same_version}
use Rattle.state_image.proofs.Fields.{items_field}
use Rattle.state_image.proofs.Counts.{same_counts, same_phase, same_streams}
use Rattle.state_image.proofs.Machines.{same_machine}
use Rattle.state_image.proofs.Named.{same_files_named}
use Rattle.state_image.proofs.FilesWithin.{files_within}
use Rattle.state_image.proofs.PathsTold.{same_files}
use Rattle.state_image.proofs.Places.{IsNumberedIn, HasPlaces, open_in, same_places}
use Rattle.state_image.proofs.Places.{descriptor_field}
use Rattle.state_image.proofs.Whole.{IsWithin, SameParts, from_descriptors, from_files}
use Rattle.state_image.proofs.Whole.{from_machine, from_streams, from_phase, from_counts}

-- ---- the fields in front of other bytes

seven_before : (a b c d e f g rest : List ℕ)
    → (a ++ (b ++ (c ++ (d ++ (e ++ (f ++ g)))))) ++ rest
    ≡ a ++ (b ++ (c ++ (d ++ (e ++ (f ++ (g ++ rest))))))
seven_before a b c d e f g rest = simp append_assoc

-- from the machine on
abbrev pub machine_before : Saved → List ℕ → List ℕ
machine_before s rest =
    machine_bytes s.machine ++ (files_bytes s.files ++ (from_descriptors s ++ rest))

pub process_image_before : (s : Saved) (rest : List ℕ)
    → process_image s ++ rest ≡ progress_before s (machine_before s rest)
process_image_before s rest =
    seven_before (process_image_mark s.version) (counts_bytes s) (phase_bytes s) (streams_bytes s)
    (machine_bytes s.machine) (files_bytes s.files) (from_descriptors s) rest

-- ---- descriptors

open_told : (fs : Files) (ds es : List (Option Descriptor)) (rest other : List ℕ) → HasPlaces ds
    → HasPlaces es
    → items_bytes (descriptor_bytes fs) (open_from 0 ds) ++ rest
    ≡ items_bytes (descriptor_bytes fs) (open_from 0 es) ++ other → (ds ≡ es) × (rest ≡ other)
open_told fs ds es rest other p q e =
    let same = (items_field Numbered IsNumberedIn (descriptor_bytes fs)
    (descriptor_field fs)).front (open_from 0 ds) (open_from 0 es) rest other (open_in ds p)
    (open_in es q) e in
    (same_places 0 ds es (p.places ∙ sym q.places) same.0, same.1)

descriptors_told : (s t : Saved) (rest : List ℕ) → IsWithin s → IsWithin t → s.files ≡ t.files
    → from_descriptors s ≡ from_descriptors t ++ rest
    → (s.descriptors ≡ t.descriptors) × ([] ≡ rest)
descriptors_told s t rest a b files e =
    let here : items_bytes (descriptor_bytes s.files) (open_from 0 s.descriptors) ++ []
    ≡ items_bytes (descriptor_bytes s.files) (open_from 0 t.descriptors) ++ rest =
    append-nil (from_descriptors s) ∙ e
    ∙ ap (λ (fs : Files). items_bytes (descriptor_bytes fs) (open_from 0 t.descriptors) ++ rest)
    (sym files) in
    open_told s.files s.descriptors t.descriptors [] rest a.places b.places here

-- ---- the whole

pub told_behind : (s t : Saved) (rest : List ℕ) → IsWithin s → IsWithin t
    → process_image s ≡ process_image t ++ rest → SameParts s t × ([] ≡ rest)
told_behind s t rest a b e =
    let whole : process_image_mark s.version ++ from_counts s
    ≡ process_image_mark t.version ++ (counts_bytes t ++ (phase_bytes t ++ (streams_bytes t
    ++ machine_before t rest))) =
    e ∙ process_image_before t rest in
    let mark = same_version s.version t.version _ _ whole in
    let counts = same_counts s t (from_phase s)
    (phase_bytes t ++ (streams_bytes t ++ machine_before t rest)) a.counts b.counts
    mark.1 in
    let phase = same_phase s t (from_streams s) (streams_bytes t ++ machine_before t rest) a.code
    b.code counts.1 in
    let streams = same_streams s t (from_machine s) (machine_before t rest) a.streams b.streams
    phase.1 in
    let machine = same_machine s.machine t.machine (from_files s)
    (files_bytes t.files ++ (from_descriptors t ++ rest)) a.machine b.machine streams.1 in
    let names = same_files_named s.files t.files (from_descriptors s) (from_descriptors t ++ rest)
    (files_within s.files a.files a.next) (files_within t.files b.files b.next) machine.1 in
    let files = same_files s.files t.files a.files b.files names.0 in
    let descriptors = descriptors_told s t rest a b files names.1 in
    let parts : SameParts s t = record {
      version = mark.0;
      counts = counts.0;
      phase = phase.0;
      streams = streams.0;
      machine = machine.0;
      files = files;
      descriptors = descriptors.0;
    } in
    (parts, descriptors.1)
