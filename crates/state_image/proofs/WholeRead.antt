-- A whole image, field by field in its order: what is left after each field, up to nothing.
use Rattle.std.proofs.Common.{◌≡◌, List, ℕ, ◌++◌, reverse, refl, sym, ap, ◌∙◌}
use Rattle.std.proofs.lemmas.List.{append-nil}
use Rattle.wasi_abi.specs.rules.Layouts.{u64_bytes}
use Rattle.state_image.specs.rules.ProcessImage.{Saved, process_image_mark, counts_bytes}
use Rattle.state_image.specs.rules.ProcessImage.{phase_bytes, streams_bytes, items_bytes}
use Rattle.state_image.specs.rules.ProcessImage.{place_bytes, memory_bytes, node_bytes}
use Rattle.state_image.specs.rules.ProcessImage.{process_image}
use Rattle.state_image.specs.laws.ProcessImageOrder.{IsInOrder}
use Rattle.state_image.proofs.Whole.{from_counts, from_phase, from_streams, from_machine}
use Rattle.state_image.proofs.Whole.{from_files, from_descriptors}
use Rattle.state_image.proofs.ProcessImageGiven.{machine_in_order, files_in_order}

-- bytes whose fields are in order are an image
pub process_image_read : (s : Saved) (bytes : List ℕ) → IsInOrder s bytes → bytes ≡ process_image s
process_image_read s bytes h =
    let descriptors : h.after_nodes ≡ from_descriptors s =
    h.descriptors ∙ append-nil (from_descriptors s) in
    let files : h.after_memory ≡ from_files s =
    h.next ∙ ap (λ (bytes_left : List ℕ). u64_bytes s.files.next ++ bytes_left)
    (h.nodes ∙ ap (λ (bytes_left : List ℕ). items_bytes (node_bytes s.files) s.files.nodes
    ++ bytes_left) descriptors) ∙ sym (files_in_order s.files (from_descriptors s)) in
    let machine : h.after_streams ≡ from_machine s =
    h.globals ∙ ap (λ (bytes_left : List ℕ). items_bytes u64_bytes s.machine.globals ++ bytes_left)
    (h.frames
    ∙ ap (λ (bytes_left : List ℕ). items_bytes place_bytes (reverse s.machine.frames) ++ bytes_left)
    (h.memory ∙ ap (λ (bytes_left : List ℕ). memory_bytes s.machine.memory ++ bytes_left) files))
    ∙ sym (machine_in_order s.machine (from_files s)) in
    let streams : h.after_phase ≡ from_streams s =
    h.streams ∙ ap (λ (bytes_left : List ℕ). streams_bytes s ++ bytes_left) machine in
    let phase : h.after_counts ≡ from_phase s =
    h.phase ∙ ap (λ (bytes_left : List ℕ). phase_bytes s ++ bytes_left) streams in
    let counts : h.after_mark ≡ from_counts s =
    h.counts ∙ ap (λ (bytes_left : List ℕ). counts_bytes s ++ bytes_left) phase in
    h.mark ∙ ap (λ (bytes_left : List ℕ). process_image_mark s.version ++ bytes_left) counts

-- and its image has the fields in this order
pub process_image_in_order : (s : Saved) (bytes : List ℕ) → bytes ≡ process_image s
    → IsInOrder s bytes
process_image_in_order s bytes e = record {
  after_mark = from_counts s;
  mark = e;
  after_counts = from_phase s;
  counts = refl;
  after_phase = from_streams s;
  phase = refl;
  after_streams = from_machine s;
  streams = refl;
  after_globals = items_bytes place_bytes (reverse s.machine.frames)
      ++ (memory_bytes s.machine.memory ++ from_files s);
  globals = machine_in_order s.machine (from_files s);
  after_frames = memory_bytes s.machine.memory ++ from_files s;
  frames = refl;
  after_memory = from_files s;
  memory = refl;
  after_next = items_bytes (node_bytes s.files) s.files.nodes ++ from_descriptors s;
  next = files_in_order s.files (from_descriptors s);
  after_nodes = from_descriptors s;
  nodes = refl;
  descriptors = sym (append-nil (from_descriptors s));
}
