-- A whole image is read field by field, and each field is read back (this project's own).
use Rattle.std.specs.Prelude.{◌≡◌, ◌↔◌, ℕ, List, [], ◌++◌, reverse, Option, Some}
use Rattle.wasi_abi.specs.rules.Layouts.{u64_bytes}
use Rattle.state_image.specs.rules.ProcessImage.{Saved, process_image_mark, counts_bytes}
use Rattle.state_image.specs.rules.ProcessImage.{phase_bytes, streams_bytes, items_bytes}
use Rattle.state_image.specs.rules.ProcessImage.{place_bytes, memory_bytes, node_bytes}
use Rattle.state_image.specs.rules.ProcessImage.{descriptor_bytes, open_from, process_image}
use Rattle.state_image.specs.rules.Reading.{ReadsField, ReadsPart}

-- each field of this process is in front of what is left after it
pub record IsInOrder (s : Saved) (bytes : List ℕ) : Type 0 where
  pub after_mark : List ℕ
  pub mark : bytes ≡ process_image_mark s.version ++ after_mark
  pub after_counts : List ℕ
  pub counts : after_mark ≡ counts_bytes s ++ after_counts
  pub after_phase : List ℕ
  pub phase : after_counts ≡ phase_bytes s ++ after_phase
  pub after_streams : List ℕ
  pub streams : after_phase ≡ streams_bytes s ++ after_streams
  pub after_globals : List ℕ
  pub globals : after_streams ≡ items_bytes u64_bytes s.machine.globals ++ after_globals
  pub after_frames : List ℕ
  pub frames : after_globals ≡ items_bytes place_bytes (reverse s.machine.frames) ++ after_frames
  pub after_memory : List ℕ
  pub memory : after_frames ≡ memory_bytes s.machine.memory ++ after_memory
  pub after_next : List ℕ
  pub next : after_memory ≡ u64_bytes s.files.next ++ after_next
  pub after_nodes : List ℕ
  pub nodes : after_next ≡ items_bytes (node_bytes s.files) s.files.nodes ++ after_nodes
  pub descriptors : after_nodes
      ≡ items_bytes (descriptor_bytes s.files) (open_from 0 s.descriptors) ++ []

-- Bytes are the image of a process where its fields are in this order, and only there.
abbrev pub ProcessImagesAreInOrder : Type 0
ProcessImagesAreInOrder = (s : Saved) (bytes : List ℕ) → IsInOrder s bytes
    ↔ (bytes ≡ process_image s)

-- What reads so gives each field in range whose bytes are in front, and leaves what is after it.
abbrev pub IsReadBack : {X : Type 0} → (X → List ℕ) → (X → Type 0) → Type 0
IsReadBack {X} bytes InRange =
    (result : Option X) (old new : List ℕ) → ReadsField bytes InRange result old new
    → (x : X) (rest : List ℕ) → InRange x → old ≡ bytes x ++ rest
    → (result ≡ Some x) × (new ≡ rest)

-- the same of a part of a process
abbrev pub IsPartReadBack : {V : Type 0} → (Saved → V) → (Saved → List ℕ) → (Saved → Type 0)
    → Type 0
IsPartReadBack {V} part bytes InRange =
    (result : Option V) (old new : List ℕ) → ReadsPart part bytes InRange result old new
    → (s : Saved) (rest : List ℕ) → InRange s → old ≡ bytes s ++ rest
    → (result ≡ Some (part s)) × (new ≡ rest)
