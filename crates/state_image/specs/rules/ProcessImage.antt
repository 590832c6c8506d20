-- The image of a process as bytes, and the process state that a process shows (this project's
-- own). Numbers are little-endian.
use Rattle.std.specs.Prelude.{◌≡◌, ◌≢◌, ℕ, ◌+◌, ◌/◌, Bool, true, false, List, [], ◌∷◌, ◌++◌}
use Rattle.std.specs.Prelude.{length, reverse, codes, if◌then◌else◌, Option, Some, None}
use Rattle.std.specs.List.{flat_map}
use Rattle.wasm_syntax.specs.declared.value.Trap.{Trap}
use Rattle.wasm_syntax.specs.declared.value.Trap.TheVariants as trap
use Rattle.guest_memory.specs.rules.Bytes.{page_size}
use Rattle.wasm_rules.specs.Typing.{Context}
use Rattle.wasm_rules.specs.Configuration.{Program}
use Rattle.wasi_abi.specs.declared.version.Version.{Version}
use Rattle.wasi_abi.specs.declared.version.Version.TheVariants.{One, Two}
use Rattle.wasi_abi.specs.rules.Layouts.{u16_bytes, u32_bytes, u64_bytes}
use Rattle.wasi_abi.specs.rules.Numbers.{directory_type, regular_file}
use Rattle.file_tree.specs.rules.Files.{Files, FileNode, Content, Directory, File, Entry}
use Rattle.file_tree.specs.rules.Files.{is_directory, entries_of}
use Rattle.wasi_calls_rules.specs.WasiStates.{Target, Stream, Node, Descriptor}
use Rattle.process_rules.specs.Processes.{Ending, Exited, Trapped, ProcessState}
use Rattle.machine_slots.specs.rules.Places.{ShownFrame, MachineState, Shows}

-- A process as its image has it: positions in the place of sequences, and of the emitted lines
-- their number.
pub record Saved : Type 0 where
  pub version : Version
  pub machine : MachineState
  pub files : Files
  pub descriptors : List (Option Descriptor)
  pub unread : List ℕ
  pub input_ended : Bool
  pub last_monotonic : ℕ
  pub first : List ℕ
  pub second : List ℕ
  pub steps : ℕ
  pub answers : ℕ
  pub requests : ℕ
  pub lines : ℕ
  pub ended : Option Ending

-- it shows this process state, in a program whose table is this one
pub record SavedShowsProcess (c : Context) (program : Program) (table : List (Option ℕ)) (s : Saved)
    (p : ProcessState) : Type 0 where
  pub version : s.version ≡ p.host.version
  pub machine : Shows c program table s.machine p.configuration
  pub files : s.files ≡ p.host.files
  pub descriptors : s.descriptors ≡ p.host.descriptors
  pub unread : s.unread ≡ p.host.unread
  pub input_ended : s.input_ended ≡ p.host.input_ended
  pub last_monotonic : s.last_monotonic ≡ p.host.last_monotonic
  pub first : s.first ≡ p.host.first
  pub second : s.second ≡ p.host.second
  pub steps : s.steps ≡ p.steps
  pub answers : s.answers ≡ p.answers
  pub requests : s.requests ≡ p.requests
  pub lines : s.lines ≡ length p.host.lines
  pub ended : s.ended ≡ p.ended

-- ---- fields

-- the number of a trap
abbrev pub trap_number : Trap → ℕ
trap_number trap.Unreachable = 1
trap_number trap.DivideByZero = 2
trap_number trap.IntegerOverflow = 3
trap_number trap.MemoryOutOfBounds = 4
trap_number trap.UndefinedElement = 5
trap_number trap.UninitializedElement = 6
trap_number trap.IndirectCallTypeMismatch = 7
trap_number trap.StackExhausted = 8

-- in the start function (0), in `_start` (1), exited (2) or trapped (3)
abbrev pub phase_of : Option Ending → List ℕ → ℕ
phase_of None [] = 1
phase_of None (f ∷ later) = 0
phase_of (Some (Exited code)) later = 2
phase_of (Some (Trapped why)) later = 3

-- the exit code, or the number of the trap
abbrev pub ending_code : Option Ending → ℕ
ending_code None = 0
ending_code (Some (Exited code)) = code
ending_code (Some (Trapped why)) = trap_number why

-- 1 for true, 0 for false
abbrev pub flag_of : Bool → ℕ
flag_of true = 1
flag_of false = 0

-- a length in 32 bits, and the bytes
abbrev pub text_bytes : List ℕ → List ℕ
text_bytes text = u32_bytes (length text) ++ text

-- a count in 32 bits, and the items
abbrev pub items_bytes : {X : Type 0} → (X → List ℕ) → List X → List ℕ
items_bytes bytes xs = u32_bytes (length xs) ++ flat_map bytes xs

-- a frame as bytes: function, position and slots
abbrev pub place_bytes : ShownFrame → List ℕ
place_bytes f = u32_bytes f.function ++ (u32_bytes f.position ++ items_bytes u64_bytes f.slots)

-- memory as bytes: its pages, and all of it
abbrev pub memory_bytes : List ℕ → List ℕ
memory_bytes memory = u32_bytes (length memory / page_size) ++ memory

-- ---- files

-- an entry of a directory as bytes: its name and its number
abbrev pub entry_bytes : Entry → List ℕ
entry_bytes e = u16_bytes (length e.name) ++ (e.name ++ u64_bytes e.number)

-- the type, and the bytes of a file or the entries of a directory by their names
abbrev pub content_bytes : Files → ℕ → Content → List ℕ
content_bytes fs k Directory = directory_type ∷ items_bytes entry_bytes (entries_of fs k)
content_bytes fs k (File bytes) = regular_file ∷ (u64_bytes (length bytes) ++ bytes)

-- a node as bytes: its number and its content
abbrev pub node_bytes : Files → FileNode → List ℕ
node_bytes fs n = u64_bytes n.number ++ content_bytes fs n.number n.content

-- files as bytes: the next number, and each node
abbrev pub files_bytes : Files → List ℕ
files_bytes fs = u64_bytes fs.next ++ items_bytes (node_bytes fs) fs.nodes

-- ---- descriptors

-- a stream by its number and no node; a node by its type and number
abbrev pub target_bytes : Files → Target → List ℕ
target_bytes fs (Stream s) = s ∷ u64_bytes 0
target_bytes fs (Node k) =
    (if is_directory fs k then directory_type else regular_file) ∷ u64_bytes k

-- an open descriptor with its number
pub record Numbered : Type 0 where
  pub number : ℕ
  pub descriptor : Descriptor

-- the descriptors that are open, with their numbers, counted from this one
abbrev pub open_from : ℕ → List (Option Descriptor) → List Numbered
open_from n [] = []
open_from n (None ∷ ds) = open_from (n + 1) ds
open_from n (Some d ∷ ds) = record { number = n; descriptor = d } ∷ open_from (n + 1) ds

-- an open descriptor as bytes
abbrev pub descriptor_bytes : Files → Numbered → List ℕ
descriptor_bytes fs d =
    u32_bytes d.number ++ (target_bytes fs d.descriptor.target ++ (u64_bytes d.descriptor.offset
    ++ (u16_bytes d.descriptor.flags
    ++ (u64_bytes d.descriptor.base ++ u64_bytes d.descriptor.inheriting))))

-- ---- the image

-- the first bytes of an image, which tell its version
abbrev pub process_image_mark : Version → List ℕ
process_image_mark One = codes "DWIMAGE1"
process_image_mark Two = codes "DWIMAGE2"

-- bytes begin with the mark of another version than this one
pub record IsMarkedOtherwise (version : Version) (bytes : List ℕ) : Type 0 where
  pub marked : Version
  pub other : marked ≢ version
  pub rest : List ℕ
  pub begins : bytes ≡ process_image_mark marked ++ rest

-- steps, answers, requests, lines and the last monotonic time, of 8 bytes each
abbrev pub counts_bytes : Saved → List ℕ
counts_bytes s =
    u64_bytes s.steps
    ++ (u64_bytes s.answers
    ++ (u64_bytes s.requests ++ (u64_bytes s.lines ++ u64_bytes s.last_monotonic)))

-- the phase, the exit code or trap, and whether the input has ended
abbrev pub phase_bytes : Saved → List ℕ
phase_bytes s =
    phase_of s.ended s.machine.later ∷ (u32_bytes (ending_code s.ended) ++ flag_of s.input_ended
    ∷ [])

-- what is unread, and the unfinished lines of both output streams
abbrev pub streams_bytes : Saved → List ℕ
streams_bytes s = text_bytes s.unread ++ (text_bytes s.first ++ text_bytes s.second)

-- the frames from the outermost one on
abbrev pub machine_bytes : MachineState → List ℕ
machine_bytes m =
    items_bytes u64_bytes m.globals ++ (items_bytes place_bytes (reverse m.frames)
    ++ memory_bytes m.memory)

-- a process as bytes: all of its image
abbrev pub process_image : Saved → List ℕ
process_image s =
    process_image_mark s.version ++ (counts_bytes s ++ (phase_bytes s ++ (streams_bytes s
    ++ (machine_bytes s.machine ++ (files_bytes s.files
    ++ items_bytes (descriptor_bytes s.files) (open_from 0 s.descriptors))))))
