-- What is not well typed: each of these belongs to no well-typed process.
use Rattle.std.specs.Prelude.{◌≡◌, ◌≢◌, ℕ, ◌+◌, ◌*◌, ◌<◌, ◌^◌, List, [], ◌∷◌, length}
use Rattle.std.specs.Prelude.{Some, None, slice_get}
use Rattle.wasm_syntax.specs.declared.module.Module.{Module}
use Rattle.wasm_syntax.specs.laws.Examples.{hello}
use Rattle.wasm_rules.specs.Validity.{memories_of}
use Rattle.wasm_rules.specs.Instantiation.{least_pages_of}
use Rattle.wasi_abi.specs.declared.version.Version.TheVariants.{One, Two}
use Rattle.wasi_abi.specs.rules.Configs.{Settings}
use Rattle.file_tree.specs.rules.Files.{Content, Directory, File, FileNode}
use Rattle.wasi_calls_rules.specs.WasiStates.{Descriptor, Stream, Node}
use Rattle.process_rules.specs.Processes.{Exited}
use Rattle.state_image.specs.rules.ProcessImage.{Saved}
use Rattle.state_image.specs.rules.WellTyped.{IsWellTyped, slots_in}

-- no process under this configuration is well typed that has this
abbrev pub NoneHas : Settings → (Saved → Type 0) → Type 0
NoneHas config P = (m : Module) (s : Saved) → IsWellTyped m config s → P s → ⊥

-- beside an empty root these nodes
abbrev pub HasNodes : Saved → List FileNode → Type 0
HasNodes s nodes =
    s.files.nodes ≡ record { number = 1; path = Some []; content = Directory } ∷ nodes

-- a node under one name in the root
abbrev pub under_name : ℕ → List ℕ → Content → FileNode
under_name k name content = record { number = k; path = Some (name ∷ []); content = content }

-- a file of so many bytes, and two nodes under one name
abbrev pub HasFileOf : ℕ → Saved → Type 0
HasFileOf size s =
    (name : List ℕ) × (bytes : List ℕ) × (length bytes ≡ size)
    × HasNodes s (under_name 2 name (File bytes) ∷ [])

abbrev pub HasNameTwice : Saved → Type 0
HasNameTwice s =
    (name : List ℕ) × HasNodes s (under_name 2 name Directory ∷ under_name 3 name (File []) ∷ [])

-- the path `a/b` where there is no `a`, and a removed directory
abbrev pub below_a : FileNode
below_a = record { number = 2; path = Some ((97 ∷ []) ∷ (98 ∷ []) ∷ []); content = Directory }

abbrev pub removed_node : FileNode
removed_node = record { number = 2; path = None; content = Directory }

-- this descriptor is at this number
abbrev pub IsOpenAt : Saved → ℕ → Descriptor → Type 0
IsOpenAt s n d = slice_get s.descriptors n ≡ Some (Some d)

-- one of these is at some number
abbrev pub HasOpen : (Descriptor → Type 0) → Saved → Type 0
HasOpen P s = (n : ℕ) × (d : Descriptor) × IsOpenAt s n d × P d

-- no descriptor names this node
abbrev pub NamesNo : ℕ → Saved → Type 0
NamesNo k s = (n : ℕ) (d : Descriptor) → IsOpenAt s n d → d.target ≢ Node k

-- stream 0 with the rights of the root
abbrev pub stream_with_all : Descriptor
stream_with_all = record {
  target = Stream 0;
  offset = 0;
  flags = 0;
  base = 103769617;
  inheriting = 107964031;
}

-- ---- counts

pub record RefusesCounts (config : Settings) : Type 0 where
  -- the last monotonic time has 64 bits
  pub late : NoneHas config (λ s. s.last_monotonic ≡ 2 ^ 64)
  pub many_steps : NoneHas config (λ s. s.steps ≡ 2 ^ 63)
  pub many_lines : NoneHas config (λ s. s.lines + 2 ≡ 2 ^ 63)
  pub more_answers : NoneHas config (λ s. (s.version ≡ One) × (s.steps < s.answers))
  -- the widening is an answer
  pub many_answers_in_two : NoneHas config (λ s. (s.version ≡ Two) × (s.steps + 1 < s.answers))
  pub more_requests : NoneHas config (λ s. s.answers < s.requests)
  pub many_numbers : NoneHas config (λ s. s.steps + 2 < s.files.next)

-- ---- streams and phases

pub record RefusesStreams (config : Settings) : Type 0 where
  pub much_unread : NoneHas config (λ s. (s.version ≡ One) × (length s.unread ≡ 4098))
  pub much_unread_in_two : NoneHas config
      (λ s. (s.version ≡ Two) × (length s.unread ≡ 65538))
  pub no_byte : NoneHas config (λ s. s.unread ≡ 256 ∷ [])
  pub long_line : NoneHas config (λ s. length s.first ≡ 4097)
  -- a newline ends a line
  pub newline_in_line : NoneHas config (λ s. s.second ≡ 97 ∷ 10 ∷ [])
  -- a code has 32 bits; an end leaves no frame and no unfinished line, and what runs has a frame
  pub wide_code : NoneHas config (λ s. s.ended ≡ Some (Exited (2 ^ 32)))
  pub frames_at_end : NoneHas config (λ s. (s.ended ≢ None) × (s.machine.frames ≢ []))
  pub line_at_end : NoneHas config (λ s. (s.ended ≢ None) × (s.first ≢ []))
  pub no_frame : NoneHas config (λ s. (s.ended ≡ None) × (s.machine.frames ≡ []))
  -- while two calls are to come none has been made
  pub two_to_come : NoneHas config (λ s. (s.ended ≡ None) × (length s.machine.later ≡ 2))

-- ---- the machine

pub record RefusesMachines (config : Settings) : Type 0 where
  pub many_frames : NoneHas config (λ s. length s.machine.frames ≡ 513)
  pub many_slots : NoneHas config (λ s. slots_in s.machine.frames ≡ 69633)
  pub many_globals : NoneHas config (λ s. length s.machine.globals ≡ 1025)
  -- a page and a byte
  pub part_of_page : NoneHas config (λ s. length s.machine.memory ≡ 65537)
  -- fewer pages than the module's minimum, as none where `hello` has a minimum of one
  pub few_pages : (m : Module) (s : Saved) → IsWellTyped m config s
      → length s.machine.memory < least_pages_of (memories_of m) * 65536 → ⊥
  pub no_page : (s : Saved) → IsWellTyped hello config s → s.machine.memory ≢ []
  -- more than the configured pages
  pub many_pages : NoneHas config (λ s. config.pages * 65536 < length s.machine.memory)

-- ---- files and descriptors

pub record RefusesFiles (config : Settings) : Type 0 where
  -- a byte more than one unit
  pub over_room : NoneHas (record config { files = 1 }) (HasFileOf 65537)
  pub one_name_twice : NoneHas config HasNameTwice
  pub no_parent : NoneHas config (λ s. HasNodes s (below_a ∷ []))
  pub slash_in_name : NoneHas config (λ s. HasNodes s (under_name 2 (97 ∷ 47 ∷ []) Directory ∷ []))
  pub lost_node : NoneHas config (λ s. HasNodes s (removed_node ∷ []) × NamesNo 2 s)

pub record RefusesDescriptors (config : Settings) : Type 0 where
  pub stream_elsewhere : NoneHas config
      (λ s. (d : Descriptor) × IsOpenAt s 0 d × (d.target ≡ Stream 1))
  pub stream_as_directory : NoneHas config (λ s. IsOpenAt s 0 stream_with_all)
  pub fourth_stream : NoneHas config (HasOpen (λ d. d.target ≡ Stream 3))
  pub other_root : NoneHas config (λ s. (d : Descriptor) × IsOpenAt s 3 d × (d.target ≡ Node 2))
  pub no_root : NoneHas config (λ s. slice_get s.descriptors 3 ≡ Some None)
  pub missing_node : NoneHas config (λ s. HasNodes s [] × HasOpen (λ d. d.target ≡ Node 2) s)
  pub far_offset : NoneHas config (HasOpen (λ d. d.offset ≡ 2 ^ 63))
  pub other_flags : NoneHas config (HasOpen (λ d. d.flags ≡ 32))
