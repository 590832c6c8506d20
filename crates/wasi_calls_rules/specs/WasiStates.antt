-- The host's side of a process (this project's own): files, descriptors, streams, and what it was
-- configured with.
use Rattle.std.specs.Prelude.{◌≡◌, ℕ, ◌<◌, ◌≤◌, ◌^◌, ◌==◌, if◌then◌else◌, Bool, true, false, List}
use Rattle.std.specs.Prelude.{[], ◌∷◌, length, replicate, Option, Some, None, IfSome, slice_get}
use Rattle.std.specs.List.{AllByRecursion}
use Rattle.wasi_abi.specs.declared.version.Version.{Version}
use Rattle.wasi_abi.specs.rules.Numbers.{are_within, input_rights, output_rights, directory_rights}
use Rattle.wasi_abi.specs.rules.Numbers.{all_rights}
use Rattle.wasi_abi.specs.rules.Answers.{IsNoNewline, AreBytes, IsTime}
use Rattle.file_tree.specs.rules.Files.{Files, FileNode, IsFiles, node_of, used, fresh}
use Rattle.wasi_calls_rules.specs.declared.limits.TheConstants.{DESCRIPTORS, LINE_BYTES}
use Rattle.wasi_calls_rules.specs.declared.output_stream.OutputStream.{OutputStream}

-- what a descriptor names: a stream by its number, or a node
pub data Target : Type 0 where
  Stream : ℕ → Target
  Node : ℕ → Target

-- what an open descriptor has: its target, offset, flags and rights
pub record Descriptor : Type 0 where
  pub target : Target
  pub offset : ℕ
  pub flags : ℕ
  pub base : ℕ
  pub inheriting : ℕ

-- the stream that a line was written to, and its bytes
pub record Line : Type 0 where
  pub stream : OutputStream
  pub text : List ℕ

-- What the calls read and change. `version` says how long request texts and random bytes may be,
-- and `room` is that of all files, in bytes.
pub record WasiState : Type 0 where
  pub files : Files
  pub descriptors : List (Option Descriptor)
  -- bytes of requests that were not read yet, and whether input has ended
  pub unread : List ℕ
  pub input_ended : Bool
  -- the last monotonic time that was seen
  pub last_monotonic : ℕ
  -- the unfinished lines of stdout and stderr, and the lines emitted so far
  pub first : List ℕ
  pub second : List ℕ
  pub lines : List Line
  pub arguments : List (List ℕ)
  pub environment : List (List ℕ)
  pub room : ℕ
  pub version : Version

-- ---- the beginning

-- a stream of this number, with these rights
abbrev pub stream : ℕ → ℕ → Descriptor
stream n rights = record { target = Stream n; offset = 0; flags = 0; base = rights; inheriting = 0 }

-- three streams, the root directory, and nothing else
abbrev pub first_descriptors : List (Option Descriptor)
first_descriptors =
    Some (stream 0 input_rights) ∷ Some (stream 1 output_rights) ∷ Some (stream 2 output_rights)
    ∷ Some (record {
      target = Node 1;
      offset = 0;
      flags = 0;
      base = directory_rights;
      inheriting = all_rights;
    }) ∷ replicate 60 None

-- nothing was read or written yet, and there is an empty root
abbrev pub first_host : ℕ → Version → List (List ℕ) → List (List ℕ) → WasiState
first_host room version arguments environment = record {
  files = fresh;
  descriptors = first_descriptors;
  unread = [];
  input_ended = false;
  last_monotonic = 0;
  first = [];
  second = [];
  lines = [];
  arguments = arguments;
  environment = environment;
  room = room;
  version = version;
}

-- ---- when a value is a host

-- the node is there
abbrev pub IsThere : Files → Target → Type 0
IsThere fs (Stream s) = Unit {0}
IsThere fs (Node k) = IsSomething (node_of fs k)
  where
    IsSomething : {X : Type 0} → Option X → Type 0
    IsSomething None = ⊥
    IsSomething (Some x) = Unit {0}

-- a descriptor's target is there, and its numbers are in range
pub record IsDescriptor (fs : Files) (d : Descriptor) : Type 0 where
  pub there : IsThere fs d.target
  pub offset : d.offset < 2 ^ 63
  pub flags : d.flags ≤ 31
  pub base : are_within d.base all_rights ≡ true
  pub inheriting : are_within d.inheriting all_rights ≡ true

-- stream 0 is read, and 1 and 2 are written
abbrev pub stream_rights : ℕ → ℕ
stream_rights s = if s == 0 then input_rights else output_rights

-- one of the three streams is at its own number, with its rights, and hands none on
pub record IsStreamAt (n s : ℕ) (d : Descriptor) : Type 0 where
  pub number : n ≡ s
  pub few : s ≤ 2
  pub base : d.base ≡ stream_rights s
  pub inheriting : d.inheriting ≡ 0

-- an unfinished line is short, and has no newline
pub record IsUnfinished (text : List ℕ) : Type 0 where
  pub short : length text ≤ LINE_BYTES
  pub are_bytes : AreBytes text
  pub no_newline : AllByRecursion IsNoNewline text

-- a node without a path
abbrev pub IsRemoved : Files → ℕ → Type 0
IsRemoved fs k = (n : FileNode) × (node_of fs k ≡ Some n) × (n.path ≡ None)

-- a host that calls can leave: what holds before and after each of them
pub record IsWasiState (h : WasiState) : Type 0 where
  pub files : IsFiles h.files
  -- all files are within their room
  pub within : used h.files ≤ h.room
  pub places : length h.descriptors ≡ DESCRIPTORS
  pub descriptors : AllByRecursion (λ (o : Option Descriptor).
      IfSome o (IsDescriptor h.files)) h.descriptors
  -- a descriptor that names a stream is that stream's, and 3 names the root
  pub streams : (n s : ℕ) (d : Descriptor) → slice_get h.descriptors n ≡ Some (Some d)
      → d.target ≡ Stream s → IsStreamAt n s d
  pub root : (d : Descriptor) × (slice_get h.descriptors 3 ≡ Some (Some d)) × (d.target ≡ Node 1)
  pub unread : AreBytes h.unread
  pub last_monotonic : IsTime h.last_monotonic
  pub first : IsUnfinished h.first
  pub second : IsUnfinished h.second
  -- a removed node is one that a descriptor names
  pub open_nodes : (k : ℕ) → IsRemoved h.files k → (n : ℕ) × (d : Descriptor)
      × (slice_get h.descriptors n ≡ Some (Some d)) × (d.target ≡ Node k)
