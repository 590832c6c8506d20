-- Images of small processes, spelled byte by byte.
use Rattle.std.specs.Prelude.{◌≡◌, ℕ, List, [], ◌∷◌, ◌++◌, length, true, false, Some, None}
use Rattle.wasm_syntax.specs.declared.value.Trap.{Trap}
use Rattle.wasm_syntax.specs.declared.value.Trap.TheVariants as trap
use Rattle.wasi_abi.specs.declared.version.Version.TheVariants.{One, Two}
use Rattle.file_tree.specs.rules.Files.{Files, Directory, File}
use Rattle.wasi_calls_rules.specs.WasiStates.{Stream, Node}
use Rattle.process_rules.specs.Processes.{Ending, Exited, Trapped}
use Rattle.state_image.specs.rules.ProcessImage.{Saved, memory_bytes, phase_bytes, process_image}
use Rattle.state_image.specs.laws.Marks.{IsVersionOf}

-- ---- a process

-- A directory `a` with a file `c`, a file `b`, and a removed file. The node of `b` is older than
-- that of `a`.
abbrev pub sample_files : Files
sample_files = record {
  nodes = record { number = 1; path = Some []; content = Directory }
      ∷ record { number = 2; path = Some ((98 ∷ []) ∷ []); content = File (9 ∷ 10 ∷ []) }
      ∷ record { number = 3; path = Some ((97 ∷ []) ∷ []); content = Directory }
      ∷ record { number = 4; path = Some ((97 ∷ []) ∷ (99 ∷ []) ∷ []); content = File [] }
      ∷ record { number = 5; path = None; content = File (12 ∷ []) }
      ∷ [];
  next = 6;
}

-- Two frames, the running one first, two globals and no memory. The step count has eight bytes of
-- its own, and 513 is 1 and 2 times 256. Stream 2 has an offset, as none has that is well typed.
abbrev pub sample : Saved
sample = record {
  version = One;
  machine = record {
    frames = record { function = 3; position = 4; slots = 5 ∷ 6 ∷ [] }
        ∷ record { function = 2; position = 1; slots = 8 ∷ [] }
        ∷ [];
    globals = 11 ∷ 513 ∷ [];
    memory = [];
    later = [];
  };
  files = sample_files;
  descriptors = Some (record
      { target = Stream 0; offset = 0; flags = 0; base = 2; inheriting = 0 })
      ∷ None
      ∷ Some (record { target = Stream 2; offset = 14; flags = 0; base = 64; inheriting = 0 })
      ∷ Some (record { target = Node 1; offset = 0; flags = 0; base = 513; inheriting = 127 })
      ∷ None
      ∷ Some (record { target = Node 5; offset = 7; flags = 257; base = 4; inheriting = 16 })
      ∷ [];
  unread = 97 ∷ 98 ∷ [];
  input_ended = true;
  last_monotonic = 9;
  first = 99 ∷ [];
  second = [];
  steps = 578437695752307201;
  answers = 7;
  requests = 5;
  lines = 3;
  ended = None;
}

-- ---- its image

-- a number below 256 in two, four and eight bytes
abbrev pub in_two : ℕ → List ℕ
in_two b = b ∷ 0 ∷ []

abbrev pub in_four : ℕ → List ℕ
in_four b = b ∷ 0 ∷ 0 ∷ 0 ∷ []

abbrev pub in_eight : ℕ → List ℕ
in_eight b = b ∷ 0 ∷ 0 ∷ 0 ∷ 0 ∷ 0 ∷ 0 ∷ 0 ∷ []

-- the mark up to the digit of the version
abbrev pub mark_with : ℕ → List ℕ
mark_with digit = 68 ∷ 87 ∷ 73 ∷ 77 ∷ 65 ∷ 71 ∷ 69 ∷ digit ∷ []

-- steps, answers, requests, lines, the last monotonic time; phase, code, input ended
abbrev pub sample_front : List ℕ
sample_front =
    (1 ∷ 2 ∷ 3 ∷ 4 ∷ 5 ∷ 6 ∷ 7 ∷ 8 ∷ []) ++ in_eight 7 ++ in_eight 5 ++ in_eight 3 ++ in_eight 9
    ++ (1 ∷ []) ++ in_four 0 ++ (1 ∷ [])

-- the unread bytes and the two unfinished lines
abbrev pub sample_streams : List ℕ
sample_streams = in_four 2 ++ (97 ∷ 98 ∷ []) ++ in_four 1 ++ (99 ∷ []) ++ in_four 0

-- two globals, two frames, and no page
abbrev pub sample_machine : List ℕ
sample_machine =
    in_four 2 ++ in_eight 11 ++ (1 ∷ 2 ∷ 0 ∷ 0 ∷ 0 ∷ 0 ∷ 0 ∷ 0 ∷ [])
    ++ in_four 2
    ++ in_four 2 ++ in_four 1 ++ in_four 1 ++ in_eight 8
    ++ in_four 3 ++ in_four 4 ++ in_four 2 ++ in_eight 5 ++ in_eight 6
    ++ in_four 0

-- the next number and five nodes; the root's entries stand by their names
abbrev pub sample_nodes : List ℕ
sample_nodes =
    in_eight 6 ++ in_four 5
    ++ in_eight 1 ++ (3 ∷ []) ++ in_four 2
    ++ in_two 1 ++ (97 ∷ []) ++ in_eight 3
    ++ in_two 1 ++ (98 ∷ []) ++ in_eight 2
    ++ in_eight 2 ++ (4 ∷ []) ++ in_eight 2 ++ (9 ∷ 10 ∷ [])
    ++ in_eight 3 ++ (3 ∷ []) ++ in_four 1 ++ in_two 1 ++ (99 ∷ []) ++ in_eight 4
    ++ in_eight 4 ++ (4 ∷ []) ++ in_eight 0
    ++ in_eight 5 ++ (4 ∷ []) ++ in_eight 1 ++ (12 ∷ [])

-- four descriptors: number, type, node, offset, flags, and the two sets of rights
abbrev pub sample_descriptors : List ℕ
sample_descriptors =
    in_four 4
    ++ in_four 0 ++ (0 ∷ []) ++ in_eight 0 ++ in_eight 0 ++ in_two 0 ++ in_eight 2 ++ in_eight 0
    ++ in_four 2 ++ (2 ∷ []) ++ in_eight 0 ++ in_eight 14 ++ in_two 0 ++ in_eight 64 ++ in_eight 0
    ++ in_four 3 ++ (3 ∷ []) ++ in_eight 1 ++ in_eight 0 ++ in_two 0
    ++ (1 ∷ 2 ∷ 0 ∷ 0 ∷ 0 ∷ 0 ∷ 0 ∷ 0 ∷ []) ++ in_eight 127
    ++ in_four 5 ++ (4 ∷ []) ++ in_eight 5 ++ in_eight 7 ++ (1 ∷ 1 ∷ [])
    ++ in_eight 4 ++ in_eight 16

-- all after the mark
abbrev pub behind_mark : List ℕ
behind_mark =
    sample_front ++ sample_streams ++ sample_machine ++ sample_nodes ++ sample_descriptors

-- the same process, widened
abbrev pub sample_in_two : Saved
sample_in_two = record sample { version = Two }

-- one in its start function, whose input goes on
abbrev pub starting : Saved
starting = record sample {
  machine = record sample.machine { later = 2 ∷ [] };
  input_ended = false;
}

-- phase, code, and that input has ended, of a process with this end
abbrev pub phase_at : Ending → List ℕ
phase_at why = phase_bytes (record sample { ended = Some why })

abbrev pub phase_trapped : Trap → List ℕ
phase_trapped why = phase_at (Trapped why)

pub record ProcessImagesOnExamples : Type 0 where
  pub whole : process_image sample ≡ mark_with 49 ++ behind_mark
  -- in version 2 only the last byte of the mark is another one
  pub whole_in_two : process_image sample_in_two ≡ mark_with 50 ++ behind_mark
  -- both marks are read, and there is no third one
  pub mark_of_one : IsVersionOf (mark_with 49) (Some One)
  pub mark_of_two : IsVersionOf (mark_with 50) (Some Two)
  pub no_mark_of_three : IsVersionOf (mark_with 51) None
  pub in_start_function : phase_bytes starting ≡ 0 ∷ 0 ∷ 0 ∷ 0 ∷ 0 ∷ 0 ∷ []
  pub exited : phase_at (Exited 513) ≡ 2 ∷ 1 ∷ 2 ∷ 0 ∷ 0 ∷ 1 ∷ []
  pub unreachable : phase_trapped trap.Unreachable ≡ 3 ∷ 1 ∷ 0 ∷ 0 ∷ 0 ∷ 1 ∷ []
  pub divide_by_zero : phase_trapped trap.DivideByZero ≡ 3 ∷ 2 ∷ 0 ∷ 0 ∷ 0 ∷ 1 ∷ []
  pub overflow : phase_trapped trap.IntegerOverflow ≡ 3 ∷ 3 ∷ 0 ∷ 0 ∷ 0 ∷ 1 ∷ []
  pub out_of_bounds : phase_trapped trap.MemoryOutOfBounds ≡ 3 ∷ 4 ∷ 0 ∷ 0 ∷ 0 ∷ 1 ∷ []
  pub undefined : phase_trapped trap.UndefinedElement ≡ 3 ∷ 5 ∷ 0 ∷ 0 ∷ 0 ∷ 1 ∷ []
  pub uninitialized : phase_trapped trap.UninitializedElement ≡ 3 ∷ 6 ∷ 0 ∷ 0 ∷ 0 ∷ 1 ∷ []
  pub mismatch : phase_trapped trap.IndirectCallTypeMismatch ≡ 3 ∷ 7 ∷ 0 ∷ 0 ∷ 0 ∷ 1 ∷ []
  pub exhausted : phase_trapped trap.StackExhausted ≡ 3 ∷ 8 ∷ 0 ∷ 0 ∷ 0 ∷ 1 ∷ []
  -- pages, and then the bytes
  pub three_pages : (memory : List ℕ) → length memory ≡ 196608
      → memory_bytes memory ≡ in_four 3 ++ memory
