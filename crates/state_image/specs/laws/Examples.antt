-- The image of a process that has just begun, with one page of memory and an empty file system.
use Rattle.std.specs.Prelude.{◌≡◌, ℕ, List, [], ◌∷◌, length, false, None}
use Rattle.wasi_abi.specs.declared.version.Version.TheVariants.{One}
use Rattle.file_tree.specs.rules.Files.{fresh}
use Rattle.wasi_calls_rules.specs.WasiStates.{first_descriptors}
use Rattle.state_image.specs.rules.ProcessImage.{Saved, process_image}

-- one frame without locals, at its first instruction, and one page
abbrev pub fresh_process : List ℕ → Saved
fresh_process memory = record {
  version = One;
  machine = record {
    frames = record { function = 2; position = 0; slots = [] } ∷ [];
    globals = [];
    memory = memory;
    later = [];
  };
  files = fresh;
  descriptors = first_descriptors;
  unread = [];
  input_ended = false;
  last_monotonic = 0;
  first = [];
  second = [];
  steps = 0;
  answers = 0;
  requests = 0;
  lines = 0;
  ended = None;
}

abbrev pub FreshProcessImageSize : Type 0
FreshProcessImageSize = (memory : List ℕ) → length memory ≡ 65536
    → length (process_image (fresh_process memory)) ≡ 65811
