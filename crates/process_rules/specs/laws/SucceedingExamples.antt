-- A worked example of a process that goes on from another one, under any configuration that has
-- room for its files.
use Rattle.std.specs.Prelude.{◌≡◌, ℕ, ◌≤◌, List, [], ◌∷◌, ◌++◌, Some, codes}
use Rattle.wasm_syntax.specs.laws.Examples.{hello}
use Rattle.wasi_abi.specs.declared.version.Version.TheVariants.{Two}
use Rattle.wasi_abi.specs.rules.Configs.{Settings}
use Rattle.file_tree.specs.rules.Files.{Files, Directory, File}
use Rattle.wasi_calls_rules.specs.WasiStates.{Line}
use Rattle.wasi_calls_rules.specs.declared.output_stream.OutputStream.TheVariants.{Stdout, Stderr}
use Rattle.process_rules.specs.Processes.{ProcessState, Exited, host_of}
use Rattle.process_rules.specs.Origins.{Origin}
use Rattle.process_rules.specs.Runs.{Kept, Succeeds, widened, first_kept, Reaches}
use Rattle.process_rules.specs.Behind.{AnswersBehindLine, IsLine}
use Rattle.process_rules.specs.laws.Examples.{ComesTo, at_rest, hello_memory}

-- the first line of the process before
abbrev pub milk_line : Line
milk_line = record { stream = Stdout; text = codes "milk" }

-- the three lines that it has emitted
abbrev pub three_lines : List Line
three_lines =
    milk_line ∷ record { stream = Stderr; text = [] }
    ∷ record { stream = Stdout; text = codes "tea" } ∷ []

-- Beside the root it leaves one file. Node 2 was removed before, and its number isn't used again.
abbrev pub files_left : Files
files_left = record {
  nodes = record { number = 1; path = Some []; content = Directory }
      ∷ record {
        number = 3;
        path = Some (codes "notes" ∷ []);
        content = File (codes "milk");
      } ∷ [];
  next = 4;
}

-- What it leaves: seven steps, the change of code among them, and two answers, one of them a
-- request.
abbrev pub left : Origin
left = record {
  files = files_left;
  lines = three_lines;
  steps = 7;
  answers = 2;
  requests = 1;
  last_monotonic = 5;
}

-- the line of `hello`
abbrev pub hi_line : Line
hi_line = record { stream = Stdout; text = codes "hi" }

-- Where `hello` ends that goes on from there: eight steps later, with one line more. It has opened
-- no file and asked for no time, so these are as they were left.
abbrev pub succeeded_end : Settings → ProcessState
succeeded_end config = record {
  configuration = at_rest hello_memory;
  host = record (host_of config) {
    files = files_left;
    lines = three_lines ++ hi_line ∷ [];
    last_monotonic = 5;
  };
  steps = 15;
  answers = 2;
  requests = 1;
  ended = Some (Exited 7);
}

-- what is kept of such a worker, of version 1, before its first request
abbrev pub succeeds : List Kept
succeeds = Succeeds left ∷ []

-- `hello` goes on from there to that end, and its line is the fourth. All four lines are behind the
-- origin. No front without the origin has a line: else line 1 would be `hi`, too. Of version 2 it
-- comes to the same end but for the widening, which is one more answer.
pub record HelloSucceeds (config : Settings) : Type 0 where
  pub comes : ComesTo hello config succeeds (succeeded_end config)
  pub behind : (i : ℕ) → i ≤ 4 → AnswersBehindLine hello config succeeds i 1
  pub no_other : (i a : ℕ) → 1 ≤ i → AnswersBehindLine hello config succeeds i a
      → (i ≤ 4) × (a ≡ 1)
  pub fourth : IsLine hello config succeeds 4 hi_line
  pub first : (line : Line) → IsLine hello config succeeds 1 line → line ≡ milk_line
  pub wide : ComesTo hello config (first_kept Two left) (widened (succeeded_end config))

-- Without room for the file nothing is reached from there.
abbrev pub HelloHasNoRoom : Settings → Type 0
HelloHasNoRoom config =
    (n : ℕ) (p : ProcessState) → config.files ≡ 0 → Reaches hello config succeeds n p → ⊥

abbrev pub HelloGoesOn : Settings → Type 0
HelloGoesOn config = (1 ≤ config.files → HelloSucceeds config) × HelloHasNoRoom config
