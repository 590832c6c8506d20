-- Worked examples of command lines.
use Rattle.std.specs.Prelude.{◌≡◌, ◌-◌, ◌^◌, ℕ, Bool, true, false, List, [], ◌∷◌, Option, Some}
use Rattle.std.specs.Prelude.{None, codes, map}
use Rattle.clap.specs.Words.{Text}
use Rattle.clap.specs.Kinds.{Kinds}
use Rattle.clap.specs.declared.error.ErrorKind.{ErrorKind}
use Rattle.clap.specs.declared.error.ErrorKind.TheVariants as kind
use Rattle.command_words.specs.rules.Commands.{CreateMeaning, Meaning, RunMeaning, check, create}
use Rattle.command_words.specs.rules.Commands.{StoryMeaning, faults_in_words, meaning_in, own_words}
use Rattle.command_words.specs.rules.Commands.{run, show, story, takes_own, SweepMeaning, file}
use Rattle.command_words.specs.rules.Commands.{files, history, inspect, listing, save, sweep, tree}
use Rattle.command_words.specs.rules.Commands.{upgrade}
use Rattle.command_words.specs.rules.Pieces.{pieces_of}

-- ---- lines that mean something

-- the program's name, and the words of a text, which a space parts
abbrev pub line : List ℕ → List Text
line text = codes "wasmhost" ∷ pieces_of 32 text

-- the faults that are listed for a line, whether the command takes its words, and what they mean
abbrev pub reading : List ℕ → Kinds × Bool × Option Meaning
reading text =
    (faults_in_words (line text), takes_own (own_words (line text)), meaning_in (line text))

-- no fault is listed for a line, and it means this
abbrev pub meant : Meaning → Kinds × Bool × Option Meaning
meant meaning = ([], true, Some meaning)

-- a line, and what it means
abbrev pub example : List ℕ → Meaning → List ℕ × Meaning
example text meaning = (text, meaning)

-- each line means what stands beside it
abbrev pub AllMean : List (List ℕ × Meaning) → Type 0
AllMean rows = map (λ (row : List ℕ × Meaning). reading row.0) rows
    ≡ map (λ (row : List ℕ × Meaning). meant row.1) rows

-- lines for a module's file, or for a disk that is only looked at
abbrev pub path_lines : List (List ℕ × Meaning)
path_lines =
    example (codes "check a.wasm") (check (codes "a.wasm") 256 false)
    ∷ example (codes "check a.wasm --all") (check (codes "a.wasm") 256 true)
    ∷ example (codes "check a.wasm --pages 17") (check (codes "a.wasm") 17 false)
    ∷ example (codes "check -- --fuel") (check (codes "--fuel") 256 false)
    ∷ example (codes "show a.disk") (show (codes "a.disk") false)
    ∷ example (codes "show a.disk --live") (show (codes "a.disk") true)
    ∷ example (codes "inspect a.disk") (inspect (codes "a.disk") false false)
    ∷ example (codes "inspect --json a.disk") (inspect (codes "a.disk") true false)
    ∷ example (codes "inspect --live --json a.disk") (inspect (codes "a.disk") true true)
    ∷ example (codes "files a.disk") (files (codes "a.disk") listing false)
    ∷ example (codes "files --live a.disk") (files (codes "a.disk") listing true)
    ∷ example (codes "files a.disk a/b") (files (codes "a.disk") (file (codes "a/b")) false)
    ∷ example (codes "files a.disk --all b") (files (codes "a.disk") (tree (codes "b")) false)
    ∷ example (codes "files --live --all=b a.disk") (files (codes "a.disk") (tree (codes "b")) true)
    ∷ example (codes "history a.disk") (history (codes "a.disk") false false)
    ∷ example (codes "history a.disk --story") (history (codes "a.disk") true false)
    ∷ example (codes "history a.disk --live") (history (codes "a.disk") false true)
    ∷ example (codes "upgrade a.disk") (upgrade (codes "a.disk"))
    ∷ example (codes "save a.disk b.disk") (save (codes "a.disk") (codes "b.disk") false)
    ∷ example (codes "save a.disk b.disk --live") (save (codes "a.disk") (codes "b.disk") true)
    ∷ []

-- a creation of which nothing else is said
abbrev pub plain_creation : CreateMeaning
plain_creation = record {
  disk = codes "a.disk";
  «module» = codes "a.wasm";
  pages = 16;
  files = 16;
  journal = 256;
  environment = [];
  on_device = false;
  predecessor = None;
  arguments = [];
}

-- lines for a creation
abbrev pub create_lines : List (List ℕ × Meaning)
create_lines =
    example (codes "create a.disk a.wasm") (create plain_creation)
    ∷ example (codes "create a.disk a.wasm --pages 1")
    (create (record plain_creation { pages = 1 }))
    ∷ example (codes "create a.disk a.wasm --files=2")
    (create (record plain_creation { files = 2 }))
    ∷ example (codes "create a.disk a.wasm --journal 64")
    (create (record plain_creation { journal = 64 }))
    ∷ example (codes "create a.disk a.wasm --pages 0")
    (create (record plain_creation { pages = 0 }))
    ∷ example (codes "create a.disk a.wasm --pages 18446744073709551615")
    (create (record plain_creation { pages = 2 ^ 64 - 1 }))
    ∷ example (codes "create a.disk a.wasm --env a=b --env c=")
    (create (record plain_creation { environment = codes "a=b" ∷ codes "c=" ∷ [] }))
    ∷ example (codes "create a.disk a.wasm --device")
    (create (record plain_creation { on_device = true }))
    ∷ example (codes "create a.disk a.wasm --from old.disk")
    (create (record plain_creation { predecessor = Some (codes "old.disk") }))
    ∷ example (codes "create a.disk a.wasm -- --device")
    (create (record plain_creation { arguments = codes "--device" ∷ [] }))
    ∷ example (codes "create a.disk a.wasm -- --pages -- b")
    (create (record plain_creation { arguments = codes "--pages" ∷ codes "--" ∷ codes "b" ∷ [] }))
    ∷ example (codes "create a.disk a.wasm --") (create plain_creation)
    ∷ []

-- a run of which nothing else is said
abbrev pub plain_run : RunMeaning
plain_run = record {
  disk = codes "a.disk";
  fuel = 100000;
  every = 100;
  batch = 1;
  seed = None;
  clock = None;
  rewrites = false;
  status = None;
  metrics = None;
  is_verbose = false;
  seed_file = None;
  whole_lines = false;
}

-- lines for a run
abbrev pub run_lines : List (List ℕ × Meaning)
run_lines =
    example (codes "run a.disk") (run plain_run)
    ∷ example (codes "run a.disk --fuel 7") (run (record plain_run { fuel = 7 }))
    ∷ example (codes "run a.disk --fuel 18446744073709551615")
    (run (record plain_run { fuel = 2 ^ 64 - 1 }))
    ∷ example (codes "run --fuel=7 a.disk") (run (record plain_run { fuel = 7 }))
    ∷ example (codes "run a.disk --every 1") (run (record plain_run { every = 1 }))
    ∷ example (codes "run a.disk --batch 64") (run (record plain_run { batch = 64 }))
    ∷ example (codes "run a.disk --batch=65536") (run (record plain_run { batch = 65536 }))
    ∷ example (codes "run a.disk --seed 0A") (run (record plain_run { seed = Some (codes "0A") }))
    ∷ example (codes "run a.disk --clock=0") (run (record plain_run { clock = Some 0 }))
    ∷ example (codes "run a.disk --rewrite") (run (record plain_run { rewrites = true }))
    ∷ example (codes "run a.disk --status a.status")
    (run (record plain_run { status = Some (codes "a.status") }))
    ∷ example (codes "run a.disk --metrics a.prom")
    (run (record plain_run { metrics = Some (codes "a.prom") }))
    ∷ example (codes "run a.disk --verbose") (run (record plain_run { is_verbose = true }))
    ∷ example (codes "run a.disk --seed-file a.seed")
    (run (record plain_run { seed_file = Some (codes "a.seed") }))
    ∷ example (codes "run a.disk --whole-lines") (run (record plain_run { whole_lines = true }))
    ∷ example (codes "run -- a.disk") (run plain_run)
    ∷ []

-- a story of which nothing else is said
abbrev pub plain_story : StoryMeaning
plain_story = record {
  script = codes "a.story";
  «module» = codes "a.wasm";
  pages = 1;
  files = 1;
  journal = 64;
}

-- lines for a story
abbrev pub story_lines : List (List ℕ × Meaning)
story_lines =
    example (codes "story a.story a.wasm") (story plain_story)
    ∷ example (codes "story --pages 2 a.story --files=3 a.wasm --journal 65")
    (story (record plain_story { pages = 2; files = 3; journal = 65 }))
    ∷ example (codes "story a.story a.wasm --pages 0") (story (record plain_story { pages = 0 }))
    ∷ example (codes "story a.story a.wasm --journal=18446744073709551615")
    (story (record plain_story { journal = 2 ^ 64 - 1 }))
    ∷ example (codes "story -- --pages --")
    (story (record plain_story { script = codes "--pages"; «module» = codes "--" }))
    ∷ []

-- a sweep of which nothing else is said
abbrev pub plain_sweep : SweepMeaning
plain_sweep = record {
  script = codes "a.story";
  «module» = codes "a.wasm";
  pages = 1;
  files = 1;
  journal = 64;
  fronts = None;
  life = None;
}

-- lines for a sweep
abbrev pub sweep_lines : List (List ℕ × Meaning)
sweep_lines =
    example (codes "sweep a.story a.wasm") (sweep plain_sweep)
    ∷ example (codes "sweep a.story a.wasm --fronts 0,512")
    (sweep (record plain_sweep { fronts = Some (codes "0,512") }))
    ∷ example (codes "sweep a.story a.wasm --life=2 --pages 3")
    (sweep (record plain_sweep { pages = 3; life = Some 2 }))
    ∷ []

-- all these lines
pub record MeaningExamples : Type 0 where
  pub paths : AllMean path_lines
  pub creations : AllMean create_lines
  pub runs : AllMean run_lines
  pub stories : AllMean story_lines
  pub sweeps : AllMean sweep_lines

-- ---- lines with a fault

-- each of these lines has this fault, and no other
abbrev pub AllFail : ErrorKind → List (List ℕ) → Type 0
AllFail why texts = map (λ text. faults_in_words (line text)) texts ≡ map (λ _. why ∷ []) texts

-- no command, another one, or too few or too many paths
pub record PathMistakes : Type 0 where
  pub no_command : faults_in_words (codes "wasmhost" ∷ []) ≡ kind.MissingSubcommand ∷ []
  pub unknown_command : faults_in_words (line (codes "open a"))
      ≡ kind.UnknownArgument ∷ kind.InvalidSubcommand ∷ []
  pub too_few : AllFail kind.MissingRequiredArgument (
      codes "check" ∷ codes "create a.disk" ∷ codes "create a.disk -- a.wasm" ∷ codes "run"
      ∷ codes "show" ∷ codes "inspect" ∷ codes "files" ∷ codes "history" ∷ codes "upgrade"
      ∷ codes "save a.disk" ∷ codes "story" ∷ codes "story a.story" ∷ codes "sweep a.story" ∷ [])
  pub too_many : AllFail kind.UnknownArgument (
      codes "create a.disk a.wasm b.wasm" ∷ codes "run a.disk b.disk" ∷ codes "run a.disk -- b"
      ∷ codes "show a.disk b.disk" ∷ codes "files a.disk a b" ∷ codes "history a.disk b.disk"
      ∷ codes "upgrade a.disk b.disk" ∷ codes "save a.disk b.disk c.disk"
      ∷ codes "story a.story a.wasm b.wasm" ∷ codes "story a.story a.wasm -- b" ∷ [])
  pub path_and_folder : AllFail kind.ArgumentConflict (
      codes "files a.disk a --all b" ∷ codes "files --all=b --live a.disk a" ∷ [])

-- an option without its value, with another one, twice, or of another command
pub record OptionMistakes : Type 0 where
  pub without_value : AllFail kind.InvalidValue (
      codes "run a.disk --fuel" ∷ codes "run a.disk --status" ∷ codes "create a.disk a.wasm --from"
      ∷ codes "create a.disk a.wasm --env" ∷ codes "files a.disk --all" ∷ [])
  pub other_value : AllFail kind.ValueValidation (
      codes "run a.disk --fuel 0" ∷ codes "run a.disk --fuel 18446744073709551616"
      ∷ codes "run a.disk --every 0" ∷ codes "run a.disk --every a" ∷ codes "run a.disk --batch 0"
      ∷ codes "run a.disk --batch 65537" ∷ codes "run a.disk --clock=-1"
      ∷ codes "create a.disk a.wasm --pages 18446744073709551616"
      ∷ codes "create a.disk a.wasm --files one" ∷ codes "create a.disk a.wasm --journal=-1"
      ∷ codes "story a.story a.wasm --pages one"
      ∷ codes "story a.story a.wasm --journal 18446744073709551616"
      ∷ codes "sweep a.story a.wasm --life 0" ∷ [])
  pub value_of_a_flag : AllFail kind.TooManyValues (
      codes "run a.disk --rewrite=yes" ∷ codes "save a.disk b.disk --live=yes" ∷ [])
  pub twice : AllFail kind.ArgumentConflict (
      codes "run a.disk --fuel 1 --fuel 2" ∷ codes "run a.disk --seed 0 --seed 1"
      ∷ codes "run a.disk --rewrite --rewrite" ∷ codes "create a.disk a.wasm --from a --from b"
      ∷ codes "story a.story a.wasm --files=1 --files=2" ∷ codes "history a.disk --story --story"
      ∷ codes "files a.disk --all=b --all=c" ∷ codes "show a.disk --live --live"
      ∷ codes "sweep a.story a.wasm --fronts=0 --fronts=1" ∷ [])
  pub of_another_command : AllFail kind.UnknownArgument (
      codes "run a.disk --device" ∷ codes "run a.disk --from b.disk" ∷ codes "check a.wasm --fuel 7"
      ∷ codes "create a.disk a.wasm --fuel 7" ∷ codes "upgrade a.disk --fuel 7"
      ∷ codes "run a.disk --pages 1" ∷ codes "run a.disk --env a=b"
      ∷ codes "story a.story a.wasm --fuel 7" ∷ codes "history a.disk --json"
      ∷ codes "run a.disk --live" ∷ codes "upgrade a.disk --live"
      ∷ codes "story a.story a.wasm --life 1" ∷ codes "story a.story a.wasm --env a=b" ∷ [])

-- help or the version is asked for
pub record HelpExamples : Type 0 where
  pub help : AllFail kind.DisplayHelp (
      codes "--help" ∷ codes "create --help" ∷ codes "run -h" ∷ codes "story --help" ∷ [])
  pub version : AllFail kind.DisplayVersion (
      codes "--version" ∷ codes "-V" ∷ [])
  pub version_of_a_run : AllFail kind.UnknownArgument (
      codes "run a.disk --version" ∷ [])
