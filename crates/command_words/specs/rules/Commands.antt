-- The order that the words of a command line give.
use Rattle.std.specs.Prelude.{◌≡◌, ◌⊎◌, ◌≤◌, ⊤, ℕ, Bool, List, [], ◌∷◌, true, false, Option}
use Rattle.std.specs.Prelude.{◌&&◌, is_some, not}
use Rattle.std.specs.Prelude.{Some, None, Result, option_map, option_and_then, unwrap_or, slice_get}
use Rattle.std.specs.Prelude.{if◌then◌else◌, codes, ◌≢◌, ◌-◌, ◌^◌, IfSome, MatchResult}
use Rattle.std.specs.Option.{option_map_or}
use Rattle.std.specs.Int.NonZero.{non_zero_u64_get}
use Rattle.std.specs.Str.{bytes_eq}
use Rattle.std.specs.Str.Parse.{digits_value, without_leading_plus}
use Rattle.clap.specs.Words.{IsAmong, IsUnsignedIn, Kinds, Row, Text, all_of, fault_of, first_of}
use Rattle.clap.specs.Words.{kind_of, one_of, subcommand_of, subcommand_rows_of, takes}
use Rattle.clap.specs.Kinds.{or_else}
use Rattle.clap.specs.declared.error.ErrorKind.TheVariants as kind
use Rattle.clap.specs.declared.error.Error.{Error}
use Rattle.clap.specs.declared.parser.matches.ArgMatches.{ArgMatches}
use Rattle.command_words.specs.rules.CommandLine.{wasmhost}
use Rattle.command_words.specs.rules.Texts.{texts_in}
use Rattle.command_words.specs.declared.command_line.CreateOrder.{CreateOrder}
use Rattle.command_words.specs.declared.command_line.FilesOrder.{FilesOrder}
use Rattle.command_words.specs.declared.command_line.FilesOrder.TheVariants as asked
use Rattle.command_words.specs.declared.command_line.RunOrder.{RunOrder}
use Rattle.command_words.specs.declared.command_line.StoryOrder.{StoryOrder}
use Rattle.command_words.specs.declared.command_line.SweepOrder.{SweepOrder}
use Rattle.command_words.specs.declared.command_line.Order.{Order}
use Rattle.command_words.specs.declared.command_line.Order.TheVariants.{Check, Create, Run, Show}
use Rattle.command_words.specs.declared.command_line.Order.TheVariants.{History, Save, Story, Sweep}
use Rattle.command_words.specs.declared.command_line.Order.TheVariants.{Inspect, Files, Upgrade}
use Rattle.command_words.specs.declared.command_line.WordsFault.{WordsFault}
use Rattle.command_words.specs.declared.command_line.WordsFault.TheVariants as fault
use Rattle.command_words.specs.declared.status.Status.{Status}
use Rattle.command_words.specs.declared.status.Status.TheVariants as exit

-- ---- the words behind `--`

-- a line for a creation, as its second word says
abbrev pub is_create : List Text → Bool
is_create words =
    option_map_or (λ word. bytes_eq word (codes "create")) (slice_get words 1) false

-- the words in front of the first `--`
abbrev pub before_dashes : List Text → List Text
before_dashes [] = []
before_dashes (word ∷ words) = if bytes_eq word (codes "--") then [] else word ∷ before_dashes words

-- and those after it
abbrev pub behind_dashes : List Text → List Text
behind_dashes [] = []
behind_dashes (word ∷ words) = if bytes_eq word (codes "--") then words else behind_dashes words

-- the words that the command reads
abbrev pub own_words : List Text → List Text
own_words words = if is_create words then before_dashes words else words

-- the words that a creation hands to its guest
abbrev pub guest_words : List Text → List Text
guest_words words = if is_create words then behind_dashes words else []

-- ---- arguments that exclude each other

-- a command, by its name and the rows of what is after it, with PATH and `--all` of `files`
abbrev pub has_conflict : Text × List Row → Bool
has_conflict met = bytes_eq met.0 (codes "files")
    && (is_some (first_of (codes "PATH") met.1) && is_some (first_of (codes "FOLDER") met.1))

-- the words that the command reads have both
abbrev pub conflict_in : List Text → Bool
conflict_in words = option_map_or has_conflict (subcommand_of wasmhost words) false

-- the kinds of fault that are listed for the words that the command reads
abbrev pub faults_in_own : List Text → Kinds
faults_in_own words = or_else (fault_of wasmhost words)
    (if conflict_in words then kind.ArgumentConflict ∷ [] else [])

-- the command takes the words that it reads
abbrev pub takes_own : List Text → Bool
takes_own words = takes wasmhost words && not (conflict_in words)

-- the kinds of fault that are listed for the words of a line
abbrev pub faults_in_words : List Text → Kinds
faults_in_words words = faults_in_own (own_words words)

-- ---- orders

-- What a creation says: the paths of the disk, of the module and of the disk whose worker is
-- succeeded, the environment and the arguments, as texts; whether the disk is a block device; and
-- the others as numbers.
pub record CreateMeaning : Type 0 where
  pub disk : Text
  pub «module» : Text
  pub pages : ℕ
  pub files : ℕ
  pub journal : ℕ
  pub environment : List Text
  pub on_device : Bool
  pub predecessor : Option Text
  pub arguments : List Text

-- What a run says: the paths of the disk, of a status file, of a file of metrics and of a file with
-- a seed, and a seed, as texts; whether it writes all sectors back first; whether it says what a
-- terminal is told; whether it takes whole lines alone; and the others as numbers.
pub record RunMeaning : Type 0 where
  pub disk : Text
  pub fuel : ℕ
  pub every : ℕ
  pub batch : ℕ
  pub seed : Option Text
  pub clock : Option ℕ
  pub rewrites : Bool
  pub status : Option Text
  pub metrics : Option Text
  pub is_verbose : Bool
  pub seed_file : Option Text
  pub whole_lines : Bool

-- what a story says: the paths of the script and of the module, and its sizes
pub record StoryMeaning : Type 0 where
  pub script : Text
  pub «module» : Text
  pub pages : ℕ
  pub files : ℕ
  pub journal : ℕ

-- What a sweep says: the paths of the script and of the module, its sizes, the fronts as a text,
-- and the number of the swept life.
pub record SweepMeaning : Type 0 where
  pub script : Text
  pub «module» : Text
  pub pages : ℕ
  pub files : ℕ
  pub journal : ℕ
  pub fronts : Option Text
  pub life : Option ℕ

-- What a look at files says: they are listed, or the one at this path is given, or all are written
-- into this folder.
pub data FilesMeaning : Type 0 where
  listing : FilesMeaning
  file : Text → FilesMeaning
  tree : Text → FilesMeaning

-- What an order says. The last word of a look or a copy is whether the disk is only looked at,
-- while its worker may run.
pub data Meaning : Type 0 where
  check : Text → ℕ → Bool → Meaning
  create : CreateMeaning → Meaning
  run : RunMeaning → Meaning
  show : Text → Bool → Meaning
  inspect : Text → Bool → Bool → Meaning
  files : Text → FilesMeaning → Bool → Meaning
  history : Text → Bool → Bool → Meaning
  upgrade : Text → Meaning
  save : Text → Text → Bool → Meaning
  story : StoryMeaning → Meaning
  sweep : SweepMeaning → Meaning

-- what an order to create says
abbrev pub create_said : CreateOrder → CreateMeaning
create_said order = record {
  disk = order.disk.now;
  «module» = order.module.now;
  pages = order.pages;
  files = order.files;
  journal = order.journal;
  environment = texts_in order.environment.items;
  on_device = order.on_device;
  predecessor = option_map (λ text. text.now) order.predecessor;
  arguments = texts_in order.arguments.items;
}

-- what an order to run says
abbrev pub run_said : RunOrder → RunMeaning
run_said order = record {
  disk = order.disk.now;
  fuel = non_zero_u64_get order.fuel;
  every = non_zero_u64_get order.every;
  batch = non_zero_u64_get order.batch;
  seed = option_map (λ text. text.now) order.seed;
  clock = order.clock;
  rewrites = order.rewrites;
  status = option_map (λ text. text.now) order.status;
  metrics = option_map (λ text. text.now) order.metrics;
  is_verbose = order.is_verbose;
  seed_file = option_map (λ text. text.now) order.seed_file;
  whole_lines = order.whole_lines;
}

-- what an order to tell a story says
abbrev pub story_said : StoryOrder → StoryMeaning
story_said order = record {
  script = order.script.now;
  «module» = order.module.now;
  pages = order.pages;
  files = order.files;
  journal = order.journal;
}

-- what an order to sweep says
abbrev pub sweep_said : SweepOrder → SweepMeaning
sweep_said order = record {
  script = order.script.now;
  «module» = order.module.now;
  pages = order.pages;
  files = order.files;
  journal = order.journal;
  fronts = option_map (λ text. text.now) order.fronts;
  life = order.life;
}

-- what is asked for of files
abbrev pub files_said : FilesOrder → FilesMeaning
files_said asked.List = listing
files_said (asked.File path) = file path.now
files_said (asked.Tree folder) = tree folder.now

-- what an order says
abbrev pub meaning_of : Order → Meaning
meaning_of (Check order) = check order.path.now order.pages order.lists_all
meaning_of (Create order) = create (create_said order)
meaning_of (Run order) = run (run_said order)
meaning_of (Show path is_live) = show path.now is_live
meaning_of (Inspect path as_json is_live) = inspect path.now as_json is_live
meaning_of (Files disk asked is_live) = files disk.now (files_said asked) is_live
meaning_of (History path as_story is_live) = history path.now as_story is_live
meaning_of (Upgrade path) = upgrade path.now
meaning_of (Save disk copy is_live) = save disk.now copy.now is_live
meaning_of (Story order) = story (story_said order)
meaning_of (Sweep order) = sweep (sweep_said order)

-- ---- what is behind a command

-- the number that a text spells in decimal digits; a plus and zeros in front change nothing
abbrev pub spelled_number : Text → ℕ
spelled_number text = digits_value 10 (without_leading_plus text)

-- the number that an option gives, if it is there
abbrev pub number_given : Text → List Row → Option ℕ
number_given name rows = option_map spelled_number (one_of name rows)

-- or another one
abbrev pub number_or : Text → ℕ → List Row → ℕ
number_or name other rows = option_map_or spelled_number (one_of name rows) other

-- the flag is there
abbrev pub flag_in : Text → List Row → Bool
flag_in name rows = option_map_or (λ text. bytes_eq text (codes "true")) (one_of name rows) false

-- `--live` is there
abbrev pub live_in : List Row → Bool
live_in = flag_in (codes "live")

-- what is asked for of files, where not both PATH and `--all` are there
abbrev pub files_in : List Row → FilesMeaning
files_in rows = option_map_or tree (first_of (codes "FOLDER") rows)
    (option_map_or file (first_of (codes "PATH") rows) listing)

-- the text of DISK
abbrev pub disk_in : List Row → Option Text
disk_in = first_of (codes "DISK")

-- the text of COPY
abbrev pub copy_in : List Row → Option Text
copy_in = first_of (codes "COPY")

-- the text of MODULE
abbrev pub module_in : List Row → Option Text
module_in = first_of (codes "MODULE")

-- the text of SCRIPT
abbrev pub script_in : List Row → Option Text
script_in = first_of (codes "SCRIPT")

-- the texts that `--env` gives, in their order
abbrev pub environment_in : List Row → List Text
environment_in rows = unwrap_or (all_of (codes "env") rows) []

-- What a creation means with these paths, the rows of what is before `--`, and the words after it.
-- Where no number is given, there are 16 pages, 16 units of files and 256 sectors of the journal.
abbrev pub create_in : List Row → List Text → Text → Text → CreateMeaning
create_in rows arguments disk wasm = record {
  disk = disk;
  «module» = wasm;
  pages = number_or (codes "pages") 16 rows;
  files = number_or (codes "files") 16 rows;
  journal = number_or (codes "journal") 256 rows;
  environment = environment_in rows;
  on_device = flag_in (codes "device") rows;
  predecessor = first_of (codes "from") rows;
  arguments = arguments;
}

-- What a run means with this path and the rows of what is after it. Where no number is given, there
-- are 100,000 steps a slice, a checkpoint after each 100 slices, and a sync for each line.
abbrev pub run_in : List Row → Text → RunMeaning
run_in rows disk = record {
  disk = disk;
  fuel = number_or (codes "fuel") 100000 rows;
  every = number_or (codes "every") 100 rows;
  batch = number_or (codes "batch") 1 rows;
  seed = first_of (codes "seed") rows;
  clock = number_given (codes "clock") rows;
  rewrites = flag_in (codes "rewrite") rows;
  status = first_of (codes "status") rows;
  metrics = first_of (codes "metrics") rows;
  is_verbose = flag_in (codes "verbose") rows;
  seed_file = first_of (codes "seed-file") rows;
  whole_lines = flag_in (codes "whole-lines") rows;
}

-- What a story means with these paths and the rows of what is after its word. Where no number is
-- given, there are 1 page, 1 unit of files and 64 sectors of the journal.
abbrev pub story_in : List Row → Text → Text → StoryMeaning
story_in rows script wasm = record {
  script = script;
  «module» = wasm;
  pages = number_or (codes "pages") 1 rows;
  files = number_or (codes "files") 1 rows;
  journal = number_or (codes "journal") 64 rows;
}

-- what a sweep means with these paths and the rows of what is after its word
abbrev pub sweep_in : List Row → Text → Text → SweepMeaning
sweep_in rows script wasm = record {
  script = script;
  «module» = wasm;
  pages = number_or (codes "pages") 1 rows;
  files = number_or (codes "files") 1 rows;
  journal = number_or (codes "journal") 64 rows;
  fronts = first_of (codes "fronts") rows;
  life = number_given (codes "life") rows;
}

-- What a check means with this path and the rows of what is after its word. Where no number is
-- given, there are 256 pages.
abbrev pub check_in : List Row → Text → Meaning
check_in rows wasm =
    check wasm (number_or (codes "pages") 256 rows) (flag_in (codes "all") rows)

-- what a look at all facts means with this path and the rows of what is after its word
abbrev pub inspect_in : List Row → Text → Meaning
inspect_in rows disk = inspect disk (flag_in (codes "json") rows) (live_in rows)

-- what a look at records means with this path and the rows of what is after its word
abbrev pub history_in : List Row → Text → Meaning
history_in rows disk = history disk (flag_in (codes "story") rows) (live_in rows)

-- a check, where its path is there
abbrev pub check_below : List Row → Option Meaning
check_below rows = option_map (check_in rows) (module_in rows)

-- a creation, where both paths are there
abbrev pub creation_below : List Text → List Row → Option Meaning
creation_below arguments rows = option_and_then (λ disk. option_map (λ wasm.
    create (create_in rows arguments disk wasm)) (module_in rows)) (disk_in rows)

-- a copy, where both paths are there
abbrev pub save_below : List Row → Option Meaning
save_below rows = option_and_then (λ disk. option_map (λ copy. save disk copy (live_in rows))
    (copy_in rows)) (disk_in rows)

-- a story, where both paths are there
abbrev pub story_below : List Row → Option Meaning
story_below rows = option_and_then (λ script. option_map (λ wasm.
    story (story_in rows script wasm)) (module_in rows)) (script_in rows)

-- a sweep, where both paths are there
abbrev pub sweep_below : List Row → Option Meaning
sweep_below rows = option_and_then (λ script. option_map (λ wasm.
    sweep (sweep_in rows script wasm)) (module_in rows)) (script_in rows)

-- what each command means, with the rows of what is after it, and the words after `--`
abbrev pub meaning_below : List Text → Text × List Row → Option Meaning
meaning_below arguments met =
    if bytes_eq met.0 (codes "check") then check_below met.1
    else if bytes_eq met.0 (codes "create") then creation_below arguments met.1
    else if bytes_eq met.0 (codes "run")
    then option_map (λ disk. run (run_in met.1 disk)) (disk_in met.1)
    else if bytes_eq met.0 (codes "show")
    then option_map (λ disk. show disk (live_in met.1)) (disk_in met.1)
    else if bytes_eq met.0 (codes "inspect")
    then option_map (inspect_in met.1) (disk_in met.1)
    else if bytes_eq met.0 (codes "files")
    then option_map (λ disk. files disk (files_in met.1) (live_in met.1)) (disk_in met.1)
    else if bytes_eq met.0 (codes "history")
    then option_map (history_in met.1) (disk_in met.1)
    else if bytes_eq met.0 (codes "upgrade") then option_map upgrade (disk_in met.1)
    else if bytes_eq met.0 (codes "save") then save_below met.1
    else if bytes_eq met.0 (codes "story") then story_below met.1
    else if bytes_eq met.0 (codes "sweep") then sweep_below met.1
    else None

-- what the words of a command line mean
abbrev pub meaning_in : List Text → Option Meaning
meaning_in words = option_and_then (meaning_below (guest_words words))
    (subcommand_of wasmhost (own_words words))

-- a fault of the words that the command reads: a mistake, or a call for help, of a kind that is
-- listed for them; or out of memory
abbrev pub IsFaultOf : List Text → WordsFault → Type 0
IsFaultOf words (fault.Words told) = IsAmong (kind_of told) (faults_in_own words)
    × (takes_own words ≡ true → ⊥)
IsFaultOf words fault.Memory = ⊤

-- what may be answered to the words: the order that they mean, where no kind of fault is listed for
-- them, or a fault of theirs
abbrev pub IsReading : List Text → Result Order WordsFault → Type 0
IsReading words result = MatchResult result
    (λ order. (faults_in_words words ≡ []) × (meaning_in words ≡ Some (meaning_of order)))
    (IsFaultOf (own_words words))

-- ---- steps of reading

-- the matches are those of the words
abbrev pub IsParse : List Text → Result ArgMatches WordsFault → Type 0
IsParse words result = MatchResult result (λ matches. (fault_of wasmhost words ≡ [])
    × (subcommand_rows_of matches ≡ subcommand_of wasmhost words)) (IsFaultOf words)

-- a number from the least one to 2^64 - 1
abbrev pub IsNumberFrom : ℕ → Text → Type 0
IsNumberFrom least = IsUnsignedIn least (2 ^ 64 - 1)

-- the text of an option, where it is there, is such a number
abbrev pub TakesNumber : ℕ → Text → List Row → Type 0
TakesNumber least name rows = IfSome (one_of name rows) (IsNumberFrom least)

-- the number of an option, where it is there, is at most this one
abbrev pub TakesNumberUpTo : ℕ → Text → List Row → Type 0
TakesNumberUpTo most name rows = IfSome (one_of name rows) (λ text. spelled_number text ≤ most)

-- a flag says yes or no
abbrev pub IsFlagText : Text → Type 0
IsFlagText text = (text ≡ codes "true") ⊎ (text ≡ codes "false")

-- the text of a flag, where it has one, is such a text
abbrev pub TakesFlag : Text → List Row → Type 0
TakesFlag name rows = IfSome (one_of name rows) IsFlagText

-- each number that is there is in its range, and each flag says yes or no
pub record TakesOptions (rows : List Row) : Type 0 where
  pub pages : TakesNumber 0 (codes "pages") rows
  pub files : TakesNumber 0 (codes "files") rows
  pub journal : TakesNumber 0 (codes "journal") rows
  pub fuel : TakesNumber 1 (codes "fuel") rows
  pub every : TakesNumber 1 (codes "every") rows
  pub batch : TakesNumber 1 (codes "batch") rows
  pub few : TakesNumberUpTo 65536 (codes "batch") rows
  pub clock : TakesNumber 0 (codes "clock") rows
  pub life : TakesNumber 1 (codes "life") rows
  pub rewrite : TakesFlag (codes "rewrite") rows
  pub verbose : TakesFlag (codes "verbose") rows
  pub whole_lines : TakesFlag (codes "whole-lines") rows
  pub device : TakesFlag (codes "device") rows
  pub json : TakesFlag (codes "json") rows
  pub story : TakesFlag (codes "story") rows
  pub all : TakesFlag (codes "all") rows
  pub live : TakesFlag (codes "live") rows

-- ---- faults

-- help and the version are asked for, and no mistakes
abbrev pub IsAskedFor : Error → Type 0
IsAskedFor told = (kind_of told ≡ kind.DisplayHelp) ⊎ (kind_of told ≡ kind.DisplayVersion)

-- out of memory is told apart
abbrev pub IsWordsFault : Error → WordsFault → Type 0
IsWordsFault told (fault.Words kept) = (kept ≡ told) × (kind_of told ≢ kind.OutOfMemory)
IsWordsFault told fault.Memory = kind_of told ≡ kind.OutOfMemory

-- help is `Done`, a mistake is `Usage`, and out of memory `OutOfMemory`
abbrev pub IsStatusOf : WordsFault → Status → Type 0
IsStatusOf (fault.Words told) status = ((status ≡ exit.Done) × IsAskedFor told)
    ⊎ ((status ≡ exit.Usage) × (IsAskedFor told → ⊥))
IsStatusOf fault.Memory status = status ≡ exit.OutOfMemory
