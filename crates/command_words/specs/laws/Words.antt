-- What the command line promises of all words.
use Rattle.std.specs.Prelude.{◌≡◌, ◌<◌, ◌≤◌, ◌^◌, ⊤, List, []}
use Rattle.std.specs.Option.{IsSomeAnd}
use Rattle.clap.specs.Words.{Text}
use Rattle.command_words.specs.rules.Commands.{Meaning, check, create, run, show, story}
use Rattle.command_words.specs.rules.Commands.{sweep, inspect, files, history, upgrade, save}
use Rattle.command_words.specs.rules.Commands.{faults_in_words, meaning_in}

-- The steps of a slice, and the slices between two checkpoints, are numbers from 1 to 2^64 - 1. The
-- lines that one sync may serve are 1 to 65,536. The pages of a check, and the sizes of a creation,
-- of a story and of a sweep are below 2^64.
abbrev pub NumbersFit : Meaning → Type 0
NumbersFit (check path pages lists_all) = pages < 2 ^ 64
NumbersFit (create said) = (said.pages < 2 ^ 64) × (said.files < 2 ^ 64) × (said.journal < 2 ^ 64)
NumbersFit (run said) = (1 ≤ said.fuel) × (said.fuel < 2 ^ 64)
    × (1 ≤ said.every) × (said.every < 2 ^ 64)
    × (1 ≤ said.batch) × (said.batch ≤ 65536)
NumbersFit (show path is_live) = ⊤
NumbersFit (inspect path as_json is_live) = ⊤
NumbersFit (files disk asked is_live) = ⊤
NumbersFit (history path as_story is_live) = ⊤
NumbersFit (upgrade path) = ⊤
NumbersFit (save disk copy is_live) = ⊤
NumbersFit (story said) = (said.pages < 2 ^ 64) × (said.files < 2 ^ 64) × (said.journal < 2 ^ 64)
NumbersFit (sweep said) = (said.pages < 2 ^ 64) × (said.files < 2 ^ 64) × (said.journal < 2 ^ 64)

-- words for which no fault is listed mean an order, with numbers of these ranges
abbrev pub FaultlessWordsMean : Type 0
FaultlessWordsMean = (words : List Text) → faults_in_words words ≡ []
    → IsSomeAnd (meaning_in words) NumbersFit
