-- The seed of a run: digits among its words, or a file with them (this project's own).
use Rattle.std.specs.Prelude.{◌≡◌, ◌⊎◌, ℕ, Bool, true, List, ◌++◌, length, replicate, codes, Option}
use Rattle.std.specs.Prelude.{Some, None, IsSome, IsTrue, Ok}
use Rattle.std.specs.List.{AllPass}
use Rattle.std.specs.IoError.{error_kind}
use Rattle.std.specs.declared.io.Error as io
use Rattle.std.specs.declared.io.ErrorKind.{ErrorKind}
use Rattle.hex.specs.Hex.{decode_of, is_hex_digit}
use Rattle.command_words.specs.declared.telling.Obstacle.TheVariants as obstacle
use Rattle.command_words.specs.rules.Printers.{PrinterState}
use Rattle.command_words.specs.rules.Reports.{SaysLine, obstacle_words}
use Rattle.command_words.specs.declared.status.Status.{Status}
use Rattle.command_words.specs.declared.status.Status.TheVariants as exit
use Rattle.disk_commands.specs.rules.Openings.{SaysUnread}

-- What calls have said of files in which a seed may be, by their paths. Nobody knows it but by such
-- a call.
pub record KnownSeedFiles : Type 0 where
  -- the file there was read, and begins with these bytes
  pub front : List ℕ → List ℕ → Bool
  -- it couldn't be read, by an error of this kind
  pub unread : List ℕ → ErrorKind → Bool

-- whatever a call says
abbrev pub all_said_of_seed_files : KnownSeedFiles
all_said_of_seed_files = record { front = λ path bytes. true; unread = λ path kind. true }

-- the bytes that the digits of a seed spell, or zeros where there are no digits
abbrev pub IsSeedOf : Option (List ℕ) → List ℕ → Type 0
IsSeedOf (Some digits) seed = decode_of digits ≡ Ok seed
IsSeedOf None seed = seed ≡ replicate 32 0

-- there are digits, and they aren't those of a seed
abbrev pub IsNoSeed : Option (List ℕ) → Type 0
IsNoSeed (Some digits) = (length digits ≡ 64) × AllPass is_hex_digit digits → ⊥
IsNoSeed None = ⊥

-- The bytes of a file are these digits' seed, and a newline or none after them.
abbrev pub IsSeedIn : List ℕ → List ℕ → Type 0
IsSeedIn bytes seed = (digits : List ℕ) × ((bytes ≡ digits) ⊎ (bytes ≡ digits ++ codes "\n"))
    × (decode_of digits ≡ Ok seed)

-- The bytes are neither the digits of a seed nor such digits and a newline.
abbrev pub LackSeed : List ℕ → Type 0
LackSeed bytes = (digits : List ℕ) → (bytes ≡ digits) ⊎ (bytes ≡ digits ++ codes "\n")
    → IsNoSeed (Some digits)

-- The seed is what the digits spell, or zeros. Where a file is named, what was read of it is its
-- seed.
abbrev pub IsSeedFrom : KnownSeedFiles → Option (List ℕ) → Option (List ℕ) → List ℕ → Type 0
IsSeedFrom known None digits seed = IsSeedOf digits seed
IsSeedFrom known (Some file) digits seed =
    (bytes : List ℕ) × IsTrue (known.front file bytes) × IsSeedIn bytes seed

-- what is told of a file that has no seed
abbrev pub seedless_words : List ℕ → List ℕ
seedless_words file = codes "failed C2 Text\n" ++ file ++ codes ": isn't 64 hexadecimal digits"

-- It is said that a file can't be read, or that what was read of it is no seed.
abbrev pub SaysSeedlessFile : KnownSeedFiles → List ℕ → PrinterState → Status → PrinterState
    → Type 0
SaysSeedlessFile known file err status err' =
    ((error : io.Error) × IsTrue (known.unread file (error_kind error))
    × SaysUnread file error err status err')
    ⊎ ((bytes : List ℕ) × IsTrue (known.front file bytes) × LackSeed bytes
    × SaysLine (seedless_words file) exit.Refused err status err')

-- It is said why there is no seed: the digits aren't those of one. Where a file is named, there are
-- digits beside it, or the file gives none.
abbrev pub SaysSeedless : KnownSeedFiles → Option (List ℕ) → Option (List ℕ) → PrinterState → Status
    → PrinterState → Type 0
SaysSeedless known None digits err status err' =
    IsNoSeed digits × SaysLine (obstacle_words obstacle.NoSeed) exit.Usage err status err'
SaysSeedless known (Some file) digits err status err' =
    (IsSome digits × SaysLine (obstacle_words obstacle.TwoSeeds) exit.Usage err status err')
    ⊎ SaysSeedlessFile known file err status err'
