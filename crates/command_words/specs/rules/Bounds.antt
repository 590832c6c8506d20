-- What of a configuration is out of its bounds, and what is told of it (this project's own).
use Rattle.std.specs.Prelude.{ℕ, ◌≤◌, ◌<◌, ◌⊎◌, List, length, codes}
use Rattle.std.specs.List.{AllByRecursion}
use Rattle.wasi_abi.specs.rules.Configs.{Settings, IsShortText}
use Rattle.command_words.specs.declared.bounds.Bound.{Bound}
use Rattle.command_words.specs.declared.bounds.Bound.TheVariants as bound
use Rattle.command_words.specs.declared.configuring.Sizes.{Sizes}

-- a number isn't from the least one to the most
abbrev pub IsOutside : ℕ → ℕ → ℕ → Type 0
IsOutside least most n = (n < least) ⊎ (most < n)

-- the sizes are in their bounds
pub record AreNumbersInRange (sizes : Sizes) : Type 0 where
  pub pages : (1 ≤ sizes.pages) × (sizes.pages ≤ 256)
  pub files : (1 ≤ sizes.files) × (sizes.files ≤ 64)
  pub journal : (64 ≤ sizes.journal) × (sizes.journal ≤ 65536)

-- That of these settings is out of its bounds. The worker's name is an argument.
abbrev pub IsOutOfBounds : Settings → Bound → Type 0
IsOutOfBounds s bound.Pages = IsOutside 1 256 s.pages
IsOutOfBounds s bound.Files = IsOutside 1 64 s.files
IsOutOfBounds s bound.Journal = IsOutside 64 65536 s.journal
IsOutOfBounds s bound.Arguments = 64 < length s.arguments
IsOutOfBounds s bound.Argument = AllByRecursion IsShortText s.arguments → ⊥
IsOutOfBounds s bound.Entries = 64 < length s.environment
IsOutOfBounds s bound.Entry = AllByRecursion IsShortText s.environment → ⊥

-- what is told of it: the fault, and the bounds on a line of its own
abbrev pub range_words : Bound → List ℕ
range_words bound.Pages = codes "failed C1 Range\n--pages is from 1 to 256"
range_words bound.Files = codes "failed C1 Range\n--files is from 1 to 64"
range_words bound.Journal = codes "failed C1 Range\n--journal is from 64 to 65536"
range_words bound.Arguments = codes "failed C1 Range\nat most 63 arguments stand behind --"
range_words bound.Argument = codes "failed C1 Range\nan argument has at most 1024 bytes"
range_words bound.Entries = codes "failed C1 Range\n--env stands at most 64 times"
range_words bound.Entry = codes "failed C1 Range\n--env has at most 1024 bytes"
