-- The texts that a process is configured with.
use Rattle.std.specs.Prelude.{◌≤◌, ℕ, List, length}
use Rattle.std.specs.List.{AllByRecursion}
use Rattle.wasi_abi.specs.rules.Configs.{IsShortText}

-- few of them, and short
pub record AreFewTexts (texts : List (List ℕ)) : Type 0 where
  pub few : length texts ≤ 64
  pub short : AllByRecursion IsShortText texts
