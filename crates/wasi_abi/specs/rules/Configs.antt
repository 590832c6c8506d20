-- What a worker is configured with, and when that is within the limits (this project's own).
use Rattle.std.specs.Prelude.{◌≡◌, ◌≢◌, ◌⊎◌, ℕ, ◌≤◌, List, [], ◌∷◌, length}
use Rattle.std.specs.List.{AllByRecursion}
use Rattle.guest_memory.specs.rules.Bytes.{IsByte}

-- the most pages of guest memory; the most bytes of all files, in units of 65,536; the sectors of
-- the journal
pub record Settings : Type 0 where
  pub pages : ℕ
  pub files : ℕ
  pub journal : ℕ
  pub arguments : List (List ℕ)
  pub environment : List (List ℕ)

-- a configuration of these parts
abbrev pub settings : ℕ → ℕ → ℕ → List (List ℕ) → List (List ℕ) → Settings
settings pages files journal arguments environment = record {
  pages = pages;
  files = files;
  journal = journal;
  arguments = arguments;
  environment = environment;
}

-- a text of at most 1,024 bytes (the product's limit)
abbrev pub IsShortText : List ℕ → Type 0
IsShortText text = length text ≤ 1024

-- each number, count and length has its bounds
pub record IsInRange (s : Settings) : Type 0 where
  pub pages : (1 ≤ s.pages) × (s.pages ≤ 256)
  pub files : (1 ≤ s.files) × (s.files ≤ 64)
  pub journal : (64 ≤ s.journal) × (s.journal ≤ 65536)
  pub few_arguments : length s.arguments ≤ 64
  pub short_arguments : AllByRecursion IsShortText s.arguments
  pub few_entries : length s.environment ≤ 64
  pub short_entries : AllByRecursion IsShortText s.environment

-- a byte that isn't 0
abbrev pub IsNonzero : ℕ → Type 0
IsNonzero b = b ≢ 0

-- a text is of bytes, and none of them is 0
pub record IsText (text : List ℕ) : Type 0 where
  pub are_bytes : AllByRecursion IsByte text
  pub no_zero : AllByRecursion IsNonzero text

-- there is a `=`
abbrev pub HasEquals : List ℕ → Type 0
HasEquals [] = ⊥
HasEquals (b ∷ text) = (b ≡ 61) ⊎ HasEquals text

-- a name is before the first `=`
abbrev pub IsNamed : List ℕ → Type 0
IsNamed [] = ⊥
IsNamed (b ∷ text) = (b ≢ 61) × HasEquals text

-- an entry of an environment is a text with a name
abbrev pub IsEnvironmentEntry : List ℕ → Type 0
IsEnvironmentEntry text = IsText text × IsNamed text

-- arguments are texts, and the environment has names and values
pub record HasTexts (s : Settings) : Type 0 where
  pub arguments : AllByRecursion IsText s.arguments
  pub environment : AllByRecursion IsEnvironmentEntry s.environment

-- numbers and texts are within the product's limits
pub record AreSettingsWithinLimits (s : Settings) : Type 0 where
  pub in_range : IsInRange s
  pub texts : HasTexts s
