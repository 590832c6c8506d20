-- The limits of a configuration: the last value inside, and the first outside.
use Rattle.std.specs.Prelude.{ℕ, [], replicate}
use Rattle.wasi_abi.specs.rules.Configs.{Settings, settings, IsInRange}

-- settings with these numbers, and no texts
abbrev pub without_texts : ℕ → ℕ → ℕ → Settings
without_texts pages files journal = settings pages files journal [] []

-- settings with so many arguments and entries of the environment, of so many bytes each
abbrev pub with_short_texts : ℕ → ℕ → ℕ → ℕ → Settings
with_short_texts arguments bytes entries entry_bytes =
    settings 1 1 64 (replicate arguments (replicate bytes 97))
    (replicate entries (replicate entry_bytes 97))

pub record ConfigLimitNumbers : Type 0 where
  pub least : IsInRange (without_texts 1 1 64)
  pub most : IsInRange (without_texts 256 64 65536)
  pub no_page : IsInRange (without_texts 0 1 64) → ⊥
  pub too_many_pages : IsInRange (without_texts 257 1 64) → ⊥
  pub no_unit : IsInRange (without_texts 1 0 64) → ⊥
  pub too_many_units : IsInRange (without_texts 1 65 64) → ⊥
  pub short_journal : IsInRange (without_texts 1 1 63) → ⊥
  pub long_journal : IsInRange (without_texts 1 1 65537) → ⊥
  pub most_texts : IsInRange (with_short_texts 64 1024 64 1024)
  pub too_many_arguments : IsInRange (with_short_texts 65 0 0 0) → ⊥
  pub long_argument : IsInRange (with_short_texts 1 1025 0 0) → ⊥
  pub too_many_entries : IsInRange (with_short_texts 0 0 65 0) → ⊥
  pub long_entry : IsInRange (with_short_texts 0 0 1 1025) → ⊥
