-- What bytes spell (this project's own).
use Rattle.std.specs.Prelude.{◌≡◌, ℕ, ◌≤◌, ◌<◌, ◌^◌, List, ◌++◌, length, Option, Some, None}
use Rattle.std.specs.List.{AllByRecursion}
use Rattle.wasi_abi.specs.rules.Configs.{Settings, AreSettingsWithinLimits}
use Rattle.disk_layout.specs.rules.Places.{config_bytes, short_text_bytes, texts_bytes}

-- the configuration within the limits whose bytes these are, or there is none
abbrev pub SpellsConfig : List ℕ → Option Settings → Type 0
SpellsConfig bytes (Some s) = AreSettingsWithinLimits s × (bytes ≡ config_bytes s)
SpellsConfig bytes None = (s : Settings) → AreSettingsWithinLimits s → bytes ≡ config_bytes s → ⊥

-- its length has room in 16 bits
abbrev pub HasShortLength : List ℕ → Type 0
HasShortLength text = length text < 2 ^ 16

-- this text's bytes are at the front, before the others
pub record TextFirst (bytes text rest : List ℕ) : Type 0 where
  pub room : HasShortLength text
  pub is : bytes ≡ short_text_bytes text ++ rest

-- few enough texts, none of them too long
pub record HaveRoom (texts : List (List ℕ)) : Type 0 where
  pub few : length texts ≤ 64
  pub each : AllByRecursion HasShortLength texts

-- the bytes of these texts are at the front, before the others
pub record TextsFirst (bytes : List ℕ) (texts : List (List ℕ)) (rest : List ℕ) : Type 0 where
  pub room : HaveRoom texts
  pub is : bytes ≡ texts_bytes texts ++ rest
