-- How the bytes behind the super are split.
use Rattle.std.specs.Prelude.{◌≡◌, ◌≢◌, ℕ, ◌+◌, List, ◌++◌, length, take, Result, Ok, Err}
use Rattle.sha2.specs.Sha256.{sha256}
use Rattle.disk_layout.specs.declared.fault.LayoutFault.{LayoutFault}
use Rattle.disk_layout.specs.declared.fault.LayoutFault.TheVariants.{Damaged, Memory}
use Rattle.disk_layout.specs.declared.damage.Damage.TheVariants.{ContentsDigest}
use Rattle.disk_layout.specs.declared.stored.Stored.{Stored}
use Rattle.disk_layout.specs.rules.Sectors.{Super}

-- these are the configuration and the module in the bytes after a super, if their digest is the
-- super's
abbrev pub SplitsContents : Super → List ℕ → Result Stored LayoutFault → Type 0
SplitsContents c bytes (Ok s) = (s.geometry ≡ c.geometry) × (length s.config ≡ c.geometry.config)
    × (length s.wasm ≡ c.geometry.wasm)
    × (s.config ++ s.wasm ≡ take (c.geometry.config + c.geometry.wasm) bytes)
    × (c.digest ≡ sha256 (s.config ++ s.wasm))
SplitsContents c bytes (Err (Damaged ContentsDigest)) =
    c.digest ≢ sha256 (take (c.geometry.config + c.geometry.wasm) bytes)
SplitsContents c bytes (Err Memory) = Unit {0}
SplitsContents c bytes (Err other) = ⊥
