-- How large the disk of a worker can be.
use Rattle.std.specs.Prelude.{◌≤◌, ℕ, List, length}
use Rattle.wasm_syntax.specs.declared.limits.TheConstants.{MODULE_BYTES}
use Rattle.wasi_abi.specs.rules.Configs.{AreSettingsWithinLimits, Settings}
use Rattle.disk_layout.specs.rules.Places.{geometry_of, total_sectors}
use Rattle.disk_commands.specs.declared.on_disk.live.TheConstants.{MOST_SECTORS}

-- A picture has room for the disk of each worker whose settings and module are within their limits.
abbrev pub LargestDisksArePictured : Type 0
LargestDisksArePictured = (config : Settings) (wasm : List ℕ) → AreSettingsWithinLimits config
    → length wasm ≤ MODULE_BYTES → total_sectors (geometry_of config (length wasm)) ≤ MOST_SECTORS
