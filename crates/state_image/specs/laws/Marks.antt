-- The version of a mark (this project's own).
use Rattle.std.specs.Prelude.{◌≡◌, ◌≢◌, ℕ, List, Option, Some, None}
use Rattle.wasi_abi.specs.declared.version.Version.{Version}
use Rattle.state_image.specs.rules.ProcessImage.{process_image_mark}

-- the version of which this is the mark, or nothing where there is none
abbrev pub IsVersionOf : List ℕ → Option Version → Type 0
IsVersionOf mark (Some version) = mark ≡ process_image_mark version
IsVersionOf mark None = (version : Version) → mark ≢ process_image_mark version
