-- The rules of the calls on names in directories: where the path leads, and then what is done
-- there.
use Rattle.std.proofs.Common.{◌≡◌, ℕ}
use Rattle.wasi_abi.specs.rules.Numbers.{path_create_directory_right, path_unlink_file_right}
use Rattle.wasi_abi.specs.rules.Numbers.{path_remove_directory_right}
use Rattle.wasi_calls_rules.specs.WasiStates.{WasiState}
use Rattle.wasi_calls_rules.specs.Checks.{Bytes, ◌>>=◌}
use Rattle.wasi_calls_rules.specs.Entries.{path_create_directory, path_remove_directory}
use Rattle.wasi_calls_rules.specs.Entries.{path_unlink_file}
use Rattle.wasi_calls.specs.Entries.{place_of_path, directory_made, directory_removed}
use Rattle.wasi_calls.specs.Entries.{file_unlinked}
use Rattle.wasi_calls.proofs.Through.{through}

pub create_directory_is : (fd path len : ℕ) (m : Bytes) (h : WasiState)
    → path_create_directory fd path len m h
    ≡ (place_of_path path_create_directory_right fd path len m h
    >>= λ place. directory_made place m h)
create_directory_is fd path len m h = search through depth 14

pub remove_directory_is : (fd path len : ℕ) (m : Bytes) (h : WasiState)
    → path_remove_directory fd path len m h
    ≡ (place_of_path path_remove_directory_right fd path len m h >>= λ place.
    directory_removed place m h)
remove_directory_is fd path len m h = search through depth 14

pub unlink_file_is : (fd path len : ℕ) (m : Bytes) (h : WasiState)
    → path_unlink_file fd path len m h
    ≡ (place_of_path path_unlink_file_right fd path len m h >>= λ place. file_unlinked place m h)
unlink_file_is fd path len m h = search through depth 14
