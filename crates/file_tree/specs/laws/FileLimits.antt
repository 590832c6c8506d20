-- The limits of the file system, as numbers.
use Rattle.std.specs.Prelude.{◌≡◌}
use Rattle.file_tree.specs.declared.limits.TheConstants.{NODES, FILE_BYTES, CHUNK_BYTES, UNIT_BYTES}
use Rattle.file_tree.specs.declared.limits.TheConstants.{PATH_BYTES, NAME_BYTES}

pub record FileLimitNumbers : Type 0 where
  pub nodes : NODES ≡ 1024
  -- 1 MiB
  pub file_bytes : FILE_BYTES ≡ 1048576
  pub chunk_bytes : CHUNK_BYTES ≡ 4096
  pub unit_bytes : UNIT_BYTES ≡ 65536
  pub path_bytes : PATH_BYTES ≡ 4096
  pub name_bytes : NAME_BYTES ≡ 255
