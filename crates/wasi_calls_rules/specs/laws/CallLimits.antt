-- The limits of the calls, as numbers.
use Rattle.std.specs.Prelude.{◌≡◌, length}
use Rattle.wasi_calls_rules.specs.WasiStates.{first_descriptors}
use Rattle.wasi_calls_rules.specs.declared.limits.TheConstants.{DESCRIPTORS, IOVECS, MOVED_BYTES}
use Rattle.wasi_calls_rules.specs.declared.limits.TheConstants.{LINE_BYTES, TEXT_BYTES}

pub record CallLimitNumbers : Type 0 where
  -- they are numbered from 0 to 63
  pub descriptors : DESCRIPTORS ≡ 64
  pub first_places : length first_descriptors ≡ 64
  pub iovecs : IOVECS ≡ 1024
  -- by one call
  pub moved_bytes : MOVED_BYTES ≡ 65536
  pub line_bytes : LINE_BYTES ≡ 4096
  -- of a request, and of one call's random bytes
  pub text_bytes : TEXT_BYTES ≡ 4096
