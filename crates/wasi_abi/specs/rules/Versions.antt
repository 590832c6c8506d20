-- The versions of a worker (this project's own). Nothing else tells one from another.
use Rattle.std.specs.Prelude.{ℕ}
use Rattle.wasi_abi.specs.declared.version.Version.{Version}
use Rattle.wasi_abi.specs.declared.version.Version.TheVariants.{One, Two}

-- the number of a version, as the head of a snapshot has it
abbrev pub version_number : Version → ℕ
version_number One = 1
version_number Two = 2

-- the most bytes of a request's text, and of the random bytes of one call
abbrev pub text_limit : Version → ℕ
text_limit One = 4096
text_limit Two = 65536

-- the bytes that spell the length of a record's payload
abbrev pub length_bytes : Version → ℕ
length_bytes One = 2
length_bytes Two = 4

-- answers that a process has taken and nobody gave: that it was widened counts as one
abbrev pub widenings : Version → ℕ
widenings One = 0
widenings Two = 1
