-- What a write to a stream is seen to change (this project's own).
use Rattle.wasi_calls_rules.specs.WasiStates.{WasiState}
use Rattle.wasi_calls_rules.specs.Checks.{Bytes}
use Rattle.wasi_calls_rules.specs.declared.output_stream.OutputStream.{OutputStream}
use Rattle.wasi_calls_rules.specs.declared.output_stream.OutputStream.TheVariants.{Stdout, Stderr}

-- the unfinished line of a stream
abbrev pub unfinished_of : OutputStream → WasiState → Bytes
unfinished_of Stdout h = h.first
unfinished_of Stderr h = h.second
