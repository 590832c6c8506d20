-- x
use Rattle.std.specs.Prelude.{List, Ok, Err}
use Rattle.wasi_calls_rules.specs.WasiStates.{Line}
use Rattle.wasi_calls_rules.specs.Checks.{Ruling}
use Rattle.wasi_calls.specs.rules.Held.{behind_lines}

-- what a rule leads to, with other lines in front of the host's own
abbrev pub behind_lines_of_call_rule : List Line → Ruling → Ruling
behind_lines_of_call_rule before (Ok done) =
    Ok (record { memory = done.memory; host = behind_lines before done.host })
behind_lines_of_call_rule before (Err halt) = Err halt
