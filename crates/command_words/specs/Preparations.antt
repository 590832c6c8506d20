-- The configuration that a measure of the module completes.
use Rattle.std.specs.Prelude.{ℕ, Result, Ok, Err}
use Rattle.wasi_abi.specs.rules.Configs.{Settings}
use Rattle.command_words.specs.declared.preparing.Prepared.{Prepared}
use Rattle.command_words.specs.declared.preparing.Unprepared.{Unprepared}

-- a configuration with the sectors of its worker, or why there is none
abbrev pub prepared_with : Settings → Result ℕ Unprepared → Result Prepared Unprepared
prepared_with config (Ok sectors) = Ok (record { config = config; sectors = sectors })
prepared_with config (Err why) = Err why
