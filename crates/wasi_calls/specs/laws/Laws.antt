-- What holds of all calls.
use Rattle.std.specs.Prelude.{◌≡◌, ℕ, ◌+◌, ◌≤◌, List, length, Option, Ok}
use Rattle.wasi_abi.specs.declared.answer.Answer.{Answer}
use Rattle.wasi_abi.specs.declared.call.Call.{Call}
use Rattle.wasi_calls_rules.specs.WasiStates.{WasiState}
use Rattle.wasi_calls_rules.specs.Checks.{Bytes, Done}
use Rattle.wasi_calls_rules.specs.Lines.{lines_ended}
use Rattle.wasi_calls_rules.specs.CallRules.{call_rule}
use Rattle.wasi_calls_rules.specs.declared.limits.TheConstants.{MOVED_BYTES}

-- one call adds no more lines than it moves bytes, unfinished ones counted
abbrev pub CallsBeginFew : Type 0
CallsBeginFew = (c : Call) (arguments : List ℕ) (given : Option Answer) (m : Bytes)
    (h : WasiState) (done : Done) → call_rule c arguments given m h ≡ Ok done
    → length (lines_ended done.host).lines ≤ length (lines_ended h).lines + MOVED_BYTES
