use Rattle.std.proofs.Common.{ℕ, List, map, take}
use Rattle.record_replay.specs.rules.Calls.{Releases, all_taken}
use Rattle.wasi_calls_rules.specs.WasiStates.{Line}
use Rattle.wasi_calls_rules.specs.declared.output_stream.OutputStream.TheVariants.{Stdout}
use Rattle.host_tests.proofs.sources.tell_all.Given as goal

abbrev pub on_stdout : List ℕ → Line
on_stdout text = record { stream = Stdout; text = text }

-- the texts so far were told
abbrev pub invariant-loop-i : goal.invariant-loop-i
invariant-loop-i g l =
    Releases g.O.Outlet.takes l.initial.outlet (all_taken 1 (map on_stdout (take l.i l.texts)))
    l.outlet
