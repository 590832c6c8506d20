-- A call adds no more lines than it moves bytes, unfinished ones counted.
use Rattle.std.proofs.Common.{◌≡◌, ◌+◌, ◌≤◌, length, refl, arith}
use Rattle.wasi_calls_rules.specs.WasiStates.{WasiState}
use Rattle.wasi_calls_rules.specs.Lines.{lines_ended}
use Rattle.wasi_calls_rules.specs.declared.limits.TheConstants.{MOVED_BYTES}
use Rattle.wasi_calls_rules.proofs.EmitsLines.{KeepsLines, WritesFew, keeps, writes}
use Rattle.wasi_calls_rules.proofs.EmitsLines.{call_rules_write_few}
use Rattle.wasi_calls.specs.laws.Laws.{CallsBeginFew}
use Rattle.wasi_calls.specs.Writes.{unfinished_of}
use Rattle.wasi_calls.proofs.Begun.{stream_begins, begun_few}

-- where the lines are kept, those that an end would make are too
pub ended_kept : (before after : WasiState) → KeepsLines before after
    → length (lines_ended after).lines ≡ length (lines_ended before).lines
ended_kept before after k = rw (k.lines, k.first, k.second) refl

few : (before after : WasiState) → WritesFew before after
    → length (lines_ended after).lines ≤ length (lines_ended before).lines + MOVED_BYTES
few before after (keeps k) = omega (arith, ended_kept before after k)
few before after (writes s bytes short is) =
    rw is (omega (
      arith,
      short,
      stream_begins s bytes before,
      begun_few (length (unfinished_of s before)) bytes,
    ))

pub calls_begin_few : CallsBeginFew
calls_begin_few c arguments given m h done e =
    few h done.host (call_rules_write_few c arguments given m h done e)
