-- A host after something was written is one.
use Rattle.std.proofs.Common.{ℕ, List}
use Rattle.wasi_calls_rules.specs.WasiStates.{Line, WasiState, IsUnfinished, IsWasiState}
use Rattle.wasi_calls_rules.specs.declared.output_stream.OutputStream.{OutputStream}
use Rattle.wasi_calls_rules.specs.declared.output_stream.OutputStream.TheVariants.{Stdout, Stderr}
use Rattle.wasi_calls.specs.rules.Outputs.{Output, output_written}
use Rattle.wasi_abi.specs.rules.Answers.{AreBytes}
use Rattle.wasi_calls_rules.proofs.KeptLines.{all_unfinished}

pub with_lines : (h : WasiState) (first second : List ℕ) (lines : List Line) → IsWasiState h
    → IsUnfinished first → IsUnfinished second
    → IsWasiState (record h { first = first; second = second; lines = lines })
with_lines h first second lines k f s = record {
  files = k.files;
  within = k.within;
  places = k.places;
  descriptors = k.descriptors;
  streams = k.streams;
  root = k.root;
  unread = k.unread;
  last_monotonic = k.last_monotonic;
  first = f;
  second = s;
  open_nodes = k.open_nodes;
}

pub written_short : (stream : OutputStream) (bytes : List ℕ) (o : Output) → AreBytes bytes
    → IsUnfinished o.first → IsUnfinished o.second
    → IsUnfinished (output_written stream bytes o).first
    × IsUnfinished (output_written stream bytes o).second
written_short Stdout bytes o low f s =
    (all_unfinished Stdout (record { lines = o.waiting; unfinished = o.first }) bytes low f, s)
written_short Stderr bytes o low f s =
    (f, all_unfinished Stderr (record { lines = o.waiting; unfinished = o.second }) bytes low s)
