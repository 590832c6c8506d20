use Rattle.std.proofs.Common.{◌≡◌, ◌≤◌, ◌-◌, ◌++◌, length, drop}
use Rattle.journal.specs.rules.Steps.{AllRecordsFit, records_bytes}
use Rattle.journal.proofs.decode.records_from.Given as goal

abbrev pub invariant-loop-records : goal.invariant-loop-records
invariant-loop-records l = record {
  within : l.start ≤ length l.bytes;
  spelled : l.bytes ≡ records_bytes l.version l.records.items ++ drop l.start l.bytes;
  fit : AllRecordsFit l.version l.records.items;
}

abbrev pub decreases-loop-records : goal.decreases-loop-records
decreases-loop-records l = length l.bytes - l.start
