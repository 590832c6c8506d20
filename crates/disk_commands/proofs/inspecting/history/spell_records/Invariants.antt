use Rattle.std.proofs.Common.{◌≡◌, ◌+◌, ◌≤◌, take}
use Rattle.std.specs.Io.KnownBytes.{Appends}
use Rattle.disk_commands.specs.rules.Histories.{records_text}
use Rattle.disk_commands.proofs.HistoryLemmas.{taken_behind}
use Rattle.disk_commands.proofs.inspecting.history.spell_records.Given as goal

-- The first records are spelled, and their requests are counted.
abbrev pub invariant-loop-entry : goal.invariant-loop-entry
invariant-loop-entry g l = (l.taken ≡ taken_behind l.before (take l.entry-index l.records))
    × (l.taken ≤ l.before + l.entry-index)
    × Appends (g.W.Write.contents l.fn.out) (g.W.Write.contents l.out)
    (records_text l.before (take l.entry-index l.records))
