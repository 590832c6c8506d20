use Rattle.std.proofs.Common.{◌≡◌, ◌+◌, drop}
use Rattle.machine.proofs.InstanceLemmas.Filled.{entries_put}
use Rattle.machine.proofs.instance.table.write_entries.Given as goal

abbrev pub invariant-loop-i : goal.invariant-loop-i
invariant-loop-i l = entries_put l.table (drop l.i l.functions) (l.from + l.i)
    ≡ entries_put l.initial.table l.functions l.from
