use Rattle.std.proofs.Common.{◌≡◌, ◌++◌, drop, map, Some}
use Rattle.machine.specs.rules.Offers.{imported_call}
use Rattle.machine.proofs.instance.calls.imported_calls.Given as goal

abbrev pub invariant-loop-import : goal.invariant-loop-import
invariant-loop-import l =
    map imported_call l.imports ≡ map Some l.calls.items
    ++ map imported_call (drop l.import-index l.imports)
