use Rattle.std.proofs.Common.{take}
use Rattle.std.specs.List.{flat_map}
use Rattle.command_words.specs.rules.Listings.{code_line}
use Rattle.command_words.specs.rules.Printers.{IsPrinted}
use Rattle.command_words.proofs.verdicts.listing.print_code_faults.Given as goal

-- the first faults are told
abbrev pub invariant-loop-fault : goal.invariant-loop-fault
invariant-loop-fault g l =
    IsPrinted l.fn.out l.out (flat_map (code_line l.wasm l.imported) (take l.fault-index l.faults))
