use Rattle.command_words.specs.rules.Listings.{code_line}
use Rattle.command_words.proofs.ListingLemmas.{one_more_there}
use Rattle.command_words.proofs.verdicts.listing.print_code_faults.Goals as goal

pub loop-fault-preserved : goal.loop-fault-preserved
loop-fault-preserved g c =
    one_more_there (code_line c.args.wasm.now c.args.imported) c.args.faults.now
    c.loop-fault.fault-index _ c.args.out.now c.loop-fault.out c.print_code_fault.new.out
    c.loop-fault-test.true c.loop-fault.invariant c.in_ok-print_code_fault.ensures.printed
