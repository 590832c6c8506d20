use Rattle.wasm_decode.specs.rules.Parts.{HasCodeFaults}
use Rattle.command_words.proofs.ListingLemmas.{code_ends, code_listed, ends_list}
use Rattle.command_words.proofs.verdicts.listing.print_code.Goals as goal

pub returns-in_ok-print_code_faults-in-Ok-clause-listed :
    goal.returns-in_ok-print_code_faults-in-Ok-clause-listed
returns-in_ok-print_code_faults-in-Ok-clause-listed g c =
    code_listed c.print_end_if.result c.args.wasm.now c.args.imported c.in-Ok.found
    c.as_slice.result.now c.args.out.now c.print_code_faults.new.out c.print_end_if.new.out
    c.as_slice.ensures c.in-Ok.ensures.found c.in_ok-print_code_faults-in-Ok.ensures.printed
    c.print_end_if.ensures.printed

pub returns-in-Err-clause-listed : goal.returns-in-Err-clause-listed
returns-in-Err-clause-listed g c =
    code_ends c.print_end.result c.args.wasm.now c.args.imported c.args.out.now
    c.print_end.new.out (ends_list c.print_end.result (HasCodeFaults c.args.wasm.now)
    c.in-Err.fault c.args.out.now c.print_end.new.out c.in-Err.ensures.only
    c.print_end.ensures.printed)
