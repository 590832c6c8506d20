use Rattle.wasm_decode.specs.rules.Parts.{HasImports}
use Rattle.command_words.proofs.ListingLemmas.{all_ends, all_listed, ends_list}
use Rattle.command_words.proofs.verdicts.listing.print_parts.Goals as goal

pub returns-in_ok-print_refused_imports-in-Ok-clause-listed :
    goal.returns-in_ok-print_refused_imports-in-Ok-clause-listed
returns-in_ok-print_refused_imports-in-Ok-clause-listed g c =
    all_listed c.print_code.result c.args.wasm.now c.args.types.now c.in-Ok.imports
    c.as_slice-items.result.now c.count_functions.result c.args.out.now
    c.print_refused_imports.new.out c.print_code.new.out c.as_slice-items.ensures c.requires
    c.in-Ok.ensures.found c.in_ok-print_refused_imports-in-Ok.ensures.told
    c.count_functions.ensures c.print_code.ensures.listed

pub returns-in-Err-clause-listed : goal.returns-in-Err-clause-listed
returns-in-Err-clause-listed g c =
    all_ends c.print_end.result c.args.wasm.now c.args.out.now c.print_end.new.out
    (ends_list c.print_end.result (HasImports c.args.wasm.now) c.in-Err.fault c.args.out.now
    c.print_end.new.out c.in-Err.ensures.only c.print_end.ensures.printed)
