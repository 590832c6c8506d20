use Rattle.std.proofs.Common.{refl}
use Rattle.wasm_decode.specs.rules.Parts.{HasImports}
use Rattle.wasm_decode.specs.declared.fault.DecodeFault.TheVariants.{Memory}
use Rattle.command_words.proofs.ListingLemmas.{all_ends, ends_list}
use Rattle.command_words.proofs.verdicts.listing.print_list.Goals as goal

pub returns-in-Err-clause-listed : goal.returns-in-Err-clause-listed
returns-in-Err-clause-listed g c =
    all_ends c.print_end.result c.args.wasm.now c.args.out.now c.print_end.new.out
    (ends_list c.print_end.result (HasImports c.args.wasm.now) Memory c.args.out.now
    c.print_end.new.out (λ other. absurd (other refl)) c.print_end.ensures.printed)
