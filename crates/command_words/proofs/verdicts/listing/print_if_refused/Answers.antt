use Rattle.command_words.proofs.ListingLemmas.{refused_told}
use Rattle.command_words.proofs.verdicts.listing.print_if_refused.Goals as goal

pub returns-clause-told : goal.returns-clause-told
returns-clause-told g c =
    refused_told c.print_import.result c.args.types.now c.args.import.now c.args.out.now
    c.print_import.new.out c.words_of_refusal.result.now (λ allowed.
    let yes = c.is_allowed.ensures.1 allowed in
    let no = c.if-is_allowed.false in
    cc) c.words_of_refusal.ensures c.print_import.ensures.printed
