use Rattle.command_words.proofs.ListingLemmas.{ends_with_list}
use Rattle.command_words.proofs.check.print_listed_refusal.Goals as goal

pub returns-clause-more : goal.returns-clause-more
returns-clause-more g c =
    ends_with_list c.print_list.result c.args.wasm.now c.args.fault c.print_fault.new.out
    c.print_unlisted.new.out c.print_list.new.out c.in_ok-print_unlisted.ensures.more
    c.print_list.ensures.listed
