use Rattle.command_words.proofs.ListingLemmas.{tells_all, tells_more, tells_none}
use Rattle.command_words.proofs.verdicts.listing.print_refused_imports.Goals as goal

pub loop-import-init : goal.loop-import-init
loop-import-init g c = tells_none c.args.types.now c.args.imports.now c.args.out.now

pub loop-import-preserved : goal.loop-import-preserved
loop-import-preserved g c =
    tells_more c.args.types.now c.args.imports.now c.loop-import.import-index
    c.import-item.result c.args.out.now c.loop-import.out c.loop-import-test.true c.import-item.is
    c.loop-import.invariant c.print_if_refused.new.out c.in_ok-print_if_refused.ensures.told

pub returns-clause-told : goal.returns-clause-told
returns-clause-told g c =
    tells_all c.args.types.now c.args.imports.now c.loop-import.import-index c.args.out.now
    c.loop-import.out c.loop-import-test.false c.loop-import.invariant

pub returns-clause-steady : goal.returns-clause-steady
returns-clause-steady g c = c.loop-import.invariant.2.1
