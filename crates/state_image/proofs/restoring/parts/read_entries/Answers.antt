use Rattle.std.proofs.Common.{map}
use Rattle.wasm_syntax.specs.laws.ReadingItems.{items_at}
use Rattle.wasm_syntax.proofs.Grammar.Loops.{items_fail, items_are_done}
use Rattle.state_image.specs.rules.Fronts.{lent_entry}
use Rattle.state_image.specs.restoring.ListReaders.{entry_at}
use Rattle.state_image.proofs.RestoreLemmas.Loops.{one_kept}
use Rattle.state_image.proofs.restoring.parts.read_entries.Goals as goal

pub returns-in_default : goal.returns-in_default
returns-in_default c =
    items_fail entry_at (map lent_entry c.loop.entries.items) c.args.count c.loop.counter
    c.loop.reader (items_at entry_at c.args.count c.args.reader.now) c.loop-test.true
    c.in_default.ensures c.loop.invariant

pub loop-preserved : goal.loop-preserved
loop-preserved c =
    one_kept lent_entry entry_at c.loop.entries.items c.keep_entry.new.entries.items c.args.count
    c.loop.counter c.loop.reader c.next_entry.new.reader
    (items_at entry_at c.args.count c.args.reader.now) c.in-Some.entry c.loop-test.true
    c.in-Some.ensures c.loop.invariant c.in_ok-keep_entry.ensures

pub returns : goal.returns
returns c =
    items_are_done entry_at (map lent_entry c.loop.entries.items) c.args.count c.loop.counter
    c.loop.reader (items_at entry_at c.args.count c.args.reader.now) c.loop-test.false
    c.loop.invariant
