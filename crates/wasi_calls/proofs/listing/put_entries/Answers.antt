use Rattle.std.proofs.Common.{◌∙◌, sym, arith}
use Rattle.file_tree.specs.rules.Listings.{HasNameAtPlace}
use Rattle.wasi_abi.specs.rules.Layouts.{dirent_layout}
use Rattle.wasi_calls.proofs.Listings.{short_name, lists_from, lists_end, lists_past, lists_full}
use Rattle.wasi_calls.proofs.Listings.{lists_more}
use Rattle.wasi_calls.proofs.listing.put_entries.Goals as goal

pub loop-place-init : goal.loop-place-init
loop-place-init c =
    lists_from c.args.host.now.host.files c.args.directory c.args.cookie c.args.into.now
    c.entry-entry.result c.entry-entry.ensures.entry

pub returns-in_default-clause-put : goal.returns-in_default-clause-put
returns-in_default-clause-put c =
    (lists_end c.args.host.now.host.files c.args.directory c.args.cookie c.args.into.now
    c.loop-place.into c.loop-place.done c.loop-place.place c.loop-place.entry
    c.loop-place.invariant c.in_default.is).0

pub returns-in_default-clause-count : goal.returns-in_default-clause-count
returns-in_default-clause-count c =
    (lists_end c.args.host.now.host.files c.args.directory c.args.cookie c.args.into.now
    c.loop-place.into c.loop-place.done c.loop-place.place c.loop-place.entry
    c.loop-place.invariant c.in_default.is).1

pub dirent-requires-clause-short : goal.dirent-requires-clause-short
dirent-requires-clause-short c =
    let fs = c.args.host.now.host.files in
    let named : HasNameAtPlace fs c.args.directory c.loop-place.place c.name-name.result.now =
    c.name-name.ensures c.args.directory c.loop-place.place
    (sym c.loop-place.invariant.entry_is ∙ c.in-Some.is) in
    let short = short_name fs c.args.directory c.loop-place.place c.name-name.result.now
    c.entry-entry.ensures.shape named in
    omega (arith, short)

pub put_entry-done-requires : goal.put_entry-done-requires
put_entry-done-requires c = c.loop-place.invariant.rest.within

pub returns-then-done-into-clause-put : goal.returns-then-done-into-clause-put
returns-then-done-into-clause-put c =
    (lists_full c.args.host.now.host.files c.args.directory c.args.cookie c.args.into.now
    c.loop-place.into c.loop-place.done c.loop-place.place c.in-Some.node c.loop-place.entry
    c.name-name.result.now (dirent_layout c.dirent.result) c.put_entry-done.new.into
    c.put_entry-done.result c.loop-place.invariant c.in-Some.is
    (c.name-name.ensures c.args.directory c.loop-place.place
    (sym c.loop-place.invariant.entry_is ∙ c.in-Some.is))
    c.dirent.ensures c.put_entry-done.ensures.put c.put_entry-done.ensures.count
    c.put_entry-done.auto.into c.if-done-into.true).0

pub returns-then-done-into-clause-count : goal.returns-then-done-into-clause-count
returns-then-done-into-clause-count c =
    (lists_full c.args.host.now.host.files c.args.directory c.args.cookie c.args.into.now
    c.loop-place.into c.loop-place.done c.loop-place.place c.in-Some.node c.loop-place.entry
    c.name-name.result.now (dirent_layout c.dirent.result) c.put_entry-done.new.into
    c.put_entry-done.result c.loop-place.invariant c.in-Some.is
    (c.name-name.ensures c.args.directory c.loop-place.place
    (sym c.loop-place.invariant.entry_is ∙ c.in-Some.is))
    c.dirent.ensures c.put_entry-done.ensures.put c.put_entry-done.ensures.count
    c.put_entry-done.auto.into c.if-done-into.true).1

pub loop-place-preserved : goal.loop-place-preserved
loop-place-preserved c =
    let named = c.name-name.ensures c.args.directory c.loop-place.place
    (sym c.loop-place.invariant.entry_is ∙ c.in-Some.is) in
    lists_more c.args.host.now.host.files c.args.directory c.args.cookie c.args.into.now
    c.loop-place.into c.loop-place.done c.loop-place.place c.in-Some.node c.loop-place.entry
    c.name-name.result.now (dirent_layout c.dirent.result) c.put_entry-done.new.into
    c.put_entry-done.result c.loop-place.invariant c.in-Some.is named
    c.dirent.ensures c.put_entry-done.ensures.put c.put_entry-done.ensures.count
    c.put_entry-done.auto.into c.entry_after-entry.result
    (c.entry_after-entry.ensures c.loop-place.place named)

pub returns-clause-put : goal.returns-clause-put
returns-clause-put c =
    (lists_past c.args.host.now.host.files c.args.directory c.args.cookie c.args.into.now
    c.loop-place.into c.loop-place.done c.loop-place.place c.loop-place.entry
    c.entry-entry.ensures.shape c.loop-place.invariant c.loop-place-test.false).0

pub returns-clause-count : goal.returns-clause-count
returns-clause-count c =
    (lists_past c.args.host.now.host.files c.args.directory c.args.cookie c.args.into.now
    c.loop-place.into c.loop-place.done c.loop-place.place c.loop-place.entry
    c.entry-entry.ensures.shape c.loop-place.invariant c.loop-place-test.false).1
