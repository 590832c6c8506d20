use Rattle.wasi_calls.specs.Listings.{entries_behind}
use Rattle.wasi_calls.proofs.Listings.{lent_front}
use Rattle.wasi_calls.proofs.listing.list_entries.Goals as goal

pub returns-clause-put : goal.returns-clause-put
returns-clause-put c =
    lent_front c.args.memory.now c.args.arguments.buffer c.args.arguments.len c.put_entries.result
    (entries_behind c.args.host.now.host.files c.args.directory c.args.arguments.cookie)
    c.part_mut-into.result.now c.put_entries.new.into c.requires c.part_mut-into.ensures.bytes
    c.part_mut-into.ensures.len c.put_entries.ensures.put c.put_entries.ensures.count
