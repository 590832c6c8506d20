use Rattle.wasi_abi.specs.rules.Layouts.{dirent_layout}
use Rattle.wasi_calls.proofs.Listings.{put_both}
use Rattle.wasi_calls.proofs.listing.put_entry.Goals as goal

pub returns-clause-put : goal.returns-clause-put
returns-clause-put c =
    put_both c.args.into.now c.put-named.new.into c.put.new.into c.args.done c.put-named.result
    (dirent_layout c.args.entry) c.args.name.now c.requires
    (rw c.write.ensures at c.put-named.ensures.put)
    (rw c.write.ensures at c.put-named.ensures.count)
    c.put.ensures.put
