use Rattle.file_tree.specs.Store.Named.{address_at}
use Rattle.file_tree.proofs.StoreLemmas.NamedKeys.{key_put}
use Rattle.file_tree.proofs.StoreLemmas.NamedSearch.{read_address, read_cut, has_address}
use Rattle.std.proofs.Common.{◌∷◌}
use Rattle.file_tree.proofs.store.named.put_key.Goals as goal

pub returns-in-Ok-clause-named : goal.returns-in-Ok-clause-named
returns-in-Ok-clause-named c = λ order at are.
    let slab = c.args.slab.now in
    let key = c.args.key in
    let names = c.args.names.now.items in
    let bytes = c.as_slice-in-In.result.now in
    let address =
    read_address slab key c.index.result.now c.in-In.directory c.in-In.name bytes
    c.index.ensures c.in-In.is c.as_slice-in-In.ensures in
    let cut = read_cut slab key (c.in-In.directory
    ∷ bytes) c.as_slice.result.now names c.count_up_to-place.result address
    c.as_slice.ensures.value c.count_up_to-place.ensures.cut in
    rw c.in-Ok.ensures.items
    (key_put (address_at slab) order names key c.count_up_to-place.result are at
    (has_address c.in-In.directory bytes (address_at slab key) address) cut c.requires.free)
