use Rattle.std.proofs.Common.{◌-◌, ◌∷◌, ap, length, arith}
use Rattle.file_tree.specs.Store.Named.{address_at}
use Rattle.file_tree.proofs.StoreLemmas.NamedKeys.{key_taken}
use Rattle.file_tree.proofs.StoreLemmas.NamedSearch.{read_address, own_key, has_address}
use Rattle.file_tree.proofs.store.named.take_key.Goals as goal

pub overflow_sub-behind : goal.overflow_sub-behind
overflow_sub-behind c =
    let slab = c.args.slab.now in
    let key = c.args.key in
    let bytes = c.as_slice-in-In.result.now in
    let address =
    read_address slab key c.index.result.now c.in-In.directory c.in-In.name bytes
    c.index.ensures c.in-In.is c.as_slice-in-In.ensures in
    let there = c.requires.listed (has_address c.in-In.directory bytes
    (address_at slab key) address) in
    (own_key slab key (c.in-In.directory
    ∷ bytes) c.as_slice.result.now c.args.names.now.items c.count_up_to-behind.result 0
    c.requires.order address c.as_slice.ensures.value c.count_up_to-behind.ensures.cut there).0

pub returns-in-In-clause-named : goal.returns-in-In-clause-named
returns-in-In-clause-named c = λ order are.
    let slab = c.args.slab.now in
    let key = c.args.key in
    let names = c.args.names.now.items in
    let bytes = c.as_slice-in-In.result.now in
    let address =
    read_address slab key c.index.result.now c.in-In.directory c.in-In.name bytes
    c.index.ensures c.in-In.is c.as_slice-in-In.ensures in
    let there = c.requires.listed (has_address c.in-In.directory bytes
    (address_at slab key) address) in
    let own = own_key slab key (c.in-In.directory
    ∷ bytes) c.as_slice.result.now names c.count_up_to-behind.result 0 c.requires.order address
    c.as_slice.ensures.value c.count_up_to-behind.ensures.cut there in
    rw c.remove.ensures.items (key_taken (address_at slab) order names key
    (c.count_up_to-behind.result - 1) 0 are (omega (
      arith,
      own.0,
      c.count_up_to-behind.ensures.within,
      ap length c.as_slice.ensures.value,
    )) own.1)
