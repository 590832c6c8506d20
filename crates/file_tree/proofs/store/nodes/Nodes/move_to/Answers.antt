use Rattle.std.proofs.Common.{refl, arith}
use Rattle.file_tree.specs.declared.store.node.Hook.TheVariants.{In}
use Rattle.file_tree.specs.Store.Changes.{with_hook}
use Rattle.file_tree.specs.Store.Named.{address_at, NoKey, OnlyKey}
use Rattle.slab.specs.Slab.{with_value}
use Rattle.file_tree.proofs.StoreLemmas.Keys.{within_keys, key_at, changed_value}
use Rattle.file_tree.proofs.StoreLemmas.KeptNodes.{key_there, key_held, key_listed, hook_kept}
use Rattle.file_tree.proofs.StoreLemmas.KeptNodes.{hook_changed, hook_present, free_moved}
use Rattle.file_tree.proofs.StoreLemmas.NamedRoom.{fewer_named}
use Rattle.file_tree.proofs.StoreLemmas.NamedStored.{in_order}
use Rattle.file_tree.proofs.store.nodes.Nodes.move_to.Goals as goal

pub index-key-requires : goal.index-key-requires
index-key-requires c =
    omega (
      arith,
      within_keys c.self.inside.slab c.self.inside.order.items c.args.self.now c.args.place
          c.self.invariant.0.are c.self.view_is c.requires.place,
    )

pub take_key-requires-clause-order : goal.take_key-requires-clause-order
take_key-requires-clause-order c =
    in_order NoKey c.self.inside.slab c.self.inside.order.items c.self.inside.names.items
    c.self.invariant.0.are.present c.self.invariant.0.named

pub take_key-requires-clause-there : goal.take_key-requires-clause-there
take_key-requires-clause-there c =
    let key = c.index-key.result.now in
    let at = key_at c.self.inside.slab c.self.inside.order.items c.args.self.now c.args.place key
    c.self.invariant.0.are c.self.view_is c.requires.place c.index-key.ensures in
    key_there c.self.inside.slab c.self.inside.order.items c.args.self.now c.args.place key at

pub take_key-requires-clause-listed : goal.take_key-requires-clause-listed
take_key-requires-clause-listed c =
    let key = c.index-key.result.now in
    let at = key_at c.self.inside.slab c.self.inside.order.items c.args.self.now c.args.place key
    c.self.invariant.0.are c.self.view_is c.requires.place c.index-key.ensures in
    key_listed c.self.inside.slab c.self.inside.order.items c.self.inside.names.items
    c.args.self.now c.args.place key c.self.invariant.0 at

pub index_mut-requires : goal.index_mut-requires
index_mut-requires c =
    let key = c.index-key.result.now in
    let at = key_at c.self.inside.slab c.self.inside.order.items c.args.self.now c.args.place key
    c.self.invariant.0.are c.self.view_is c.requires.place c.index-key.ensures in
    key_there c.self.inside.slab c.self.inside.order.items c.args.self.now c.args.place key at

pub put_key-requires-clause-order : goal.put_key-requires-clause-order
put_key-requires-clause-order c =
    let key = c.index-key.result.now in
    let at = key_at c.self.inside.slab c.self.inside.order.items c.args.self.now c.args.place key
    c.self.invariant.0.are c.self.view_is c.requires.place c.index-key.ensures in
    let n = c.index_mut.result.now in
    let hook = In c.args.directory c.args.name in
    let names = c.take_key.new.names.items in
    let named = c.take_key.ensures.named c.self.inside.order.items c.self.invariant.0.named in
    in_order (OnlyKey key) (with_value c.self.inside.slab key (with_hook hook n))
    c.self.inside.order.items names
    (hook_present c.self.inside.slab c.self.inside.order.items c.args.self.now c.args.place key n
    hook at c.index_mut.ensures.value)
    (hook_changed c.self.inside.slab c.self.inside.order.items names key n hook
    c.index_mut.ensures.value named)

pub put_key-requires-clause-free : goal.put_key-requires-clause-free
put_key-requires-clause-free c =
    let key = c.index-key.result.now in
    let at = key_at c.self.inside.slab c.self.inside.order.items c.args.self.now c.args.place key
    c.self.invariant.0.are c.self.view_is c.requires.place c.index-key.ensures in
    let names = c.take_key.new.names.items in
    let named = c.take_key.ensures.named c.self.inside.order.items c.self.invariant.0.named in
    free_moved c.self.inside.slab c.self.inside.order.items names c.args.self.now c.args.place key
    c.index_mut.result.now c.args.directory c.args.name at c.index_mut.ensures.value named
    c.requires.free

pub put_key-requires-clause-room : goal.put_key-requires-clause-room
put_key-requires-clause-room c = λ some.
    let a = c.self.inside in
    let key = c.index-key.result.now in
    let names = c.take_key.new.names in
    let at =
    key_at a.slab a.order.items c.args.self.now c.args.place key c.self.invariant.0.are
    c.self.view_is c.requires.place c.index-key.ensures in
    let named = c.take_key.ensures.named a.order.items c.self.invariant.0.named in
    let held = key_held a.slab a.order.items c.args.self.now c.args.place key at in
    let fewer = fewer_named (address_at a.slab) a.order.items names.items key named held in
    let room = c.self.invariant.2 in
    omega (arith, fewer, a.order.ok.0, names.ok.0, room, c.take_key.ensures.kept)

pub invariant_of-self : goal.invariant_of-self
invariant_of-self c =
    let key = c.index-key.result.now in
    let at = key_at c.self.inside.slab c.self.inside.order.items c.args.self.now c.args.place key
    c.self.invariant.0.are c.self.view_is c.requires.place c.index-key.ensures in
    let n = c.index_mut.result.now in
    let hook = In c.args.directory c.args.name in
    let order = c.self.inside.order.items in
    let named = c.take_key.ensures.named order c.self.invariant.0.named in
    let after = hook_changed c.self.inside.slab c.self.inside.order.items c.take_key.new.names.items
    key n hook c.index_mut.ensures.value named in
    let put = c.put_key.ensures.named order
    (key_held c.self.inside.slab c.self.inside.order.items c.args.self.now c.args.place key at)
    after in (
      hook_kept c.self.inside.slab c.self.inside.order.items c.self.inside.names.items
          c.put_key.new.names.items c.args.self.now c.args.place key n hook c.self.invariant.0 at
          c.index_mut.ensures.value put,
      c.put_key.ensures.fits,
      omega (
        arith,
        c.self.invariant.2,
        c.take_key.ensures.kept,
        c.put_key.ensures.kept,
      ),
    )

pub returns : goal.returns
returns c =
    let key = c.index-key.result.now in
    let at = key_at c.self.inside.slab c.self.inside.order.items c.args.self.now c.args.place key
    c.self.invariant.0.are c.self.view_is c.requires.place c.index-key.ensures in
    let n = c.index_mut.result.now in
    let hook = In c.args.directory c.args.name in
    changed_value c.self.inside.slab c.self.inside.order.items c.args.self.now c.args.place key
    (with_hook hook) n (with_hook hook n) at c.index_mut.ensures.value refl
