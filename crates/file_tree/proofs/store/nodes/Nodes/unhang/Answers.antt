use Rattle.std.proofs.Common.{refl, arith}
use Rattle.file_tree.specs.declared.store.node.Hook.TheVariants.{Removed}
use Rattle.file_tree.specs.Store.Changes.{with_hook}
use Rattle.file_tree.specs.Store.Named.{address_at, NoKey}
use Rattle.slab.specs.Slab.{with_value}
use Rattle.file_tree.proofs.StoreLemmas.Keys.{within_keys, key_at, changed_value}
use Rattle.file_tree.proofs.StoreLemmas.KeptNodes.{key_there, key_listed, hook_kept, hook_changed}
use Rattle.file_tree.proofs.StoreLemmas.KeptNodes.{new_address}
use Rattle.file_tree.proofs.StoreLemmas.NamedKeys.{key_left}
use Rattle.file_tree.proofs.StoreLemmas.NamedStored.{in_order}
use Rattle.file_tree.proofs.store.nodes.Nodes.unhang.Goals as goal

pub index-key-requires : goal.index-key-requires
index-key-requires c =
    omega (
      arith,
      within_keys c.self.inside.slab c.self.inside.order.items c.args.self.now c.args.place
          c.self.invariant.0.are c.self.view_is c.requires,
    )

pub take_key-requires-clause-order : goal.take_key-requires-clause-order
take_key-requires-clause-order c =
    in_order NoKey c.self.inside.slab c.self.inside.order.items c.self.inside.names.items
    c.self.invariant.0.are.present c.self.invariant.0.named

pub take_key-requires-clause-there : goal.take_key-requires-clause-there
take_key-requires-clause-there c =
    let key = c.index-key.result.now in
    let at = key_at c.self.inside.slab c.self.inside.order.items c.args.self.now c.args.place key
    c.self.invariant.0.are c.self.view_is c.requires c.index-key.ensures in
    key_there c.self.inside.slab c.self.inside.order.items c.args.self.now c.args.place key at

pub take_key-requires-clause-listed : goal.take_key-requires-clause-listed
take_key-requires-clause-listed c =
    let key = c.index-key.result.now in
    let at = key_at c.self.inside.slab c.self.inside.order.items c.args.self.now c.args.place key
    c.self.invariant.0.are c.self.view_is c.requires c.index-key.ensures in
    key_listed c.self.inside.slab c.self.inside.order.items c.self.inside.names.items
    c.args.self.now c.args.place key c.self.invariant.0 at

pub index_mut-requires : goal.index_mut-requires
index_mut-requires c =
    let key = c.index-key.result.now in
    let at = key_at c.self.inside.slab c.self.inside.order.items c.args.self.now c.args.place key
    c.self.invariant.0.are c.self.view_is c.requires c.index-key.ensures in
    key_there c.self.inside.slab c.self.inside.order.items c.args.self.now c.args.place key at

pub invariant_of-self : goal.invariant_of-self
invariant_of-self c =
    let key = c.index-key.result.now in
    let at = key_at c.self.inside.slab c.self.inside.order.items c.args.self.now c.args.place key
    c.self.invariant.0.are c.self.view_is c.requires c.index-key.ensures in
    let n = c.index_mut.result.now in
    let names = c.take_key.new.names.items in
    let named = c.take_key.ensures.named c.self.inside.order.items c.self.invariant.0.named in
    let after = hook_changed c.self.inside.slab c.self.inside.order.items names key n Removed
    c.index_mut.ensures.value named in
    let address_gone = key_left (address_at (with_value c.self.inside.slab key
    (with_hook Removed n))) c.self.inside.order.items names key after
    (new_address c.self.inside.slab key n Removed c.index_mut.ensures.value) in (
      hook_kept c.self.inside.slab c.self.inside.order.items c.self.inside.names.items names
          c.args.self.now c.args.place key n Removed c.self.invariant.0 at c.index_mut.ensures.value
          address_gone,
      c.take_key.ensures.fits,
      omega (arith, c.self.invariant.2, c.take_key.ensures.kept),
    )

pub returns : goal.returns
returns c =
    let key = c.index-key.result.now in
    let at = key_at c.self.inside.slab c.self.inside.order.items c.args.self.now c.args.place key
    c.self.invariant.0.are c.self.view_is c.requires c.index-key.ensures in
    let n = c.index_mut.result.now in
    changed_value c.self.inside.slab c.self.inside.order.items c.args.self.now c.args.place key
    (with_hook Removed) n (with_hook Removed n) at c.index_mut.ensures.value refl
