use Rattle.std.proofs.Common.{sym, arith}
use Rattle.file_tree.specs.Store.Named.{NoKey}
use Rattle.file_tree.proofs.StoreLemmas.Keys.{within_keys, key_at, value_at, removed_value}
use Rattle.file_tree.proofs.StoreLemmas.KeptNodes.{key_listed, without_kept}
use Rattle.file_tree.proofs.StoreLemmas.NamedStored.{in_order}
use Rattle.file_tree.proofs.store.nodes.Nodes.remove.Goals as goal

pub remove-key-requires : goal.remove-key-requires
remove-key-requires c =
    omega (
      arith,
      within_keys c.self.inside.slab c.self.inside.order.items c.args.self.now c.args.place
          c.self.invariant.0.are c.self.view_is c.requires,
    )

pub take_key-requires-clause-order : goal.take_key-requires-clause-order
take_key-requires-clause-order c =
    in_order NoKey c.self.inside.slab c.self.inside.order.items c.self.inside.names.items
    c.self.invariant.0.are.present c.self.invariant.0.named

pub take_key-requires-clause-listed : goal.take_key-requires-clause-listed
take_key-requires-clause-listed c =
    let key = c.remove-key.result in
    let at = key_at c.self.inside.slab c.self.inside.order.items c.args.self.now c.args.place key
    c.self.invariant.0.are c.self.view_is c.requires c.remove-key.ensures.value in
    key_listed c.self.inside.slab c.self.inside.order.items c.self.inside.names.items
    c.args.self.now c.args.place key c.self.invariant.0 at

pub invariant_of-self : goal.invariant_of-self
invariant_of-self c =
    let key = c.remove-key.result in
    let at = key_at c.self.inside.slab c.self.inside.order.items c.args.self.now c.args.place key
    c.self.invariant.0.are c.self.view_is c.requires c.remove-key.ensures.value in
    let named = c.take_key.ensures.named c.self.inside.order.items c.self.invariant.0.named in
    rw c.remove-key.ensures.items (
      without_kept c.self.inside.slab c.try_remove.new.self c.self.inside.order.items
          c.self.inside.names.items c.take_key.new.names.items c.args.self.now c.args.place key
          c.self.invariant.0 at c.try_remove.ensures.updates named,
      c.take_key.ensures.fits,
      omega (arith, c.self.invariant.2, c.take_key.ensures.kept, c.remove-key.ensures.len),
    )

pub returns-clause-node : goal.returns-clause-node
returns-clause-node c =
    let key = c.remove-key.result in
    let at = key_at c.self.inside.slab c.self.inside.order.items c.args.self.now c.args.place key
    c.self.invariant.0.are c.self.view_is c.requires c.remove-key.ensures.value in
    value_at c.self.inside.slab c.self.inside.order.items c.args.self.now c.args.place key
    c.in-Some.node c.in-Some.node at (sym c.in-Some.ensures.value)

pub returns-clause-others : goal.returns-clause-others
returns-clause-others c =
    let key = c.remove-key.result in
    let at = key_at c.self.inside.slab c.self.inside.order.items c.args.self.now c.args.place key
    c.self.invariant.0.are c.self.view_is c.requires c.remove-key.ensures.value in
    rw c.remove-key.ensures.items
    (removed_value c.self.inside.slab c.try_remove.new.self c.self.inside.order.items
    c.args.self.now c.args.place key at c.try_remove.ensures.updates)
