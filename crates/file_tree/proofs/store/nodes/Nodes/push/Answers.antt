use Rattle.std.proofs.Common.{sym, ap, subst, ◌∙◌, ◌++◌, ◌∷◌, [], ℕ, List, arith}
use Rattle.file_tree.specs.declared.store.node.Node.{Node}
use Rattle.file_tree.specs.Store.Named.{address_at, OnlyKey}
use Rattle.file_tree.specs.Store.Kept.{AreStoredNodes}
use Rattle.file_tree.proofs.StoreLemmas.Keys.{stored-with_room, stored_push, keys_push}
use Rattle.file_tree.proofs.StoreLemmas.KeptNodes.{room_kept, reserved_kept, adds_there, push_kept}
use Rattle.file_tree.proofs.StoreLemmas.KeptNodes.{key_pushed, free_pushed}
use Rattle.file_tree.proofs.StoreLemmas.NamedKeys.{held_last}
use Rattle.file_tree.proofs.StoreLemmas.NamedRoom.{no_more_named}
use Rattle.file_tree.proofs.StoreLemmas.NamedStored.{in_order}
use Rattle.file_tree.proofs.store.nodes.Nodes.push.Goals as goal

pub overflow_sub-len : goal.overflow_sub-len
overflow_sub-len c =
    let a = c.self.inside in
    let no_more =
    no_more_named (address_at a.slab) a.order.items a.names.items c.self.invariant.0.named in
    omega (arith, no_more, a.order.ok.0, a.names.ok.0)

pub invariant_of-self : goal.invariant_of-self
invariant_of-self c = (
  room_kept c.self.inside.slab c.reserve.new.self c.reserve.new.self.capacity
      c.self.inside.order.items c.self.inside.names.items c.reserve.ensures.rest_kept
      c.self.invariant.0,
  c.self.invariant.1,
  c.self.invariant.2,
)

pub invariant_of-self-in_err-reserve-2 : goal.invariant_of-self-in_err-reserve-2
invariant_of-self-in_err-reserve-2 c = (
  reserved_kept c.self.inside.slab c.reserve.new.self c.self.inside.order.items
      c.self.inside.names.items c.reserve-2.new.self.items c.reserve.ensures.rest_kept
      c.reserve-2.ensures.items c.self.invariant.0,
  omega (arith, c.reserve-2.ensures.len, c.reserve-2.ensures.capacity, c.self.invariant.1),
  omega (arith, c.reserve-2.ensures.capacity, c.self.invariant.2),
)

pub invariant_of-self-in_err-push : goal.invariant_of-self-in_err-push
invariant_of-self-in_err-push c = (
  subst (λ (order : List ℕ). AreStoredNodes c.reserve.new.self order c.reserve-2.new.self.items)
      (sym c.in_err-push.ensures.items)
      (reserved_kept c.self.inside.slab c.reserve.new.self c.self.inside.order.items
      c.self.inside.names.items c.reserve-2.new.self.items c.reserve.ensures.rest_kept
      c.reserve-2.ensures.items c.self.invariant.0),
  omega (arith, c.reserve-2.ensures.len, c.reserve-2.ensures.capacity, c.self.invariant.1),
  omega (arith, c.reserve-2.ensures.capacity, c.self.invariant.2, c.in_err-push.ensures.len),
)

pub put_key-requires-clause-order : goal.put_key-requires-clause-order
put_key-requires-clause-order c =
    let adds = adds_there c.reserve.new.self c.insert_reserved.new.self c.vacant_key-key.result
    c.insert_reserved.result c.args.node
    c.vacant_key-key.ensures.value c.insert_reserved.ensures.key
    c.insert_reserved.ensures.was_vacant c.insert_reserved.ensures.updates in
    let before =
    reserved_kept c.self.inside.slab c.reserve.new.self c.self.inside.order.items
    c.self.inside.names.items c.reserve-2.new.self.items
    c.reserve.ensures.rest_kept c.reserve-2.ensures.items c.self.invariant.0 in
    let order = c.self.inside.order.items in
    let key = c.vacant_key-key.result in
    in_order (OnlyKey key) c.insert_reserved.new.self (order ++ key ∷ []) c.reserve-2.new.self.items
    (keys_push c.reserve.new.self c.insert_reserved.new.self c.vacant_key-key.result c.args.node
    order adds before.are).present
    (key_pushed c.reserve.new.self c.insert_reserved.new.self c.vacant_key-key.result c.args.node
    order c.reserve-2.new.self.items adds before)

pub put_key-requires-clause-free : goal.put_key-requires-clause-free
put_key-requires-clause-free c =
    let adds = adds_there c.reserve.new.self c.insert_reserved.new.self c.vacant_key-key.result
    c.insert_reserved.result c.args.node
    c.vacant_key-key.ensures.value c.insert_reserved.ensures.key
    c.insert_reserved.ensures.was_vacant c.insert_reserved.ensures.updates in
    let before =
    reserved_kept c.self.inside.slab c.reserve.new.self c.self.inside.order.items
    c.self.inside.names.items c.reserve-2.new.self.items
    c.reserve.ensures.rest_kept c.reserve-2.ensures.items c.self.invariant.0 in
    let shown = stored-with_room c.self.inside.slab c.reserve.new.self c.reserve.new.self.capacity
    c.self.inside.order.items c.reserve.ensures.rest_kept ∙ c.self.view_is in
    free_pushed c.reserve.new.self c.insert_reserved.new.self c.self.inside.order.items
    c.reserve-2.new.self.items c.args.self.now c.vacant_key-key.result c.args.node
    adds before shown c.requires.free

pub put_key-requires-clause-room : goal.put_key-requires-clause-room
put_key-requires-clause-room c = λ some.
    let a = c.self.inside in
    let no_more =
    no_more_named (address_at a.slab) a.order.items a.names.items c.self.invariant.0.named in
    let reserved = c.in_ok-reserve-2.ensures.ok in
    omega (arith, no_more, a.order.ok.0, a.names.ok.0, c.reserve-2.ensures.len, reserved)

pub invariant_of-self-2 : goal.invariant_of-self-2
invariant_of-self-2 c =
    let adds = adds_there c.reserve.new.self c.insert_reserved.new.self c.vacant_key-key.result
    c.insert_reserved.result c.args.node
    c.vacant_key-key.ensures.value c.insert_reserved.ensures.key
    c.insert_reserved.ensures.was_vacant c.insert_reserved.ensures.updates in
    let before =
    reserved_kept c.self.inside.slab c.reserve.new.self c.self.inside.order.items
    c.self.inside.names.items c.reserve-2.new.self.items
    c.reserve.ensures.rest_kept c.reserve-2.ensures.items c.self.invariant.0 in
    let shown = stored-with_room c.self.inside.slab c.reserve.new.self c.reserve.new.self.capacity
    c.self.inside.order.items c.reserve.ensures.rest_kept ∙ c.self.view_is in
    let order = c.self.inside.order.items in
    let key = c.vacant_key-key.result in
    let pushed =
    key_pushed c.reserve.new.self c.insert_reserved.new.self c.vacant_key-key.result c.args.node
    order c.reserve-2.new.self.items adds before in
    let named = c.put_key.ensures.named (order ++ key ∷ []) (held_last order key) pushed in (
      subst (λ (keys : List ℕ).
          AreStoredNodes c.insert_reserved.new.self keys c.put_key.new.names.items)
          (sym c.in_ok-push.ensures.items)
          (push_kept c.reserve.new.self c.insert_reserved.new.self c.vacant_key-key.result
          c.args.node order c.reserve-2.new.self.items c.put_key.new.names.items c.args.self.now
          adds before shown c.requires.number named),
      c.put_key.ensures.fits,
      omega (arith, c.in_ok-push.ensures.len, c.put_key.ensures.kept, c.in_ok-reserve-2.ensures.ok),
    )

pub returns-clause-pushed : goal.returns-clause-pushed
returns-clause-pushed c =
    let adds = adds_there c.reserve.new.self c.insert_reserved.new.self c.vacant_key-key.result
    c.insert_reserved.result c.args.node
    c.vacant_key-key.ensures.value c.insert_reserved.ensures.key
    c.insert_reserved.ensures.was_vacant c.insert_reserved.ensures.updates in
    let before =
    reserved_kept c.self.inside.slab c.reserve.new.self c.self.inside.order.items
    c.self.inside.names.items c.reserve-2.new.self.items
    c.reserve.ensures.rest_kept c.reserve-2.ensures.items c.self.invariant.0 in
    let shown = stored-with_room c.self.inside.slab c.reserve.new.self c.reserve.new.self.capacity
    c.self.inside.order.items c.reserve.ensures.rest_kept ∙ c.self.view_is in
    let order = c.self.inside.order.items in
    rw c.in_ok-push.ensures.items
    (stored_push c.reserve.new.self c.insert_reserved.new.self c.vacant_key-key.result c.args.node
    order adds before.are.present ∙ ap (λ (ns : List Node). ns ++ c.args.node ∷ []) shown)
