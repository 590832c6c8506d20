use Rattle.std.proofs.Common.{sym, arith}
use Rattle.file_tree.proofs.StoreLemmas.Keys.{within_keys, key_at, not_vacant, value_at}
use Rattle.file_tree.proofs.store.nodes.Nodes.get.Goals as goal

pub index-requires : goal.index-requires
index-requires c =
    omega (
      arith,
      within_keys c.self.inside.slab c.self.inside.order.items c.args.self.now c.args.place
          c.self.invariant.0.are c.self.view_is c.requires,
    )

pub unreachable-requires : goal.unreachable-requires
unreachable-requires c =
    let key = c.index.result.now in
    let at = key_at c.self.inside.slab c.self.inside.order.items c.args.self.now c.args.place key
    c.self.invariant.0.are c.self.view_is c.requires c.index.ensures in
    not_vacant c.self.inside.slab c.self.inside.order.items c.args.self.now c.args.place key at
    (sym c.in-None.ensures)

pub returns : goal.returns
returns c =
    let key = c.index.result.now in
    let at = key_at c.self.inside.slab c.self.inside.order.items c.args.self.now c.args.place key
    c.self.invariant.0.are c.self.view_is c.requires c.index.ensures in
    value_at c.self.inside.slab c.self.inside.order.items c.args.self.now c.args.place key
    c.in-Some.node.now c.in-Some.node.now at (sym c.in-Some.ensures)
