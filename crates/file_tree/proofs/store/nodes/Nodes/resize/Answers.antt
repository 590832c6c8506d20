use Rattle.std.proofs.Common.{sym, ap, arith, refl}
use Rattle.std.proofs.lemmas.Result.{on_ok_weaker, on_err_weaker}
use Rattle.file_tree.specs.declared.store.node.NodeContent.{NodeContent}
use Rattle.file_tree.specs.Store.Changes.{with_content}
use Rattle.file_tree.proofs.StoreLemmas.Keys.{within_keys, key_at, not_vacant, changed_value}
use Rattle.file_tree.proofs.StoreLemmas.Keys.{kept_value, value_at}
use Rattle.file_tree.proofs.StoreLemmas.KeptNodes.{content_kept}
use Rattle.file_tree.proofs.store.nodes.Nodes.resize.Goals as goal

pub index-key-requires : goal.index-key-requires
index-key-requires c =
    omega (
      arith,
      within_keys c.self.inside.slab c.self.inside.order.items c.args.self.now c.args.place
          c.self.invariant.0.are c.self.view_is c.requires.place,
    )

pub unreachable-requires : goal.unreachable-requires
unreachable-requires c =
    let key = c.index-key.result.now in
    let at = key_at c.self.inside.slab c.self.inside.order.items c.args.self.now c.args.place key
    c.self.invariant.0.are c.self.view_is c.requires.place c.index-key.ensures in
    not_vacant c.self.inside.slab c.self.inside.order.items c.args.self.now c.args.place key at
    (sym c.in-None.ensures.value)

pub invariant_of-self : goal.invariant_of-self
invariant_of-self c =
    let key = c.index-key.result.now in
    let n = c.in-Some.node.now in
    let at = key_at c.self.inside.slab c.self.inside.order.items c.args.self.now c.args.place key
    c.self.invariant.0.are c.self.view_is c.requires.place c.index-key.ensures in (
      content_kept c.self.inside.slab c.self.inside.order.items c.self.inside.names.items
          c.args.self.now c.args.place key n c.resize.new.self c.self.invariant.0 at
          (sym c.in-Some.ensures.value),
      c.self.invariant.1,
      c.self.invariant.2,
    )

pub resize-requires-clause-file : goal.resize-requires-clause-file
resize-requires-clause-file c =
    let key = c.index-key.result.now in
    let n = c.in-Some.node.now in
    let at = key_at c.self.inside.slab c.self.inside.order.items c.args.self.now c.args.place key
    c.self.invariant.0.are c.self.view_is c.requires.place c.index-key.ensures in
    c.requires.file n (value_at c.self.inside.slab c.self.inside.order.items c.args.self.now
    c.args.place key n n at (sym c.in-Some.ensures.value))

pub resize-requires-clause-held : goal.resize-requires-clause-held
resize-requires-clause-held c =
    let key = c.index-key.result.now in
    let n = c.in-Some.node.now in
    let at = key_at c.self.inside.slab c.self.inside.order.items c.args.self.now c.args.place key
    c.self.invariant.0.are c.self.view_is c.requires.place c.index-key.ensures in
    c.requires.held n (value_at c.self.inside.slab c.self.inside.order.items c.args.self.now
    c.args.place key n n at (sym c.in-Some.ensures.value))

pub returns-clause-resized : goal.returns-clause-resized
returns-clause-resized c =
    let key = c.index-key.result.now in
    let n = c.in-Some.node.now in
    let at = key_at c.self.inside.slab c.self.inside.order.items c.args.self.now c.args.place key
    c.self.invariant.0.are c.self.view_is c.requires.place c.index-key.ensures in
    on_ok_weaker c.resize.result (λ turned. record {
      node = n;
      at = value_at c.self.inside.slab c.self.inside.order.items c.args.self.now c.args.place key n
          n at (sym c.in-Some.ensures.value);
      content = c.resize.new.self;
      file = c.resize.ensures.file;
      nodes = changed_value c.self.inside.slab c.self.inside.order.items c.args.self.now
          c.args.place key (with_content c.resize.new.self) n (with_content c.resize.new.self n) at
          (sym c.in-Some.ensures.value) refl;
      turned = turned;
    }) c.resize.ensures.resized

pub returns-clause-unchanged : goal.returns-clause-unchanged
returns-clause-unchanged c =
    let key = c.index-key.result.now in
    let n = c.in-Some.node.now in
    let at = key_at c.self.inside.slab c.self.inside.order.items c.args.self.now c.args.place key
    c.self.invariant.0.are c.self.view_is c.requires.place c.index-key.ensures in
    on_err_weaker c.resize.result (λ e.
    kept_value c.self.inside.slab c.self.inside.order.items c.args.self.now c.args.place key n
    (with_content c.resize.new.self n) at (sym c.in-Some.ensures.value)
    (ap (λ (x : NodeContent). with_content x n) e)) c.resize.ensures.unchanged
