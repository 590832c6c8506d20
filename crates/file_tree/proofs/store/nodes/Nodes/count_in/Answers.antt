use Rattle.std.proofs.Common.{arith, subst, ◌≡◌, None, ℕ}
use Rattle.file_tree.specs.Store.Named.{in_directory, named_node}
use Rattle.file_tree.proofs.StoreLemmas.NamedLookups.{keys_in_order, counted_at, none_past}
use Rattle.file_tree.proofs.store.nodes.Nodes.count_in.Goals as goal

pub count_up_to-first-requires : goal.count_up_to-first-requires
count_up_to-first-requires c = keys_in_order c.self.invariant.0 c.as_slice-keys.ensures.value

pub loop-low-init : goal.loop-low-init
loop-low-init c =
    let first = c.count_up_to-first in (
      omega arith,
      first.ensures.within,
      omega arith,
      λ i le lt. absurd (omega (arith, le, lt)),
      none_past c.self.invariant.0 c.as_slice-keys.ensures.value c.self.view_is c.args.directory
          first.result first.ensures.cut,
    )

pub node_named-requires : goal.node_named-requires
node_named-requires c = keys_in_order c.self.invariant.0 c.as_slice-keys.ensures.value

pub returns : goal.returns
returns c =
    let a = c.self.inside in
    let first = c.count_up_to-first in
    let loop = c.loop-low.invariant in
    let met : c.loop-low.high ≡ c.loop-low.low =
    omega (arith, c.loop-low-test.false, loop.1) in
    counted_at c.self.invariant.0 c.as_slice-keys.ensures.value c.self.view_is c.args.directory
    first.result first.ensures.cut c.loop-low.low loop.0 loop.3
    (subst (λ (k : ℕ).
    in_directory c.args.directory (named_node a.slab c.as_slice-keys.result.now k) ≡ None)
    met loop.4)
