use Rattle.std.proofs.Common.{Bool, Some, None, cond, sym, ap, ◌∙◌, arith}
use Rattle.file_tree.specs.Store.Stored.{stored}
use Rattle.file_tree.specs.Store.Named.{in_directory}
use Rattle.file_tree.proofs.StoreLemmas.Keys.{length-stored}
use Rattle.file_tree.proofs.StoreLemmas.NamedStored.{node_at}
use Rattle.file_tree.proofs.StoreLemmas.Places.{none_at}
use Rattle.file_tree.proofs.store.named.node_named.Goals as goal

pub returns-then-place-keys : goal.returns-then-place-keys
returns-then-place-keys c =
    sym (ap (in_directory c.args.directory)
    (none_at (stored c.args.slab.now c.args.keys.now) c.args.place (omega (
      arith,
      c.if-place-keys.true,
      length-stored c.args.slab.now c.args.keys.now c.requires.present,
    ))))

pub returns-then-hangs_in : goal.returns-then-hangs_in
returns-then-hangs_in c =
    let n = c.index-node.result.now in
    sym (ap (in_directory c.args.directory)
    (node_at c.args.slab.now c.args.keys.now c.args.place 0 n c.requires.present (omega (
      arith,
      c.if-place-keys.false,
    )) c.index-node.ensures)
    ∙ ap (λ (b : Bool). cond b (Some n) None) (sym c.hangs_in.ensures ∙ c.if-hangs_in.true))

pub returns : goal.returns
returns c =
    let n = c.index-node.result.now in
    sym (ap (in_directory c.args.directory)
    (node_at c.args.slab.now c.args.keys.now c.args.place 0 n c.requires.present (omega (
      arith,
      c.if-place-keys.false,
    )) c.index-node.ensures)
    ∙ ap (λ (b : Bool). cond b (Some n) None) (sym c.hangs_in.ensures ∙ c.if-hangs_in.false))
