use Rattle.std.proofs.Common.{◌++◌, [], ◌∷◌, sym, ap, ◌∙◌}
use Rattle.file_tree.specs.rules.Changes.{path_at}
use Rattle.file_tree.specs.rules.Files.{Name}
use Rattle.wasi_calls_rules.specs.Entries.{renamed_over}
use Rattle.wasi_calls.specs.rules.Held.{HeldWasiState}
use Rattle.wasi_calls.proofs.Renamings.{place_moved}
use Rattle.wasi_calls.proofs.renaming.rename_place.Goals as goal

pub returns-clause-done : goal.returns-clause-done
returns-clause-done c = λ m.
    let node = (rw c.in-Leaf.is at c.node_there.ensures.node) in
    let over = (rw c.in-Leaf-target.is at c.node_at-replaced.ensures) in
    rw (c.in-Leaf.is, c.in-Leaf-target.is)
    (place_moved c.args.host.now.host c.in-Leaf.from c.in-Leaf-target.to c.in-Some.node
    c.in-Leaf.field-1.now c.in-Leaf-target.name.now c.node_at-replaced.result
    c.rename_over.new.host.host m c.in_ok-check_way.field-0
    c.node_there.ensures.shape.files c.in_ok-check_path.ensures.path
    (sym node ∙ c.in-Some.is) (c.in_ok-check_path.ensures.gives c.in-Leaf.field-1.now)
    (c.in_ok-check_path-2.ensures.gives c.in-Leaf-target.name.now)
    (sym c.is_within.ensures ∙ c.if-is_within.false) (sym over)
    (sym c.is_same.ensures ∙ c.if-is_same.false) c.in_ok-check_way.ensures
    (ap (λ (x : HeldWasiState). x.host) c.rename_over.ensures
    ∙ ap (λ (x : Name). renamed_over c.in-Some.node c.node_at-replaced.result
    (path_at c.args.host.now.host.files c.in-Some.node)
    (path_at c.args.host.now.host.files c.in-Leaf-target.to ++ x ∷ []) c.args.host.now.host)
    c.in_ok-name.ensures))
