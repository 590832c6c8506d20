use Rattle.std.proofs.Common.{[], ◌∷◌, map, reverse, subst}
use Rattle.disk_commands.specs.MadeNodes.{made_path}
use Rattle.disk_commands.specs.rules.ClearedTrees.{ClearsAll}
use Rattle.disk_commands.proofs.ClearedLemmas.{more_cleared}
use Rattle.disk_commands.proofs.on_disk.clearing.clear_tree.Goals as goal

pub returns : goal.returns
returns g c =
    more_cleared (g.R.NewTrees.trees c.args.files.now) (reverse (map made_path c.args.made.items))
    (c.args.new.path.now ∷ []) c.args.err.now c.clear_nodes-told.new.err c.clear_place.new.err
    c.args.status c.clear_nodes-told.result c.clear_place.result c.clear_nodes-told.ensures
    (subst (λ p. ClearsAll (g.R.NewTrees.trees c.args.files.now) (p ∷ []) c.clear_nodes-told.new.err
    c.clear_nodes-told.result c.clear_place.result c.clear_place.new.err) c.path.ensures
    c.clear_place.ensures)
