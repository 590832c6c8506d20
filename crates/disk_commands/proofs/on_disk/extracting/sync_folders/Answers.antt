use Rattle.std.proofs.Common.{◌≡◌, true, arith}
use Rattle.std.specs.Prelude.{IsTrue}
use Rattle.std.proofs.lemmas.List.Elements.{All-map}
use Rattle.disk_commands.specs.MadeNodes.{made_place}
use Rattle.disk_commands.specs.rules.ExtractedTrees.{Place}
use Rattle.disk_commands.proofs.on_disk.extracting.sync_folders.Goals as goal

pub returns-in-Ok-clause-synced : goal.returns-in-Ok-clause-synced
returns-in-Ok-clause-synced g c =
    let trees = g.R.NewTrees.trees c.args.files.now in
    All-map (λ (at : Place). at.is_folder ≡ true → IsTrue (trees.synced at.path)) made_place
    c.args.made.now (λ k d lt. c.loop-node.invariant.0 k d
    (omega (arith, lt, c.loop-node-test.false, c.loop-node.auto.node-index-end)))
