use Rattle.std.proofs.Common.{◌≡◌, ℕ, ◌<◌, true}
use Rattle.std.specs.Prelude.{IsTrue, slice_index_or}
use Rattle.disk_commands.specs.declared.on_disk.clearing.MadeNode.{MadeNode}
use Rattle.disk_commands.specs.MadeNodes.{made_path}
use Rattle.disk_commands.proofs.on_disk.extracting.sync_folders.Given as goal

-- the first folders are durable, and nothing is said
abbrev pub invariant-loop-node : goal.invariant-loop-node
invariant-loop-node g l = ((k : ℕ) (d : MadeNode) → k < l.node-index
    → (slice_index_or l.made k d).is_folder ≡ true
    → IsTrue ((g.R.NewTrees.trees l.files).synced (made_path (slice_index_or l.made k d))))
    × (l.err ≡ l.fn.err)
