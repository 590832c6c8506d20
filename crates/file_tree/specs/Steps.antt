-- Steps of the way up.
use Rattle.std.specs.Prelude.{ℕ, List, Option, Some, None}
use Rattle.file_tree.specs.declared.store.node.Hook.{Hook}
use Rattle.file_tree.specs.declared.store.node.Hook.TheVariants.{Root, Removed, In}
use Rattle.file_tree.specs.declared.children.UpStep.{UpStep}
use Rattle.file_tree.specs.declared.children.UpStep.TheVariants.{Top, Up, Nowhere}
use Rattle.file_tree.specs.declared.store.node.Node.{Node}
use Rattle.file_tree.specs.Links.{hook_of}

abbrev pub step_of : Hook → UpStep
step_of Root = Top
step_of Removed = Nowhere
step_of (In d name) = Up d

abbrev pub parent_after : UpStep → Option ℕ
parent_after Top = None
parent_after (Up d) = Some d
parent_after Nowhere = None

-- the directory in which a node hangs
abbrev pub parent_in : List Node → ℕ → Option ℕ
parent_in ns k = parent_after (step_of (hook_of ns k))
