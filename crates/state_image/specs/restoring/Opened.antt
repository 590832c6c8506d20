-- Descriptors that are made again of what an image tells of them (this project's own).
use Rattle.std.specs.Prelude.{◌≡◌, ℕ, ◌≤◌, if◌then◌else◌}
use Rattle.wasi_abi.specs.rules.Numbers.{directory_type, regular_file}
use Rattle.file_tree.specs.rules.Files.{Files, is_directory}
use Rattle.wasi_calls_rules.specs.WasiStates.{Target, Stream, Node, Descriptor}
use Rattle.wasi_calls.specs.rules.Restored.{IsBoundedDescriptor}
use Rattle.state_image.specs.declared.reading.descriptors.ReadDescriptor.{ReadDescriptor}

-- this type and node are told of it: a stream has no node, and a node has the type that it is of
abbrev pub IsTargetOf : Files → ℕ → ℕ → Target → Type 0
IsTargetOf fs target_type node (Stream s) = (s ≤ 2) × (target_type ≡ s) × (node ≡ 0)
IsTargetOf fs target_type node (Node k) =
    (node ≡ k) × (target_type ≡ (if is_directory fs k then directory_type else regular_file))

-- this is told of it, and its numbers are within their bounds
pub record IsReadAs (fs : Files) (r : ReadDescriptor) (d : Descriptor) : Type 0 where
  pub target : IsTargetOf fs r.target_type r.node d.target
  pub offset : r.offset ≡ d.offset
  pub flags : r.flags ≡ d.flags
  pub base : r.base ≡ d.base
  pub inheriting : r.inheriting ≡ d.inheriting
  pub bounded : IsBoundedDescriptor d
