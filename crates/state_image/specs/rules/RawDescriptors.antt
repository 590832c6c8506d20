-- A descriptor as its bytes have it, of whatever type (this project's own).
use Rattle.std.specs.Prelude.{ℕ, List, ◌∷◌, ◌++◌, if◌then◌else◌}
use Rattle.wasi_abi.specs.rules.Layouts.{u16_bytes, u32_bytes, u64_bytes}
use Rattle.wasi_abi.specs.rules.Numbers.{directory_type, regular_file}
use Rattle.file_tree.specs.rules.Files.{Files, is_directory}
use Rattle.wasi_calls_rules.specs.WasiStates.{Target, Stream, Node}
use Rattle.state_image.specs.declared.reading.descriptors.ReadDescriptor.{ReadDescriptor}
use Rattle.state_image.specs.rules.ProcessImage.{Numbered}
use Rattle.state_image.specs.rules.Ranges.{IsIn}

-- a descriptor of any type as bytes
abbrev pub raw_bytes : ReadDescriptor → List ℕ
raw_bytes d =
    u32_bytes d.number ++ ((d.target_type ∷ u64_bytes d.node)
    ++ (u64_bytes d.offset ++ (u16_bytes d.flags ++ (u64_bytes d.base ++ u64_bytes d.inheriting))))

-- within the fields
pub record IsRawIn (d : ReadDescriptor) : Type 0 where
  pub number : IsIn 4 d.number
  pub target_type : IsIn 1 d.target_type
  pub node : IsIn 8 d.node
  pub offset : IsIn 8 d.offset
  pub flags : IsIn 2 d.flags
  pub base : IsIn 8 d.base
  pub inheriting : IsIn 8 d.inheriting

-- a stream's number, or the type of a node
abbrev pub raw_target_type : Files → Target → ℕ
raw_target_type fs (Stream s) = s
raw_target_type fs (Node k) = if is_directory fs k then directory_type else regular_file

-- no node, or a node's number
abbrev pub raw_node : Target → ℕ
raw_node (Stream s) = 0
raw_node (Node k) = k

-- what the bytes have of a descriptor over these files
abbrev pub raw_of : Files → Numbered → ReadDescriptor
raw_of fs d = record {
  number = d.number;
  target_type = raw_target_type fs d.descriptor.target;
  node = raw_node d.descriptor.target;
  offset = d.descriptor.offset;
  flags = d.descriptor.flags;
  base = d.descriptor.base;
  inheriting = d.descriptor.inheriting;
}
