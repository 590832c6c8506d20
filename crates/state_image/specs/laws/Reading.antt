-- Laws of what is read in steps.
use Rattle.std.specs.Prelude.{◌≡◌, ◌++◌}
use Rattle.std.specs.List.{flat_map}
use Rattle.file_tree.specs.rules.Files.{Files, FileNode}
use Rattle.state_image.specs.declared.reading.progress.ReadCounts.{ReadCounts}
use Rattle.state_image.specs.declared.reading.progress.ReadEnd.{ReadEnd}
use Rattle.state_image.specs.rules.ProcessImage.{Saved, entry_bytes, node_bytes, Numbered}
use Rattle.state_image.specs.rules.ProcessImage.{descriptor_bytes}
use Rattle.state_image.specs.rules.Parts.{counts_of, read_end_of, StreamTexts, streams_of}
use Rattle.state_image.specs.rules.Fronts.{node_front_of, front_bytes, entries_after_front}
use Rattle.state_image.specs.rules.RawDescriptors.{raw_of, raw_bytes}

-- The bytes of a node are those of its front, and of the entries after it.
abbrev pub NodesAreRead : Type 0
NodesAreRead =
    (fs : Files) (n : FileNode)
    → node_bytes fs n
    ≡ front_bytes (node_front_of fs n)
    ++ flat_map entry_bytes (entries_after_front fs n.number n.content)

-- The bytes of a descriptor are those of what is read of it.
abbrev pub DescriptorsAreRead : Type 0
DescriptorsAreRead = (fs : Files) (d : Numbered) → descriptor_bytes fs d ≡ raw_bytes (raw_of fs d)

-- Any counts, any end and any streams are those of a process. So what `ReadsPart` says of each
-- process with a part, it says of one at least.
abbrev pub PartsAreOfProcesses : Type 0
PartsAreOfProcesses =
    (s : Saved)
    → ((counts : ReadCounts) → (t : Saved) × (counts_of t ≡ counts))
    × ((end : ReadEnd) → (t : Saved) × (read_end_of t ≡ end))
    × ((streams : StreamTexts) → (t : Saved) × (streams_of t ≡ streams))
