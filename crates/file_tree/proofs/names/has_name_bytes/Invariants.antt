use Rattle.std.proofs.Common.{take}
use Rattle.std.specs.List.{AllByRecursion}
use Rattle.file_tree.specs.rules.Files.{IsNameByte}
use Rattle.file_tree.proofs.names.has_name_bytes.Given as goal

abbrev pub invariant-loop-index : goal.invariant-loop-index
invariant-loop-index l = AllByRecursion IsNameByte (take l.index l.name)
