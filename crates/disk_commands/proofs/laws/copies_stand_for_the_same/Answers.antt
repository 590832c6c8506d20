use Rattle.disk_commands.proofs.CopiedLemmas.{copies_stand_for_the_same as are_copied}
use Rattle.disk_commands.proofs.CopiedLemmas.{saved_files_stand_for_the_same}
use Rattle.disk_commands.proofs.laws.copies_stand_for_the_same.Goals as goal

pub returns-clause-copies : goal.returns-clause-copies
returns-clause-copies g c = are_copied g.D.Disk.medium g.C.Disk.medium

pub returns-clause-files : goal.returns-clause-files
returns-clause-files g c = saved_files_stand_for_the_same g.D.Disk.medium
