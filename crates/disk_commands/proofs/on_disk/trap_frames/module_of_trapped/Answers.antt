use Rattle.disk_layout.proofs.ReadLemmas.{no_reads}
use Rattle.disk_commands.proofs.on_disk.trap_frames.module_of_trapped.Goals as goal

pub returns-then-trap_frame_count-eq0-clause-reads :
    goal.returns-then-trap_frame_count-eq0-clause-reads
returns-then-trap_frame_count-eq0-clause-reads g c = no_reads (g.D.Disk.medium c.args.disk.now)
