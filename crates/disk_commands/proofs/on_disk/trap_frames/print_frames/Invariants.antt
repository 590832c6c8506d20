use Rattle.command_words.specs.FunctionNames.{lent_bytes}
use Rattle.disk_commands.proofs.TrapFrameLemmas.{FramesSoFar}
use Rattle.disk_commands.proofs.on_disk.trap_frames.print_frames.Given as goal

-- a frame was told for each number so far
abbrev pub invariant-loop-index : goal.invariant-loop-index
invariant-loop-index g l = FramesSoFar (lent_bytes l.fn.module) l.fn.err l.index l.err
