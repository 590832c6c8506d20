-- Frames as the code has them.
use Rattle.std.specs.Prelude.{ℕ, List, Option}
use Rattle.machine.specs.declared.trapped.TrapFrame.{TrapFrame}
use Rattle.disk_commands.specs.rules.TrapFrames.{ToldFrame}

-- a frame with this name, if it has one
abbrev pub told_frame : TrapFrame → Option (List ℕ) → ToldFrame
told_frame frame name =
    record { function = frame.function; name = name; position = frame.position }
