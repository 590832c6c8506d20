-- What the program says beside the lines of a worker (this project's own).
use Rattle.std.specs.Prelude.{◌≡◌, ◌⊎◌, ℕ, Bool, true, false, List, [], ◌∷◌, ◌++◌, codes}
use Rattle.std.specs.Fmt.{decimal}
use Rattle.wasi_abi.specs.rules.Answers.{newline}
use Rattle.command_words.specs.declared.telling.Obstacle.{Obstacle}
use Rattle.command_words.specs.declared.telling.Obstacle.TheVariants as obstacle
use Rattle.command_words.specs.rules.Printers.{PrinterState, Printers, IsPrinted, SaysText}
use Rattle.command_words.specs.declared.status.Status.{Status}
use Rattle.command_words.specs.declared.status.Status.TheVariants as exit

-- The line is printed, with its newline, and the status is this one; or it is `Unwritten`, and a
-- write has failed.
abbrev pub SaysLine : List ℕ → Status → PrinterState → Status → PrinterState → Type 0
SaysLine line status old answered new =
    SaysText (line ++ newline ∷ []) status old answered new

-- the exit status of a command that isn't begun, or whose output can't be written
abbrev pub obstacle_status : Obstacle → Status
obstacle_status obstacle.Memory = exit.OutOfMemory
obstacle_status obstacle.Unread = exit.IoError
obstacle_status (obstacle.NoText number) = exit.Usage
obstacle_status obstacle.NoSeed = exit.Usage
obstacle_status obstacle.TwoSeeds = exit.Usage
obstacle_status obstacle.NoFronts = exit.Usage
obstacle_status obstacle.NoLife = exit.Usage
obstacle_status obstacle.Unwritten = exit.Unwritten

-- the line that says why
abbrev pub obstacle_words : Obstacle → List ℕ
obstacle_words obstacle.Memory = codes "failed N4 Memory"
obstacle_words obstacle.Unread = codes "failed K2 Io"
obstacle_words (obstacle.NoText number) =
    codes "error: argument " ++ decimal number ++ codes " isn't UTF-8"
obstacle_words obstacle.NoSeed = codes "error: a seed is 64 hexadecimal digits"
obstacle_words obstacle.TwoSeeds = codes "error: --seed and --seed-file can't both be given"
obstacle_words obstacle.NoFronts = codes "error: fronts are numbers from 0 to 512"
obstacle_words obstacle.NoLife = codes "error: the script has no such life"
obstacle_words obstacle.Unwritten = codes "failed N3 Outlet"

-- The text is printed on the output, and the status is this one. Or a write of the output has
-- failed: the status is `Unwritten`, and that is told on the error output.
abbrev pub SaysOnOutput : List ℕ → Status → Printers → Printers → Status → Type 0
SaysOnOutput text status before after answered =
    ((answered ≡ status) × IsPrinted before.out after.out text × (after.err ≡ before.err))
    ⊎ ((after.out.failed ≡ true)
    × SaysLine (obstacle_words obstacle.Unwritten) exit.Unwritten before.err answered after.err)

-- What is said after a command of its output: where a write of it has failed, that is told on the
-- error output, with status `Unwritten`.
abbrev pub SaysOfOutput : Bool → Status → PrinterState → Status → PrinterState → Type 0
SaysOfOutput true status err answered err' =
    SaysLine (obstacle_words obstacle.Unwritten) exit.Unwritten err answered err'
SaysOfOutput false status err answered err' = (answered ≡ status) × (err' ≡ err)
