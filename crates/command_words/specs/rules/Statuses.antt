-- The exit statuses: their numbers, and which one says what the commands find.
use Rattle.std.specs.Prelude.{ℕ}
use Rattle.command_words.specs.declared.lines.fault.LineFault.{LineFault}
use Rattle.command_words.specs.declared.lines.fault.LineFault.TheVariants as line
use Rattle.command_words.specs.declared.status.Status.{Status}
use Rattle.command_words.specs.declared.status.Status.TheVariants as exit

-- the number that the program ends with
abbrev pub status_code : Status → ℕ
status_code exit.Done = 0
status_code exit.Different = 1
status_code exit.Usage = 2
status_code exit.Refused = 3
status_code exit.IoError = 4
status_code exit.OutOfMemory = 5
status_code exit.BadLine = 6
status_code exit.Unwritten = 7

-- the exit status of a request line that isn't taken, or of its reader
abbrev pub status_of_line : LineFault → Status
status_of_line line.Read = exit.IoError
status_of_line line.Clock = exit.IoError
status_of_line line.Words = exit.IoError
status_of_line line.Memory = exit.OutOfMemory
status_of_line (line.Number given wanted) = exit.BadLine
status_of_line line.Form = exit.BadLine
