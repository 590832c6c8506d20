-- Which words a command takes.
use Rattle.std.specs.Prelude.{◌≡◌, ◌⊎◌, ⊤, true, false, List, Result, MatchResult, codes, IsSome}
use Rattle.clap.specs.Words.{Row, Text, kind_of}
use Rattle.clap.specs.declared.error.ErrorKind.TheVariants as kind
use Rattle.command_words.specs.declared.command_line.WordsFault.{WordsFault}
use Rattle.command_words.specs.declared.command_line.WordsFault.TheVariants as fault
use Rattle.command_words.specs.rules.Commands.{copy_in, disk_in, module_in, script_in}
use Rattle.command_words.specs.rules.Commands.{TakesOptions, has_conflict}

-- PATH beside `--all` of such a command is told as a conflict, or want of memory is
abbrev pub IsConflictFault : Text × List Row → WordsFault → Type 0
IsConflictFault met (fault.Words told) = (kind_of told ≡ kind.ArgumentConflict)
    × (has_conflict met ≡ true)
IsConflictFault met fault.Memory = ⊤

-- such a command has no arguments that exclude each other, or this is told
abbrev pub JudgesConflict : Text × List Row → Result ⊤ WordsFault → Type 0
JudgesConflict met result =
    MatchResult result (λ _. has_conflict met ≡ false) (IsConflictFault met)

-- one of the eleven commands, with the paths that it needs
abbrev pub HasPaths : Text → List Row → Type 0
HasPaths name rows = ((name ≡ codes "check") × IsSome (module_in rows))
    ⊎ ((name ≡ codes "create") × IsSome (disk_in rows) × IsSome (module_in rows))
    ⊎ ((name ≡ codes "run") × IsSome (disk_in rows))
    ⊎ ((name ≡ codes "show") × IsSome (disk_in rows))
    ⊎ ((name ≡ codes "inspect") × IsSome (disk_in rows))
    ⊎ ((name ≡ codes "files") × IsSome (disk_in rows))
    ⊎ ((name ≡ codes "history") × IsSome (disk_in rows))
    ⊎ ((name ≡ codes "upgrade") × IsSome (disk_in rows))
    ⊎ ((name ≡ codes "save") × IsSome (disk_in rows) × IsSome (copy_in rows))
    ⊎ ((name ≡ codes "story") × IsSome (script_in rows) × IsSome (module_in rows))
    ⊎ ((name ≡ codes "sweep") × IsSome (script_in rows) × IsSome (module_in rows))

-- such a command, with options whose texts it takes
abbrev pub IsTaken : Text × List Row → Type 0
IsTaken met = HasPaths met.0 met.1 × TakesOptions met.1
