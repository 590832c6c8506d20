-- What a command of the command line is made of.
use Rattle.std.specs.Prelude.{◌≡◌, false, codes, IsSomeAnd}
use Rattle.clap.specs.Words.{App, Rule, Text, app_of, is_broken, rule_of}
use Rattle.clap.specs.declared.builder.arg.Arg.{Arg}
use Rattle.clap.specs.declared.builder.command.Command.TheViews.{out-Command}
use Rattle.clap.specs.declared.builder.command.Command.{Command}

-- What `--version` says of the program: its version, the layout of its disks, and the logic that
-- its proofs are of.
abbrev pub version_words : Text
version_words = codes "0.1.0, disk layout 1, logic dac8208d650f15bf"

-- the argument has this rule, and belongs to its command alone
abbrev pub IsArgument : Rule → Arg → Type 0
IsArgument rule argument = (rule_of argument ≡ rule) × (argument.global ≡ false)

-- the command says this of its version
abbrev pub HasVersion : Text → Command → Type 0
HasVersion words command =
    IsSomeAnd (out-Command command).version (λ text. text.now ≡ words)

-- the command is this one, whole, and none of its arguments is global
abbrev pub IsCommand : App → Command → Type 0
IsCommand app command = (app_of command ≡ app) × (is_broken command ≡ false)
    × ((out-Command command).has_globals ≡ false)
