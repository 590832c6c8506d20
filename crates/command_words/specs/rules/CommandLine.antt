-- The commands of the program, their arguments and their options.
use Rattle.std.specs.Prelude.{ℕ, ◌-◌, ◌^◌, true, Some, codes}
use Rattle.clap.specs.Words.{App, Rule, Text, new_app, new_rule, with_rule, with_subcommand}
use Rattle.clap.specs.Simple.{on_top}
use Rattle.clap.specs.declared.builder.action.ArgAction.TheVariants.{Append, Set, SetTrue}
use Rattle.clap.specs.declared.builder.value_parser.ValueParser.TheVariants.{Unsigned}

-- ---- arguments and options

-- an argument that has to be given, known by its place
abbrev pub path_rule : Text → Rule
path_rule name = record (new_rule name) { required = true; action = Some Set }

-- an argument that may be given, after those that have to be
abbrev pub last_rule : Text → Rule
last_rule name = record (new_rule name) { action = Some Set }

-- an option with a number from the least one to the most
abbrev pub range_rule : Text → ℕ → ℕ → Rule
range_rule name least most = record (new_rule name) {
  long = Some name;
  value_names = 1;
  parser = Some (Unsigned least most);
}

-- an option with a number from the least one to 2^64 - 1
abbrev pub number_rule : Text → ℕ → Rule
number_rule name least = range_rule name least (2 ^ 64 - 1)

-- the option `--all` of `files`, with the path of a folder
abbrev pub folder_rule : Rule
folder_rule = record (new_rule (codes "FOLDER")) { long = Some (codes "all"); value_names = 1 }

-- an option with any text
abbrev pub text_rule : Text → Rule
text_rule name = record (new_rule name) { long = Some name; value_names = 1 }

-- the option `--env`, which may be repeated
abbrev pub env_rule : Rule
env_rule = record (new_rule (codes "env")) {
  long = Some (codes "env");
  value_names = 1;
  action = Some Append;
}

-- a flag
abbrev pub flag_rule : Text → Rule
flag_rule name = record (new_rule name) { long = Some name; action = Some SetTrue }

-- the flag `--live`
abbrev pub live_rule : Rule
live_rule = flag_rule (codes "live")

-- ---- commands

-- a command with the argument DISK
abbrev pub disk_app : Text → App
disk_app name = with_rule (new_app name) (path_rule (codes "DISK"))

-- `check MODULE`, with `--pages` and `--all` where they are wanted
abbrev pub check_app : App
check_app = with_rule (with_rule (with_rule (new_app (codes "check")) (path_rule (codes "MODULE")))
    (number_rule (codes "pages") 0)) (flag_rule (codes "all"))

-- `create DISK MODULE`
abbrev pub bare_create_app : App
bare_create_app = with_rule (disk_app (codes "create")) (path_rule (codes "MODULE"))

-- the same, with `--pages`, `--files` and `--journal` where they are wanted
abbrev pub sized_create_app : App
sized_create_app = with_rule (with_rule (with_rule bare_create_app (number_rule (codes "pages") 0))
    (number_rule (codes "files") 0)) (number_rule (codes "journal") 0)

-- the same, with `--env` as often as it is wanted, and with `--device` and `--from` where they are
-- wanted
abbrev pub create_app : App
create_app = with_rule (with_rule (with_rule sized_create_app env_rule)
    (flag_rule (codes "device"))) (text_rule (codes "from"))

-- `run DISK`, with `--fuel`, `--every` and `--batch` where they are wanted
abbrev pub paced_run_app : App
paced_run_app = with_rule (with_rule (with_rule (disk_app (codes "run"))
    (number_rule (codes "fuel") 1)) (number_rule (codes "every") 1))
    (range_rule (codes "batch") 1 65536)

-- the same, with `--seed` and `--clock` where they are wanted
abbrev pub seeded_run_app : App
seeded_run_app = with_rule (with_rule paced_run_app (text_rule (codes "seed")))
    (number_rule (codes "clock") 0)

-- the same, with `--rewrite`, `--status` and `--metrics` where they are wanted
abbrev pub watched_run_app : App
watched_run_app = with_rule (with_rule (with_rule seeded_run_app (flag_rule (codes "rewrite")))
    (text_rule (codes "status"))) (text_rule (codes "metrics"))

-- the same, with `--verbose`, `--seed-file` and `--whole-lines` where they are wanted
abbrev pub run_app : App
run_app = with_rule (with_rule (with_rule watched_run_app (flag_rule (codes "verbose")))
    (text_rule (codes "seed-file"))) (flag_rule (codes "whole-lines"))

-- `show DISK`, with `--live` where it is wanted
abbrev pub show_app : App
show_app = with_rule (disk_app (codes "show")) live_rule

-- `inspect DISK`, with `--json` and `--live` where they are wanted
abbrev pub inspect_app : App
inspect_app = with_rule (with_rule (disk_app (codes "inspect")) (flag_rule (codes "json")))
    live_rule

-- `files DISK`, with PATH, `--all` and `--live` where they are wanted
abbrev pub files_app : App
files_app = with_rule (with_rule (with_rule (disk_app (codes "files")) (last_rule (codes "PATH")))
    folder_rule) live_rule

-- `history DISK`, with `--story` and `--live` where they are wanted
abbrev pub history_app : App
history_app = with_rule (with_rule (disk_app (codes "history")) (flag_rule (codes "story")))
    live_rule

-- `upgrade DISK`
abbrev pub upgrade_app : App
upgrade_app = disk_app (codes "upgrade")

-- `save DISK COPY`, with `--live` where it is wanted
abbrev pub save_app : App
save_app = with_rule (with_rule (disk_app (codes "save")) (path_rule (codes "COPY"))) live_rule

-- a command with the arguments SCRIPT and MODULE
abbrev pub bare_script_app : Text → App
bare_script_app name = with_rule (with_rule (new_app name) (path_rule (codes "SCRIPT")))
    (path_rule (codes "MODULE"))

-- the same, with `--pages`, `--files` and `--journal` where they are wanted
abbrev pub script_app : Text → App
script_app name = with_rule (with_rule (with_rule (bare_script_app name)
    (number_rule (codes "pages") 0)) (number_rule (codes "files") 0))
    (number_rule (codes "journal") 0)

-- `story SCRIPT MODULE`
abbrev pub story_app : App
story_app = script_app (codes "story")

-- `sweep SCRIPT MODULE`, with `--fronts` and `--life` where they are wanted
abbrev pub sweep_app : App
sweep_app = with_rule (with_rule (script_app (codes "sweep")) (text_rule (codes "fronts")))
    (number_rule (codes "life") 1)

-- the program, which requires a command, and has a version
abbrev pub bare_app : App
bare_app = on_top (λ top. record top { subcommand_required = true; has_version = true })
    (new_app (codes "wasmhost"))

-- the same, with the commands for modules
abbrev pub half_app : App
half_app = with_subcommand (with_subcommand bare_app check_app.top) create_app.top

-- the same, with the commands for disks
abbrev pub disks_app : App
disks_app = with_subcommand (with_subcommand half_app run_app.top) show_app.top

-- the same, with the commands that look into a disk
abbrev pub looks_app : App
looks_app = with_subcommand (with_subcommand (with_subcommand disks_app inspect_app.top)
    files_app.top) history_app.top

-- the same, with the commands that upgrade and copy a disk
abbrev pub cares_app : App
cares_app = with_subcommand (with_subcommand looks_app upgrade_app.top) save_app.top

-- the same, with the commands for scripts
abbrev pub wasmhost : App
wasmhost = with_subcommand (with_subcommand cares_app story_app.top) sweep_app.top

-- ---- what the code makes of them
