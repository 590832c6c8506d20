use Rattle.std.proofs.Common.{ℕ, ◌<◌, ◌≢◌, get_or}
use Rattle.wasm_syntax.specs.declared.value.Trap.{Trap}
use Rattle.command_words.specs.rules.Texts.{trap_text}
use Rattle.disk_commands.proofs.on_disk.status_line.is_trap_name.Given as goal

-- none of the traps so far has this name
abbrev pub invariant-loop-why : goal.invariant-loop-why
invariant-loop-why l =
    (d : Trap) (k : ℕ) → k < l.why-index → trap_text (get_or l.why-items k d) ≢ l.name
