use Rattle.std.proofs.Common.{◌≡◌, drop}
use Rattle.std.specs.List.{find}
use Rattle.std.specs.Str.{bytes_eq}
use Rattle.wasi_abi.specs.rules.Calls.{all_calls, name_of}
use Rattle.command_words.proofs.verdicts.imports.call_of.Given as goal

abbrev pub invariant-loop-call : goal.invariant-loop-call
invariant-loop-call l = find (λ c. bytes_eq (name_of c) l.name) (drop l.call-index all_calls)
    ≡ find (λ c. bytes_eq (name_of c) l.name) all_calls
