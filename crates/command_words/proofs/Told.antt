-- What the status of a refused module says of its bytes.
use Rattle.std.proofs.Common.{◌≡◌, ℕ, List, Bool, true, false, refl}
use Rattle.std.specs.Prelude.{Result, Ok, Err, if◌then◌else◌}
use Rattle.machine.specs.declared.from_bytes.fault.ModuleFault.{ModuleFault}
use Rattle.machine.specs.rules.Acceptance.{HasNoAcceptedModule, is_want}
use Rattle.machine.proofs.Wants.{no_want}
use Rattle.command_words.specs.Statuses.{IsRight, status_by}
use Rattle.command_words.specs.declared.status.Status.{Status}
use Rattle.command_words.specs.declared.status.Status.TheVariants as exit

pub refused_by : (pages : ℕ) (bytes : List ℕ) (verdict : Result ℕ ModuleFault)
    → IsRight pages bytes verdict → status_by verdict ≡ exit.Refused
    → HasNoAcceptedModule pages bytes
refused_by pages bytes (Ok first) right e = absurd cc
refused_by pages bytes (Err fault) right e = by_want (is_want fault) refl e
  where
    by_want : (b : Bool) → is_want fault ≡ b
        → ◌≡◌ {A = Status} (if b then exit.OutOfMemory else exit.Refused) exit.Refused
        → HasNoAcceptedModule pages bytes
    by_want true w e = absurd cc
    by_want false w e = no_want fault (HasNoAcceptedModule pages bytes) w right
