-- The end of the line of a worker that is recovered, as it is written.
use Rattle.std.proofs.Common.{◌≡◌, ℕ, ◌+◌, ◌++◌, Bool, true, false, ap, sym, subst, codes, Ok, Err}
use Rattle.std.proofs.Common.{Some, None, is_some}
use Rattle.std.proofs.lemmas.Bool.{false≢true}
use Rattle.std.specs.Prelude.{Option, Result, OnOk, option_map}
use Rattle.std.specs.Fmt.{decimal}
use Rattle.std.specs.Io.KnownBytes.{Appends}
use Rattle.command_words.specs.rules.Printers.{PrinterState, IsPrinted}
use Rattle.disk_commands.specs.rules.ServedOnDisk.{awaited_words}

-- a process without an end has none as contracts see it
pub not_ended : {A B : Type 0} (f : A → B) (found : Option A) (ended : Option B)
    → option_map f found ≡ ended → is_some found ≡ false → is_some ended ≡ false
not_ended f None ended is none = ap is_some (sym is)
not_ended f (Some a) ended is none = absurd (false≢true (sym none))

-- the request that comes next
pub awaited_said : {E : Type 0} (r : Result (Unit {0}) E) (ended : Bool) (taken next : ℕ)
    (old new : PrinterState) → ended ≡ false → next ≡ taken + 1
    → OnOk r (Appends old.contents new.contents (codes " steps, next request " ++ (decimal next
    ++ codes "\n"))) → OnOk r (new.failed ≡ old.failed)
    → OnOk r (IsPrinted old new (awaited_words ended taken))
awaited_said (Ok done) ended taken next old new over is bytes steady =
    subst (λ b. IsPrinted old new (awaited_words b taken)) (sym over) (
      subst (λ n. Appends old.contents new.contents (codes " steps, next request " ++ (decimal n
          ++ codes "\n"))) is bytes,
      steady,
    )
awaited_said (Err why) ended taken next old new over is bytes steady = tt
