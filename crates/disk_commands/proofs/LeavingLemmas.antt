-- What is told of a line that is refused, one part after the other.
use Rattle.std.proofs.Common.{◌≡◌, ◌∙◌, ap, refl, sym, subst, ℕ, List, [], ◌++◌, append_assoc}
use Rattle.std.proofs.Common.{codes, Ok, Err, Some, None}
use Rattle.std.specs.Prelude.{Option, Result, OnOk}
use Rattle.std.specs.Io.KnownBytes.{Appends}
use Rattle.wasi_abi.specs.declared.version.Version.{Version}
use Rattle.wasi_abi.specs.declared.version.Version.TheVariants.{One, Two}
use Rattle.command_words.specs.declared.lines.flaw.LineFlaw.{LineFlaw}
use Rattle.command_words.specs.rules.Flaws.{flaw_line, flaw_words, widening_words}
use Rattle.command_words.specs.rules.Printers.{PrinterState, IsPrinted}
use Rattle.command_words.proofs.LineLemmas.Printed.{prints_both, prints_nothing}

-- a part behind another one
pub then_printed : {E : Type 0} (r : Result (Unit {0}) E) (a b c : PrinterState)
    (front rest : List ℕ) → IsPrinted a b front → OnOk r (IsPrinted b c rest)
    → OnOk r (IsPrinted a c (front ++ rest))
then_printed (Ok done) a b c front rest h k = prints_both a b c front rest h k
then_printed (Err why) a b c front rest h k = tt

-- words that are these
pub words_as : (a b : PrinterState) (words told : List ℕ) → words ≡ told → IsPrinted a b words
    → IsPrinted a b told
words_as a b words told is printed = subst (λ t. IsPrinted a b t) is printed

-- the two steps, as they are written
pub widening_said : {E : Type 0} (r : Result (Unit {0}) E) (disk : List ℕ) (version : Version)
    (old new : PrinterState) → version ≡ One
    → OnOk r (Appends old.contents new.contents (codes ": wasmhost run " ++ (disk
    ++ (codes " </dev/null >>LINES, then wasmhost upgrade " ++ disk))))
    → OnOk r (new.failed ≡ old.failed)
    → OnOk r (IsPrinted old new (widening_words disk version))
widening_said (Ok done) disk version old new is bytes steady =
    let run : List ℕ = codes ": wasmhost run " in
    let then : List ℕ = codes " </dev/null >>LINES, then wasmhost upgrade " in
    let text = append_assoc (run ++ disk) then disk ∙ append_assoc run disk (then ++ disk) in
    rw is (subst (λ t. Appends old.contents new.contents t) (sym text) bytes, steady)
widening_said (Err why) disk version old new is bytes steady = tt

-- nothing is told where nothing is wrong
pub no_flaw : (disk : List ℕ) (version : Version) (flaw : Option LineFlaw) (old new : PrinterState)
    → flaw ≡ None → new ≡ old → IsPrinted old new (flaw_line disk version flaw)
no_flaw disk version flaw old new is same = rw is (prints_nothing old new same)
