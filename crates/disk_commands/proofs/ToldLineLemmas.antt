-- What is said of the lines that were told, as it is written.
use Rattle.std.proofs.Common.{◌≡◌, ◌∙◌, Bool, false, inl, refl, sym, subst, ℕ, List, [], ◌∷◌, ◌++◌}
use Rattle.std.proofs.Common.{append_assoc, codes}
use Rattle.std.proofs.lemmas.Bool.{ne_eqb}
use Rattle.std.specs.Prelude.{◌==◌}
use Rattle.std.specs.Fmt.{decimal}
use Rattle.std.specs.Io.KnownBytes.{Appends}
use Rattle.wasi_abi.specs.rules.Answers.{newline}
use Rattle.command_words.specs.rules.Printers.{PrinterState}
use Rattle.command_words.specs.rules.Reports.{SaysLine}
use Rattle.command_words.specs.declared.status.Status.{Status}
use Rattle.disk_commands.specs.rules.ToldLines.{told_words}

-- of any number but one
pub lines_said : (told : ℕ) (status : Status) (old new : PrinterState) → (told ≡ 1 → ⊥)
    → Appends old.contents new.contents (codes "told " ++ (decimal told
    ++ codes " lines: keep them with the others\n")) → new.failed ≡ old.failed
    → SaysLine (told_words told) status old status new
lines_said told status old new other bytes steady =
    let name : List ℕ = codes "told " in
    let rest : List ℕ = codes " lines: keep them with the others" in
    let digits : List ℕ = decimal told in
    let text = append_assoc (name ++ digits) rest (newline ∷ [])
    ∙ append_assoc name digits (rest ++ newline ∷ []) in
    rw (ne_eqb told 1 other) (inl (
      refl,
      (subst (λ t. Appends old.contents new.contents t) (sym text) bytes, steady),
    ))
