-- What is told of a path that was refused.
use Rattle.std.proofs.Common.{◌≡◌, ◌≢◌, ◌∙◌, ap, inl, inr, refl, sym, subst, ℕ, List, [], ◌∷◌}
use Rattle.std.proofs.Common.{◌++◌, append_assoc, codes}
use Rattle.std.specs.Io.KnownBytes.{Appends}
use Rattle.std.specs.IoError.{error_kind}
use Rattle.std.specs.declared.io.Error as io
use Rattle.std.specs.declared.io.ErrorKind.TheVariants.{OutOfMemory}
use Rattle.sector_disk.specs.rules.Causes.{error_cause}
use Rattle.sector_disk.specs.declared.open_fault.OpenFault.{OpenFault}
use Rattle.sector_disk.specs.declared.open_fault.OpenFault.TheVariants.{Io}
use Rattle.wasi_abi.specs.rules.Answers.{newline}
use Rattle.command_words.specs.rules.Printers.{PrinterState, SaysText}
use Rattle.command_words.specs.rules.Reports.{SaysLine}
use Rattle.command_words.specs.declared.status.Status.{Status}
use Rattle.command_words.specs.declared.status.Status.TheVariants as exit
use Rattle.disk_commands.specs.rules.Openings.{SaysUnread, open_words}
use Rattle.disk_commands.specs.rules.SeedFiles.{seedless_words}

-- an error of a file other than out of memory
pub cause_told : (path : List ℕ) (error : io.Error) (told : OpenFault) (old : PrinterState)
    (status : Status) (new : PrinterState) → error_kind error ≢ OutOfMemory
    → told ≡ Io (error_cause error)
    → SaysLine (open_words path told) exit.IoError old status new
    → SaysUnread path error old status new
cause_told path error told old status new other is says =
    inr (
      other,
      subst (λ fault. SaysLine (open_words path fault) exit.IoError old status new) is says,
    )

-- a path and its cause, as they are written
spelled_so : (path words : List ℕ) → path ++ (58 ∷ 32 ∷ (words ++ newline ∷ []))
    ≡ path ++ codes ": " ++ words ++ newline ∷ []
spelled_so path words =
    sym (append_assoc (path ++ codes ": ") words (newline ∷ [])
    ∙ append_assoc path (codes ": ") (words ++ newline ∷ []))

pub cause_said : (path words told : List ℕ) (old new : PrinterState) → words ≡ told
    → Appends old.contents new.contents
    (codes "failed K2 Io\n" ++ (path ++ (58 ∷ 32 ∷ (words ++ newline ∷ []))))
    → new.failed ≡ old.failed
    → SaysText (codes "failed K2 Io\n" ++ path ++ codes ": " ++ told ++ newline ∷ []) exit.IoError
    old exit.IoError new
cause_said path words told old new is bytes steady =
    let whole : List ℕ → List ℕ = λ t. codes "failed K2 Io\n" ++ t in
    let text = spelled_so path words
    ∙ ap (λ w. path ++ codes ": " ++ w ++ newline ∷ []) is in
    inl (refl, (subst (λ t. Appends old.contents new.contents (whole t)) text bytes, steady))

-- a disk that another host has, or that has changed, as it is written
pub busy_said : (path why : List ℕ) (old new : PrinterState)
    → Appends old.contents new.contents
    (codes "failed K5 Busy\n" ++ (path ++ (why ++ newline ∷ [])))
    → new.failed ≡ old.failed
    → SaysLine (codes "failed K5 Busy\n" ++ path ++ why) exit.IoError old exit.IoError new
busy_said path why old new bytes steady =
    let text : codes "failed K5 Busy\n" ++ (path ++ (why ++ newline ∷ []))
    ≡ (codes "failed K5 Busy\n" ++ path ++ why) ++ newline ∷ [] =
    ap (λ t. codes "failed K5 Busy\n" ++ t) (sym (append_assoc path why (newline ∷ []))) in
    inl (refl, (subst (λ t. Appends old.contents new.contents t) text bytes, steady))

-- a file that has no seed, as it is written
pub seedless_said : (path : List ℕ) (old new : PrinterState)
    → Appends old.contents new.contents
    (codes "failed C2 Text\n" ++ (path ++ codes ": isn't 64 hexadecimal digits\n"))
    → new.failed ≡ old.failed → SaysLine (seedless_words path) exit.Refused old exit.Refused new
seedless_said path old new bytes steady =
    let text : codes "failed C2 Text\n" ++ (path ++ codes ": isn't 64 hexadecimal digits\n")
    ≡ seedless_words path ++ newline ∷ [] =
    ap (λ t. codes "failed C2 Text\n" ++ t)
    (sym (append_assoc path (codes ": isn't 64 hexadecimal digits") (newline ∷ []))) in
    inl (refl, (subst (λ t. Appends old.contents new.contents t) text bytes, steady))
