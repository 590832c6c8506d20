-- What is known of a printer, and what its prints leave (this project's own).
use Rattle.std.specs.Prelude.{◌≡◌, ◌≢◌, ◌⊎◌, ℕ, Bool, true, false, List, ◌++◌, Option}
use Rattle.std.specs.Io.KnownBytes.{Appends}
use Rattle.command_words.specs.declared.status.Status.{Status}
use Rattle.command_words.specs.declared.status.Status.TheVariants as exit

-- what its writer holds, where that is known; whether a person reads along, as on a terminal; and
-- whether a write of it has failed
pub record PrinterState : Type 0 where
  pub contents : Option (List ℕ)
  pub on_terminal : Bool
  pub failed : Bool

-- a state of these parts
abbrev pub printer_state : Option (List ℕ) → Bool → Bool → PrinterState
printer_state contents on_terminal failed = record {
  contents = contents;
  on_terminal = on_terminal;
  failed = failed;
}

-- the two printers of a command: of its output, and of its error output
pub record Printers : Type 0 where
  pub out : PrinterState
  pub err : PrinterState

-- these two
abbrev pub printers : PrinterState → PrinterState → Printers
printers out err = record { out = out; err = err }

-- the same printer, on which a person reads along from now on, where that is so
abbrev pub read_along : Bool → PrinterState → PrinterState
read_along true old = printer_state old.contents true old.failed
read_along false old = old

-- The text is written after what was there, and no write has failed.
abbrev pub IsPrinted : PrinterState → PrinterState → List ℕ → Type 0
IsPrinted old new text =
    Appends old.contents new.contents text × (new.failed ≡ old.failed)

-- known bytes grow by a prefix of these: none of them, some, or all
abbrev pub GrowsByFront : Option (List ℕ) → Option (List ℕ) → List ℕ → Type 0
GrowsByFront old new text = (front : List ℕ) × (rest : List ℕ) × (text ≡ front ++ rest)
    × Appends old new front

-- A write has failed. At most a prefix of the text is written after what was there.
abbrev pub StopsPrinting : PrinterState → PrinterState → List ℕ → Type 0
StopsPrinting old new text =
    GrowsByFront old.contents new.contents text × (new.failed ≡ true)

-- A line for a person is printed where the printer is on a terminal, and nowhere else. A write of
-- it that fails is kept.
abbrev pub TellsPerson : List ℕ → PrinterState → PrinterState → Type 0
TellsPerson line old new =
    ((old.on_terminal ≡ true) × (IsPrinted old new line ⊎ (new.failed ≡ true)))
    ⊎ ((old.on_terminal ≡ false) × (new ≡ old))

-- ---- exit statuses

-- The status is this one, and no write has failed; or it is `Unwritten`, and one has.
abbrev pub IsSaid : Status → PrinterState → Status → PrinterState → Type 0
IsSaid status old answered new =
    ((answered ≡ status) × (new.failed ≡ old.failed))
    ⊎ ((answered ≡ exit.Unwritten) × (new.failed ≡ true))

-- The status is this one, and the text is printed; or it is `Unwritten`, and a write has failed.
abbrev pub SaysText : List ℕ → Status → PrinterState → Status → PrinterState → Type 0
SaysText text status old answered new =
    ((answered ≡ status) × IsPrinted old new text)
    ⊎ ((answered ≡ exit.Unwritten) × (new.failed ≡ true))

-- The status is `Unwritten` just where a write has failed.
abbrev pub HeedsWrites : PrinterState → Status → PrinterState → Type 0
HeedsWrites old status new =
    ((status ≢ exit.Unwritten) × (new.failed ≡ old.failed))
    ⊎ ((status ≡ exit.Unwritten) × (new.failed ≡ true))

-- a write of one of the two has failed
abbrev pub HasOneFailed : Printers → Type 0
HasOneFailed now = (now.out.failed ≡ true) ⊎ (now.err.failed ≡ true)

-- The status is `Unwritten` just where a write of one of the two printers has failed.
abbrev pub HeedsBoth : Printers → Printers → Status → Type 0
HeedsBoth before after status =
    ((status ≢ exit.Unwritten) × (after.out.failed ≡ before.out.failed)
    × (after.err.failed ≡ before.err.failed))
    ⊎ ((status ≡ exit.Unwritten) × HasOneFailed after)
