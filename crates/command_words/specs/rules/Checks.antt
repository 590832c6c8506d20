-- What a check of a module says (this project's own).
use Rattle.std.specs.Prelude.{◌≡◌, ◌⊎◌, ◌≤◌, ℕ, Bool, true, false, List, ◌++◌, codes, nat_le}
use Rattle.std.specs.Prelude.{if◌then◌else◌}
use Rattle.std.specs.Fmt.{decimal}
use Rattle.std.specs.Io.KnownBytes.{Appends}
use Rattle.wasm_syntax.specs.declared.module.Module.{Module}
use Rattle.wasm_rules.specs.Acceptance.{IsAccepted}
use Rattle.machine.specs.declared.from_bytes.fault.ModuleFault.{ModuleFault}
use Rattle.machine.specs.rules.Acceptance.{HasAcceptedModule, HasNoAcceptedModule, IsReported}
use Rattle.machine.specs.rules.Offers.{offer}
use Rattle.command_words.specs.declared.bounds.Bound.TheVariants.{Pages}
use Rattle.command_words.specs.rules.Bounds.{IsOutside, range_words}
use Rattle.command_words.specs.rules.Listings.{EndsWithList}
use Rattle.command_words.specs.rules.Printers.{PrinterState, Printers, HeedsWrites}
use Rattle.command_words.specs.rules.Reports.{SaysLine}
use Rattle.command_words.specs.rules.Verdicts.{EndsWithMore, first_pages}
use Rattle.command_words.specs.declared.status.Status.{Status}
use Rattle.command_words.specs.declared.status.Status.TheVariants as exit

-- That is told last of a fault, and if that is asked for, all that is in the way.
abbrev pub EndsAsAsked : Bool → List ℕ → ModuleFault → PrinterState → Type 0
EndsAsAsked false bytes why new = EndsWithMore bytes why new
EndsAsAsked true bytes why new = EndsWithList bytes why new

-- So it is told last why the module isn't accepted with so many pages.
abbrev pub TellsWhy : Bool → ℕ → List ℕ → PrinterState → Type 0
TellsWhy lists_all pages bytes new =
    (why : ModuleFault) × IsReported pages bytes why × EndsAsAsked lists_all bytes why new

-- the words of a module that is accepted, whose memory begins with so many pages: with more than
-- the 16 that `create` allows by default the option that allows them
abbrev pub accepted_text : ℕ → List ℕ
accepted_text n = if nat_le n 16 then codes "accepted\n"
    else codes "accepted\ncreate it with --pages " ++ decimal n ++ codes "\n"

-- That is printed of an accepted module that these bytes spell.
abbrev pub ShowsAccepted : ℕ → List ℕ → PrinterState → PrinterState → Type 0
ShowsAccepted pages bytes old new = (m : Module) × IsAccepted offer pages bytes m
    × Appends old.contents new.contents (accepted_text (first_pages m))

-- The status says whether the bytes spell a module that is accepted with so many pages, and that is
-- printed. Where it isn't, all that is in the way is listed if that is asked for.
pub record IsChecked (lists_all : Bool) (pages : ℕ) (bytes : List ℕ) (old : PrinterState)
    (status : Status) (new : PrinterState) : Type 0 where
  pub accepted : status ≡ exit.Done → HasAcceptedModule pages bytes
  pub shown : status ≡ exit.Done → ShowsAccepted pages bytes old new
  pub refused : status ≡ exit.Refused → HasNoAcceptedModule pages bytes
  pub more : status ≡ exit.Refused → TellsWhy lists_all pages bytes new
  pub heeded : HeedsWrites old status new
  pub known : (status ≡ exit.Done) ⊎ (status ≡ exit.Refused) ⊎ (status ≡ exit.OutOfMemory)
      ⊎ (status ≡ exit.Unwritten)

-- A worker may have so many pages, and the module is checked with them. Or it may not, and their
-- bounds are told.
abbrev pub ChecksModule : Bool → ℕ → List ℕ → Printers → Printers → Status → Type 0
ChecksModule lists_all pages bytes before after status =
    ((1 ≤ pages) × (pages ≤ 256)
    × IsChecked lists_all pages bytes before.out status after.out × (after.err ≡ before.err))
    ⊎ (IsOutside 1 256 pages
    × SaysLine (range_words Pages) exit.Refused before.err status after.err
    × (after.out ≡ before.out))
