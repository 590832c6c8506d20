-- What a run says of its input after its last words (this project's own).
use Rattle.std.specs.Prelude.{◌≡◌, ◌≢◌, ◌⊎◌, ℕ, ◌<◌, List, ◌++◌, Option, codes}
use Rattle.wasi_abi.specs.declared.version.Version.{Version}
use Rattle.wasi_abi.specs.rules.Versions.{text_limit}
use Rattle.command_words.specs.declared.lines.flaw.LineFlaw.{LineFlaw}
use Rattle.command_words.specs.rules.Flaws.{flaw_line}
use Rattle.command_words.specs.rules.Later.{CountsLater}
use Rattle.command_words.specs.rules.Pieces.{lines_of}
use Rattle.command_words.specs.rules.Printers.{PrinterState, SaysText, TellsPerson}
use Rattle.command_words.specs.rules.Texts.{named_number}
use Rattle.command_words.specs.declared.status.Status.{Status}
use Rattle.command_words.specs.declared.status.Status.TheVariants as exit

-- where the refused line is
abbrev pub place_line : ℕ → List ℕ
place_line number = named_number (codes "at input line ") number ++ codes "\n"

-- how many lines were passed over
abbrev pub skipped_line : ℕ → List ℕ
skipped_line count = named_number (codes "skipped ") count ++ codes "\n"

-- A person is told how many lines were passed over, where there are any.
abbrev pub TellsSkipped : ℕ → PrinterState → PrinterState → Type 0
TellsSkipped count old new =
    ((count ≡ 0) × (new ≡ old)) ⊎ ((0 < count) × TellsPerson (skipped_line count) old new)

-- how many requests nobody took
abbrev pub untaken_line : ℕ → List ℕ
untaken_line count = named_number (codes "requests not taken: ") count ++ codes "\n"

-- The requests among the bytes that were read ahead are counted, but for those that were taken
-- before. A text has so many bytes at most. Their number is said, where there are any.
abbrev pub SaysUntaken : ℕ → ℕ → List ℕ → PrinterState → Status → PrinterState → Type 0
SaysUntaken limit taken ahead old answered new =
    (count : ℕ) × CountsLater limit taken (lines_of ahead) count
    × (((count ≡ 0) × (answered ≡ exit.Done) × (new ≡ old))
    ⊎ ((0 < count) × SaysText (untaken_line count) exit.Done old answered new))

-- where a run has left its input: the path of its disk, the version of the worker, the requests
-- that it has taken, the bytes that were read ahead, the line that was begun last, the lines that
-- were passed over, and what is wrong with the line that was refused
pub record InputLeft : Type 0 where
  pub disk : List ℕ
  pub version : Version
  pub taken : ℕ
  pub ahead : List ℕ
  pub line : ℕ
  pub skipped : ℕ
  pub flaw : Option LineFlaw

-- an input that was left so
abbrev pub input_left : List ℕ → Version → ℕ → List ℕ → ℕ → ℕ → Option LineFlaw → InputLeft
input_left disk version taken ahead line skipped flaw = record {
  disk = disk;
  version = version;
  taken = taken;
  ahead = ahead;
  line = line;
  skipped = skipped;
  flaw = flaw;
}

-- `BadLine`: a line was refused, and its number is told, and what is wrong with it, if something
-- is. `Done`: the worker is over or waits. Lines that were passed over are counted, and so are the
-- requests that are left. Of another status nothing more is said.
pub record SaysOfInput (left : InputLeft) (status : Status) (old : PrinterState)
    (answered : Status) (new : PrinterState) : Type 0 where
  pub refused : status ≡ exit.BadLine
      → SaysText (place_line left.line ++ flaw_line left.disk left.version left.flaw) exit.BadLine
      old answered new
  pub over : status ≡ exit.Done → (between : PrinterState) × TellsSkipped left.skipped old between
      × SaysUntaken (text_limit left.version) left.taken left.ahead between answered new
  pub others : status ≢ exit.BadLine → status ≢ exit.Done → (answered ≡ status) × (new ≡ old)
