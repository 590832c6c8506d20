-- Pieces and lines of a reader.
use Rattle.std.specs.Prelude.{◌≡◌, ◌≢◌, ◌⊎◌, ℕ, ◌+◌, ◌≤◌, ◌<◌, Bool, true, List, [], ◌++◌, All}
use Rattle.std.specs.Prelude.{Option, OnSome, IfSome, length}
use Rattle.std.specs.Io.{StartsWith, StopsAt, IsEmptyOrEndsWith}
use Rattle.std.specs.declared.io.ErrorKind.{ErrorKind}
use Rattle.std.specs.declared.io.ErrorKind.TheVariants.{OutOfMemory}
use Rattle.std.specs.Io.BufRead.{first_piece}
use Rattle.std.specs.Io.KnownBytes.{Consumes, IsAtEnd}
use Rattle.wasi_abi.specs.rules.Answers.{newline}
use Rattle.command_words.specs.declared.lines.fault.LineFault.{LineFault}
use Rattle.command_words.specs.declared.lines.fault.LineFault.TheVariants as fault
use Rattle.command_words.specs.declared.lines.buffered.PieceFault.{PieceFault}
use Rattle.command_words.specs.declared.lines.buffered.PieceFault.TheVariants as piece

-- A piece went from the reader to the line. It holds no newline but at its end, and the line is
-- done by a newline or by the end of the bytes.
pub record MovesPiece (old new : Option (List ℕ)) (line line' : List ℕ) (done : Bool) : Type 0 where
  pub piece : List ℕ
  pub grows : line' ≡ line ++ piece
  pub bytes : Consumes old new piece
  pub stops : StopsAt piece newline
  pub free : done ≢ true → All (λ x. x ≢ newline) piece
  pub ends : done ≡ true → IsEmptyOrEndsWith piece newline
  pub last : done ≡ true → length piece ≡ 0 → OnSome old (IsAtEnd new)

-- ---- what is refused

-- bytes are left
abbrev pub AreSome : List ℕ → Type 0
AreSome bytes = bytes ≢ []

-- a reader's error is out of memory where it says so, and else a failed read
abbrev pub IsFaultOfRead : ErrorKind → LineFault → Type 0
IsFaultOfRead kind told = ((kind ≡ OutOfMemory) × (told ≡ fault.Memory))
    ⊎ ((kind ≢ OutOfMemory) × (told ≡ fault.Read))

-- Why a line isn't read. A failed read is told where the reader has failed. Want of memory is
-- told where it has failed for that, or where bytes are left. This holds where the line's form is
-- told.
abbrev pub IsFaultOfReading : Type 0 → Type 0 → Bool → Bool → LineFault → Type 0
IsFaultOfReading bad some failed failed' fault.Form = bad × (failed' ≡ failed)
IsFaultOfReading bad some failed failed' fault.Read = failed' ≡ true
IsFaultOfReading bad some failed failed' fault.Memory = (failed' ≡ true)
    ⊎ (some × (failed' ≡ failed))
IsFaultOfReading bad some failed failed' fault.Clock = ⊥
IsFaultOfReading bad some failed failed' fault.Words = ⊥
IsFaultOfReading bad some failed failed' (fault.Number given wanted) = ⊥

-- Bytes in front of these, with no newline but at their end, bring a line to the limit, after those
-- that were read of it.
pub record GrowsTooLong (limit : ℕ) (line bytes : List ℕ) : Type 0 where
  pub piece : List ℕ
  pub front : StartsWith bytes piece
  pub stops : StopsAt piece newline
  pub long : limit ≤ length line + length piece

-- why no piece comes of a buffered reader with these bytes
abbrev pub IsPieceFault : Option (List ℕ) → ℕ → List ℕ → PieceFault → Type 0
IsPieceFault bytes limit line (piece.Reader told) = (told ≡ fault.Memory) ⊎ (told ≡ fault.Read)
IsPieceFault bytes limit line piece.TooLong = IfSome bytes (GrowsTooLong limit line)
IsPieceFault bytes limit line piece.Memory = IfSome bytes AreSome

-- the first line of these bytes is longer than a request line with so long a text can be
abbrev pub BeginsTooLong : ℕ → List ℕ → Type 0
BeginsTooLong limit bytes = limit + 22 < length (first_piece newline bytes)

-- why a line isn't read of these bytes
abbrev pub IsFaultOfLine : ℕ → Option (List ℕ) → Bool → Bool → LineFault → Type 0
IsFaultOfLine limit bytes failed failed' why =
    IsFaultOfReading (IfSome bytes (BeginsTooLong limit)) (IfSome bytes AreSome) failed failed' why
