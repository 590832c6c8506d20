-- Lines: the bytes written to a stream before a newline, cut where they pass the limit (this
-- project's own).
use Rattle.std.specs.Prelude.{ℕ, ◌==◌, nat_lt, if◌then◌else◌, List, [], ◌∷◌, ◌++◌, length}
use Rattle.wasi_abi.specs.rules.Answers.{newline}
use Rattle.wasi_calls_rules.specs.WasiStates.{Line, WasiState}
use Rattle.wasi_calls_rules.specs.declared.limits.TheConstants.{LINE_BYTES}
use Rattle.wasi_calls_rules.specs.declared.output_stream.OutputStream.{OutputStream}
use Rattle.wasi_calls_rules.specs.declared.output_stream.OutputStream.TheVariants.{Stdout, Stderr}

-- the lines so far, and the unfinished one
pub record Cut : Type 0 where
  pub lines : List Line
  pub unfinished : List ℕ

-- One more byte. A newline ends the line. Another byte ends a line that is full, and begins the
-- next one.
abbrev pub cut_byte : OutputStream → Cut → ℕ → Cut
cut_byte stream c b =
    if b == newline then record {
      lines = c.lines ++ record {
        stream = stream;
        text = c.unfinished;
      } ∷ [];
      unfinished = [];
    }
    else if nat_lt (length c.unfinished) LINE_BYTES then record {
      lines = c.lines;
      unfinished = c.unfinished ++ b ∷ [];
    }
    else record {
      lines = c.lines ++ record { stream = stream; text = c.unfinished } ∷ [];
      unfinished = b ∷ [];
    }

-- lines cut off, byte by byte
abbrev pub cut_all : OutputStream → Cut → List ℕ → Cut
cut_all stream c [] = c
cut_all stream c (b ∷ bytes) = cut_all stream (cut_byte stream c b) bytes

-- the stream that a descriptor's number is: 1 is stdout, and 2 stderr; 0 is never written
abbrev pub output_stream : ℕ → OutputStream
output_stream number = if number == 1 then Stdout else Stderr

-- bytes written to a stream
abbrev pub stream_written : OutputStream → List ℕ → WasiState → WasiState
stream_written Stdout bytes h =
    let c = cut_all Stdout (record { lines = h.lines; unfinished = h.first }) bytes in
    record h { lines = c.lines; first = c.unfinished }
stream_written Stderr bytes h =
    let c = cut_all Stderr (record { lines = h.lines; unfinished = h.second }) bytes in
    record h { lines = c.lines; second = c.unfinished }

-- a line that was not finished, where it has any byte
abbrev pub rest_of : OutputStream → List ℕ → List Line
rest_of stream [] = []
rest_of stream (b ∷ text) = record { stream = stream; text = b ∷ text } ∷ []

-- when the process ends, the unfinished line of stdout is emitted, and then that of stderr
abbrev pub lines_ended : WasiState → WasiState
lines_ended h = record h {
  lines = h.lines ++ (rest_of Stdout h.first ++ rest_of Stderr h.second);
  first = [];
  second = [];
}
