-- What readers give of a process: what an image counts, its phase and its streams (this project's
-- own).
use Rattle.std.specs.Prelude.{ℕ, List, [], ◌∷◌, Option, Some, None}
use Rattle.process_rules.specs.Processes.{Ending, Exited, Trapped}
use Rattle.state_image.specs.declared.reading.progress.ReadCounts.{ReadCounts}
use Rattle.state_image.specs.declared.reading.progress.ReadPhase.{ReadPhase}
use Rattle.state_image.specs.declared.reading.progress.ReadPhase.TheVariants as read
use Rattle.state_image.specs.declared.reading.progress.ReadEnd.{ReadEnd}
use Rattle.state_image.specs.declared.reading.progress.ReadStreams.{ReadStreams}
use Rattle.state_image.specs.rules.ProcessImage.{Saved}

-- what an image counts
abbrev pub counts_of : Saved → ReadCounts
counts_of s = record {
  steps = s.steps;
  answers = s.answers;
  requests = s.requests;
  lines = s.lines;
  last_monotonic = s.last_monotonic;
}

-- a process that runs is in the start function while a call is to come
abbrev pub read_phase : Option Ending → List ℕ → ReadPhase
read_phase None [] = read.Running
read_phase None (f ∷ later) = read.Starting
read_phase (Some (Exited code)) later = read.Exited code
read_phase (Some (Trapped why)) later = read.Trapped why

-- its phase, and whether the input has ended
abbrev pub read_end_of : Saved → ReadEnd
read_end_of s = record { phase = read_phase s.ended s.machine.later; input_ended = s.input_ended }

-- the bytes of three streams
pub record StreamTexts : Type 0 where
  pub unread : List ℕ
  pub first : List ℕ
  pub second : List ℕ

-- its streams
abbrev pub streams_of : Saved → StreamTexts
streams_of s = record { unread = s.unread; first = s.first; second = s.second }

-- those that are lent
abbrev pub texts_of : ReadStreams → StreamTexts
texts_of s = record { unread = s.unread.now; first = s.first.now; second = s.second.now }
