-- What a worker leaves to the next one, which goes on from it with other code (this project's own).
use Rattle.std.specs.Prelude.{◌≡◌, ℕ, ◌+◌, ◌≤◌, List, []}
use Rattle.std.specs.List.{AllByRecursion}
use Rattle.wasi_abi.specs.declared.version.Version.TheVariants.{One}
use Rattle.wasi_abi.specs.rules.Answers.{IsTime}
use Rattle.file_tree.specs.rules.Files.{Files, IsFiles, used, only_named}
use Rattle.wasi_calls_rules.specs.WasiStates.{Line, first_descriptors}
use Rattle.wasi_calls_rules.specs.laws.Laws.{IsNodeOfBytes}
use Rattle.process_rules.specs.Processes.{ProcessState}

-- What a process goes on from that succeeds another: files, lines, counts and the last monotonic
-- time. Code knows of the lines only how many they are.
pub record Origin : Type 0 where
  pub files : Files
  pub lines : List Line
  pub steps : ℕ
  pub answers : ℕ
  pub requests : ℕ
  pub last_monotonic : ℕ

-- What a process with so much room for its files may go on from. Each node has a path. The change
-- of code was a step: so there is one, and what succeeds another does so once.
pub record IsOrigin (room : ℕ) (o : Origin) : Type 0 where
  pub files : IsFiles o.files
  pub of_bytes : AllByRecursion IsNodeOfBytes o.files.nodes
  pub named : only_named o.files ≡ o.files
  pub within : used o.files ≤ room
  pub some_steps : 1 ≤ o.steps
  pub next : o.files.next ≤ o.steps + 2
  pub answers : o.answers ≤ o.steps
  pub requests : o.requests ≤ o.answers
  pub time : IsTime o.last_monotonic

-- the process with these files, lines and counts, and with this time
abbrev pub succeeding : Origin → ProcessState → ProcessState
succeeding o p = record p {
  host = record p.host { files = o.files; lines = o.lines; last_monotonic = o.last_monotonic };
  steps = o.steps;
  answers = o.answers;
  requests = o.requests;
}

-- a process at its beginning, of version 1, that may go on from there
pub record IsSucceeding (o : Origin) (p : ProcessState) : Type 0 where
  pub origin : IsOrigin p.host.room o
  pub no_steps : p.steps ≡ 0
  pub no_answers : p.answers ≡ 0
  pub no_lines : p.host.lines ≡ []
  pub narrow : p.host.version ≡ One
  pub opened : p.host.descriptors ≡ first_descriptors
