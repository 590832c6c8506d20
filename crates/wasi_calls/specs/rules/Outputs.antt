-- The two output streams as the code keeps them (this project's own).
use Rattle.std.specs.Prelude.{ℕ, ◌+◌, ◌==◌, ◌≤◌, nat_lt, if◌then◌else◌, List, [], ◌∷◌, ◌++◌, length}
use Rattle.wasi_abi.specs.rules.Answers.{newline}
use Rattle.wasi_calls_rules.specs.WasiStates.{Line}
use Rattle.wasi_calls_rules.specs.Lines.{cut_all, rest_of}
use Rattle.wasi_calls_rules.specs.declared.limits.TheConstants.{LINE_BYTES}
use Rattle.wasi_calls_rules.specs.declared.output_stream.OutputStream.{OutputStream}
use Rattle.wasi_calls_rules.specs.declared.output_stream.OutputStream.TheVariants.{Stdout, Stderr}

-- the unfinished lines of stdout and stderr, the emitted lines that wait, and how many went before
-- them
pub record Output : Type 0 where
  pub first : List ℕ
  pub second : List ℕ
  pub waiting : List Line
  pub released : ℕ

-- nothing was written yet
abbrev pub no_output : Output
no_output = record { first = []; second = []; waiting = []; released = 0 }

-- bytes written to a stream
abbrev pub output_written : OutputStream → List ℕ → Output → Output
output_written Stdout bytes o =
    let c = cut_all Stdout (record { lines = o.waiting; unfinished = o.first }) bytes in
    record o { waiting = c.lines; first = c.unfinished }
output_written Stderr bytes o =
    let c = cut_all Stderr (record { lines = o.waiting; unfinished = o.second }) bytes in
    record o { waiting = c.lines; second = c.unfinished }

-- the unfinished line of a stream
abbrev pub unfinished_in : OutputStream → Output → List ℕ
unfinished_in Stdout o = o.first
unfinished_in Stderr o = o.second

-- the lines that an end emits
abbrev pub lines_at_end : Output → List Line
lines_at_end o = rest_of Stdout o.first ++ rest_of Stderr o.second

-- what was unfinished on both streams is lines that wait
abbrev pub output_ended : Output → Output
output_ended o = record o { waiting = o.waiting ++ lines_at_end o; first = []; second = [] }

-- there is room for as many lines as wait and an end would emit
abbrev pub HasLineRoom : ℕ → Output → Type 0
HasLineRoom places o = length o.waiting + length (lines_at_end o) ≤ places

-- How many lines bytes begin, where so many bytes are unfinished before them. A byte begins one
-- where no line is unfinished. Any but a newline does where a full line ends by it.
abbrev pub count_begun : ℕ → List ℕ → ℕ
count_begun len [] = 0
count_begun len (b ∷ bytes) =
    if b == newline then (if len == 0 then count_begun 0 bytes + 1 else count_begun 0 bytes)
    else if len == 0 then count_begun 1 bytes + 1
    else if nat_lt len LINE_BYTES then count_begun (len + 1) bytes
    else count_begun 1 bytes + 1
