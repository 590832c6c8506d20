-- Where a worker is, in Prometheus' text format (this project's own).
use Rattle.std.specs.Prelude.{◌≡◌, ℕ, ◌*◌, List, [], ◌∷◌, ◌++◌, codes, nat_eq, if◌then◌else◌}
use Rattle.std.specs.List.{flat_map}
use Rattle.std.specs.Fmt.{decimal}
use Rattle.process.specs.declared.stop.ProcessEnd.TheVariants as end
use Rattle.worker.specs.declared.position.Position.{Position}
use Rattle.disk_commands.specs.declared.on_disk.sighting.Sighting.{Sighting}
use Rattle.disk_commands.specs.declared.on_disk.sighting.WatchedState.{WatchedState}
use Rattle.disk_commands.specs.declared.on_disk.sighting.WatchedState.TheVariants as state

-- ---- a label

-- A byte of a label's value: a backslash, a quote and a newline have a backslash before them.
abbrev pub escaped_byte : ℕ → List ℕ
escaped_byte byte = if nat_eq byte 10 then codes "\\n" else if nat_eq byte 34 then codes "\\\""
    else if nat_eq byte 92 then codes "\\\\" else byte ∷ []

-- the label of a worker's disk, which is at this path, up to its closing brace
abbrev pub disk_label : List ℕ → List ℕ
disk_label path = codes "{disk=\"" ++ flat_map escaped_byte path ++ codes "\""

-- ---- a metric

-- what a metric is, and of which kind
abbrev pub comment : List ℕ → List ℕ → List ℕ → List ℕ
comment name help kind =
    codes "# HELP " ++ (name ++ (codes " " ++ (help ++ (codes "\n# TYPE " ++ (name ++ (codes " "
    ++ (kind ++ codes "\n")))))))

-- a sample of a metric: its name, the label of the disk, what closes the labels, and its value
abbrev pub metric_sample : List ℕ → List ℕ → List ℕ → ℕ → List ℕ
metric_sample name label close n = name ++ label ++ (close ++ (decimal n ++ codes "\n"))

-- a metric with one sample
abbrev pub metric : List ℕ → List ℕ → List ℕ → List ℕ → ℕ → List ℕ
metric name help kind label n =
    comment name help kind ++ metric_sample name label (codes "} ") n

-- ---- numbers

-- the sectors that are left of a journal, of 512 bytes each
abbrev pub left_metric : List ℕ → ℕ → List ℕ
left_metric label sectors =
    metric (codes "wasmhost_journal_left_bytes") (codes "Bytes of its journal that are left.")
    (codes "gauge") label (512 * sectors)

-- the numbers of a worker
abbrev pub numbers_text : List ℕ → Position → List ℕ
numbers_text label s =
    metric (codes "wasmhost_generation") (codes "Number of the worker's newest snapshot.")
    (codes "gauge") label s.generation
    ++ metric (codes "wasmhost_steps_total") (codes "Steps that the worker has taken.")
    (codes "counter") label s.steps
    ++ metric (codes "wasmhost_answers_total") (codes "Answers that it has taken, requests too.")
    (codes "counter") label s.answers
    ++ metric (codes "wasmhost_requests_total") (codes "Requests that it has taken.")
    (codes "counter") label s.requests
    ++ metric (codes "wasmhost_lines_total") (codes "Lines that it has written.")
    (codes "counter") label s.lines
    ++ left_metric label s.journal_left

-- ---- what it is

-- the code of a worker that has exited, and else 0
abbrev pub exit_code : WatchedState → ℕ
exit_code (state.Ended (end.Exited code)) = code
exit_code other = 0

-- the metric of that code
abbrev pub exit_metric : List ℕ → WatchedState → List ℕ
exit_metric label is =
    metric (codes "wasmhost_exit_code") (codes "Code that it has exited with, or 0.")
    (codes "gauge") label (exit_code is)

-- the place of a state among the samples
abbrev pub state_place : WatchedState → ℕ
state_place state.Running = 0
state_place state.Waiting = 1
state_place state.Parked = 2
state_place (state.Ended (end.Exited code)) = 3
state_place (state.Ended (end.Trapped why)) = 4

-- the sample of a state: 1 where it is the worker's, and else 0
abbrev pub flag : List ℕ → List ℕ → WatchedState → ℕ → List ℕ
flag label close is place = metric_sample (codes "wasmhost_state") label close
    (if nat_eq (state_place is) place then 1 else 0)

-- its exit code, and what it is
abbrev pub state_text : List ℕ → WatchedState → List ℕ
state_text label is =
    exit_metric label is
    ++ comment (codes "wasmhost_state") (codes "Whether the worker is in this state.")
    (codes "gauge")
    ++ flag label (codes ",state=\"running\"} ") is 0
    ++ flag label (codes ",state=\"waiting\"} ") is 1
    ++ flag label (codes ",state=\"parked\"} ") is 2
    ++ flag label (codes ",state=\"exited\"} ") is 3
    ++ flag label (codes ",state=\"trapped\"} ") is 4

-- ---- the file

-- the metrics of a worker that was seen so
abbrev pub metrics_text : List ℕ → Sighting → List ℕ
metrics_text label seen = numbers_text label seen.position ++ state_text label seen.state

-- The bytes begin with the first line of such metrics.
abbrev pub BeginsAsMetrics : List ℕ → Type 0
BeginsAsMetrics bytes = (rest : List ℕ) × (bytes
    ≡ codes "# HELP wasmhost_generation Number of the worker's newest snapshot.\n" ++ rest)
