-- A process that is widened.
use Rattle.std.proofs.Common.{◌≡◌, ◌+◌, ap, arith}
use Rattle.wasi_abi.specs.declared.version.Version.TheVariants.{One, Two}
use Rattle.wasi_abi.specs.rules.Versions.{widenings}
use Rattle.wasi_calls_rules.specs.WasiStates.{WasiState}
use Rattle.wasi_calls.specs.rules.Held.{HeldWasiState, ShowsWasiState, held_widened}
use Rattle.process_rules.specs.Processes.{ProcessState, Guest}
use Rattle.process_rules.specs.Runs.{widened}
use Rattle.process.specs.rules.Values.{ProcessValue, ShowsProcess, IsProcess}

host_widened : (held : HeldWasiState) (h : WasiState) → ShowsWasiState held h
    → ShowsWasiState (held_widened held) (record h { version = Two })
host_widened held h shows = record {
  before = shows.before;
  count = shows.count;
  is = ap (λ (z : WasiState). record z { version = Two }) shows.is;
}

-- the value of the widened process
abbrev pub value_widened : ProcessValue → ProcessValue
value_widened v = record v { host = held_widened v.host; answers = v.answers + 1 }

pub shows_widened : (v : ProcessValue) (guest : Guest) (p : ProcessState) → ShowsProcess v guest p
    → ShowsProcess (value_widened v) guest (widened p)
shows_widened v guest p shows = record {
  calls = shows.calls;
  configuration = shows.configuration;
  host = host_widened v.host p.host shows.host;
  steps = shows.steps;
  answers = ap (λ n. n + 1) shows.answers;
  requests = shows.requests;
  ended = shows.ended;
  closed = shows.closed;
}

pub is_widened : (v : ProcessValue) → v.host.host.version ≡ One → IsProcess v
    → IsProcess (value_widened v)
is_widened v narrow is =
    let none : widenings v.host.host.version ≡ 0 = ap widenings narrow in
    let answers = is.few_answers in
    let requests = is.few_requests in
    record {
      guest = is.guest;
      process = widened is.process;
      shows = shows_widened v is.guest is.process is.shows;
      few_steps = is.few_steps;
      few_answers = omega (arith, none, answers);
      few_requests = omega (arith, requests);
      few_lines = is.few_lines;
    }
