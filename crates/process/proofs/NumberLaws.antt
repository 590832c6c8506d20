-- Which steps have lines that can't be numbered.
use Rattle.std.proofs.Common.{◌≡◌, ℕ, List, [], Option, Some, None, refl, arith, length-append}
use Rattle.std.specs.Prelude.{Ok, Err, slice_get, reverse, map}
use Rattle.wasm_syntax.specs.declared.value.Value.{Value}
use Rattle.wasm_rules.specs.Types.{number_in}
use Rattle.wasm_rules.specs.Configuration.{Thread, Outcome, Goes, Traps, Asks, Stuck}
use Rattle.wasm_rules.specs.Steps.{counted_step}
use Rattle.wasi_abi.specs.declared.answer.Answer.{Answer}
use Rattle.wasi_abi.specs.declared.call.Call.{Call}
use Rattle.wasi_calls_rules.specs.Checks.{Ruling, Refuses, Ends, Asks as Inquires}
use Rattle.wasi_calls_rules.specs.Lines.{lines_ended}
use Rattle.wasi_calls_rules.specs.CallRules.{call_rule}
use Rattle.process_rules.specs.Processes.{ProcessState, Guest, HasLineNumbers}
use Rattle.process_rules.specs.Runs.{after_call_rule, after_call, after_counted_step}
use Rattle.process.specs.rules.Stops.{LacksNumbers}
use Rattle.process.specs.laws.Laws.{LacksByCall, CallsAloneLackNumbers, EndsHaveNumbers}

pub ends_have_numbers : EndsHaveNumbers
ends_have_numbers h few = omega (arith, few, length-append (lines_ended h).lines [])

module _ (guest : Guest) (p : ProcessState) (given : Option Answer) (few : HasLineNumbers p.host)
  where
    module _ (f : ℕ) (operands : List Value) (waits : Thread)
        (asks : counted_step guest.program p.configuration ≡ Asks f operands waits) where
      by_call_rule : (c : Call) → slice_get guest.calls f ≡ Some c → (r : Ruling)
          → call_rule c (reverse (map number_in operands)) given
          p.configuration.store.memory p.host ≡ r → LacksNumbers
          (after_call_rule c r p.configuration p.host waits) → LacksByCall guest p given
      by_call_rule c is_call (Ok done) is_done lacks = record {
        function = f;
        operands = operands;
        waits = waits;
        asks = asks;
        call = c;
        is_call = is_call;
        done = done;
        is_done = is_done;
        lacks = lacks;
      }
      by_call_rule c is_call (Err (Refuses e)) is_done lacks = absurd (lacks few)
      by_call_rule c is_call (Err (Ends code)) is_done lacks = absurd lacks
      by_call_rule c is_call (Err (Inquires question)) is_done lacks = absurd lacks

      by_call : (o : Option Call) → slice_get guest.calls f ≡ o
          → LacksNumbers (after_call o operands given p.configuration p.host waits)
          → LacksByCall guest p given
      by_call None is_call lacks = absurd lacks
      by_call (Some c) is_call lacks = by_call_rule c is_call
          (call_rule c (reverse (map number_in operands)) given
          p.configuration.store.memory p.host) refl lacks

    by_counted : (o : Outcome) → counted_step guest.program p.configuration ≡ o
        → LacksNumbers (after_counted_step guest o given p.configuration p.host)
        → LacksByCall guest p given
    by_counted (Goes next) is lacks = absurd (lacks few)
    by_counted (Traps why) is lacks = absurd lacks
    by_counted (Asks f operands waits) is lacks =
        by_call f operands waits is (slice_get guest.calls f) refl lacks
    by_counted Stuck is lacks = absurd lacks

pub calls_alone : CallsAloneLackNumbers
calls_alone guest p given few lacks = by_counted guest p given few
    (counted_step guest.program p.configuration) refl lacks
