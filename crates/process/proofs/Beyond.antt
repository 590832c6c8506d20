-- Lines that can't be numbered.
use Rattle.std.proofs.Common.{◌≡◌, ◌≢◌, ℕ, List, Option, refl, sym, ap, ◌∙◌, subst}
use Rattle.std.specs.Prelude.{Ok, Err}
use Rattle.wasm_rules.specs.Configuration.{Thread}
use Rattle.wasi_abi.specs.declared.answer.Answer.{Answer}
use Rattle.wasi_abi.specs.declared.call.Call.{Call}
use Rattle.wasi_calls_rules.specs.Checks.{Bytes, Done, Halt, Ruling}
use Rattle.wasi_calls_rules.specs.CallRules.{call_rule}
use Rattle.wasi_calls.specs.rules.Held.{HeldWasiState}
use Rattle.machine.specs.rules.Values.{MachineValue}
use Rattle.process_rules.specs.Processes.{ProcessState, Guest, HasLineNumbers}
use Rattle.process_rules.specs.Runs.{after_call_rule, next_of}
use Rattle.process.specs.Parts.{ShowsParts, IsAtCall}
use Rattle.process.specs.rules.Stops.{LacksNumbers}
use Rattle.process.specs.Callings.{HasNoNumbers}
use Rattle.process.proofs.Performing.{next_is}

call_rule_lacks : (p : ProcessState) (c : Call) (waits : Thread) (r : Ruling)
    → ((done : Done) → r ≡ Ok done → HasLineNumbers done.host → ⊥)
    → ((halt : Halt) → r ≢ Err halt) → LacksNumbers (after_call_rule c r
    p.configuration p.host waits)
call_rule_lacks p c waits (Ok done) many not_stopped = many done refl
call_rule_lacks p c waits (Err halt) many not_stopped = absurd (not_stopped halt refl)

pub beyond : (old : MachineValue) (held : HeldWasiState) (c : Call) (arguments : List ℕ)
    (given : Option Answer) → HasNoNumbers old held c arguments
    → (guest : Guest) (p : ProcessState) → ShowsParts old held guest p
    → IsAtCall guest p.configuration c arguments
    → LacksNumbers (next_of guest p given)
beyond old held c arguments given none guest p shows at =
    let m : Bytes = p.configuration.store.memory in
    let is : old.state.memory ≡ m = shows.configuration.shows.memory in
    let r : Ruling = call_rule c arguments given m p.host in
    let same : call_rule c arguments given old.state.memory p.host ≡ r =
    ap (λ (z : Bytes). call_rule c arguments given z p.host) is in
    subst LacksNumbers (sym (next_is guest p c arguments at given r refl))
    (call_rule_lacks p c at.waits r
    (λ done e. none.done given p.host done shows.host (same ∙ e))
    (λ halt e. none.not_stopped given p.host halt shows.host (same ∙ e)))
