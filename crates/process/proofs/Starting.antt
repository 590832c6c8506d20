-- The process of a module that begins.
use Rattle.std.proofs.Common.{◌≡◌, ℕ, List, [], Option, Some, None, refl, sym, ap, ◌∙◌, subst}
use Rattle.std.proofs.Common.{arith}
use Rattle.std.specs.Prelude.{codes}
use Rattle.wasm_syntax.specs.declared.module.Module.{Module}
use Rattle.wasm_syntax.specs.declared.module.ExportItem.TheVariants as export
use Rattle.wasm_rules.specs.Validity.{IsValid}
use Rattle.wasm_rules.specs.Configuration.{Program, Configuration}
use Rattle.wasm_rules.specs.Instantiation.{Begins}
use Rattle.wasi_abi.specs.declared.call.Call.{Call}
use Rattle.wasi_abi.specs.rules.Configs.{Settings}
use Rattle.wasi_calls_rules.specs.WasiStates.{WasiState}
use Rattle.wasi_calls.specs.rules.Held.{HeldWasiState, ShowsWasiState, held_ended}
use Rattle.machine.specs.rules.Values.{MachineValue, ShowsIn}
use Rattle.machine.specs.rules.Runs.{HasBegun}
use Rattle.process_rules.specs.Processes.{Exited, ProcessState, Guest, AreCalls, IsStart, host_of}
use Rattle.process_rules.specs.Processes.{over, closed}
use Rattle.process_rules.proofs.OneStart.{item_number, entry_once}
use Rattle.process_rules.proofs.Quiet.{open_still}
use Rattle.process.specs.declared.stop.ProcessEnd.{ProcessEnd}
use Rattle.process.specs.rules.Values.{ShowsProcess, IsProcess, HasStarted, ending_of, process_of}
use Rattle.process.specs.Parts.{HasFewLines}
use Rattle.process.specs.Callings.{EndsAt, IsEndedBy}
use Rattle.process.proofs.Named.{some_calls}
use Rattle.process.proofs.Performing.{closed_over}

-- the process before its first counted step
abbrev pub first_process : Settings → Configuration → ProcessState
first_process config d = record {
  configuration = d;
  host = host_of config;
  steps = 0;
  answers = 0;
  requests = 0;
  ended = None;
}

abbrev pub first_held : Settings → HeldWasiState
first_held config = record { released = 0; host = host_of config }

module _ (m : Module) (config : Settings) (valid : IsValid m) (machine : MachineValue)
    (begun : HasBegun config.pages m machine)
    (held last : HeldWasiState) (held_is : held ≡ first_held config) where
  first_shown : ShowsWasiState held (host_of config)
  first_shown = let P : HeldWasiState → Type 0 = λ z. ShowsWasiState z (host_of config) in
      subst P (sym held_is) (record { before = []; count = refl; is = refl })

  calls_of : (guest : Guest) → AreCalls m.imports guest.calls
      → AreCalls machine.guest.imports guest.calls
  calls_of guest calls = let P : Module → Type 0 = λ z. AreCalls z.imports guest.calls in
      subst P (sym begun.guest) calls

  begun_at : (guest : Guest) (p : ProcessState) → (s : IsStart m config guest p)
      → ShowsIn machine guest.program s.first
  begun_at guest p s =
      let entries : s.entry ≡ begun.linkable.entry =
      item_number s.entry begun.linkable.entry (entry_once m.exports (codes "_start")
      (export.Function s.entry) (export.Function begun.linkable.entry) valid.names s.exported
      begun.linkable.has_entry.exported) in
      let P : ℕ → Type 0 = λ n. Begins m config.pages n guest.program s.first in
      begun.shows guest.program s.first (subst P entries s.begins)

  at_start : (guest : Guest) (p : ProcessState) (s : IsStart m config guest p)
      (ended : Option ProcessEnd) → EndsAt s.first last (host_of config) ended
      → ShowsProcess (process_of machine last 0 0 0 ended) guest p
  at_start guest p s None ends =
      let q : ProcessState = first_process config s.first in
      let is : p ≡ q =
      s.is ∙ open_still s.first.thread s.first.later q (λ a b. ends.0 (record {
        returned = a;
        nothing_later = b;
      })) in
      let P : ProcessState → Type 0 = λ z. ShowsProcess (process_of machine last 0 0 0 None) guest z
      in
      subst P (sym is) (record {
        calls = calls_of guest s.calls;
        configuration = begun_at guest p s;
        host = ends.1;
        steps = refl;
        answers = refl;
        requests = refl;
        ended = refl;
        closed = λ _. ends.0;
      })
  at_start guest p s (Some how) ends =
      let q : ProcessState = over (Exited 0) (first_process config s.first) in
      let is : p ≡ q = s.is ∙ closed_over (first_process config s.first) ends.0 in
      let P : ProcessState → Type 0 =
      λ z. ShowsProcess (process_of machine last 0 0 0 (Some how)) guest z in
      subst P (sym is) (record {
        calls = calls_of guest s.calls;
        configuration = begun_at guest p s;
        host = ends.2;
        steps = refl;
        answers = refl;
        requests = refl;
        ended = ap (λ (e : ProcessEnd). Some (ending_of e)) ends.1;
        closed = λ k. absurd (cc);
      })

  none_at_first : (ended : Option ProcessEnd) → IsEndedBy ended held last → last.host.lines ≡ []
  none_at_first None e = ap (λ (z : HeldWasiState). z.host.lines) e
      ∙ ap (λ (z : HeldWasiState). z.host.lines) held_is
  none_at_first (Some how) e = ap (λ (z : HeldWasiState). z.host.lines) e
      ∙ ap (λ (z : HeldWasiState). (held_ended z).host.lines) held_is

  module _ (ended : Option ProcessEnd) (ends : (program : Program) (d : Configuration)
      (h : WasiState) → ShowsIn machine program d → ShowsWasiState held h
      → EndsAt d last h ended) where
    shows_start : (guest : Guest) (p : ProcessState) → IsStart m config guest p
        → ShowsProcess (process_of machine last 0 0 0 ended) guest p
    shows_start guest p s =
        at_start guest p s ended (ends guest.program s.first (host_of config)
        (begun_at guest p s) first_shown)

    calls : (calls : List Call) × AreCalls m.imports calls
    calls = some_calls m.types m.imports begun.linkable.imports

    guest_of : Guest
    guest_of = record { program = begun.begins.0; calls = calls.0 }

    first_of : ProcessState
    first_of = closed (first_process config begun.begins.1)

    is_first : IsStart m config guest_of first_of
    unfolding guest_of calls first_of
    is_first = record {
      entry = begun.linkable.entry;
      first = begun.begins.1;
      exported = begun.linkable.has_entry.exported;
      calls = calls.1;
      begins = begun.begins.2;
      is = refl;
    }

    pub has_started : IsEndedBy ended held last
        → HasStarted m config (process_of machine last 0 0 0 ended)
    has_started e = record {
      linkable = begun.linkable;
      guest = begun.guest;
      none_waits = none_at_first ended e;
      first_guest = guest_of;
      first = first_of;
      is_first = is_first;
      shows = shows_start;
    }

    pub is_process : HasFewLines last → IsProcess (process_of machine last 0 0 0 ended)
    unfolding guest_of
    is_process few =
        record {
          guest = guest_of;
          process = first_of;
          shows = shows_start guest_of first_of is_first;
          few_steps = omega arith;
          few_answers = omega arith;
          few_requests = omega arith;
          few_lines = few;
        }
