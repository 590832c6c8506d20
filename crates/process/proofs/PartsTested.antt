-- A process that is put together from its parts.
use Rattle.std.proofs.Common.{◌≡◌, ℕ, Bool, true, false, List, [], Option, Some, None, refl}
use Rattle.std.specs.Prelude.{◌↔◌, IsTrue, replicate}
use Rattle.std.proofs.lemmas.Bool.{both_ways}
use mathlib.Core.Bool.{not}
use Rattle.std.specs.Option.{option_map}
use Rattle.std.proofs.lemmas.List.{length-replicate}
use Rattle.wasm_rules.specs.Steps.{IsEnded}
use Rattle.wasi_calls_rules.specs.WasiStates.{Line}
use Rattle.wasi_calls_rules.specs.declared.output_stream.OutputStream.TheVariants.{Stdout}
use Rattle.wasi_calls.specs.rules.Held.{HeldWasiState, ShowsWasiState, behind_lines}
use Rattle.machine.specs.rules.Values.{MachineValue}
use Rattle.machine.specs.rules.Loading.{ShowsSome}
use Rattle.process_rules.specs.Processes.{Ending}
use Rattle.process.specs.declared.stop.ProcessEnd.{ProcessEnd}
use Rattle.process.specs.rules.Values.{IsProcess, ending_of, process_of}
use Rattle.process.specs.rules.Restored.{HasLinkableGuest}
use Rattle.process.specs.Parts.{HasFewLines}
use Rattle.process.specs.TestedParts.{AreCounted}
use Rattle.process.proofs.Named.{some_calls}

-- nothing is known of a line that was released, so that any will do
any_line : Line
any_line = record { stream = Stdout; text = [] }

some_lines : ℕ → List Line
some_lines n = replicate n any_line

-- a host shows one
some_host : (held : HeldWasiState) → ShowsWasiState held (behind_lines
    (some_lines held.released) held.host)
unfolding some_lines
some_host held = record {
  before = some_lines held.released;
  count = length-replicate held.released any_line;
  is = refl;
}

runs_on : (ended : Option ProcessEnd) → option_map ending_of ended ≡ None → ended ≡ None
runs_on None e = refl
runs_on (Some how) e = absurd (cc)

-- a test that is turned round tells the contrary
pub tells_not : (told : Bool) (E : Type 0) → (IsTrue told ↔ E) → IsTrue (not told) ↔ (E → ⊥)
tells_not true E tells = (λ e. absurd (cc), λ none. absurd (none (tells.0 refl)))
tells_not false E tells = (λ e over. both_ways false refl (tells.1 over), λ none. refl)

module _ (machine : MachineValue) (held : HeldWasiState) (steps answers requests : ℕ)
    (ended : Option ProcessEnd) where
  pub from_parts : (some : ShowsSome machine) → HasLinkableGuest machine
      → AreCounted held.host.version steps answers requests → HasFewLines held
      → (ended ≡ None → IsEnded some.configuration → ⊥)
      → IsProcess (process_of machine held steps answers requests ended)
  from_parts some linked counted few stays =
      let calls = some_calls machine.guest.types machine.guest.imports linked.1.imports in
      record {
        guest = record { program = some.program; calls = calls.0 };
        process = record {
          configuration = some.configuration;
          host = behind_lines (some_lines held.released) held.host;
          steps = steps;
          answers = answers;
          requests = requests;
          ended = option_map ending_of ended;
        };
        shows = record {
          calls = calls.1;
          configuration = some.shows;
          host = some_host held;
          steps = refl;
          answers = refl;
          requests = refl;
          ended = refl;
          closed = λ none. stays (runs_on ended none);
        };
        few_steps = counted.few_steps;
        few_answers = counted.few_answers;
        few_requests = counted.few_requests;
        few_lines = few;
      }

  -- it is one of some configuration that has not ended where the process has not
  pub stays_open : (is : IsProcess (process_of machine held steps answers requests ended))
      → ended ≡ None → IsEnded is.process.configuration → ⊥
  stays_open is none =
      is.shows.closed (sym_none (option_map ending_of ended) is.process.ended is.shows.ended
      (mapped ended none))
    where
      mapped : (o : Option ProcessEnd) → o ≡ None → option_map ending_of o ≡ None
      mapped None e = refl
      mapped (Some how) e = absurd (cc)

      sym_none : (o p : Option Ending) → o ≡ p → o ≡ None → p ≡ None
      sym_none o p e n = cc
