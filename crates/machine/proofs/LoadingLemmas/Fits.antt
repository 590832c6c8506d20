-- The parts of a machine that fit show some configuration, and a machine is made of them.
use Rattle.std.proofs.Common.{◌≡◌, ℕ, ◌*◌, ◌≤◌, List, [], ◌∷◌, length, refl, sym, ap, ◌∙◌, subst}
use Rattle.std.proofs.Common.{arith}
use Rattle.std.specs.Prelude.{reverse}
use Rattle.std.specs.List.{AllByRecursion}
use Rattle.std.proofs.lemmas.List.{reverse-append, reverse-reverse}
use Rattle.guest_memory.specs.rules.Bytes.{IsByte, page_size}
use Rattle.guest_memory.specs.rules.Memories.{IsWithinLimit}
use Rattle.guest_memory.proofs.Lists.{all_both}
use Rattle.wasm_rules.specs.Typing.{Context}
use Rattle.wasm_rules.specs.Validity.{module_context}
use Rattle.wasm_rules.specs.Configuration.{Program}
use Rattle.wasm_rules.specs.Typed.{IsEntry}
use Rattle.machine_frame.specs.laws.Fitting.{FitFrames, FitsProgram}
use Rattle.machine_frame.specs.rules.Threads.{places_of, machine_state_of}
use Rattle.machine_frame.proofs.Threads.Fitting.{shown_fits, fits_shown}
use Rattle.machine_frame.proofs.Threads.Showing.{places_count, shown_frames}
use Rattle.machine.specs.declared.execution.code.Executable.{Executable}
use Rattle.machine.specs.declared.execution.state.State.{State}
use Rattle.machine.specs.Execution.Codes.{StateStandsFor, parts_of_state}
use Rattle.machine.specs.Insides.{seen, IsReducedIn, IsMachine, with_memory_of, IsLoading}
use Rattle.machine.specs.rules.Loading.{ShowsSome}
use Rattle.machine.specs.Loading.Checks.{FitsAround}
use Rattle.machine.proofs.Inside.{typed_memory, memory_in, least_fits, reduced_with}
use Rattle.machine.proofs.OneProgram.{one_program, one_list}
use Rattle.machine.proofs.LoadingLemmas.Bodies.{typed_code}

-- ---- what is of all is of all turned round

all_turned : {X : Type 0} (P : X → Type 0) (xs : List X) → AllByRecursion P xs
    → AllByRecursion P (reverse xs)
all_turned P [] h = tt
all_turned P (x ∷ xs) h =
    let Q : List _ → Type 0 = AllByRecursion P in
    subst Q (sym (reverse-append (x ∷ []) xs))
    (all_both P (reverse xs) (x ∷ []) (all_turned P xs h.1) (h.0, tt))

none_turned : {X : Type 0} (xs : List X) → reverse xs ≡ [] → xs ≡ []
none_turned xs e = sym (reverse-reverse xs) ∙ ap reverse e

-- ---- all that fits

module _ (c : Context) (program : Program) (s : State) where
  no_frames : places_of s.frames s.slots ≡ [] → s.frames ≡ []
  no_frames e = none (length s.frames) s.frames (sym (places_count s.frames s.slots)
      ∙ ap length e)
    where
      none : {X : Type 0} (n : ℕ) (xs : List X) → length xs ≡ 0 → xs ≡ []
      none n [] k = refl
      none n (x ∷ xs) k = absurd (omega (arith, k))

  pub fits_program : IsWithinLimit s.memory → AllByRecursion IsByte s.memory.bytes
      → s.memory.limit ≡ program.most_pages
      → program.least_pages * page_size ≤ length s.memory.bytes → length s.frames ≤ 512
      → FitsAround c program s
      → FitFrames c program (places_of s.frames s.slots)
      → FitsProgram c program (machine_state_of (parts_of_state s))
  fits_program shape bytes limit least few around frames = record {
    memory = typed_memory program s.memory (record {
      limit = limit;
      least = least;
      shape = shape;
      bytes = bytes;
    });
    globals = around.globals;
    later = all_turned (IsEntry program) s.later.items around.later;
    over = λ e. ap reverse (around.over (no_frames e));
    frames = frames;
    few_frames = omega (arith, few, places_count s.frames s.slots);
    few_values = around.few_values;
  }

  pub fits_around : FitsProgram c program (machine_state_of (parts_of_state s))
      → FitsAround c program s
  fits_around h = record {
    globals = h.globals;
    later = subst (AllByRecursion (IsEntry program)) (reverse-reverse s.later.items)
        (all_turned (IsEntry program) (reverse s.later.items) h.later);
    over = λ e. none_turned s.later.items
        (h.over (ap (λ z. places_of z s.slots) e));
    few_values = h.few_values;
  }

-- ---- what is shown

module _ {code : Executable} {s : State} {most : ℕ} (h : IsLoading code s most) where
  pub fits_show : FitsProgram (module_context code.«module» h.loaded.functions) h.loaded.program
      (machine_state_of (parts_of_state s))
      → ShowsSome (seen code s most)
  fits_show fits =
      let k = h.loaded in
      let is_code = k.is_code k.functions k.program k.is in
      let ctx = module_context code.«module» k.functions in
      let d = fits_shown ctx k.program code.table.items (machine_state_of (parts_of_state s))
      (typed_code is_code) (k.table k.functions k.program k.is) fits in
      record {
        program = k.program;
        configuration = d.0;
        shows = record {
          functions = k.functions;
          is = k.is;
          holds = record { limit = h.limit; least = h.least };
          shows = d.1;
        };
      }

  pub shown_fit : ShowsSome (seen code s most)
      → FitsProgram (module_context code.«module» h.loaded.functions) h.loaded.program
      (machine_state_of (parts_of_state s))
  shown_fit shown =
      let k = h.loaded in
      let v = shown.shows in
      let p = one_program code.«module» most v.functions k.functions shown.program k.program v.is
      k.is
      in
      let f = one_list code.«module» most v.functions k.functions shown.program k.program v.is k.is
      in
      let fits = shown_fits (module_context code.«module» v.functions) shown.program
      code.table.items (machine_state_of (parts_of_state s)) shown.configuration v.shows in
      subst (λ q. FitsProgram (module_context code.«module» k.functions) q
      (machine_state_of (parts_of_state s))) p
      (subst (λ fs. FitsProgram (module_context code.«module» fs) shown.program
      (machine_state_of (parts_of_state s))) f fits)

  -- a machine is made of what shows something
  pub machine_made : ShowsSome (seen code s most) → IsMachine code s most
  machine_made shown =
      let v = shown.shows in
      let d = shown.configuration in
      let w = v.shows in
      let ctx = module_context code.«module» v.functions in
      let few = w.few_frames in
      let stands : StateStandsFor code s v.functions shown.program d = record {
        is_code = h.loaded.is_code v.functions shown.program v.is;
        stands = record {
          typed = w.typed;
          frames = shown_frames ctx shown.program s.frames s.slots d.thread h.stacked w.frames;
          shown = record {
            globals_are = w.globals;
            bytes_are = w.memory;
            limit_is = h.limit ∙ sym v.is.most;
          };
          same_table = w.same_table;
          later = sym w.later;
          few_frames = omega (arith, few, places_count s.frames s.slots);
          few_values = w.few_values;
        };
      } in
      record {
        functions = v.functions;
        program = shown.program;
        is = v.is;
        own = h.own;
        fits = least_fits code.«module» most v.functions shown.program v.is w.typed.store.memory;
        reduced = λ memory functions program is_memory is.
            let p = one_program code.«module» most v.functions functions shown.program program
            v.is is in
            let f = one_list code.«module» most v.functions functions shown.program program
            v.is is in
            let own = reduced_with stands w.reduced (memory_in code.«module» most v.functions
            shown.program v.is is_memory) in
            subst (λ q. IsReducedIn code (with_memory_of s memory) functions q) p
            (subst (λ fs. IsReducedIn code (with_memory_of s memory) fs shown.program) f own);
      }
