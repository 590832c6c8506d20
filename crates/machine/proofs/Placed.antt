-- Where the words of a machine's frames lie, and that its module is valid.
use Rattle.std.proofs.Common.{◌≡◌, ℕ, ◌*◌, ◌≤◌, ◌^◌, min, List, [], ◌∷◌, length, Option, Some}
use Rattle.std.proofs.Common.{None, refl, sym, ◌∙◌, arith}
use Rattle.std.specs.Prelude.{replicate}
use Rattle.std.specs.Option.{option_map_or}
use Rattle.wasm_syntax.specs.declared.types.MemoryType.{MemoryType}
use Rattle.wasm_syntax.specs.declared.types.FunctionType.{FunctionType}
use Rattle.std.proofs.lemmas.List.{length-replicate}
use Rattle.guest_memory.specs.rules.Bytes.{IsByte, page_size}
use Rattle.guest_memory.specs.rules.Memories.{zeroed}
use Rattle.guest_memory.proofs.Lists.{all_replicate}
use Rattle.wasm_rules.specs.Configuration.{Program}
use Rattle.wasm_rules.specs.Instantiation.{most_pages_of}
use Rattle.wasm_rules.specs.Validity.{IsValid, module_context, memories_of}
use Rattle.machine_frame.specs.rules.Stacked.{AreStacked}
use Rattle.machine_frame.proofs.Threads.Showing.{frames_stacked}
use Rattle.machine.specs.declared.execution.code.Executable.{Executable}
use Rattle.machine.specs.declared.execution.state.State.{State}
use Rattle.machine.specs.rules.Values.{IsProgramIn, least_of}
use Rattle.machine.specs.Insides.{IsMemoryFor, IsReducedIn, IsMachine, with_memory_of}

most_below : (memories : List MemoryType) (pages : ℕ) → pages ≤ 2 ^ 16
    → most_pages_of memories pages ≤ 2 ^ 16
most_below [] pages h = omega arith
most_below (t ∷ memories) pages h = limited t.limits.maximum
  where
    limited : (most : Option ℕ) → option_map_or (λ most. min most pages) most pages ≤ 2 ^ 16
    limited None = h
    limited (Some most) = omega arith

-- With its least pages in memory, it stands for some configuration of each program.
pub reduced_zeroed : {code : Executable} {s : State} {most : ℕ} → IsMachine code s most
    → {functions : List FunctionType} {program : Program}
    → IsProgramIn code.«module» most functions program
    → IsReducedIn code (with_memory_of s (zeroed (least_of code.«module») most)) functions program
reduced_zeroed {code} {most} machine {functions} {program} is =
    let memories = memories_of code.«module» in
    let below = most_below memories is.pages is.few in
    let limit = sym is.most ∙ is.is_program.most_pages in
    let least = least_of code.«module» in
    let fits = machine.fits in
    let count : length {A = ℕ} (replicate (least * page_size) 0) ≡ least * page_size =
    length-replicate (least * page_size) 0 in
    let is_memory : IsMemoryFor least most (zeroed least most) = record {
      limit = refl;
      least = omega (arith, count);
      shape = record {
        whole = omega (arith, count);
        within = omega (arith, count, fits);
        limited = omega (arith, below, limit);
      };
      bytes = all_replicate IsByte (least * page_size) 0 (omega arith);
    } in
    machine.reduced (zeroed least most) functions program is_memory is

pub stacked : {code : Executable} {s : State} {most : ℕ} → IsMachine code s most
    → AreStacked s.frames s.slots
stacked {code} {s} machine =
    let some = reduced_zeroed machine machine.is in
    frames_stacked (module_context code.«module» machine.functions) machine.program s.frames
    s.slots some.configuration.thread some.stands.stands.frames

pub valid_module : {code : Executable} {s : State} {most : ℕ} → IsMachine code s most
    → IsValid code.«module»
valid_module machine =
    let some = reduced_zeroed machine machine.is in
    some.stands.is_code.valid
