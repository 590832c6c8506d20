-- What a machine's code and state stand for, and what is seen of it.
use Rattle.std.proofs.Common.{ℕ, ◌*◌, ◌/◌, ◌≤◌, List, length, refl, sym, ◌∙◌, subst, arith}
use Rattle.std.specs.List.{AllByRecursion}
use Rattle.wasm_syntax.specs.declared.types.FunctionType.{FunctionType}
use Rattle.wasm_syntax.specs.declared.module.Module.{Module}
use Rattle.guest_memory.specs.rules.Bytes.{IsByte, page_size}
use Rattle.guest_memory.specs.rules.Memories.{LinearMemory, IsWithinLimit}
use Rattle.wasm_rules.specs.Validity.{module_context}
use Rattle.wasm_rules.specs.Configuration.{Program, Configuration}
use Rattle.wasm_rules.specs.Steps.{IsReduced}
use Rattle.wasm_rules.specs.Typed.{IsTypedMemory}
use Rattle.machine_frame.proofs.Threads.Showing.{reduced_is_shown, shown_stands}
use Rattle.machine.specs.Routines.Routines.{opcodes_in, tables_in}
use Rattle.machine.specs.declared.execution.code.Executable.{Executable}
use Rattle.machine.specs.declared.execution.state.State.{State}
use Rattle.machine.specs.Execution.Codes.{parts_of_state, StateStandsFor}
use Rattle.machine.proofs.CycleLemmas.Advancing.{ready}
use Rattle.machine.specs.rules.Values.{IsProgramIn, HoldsMemory, ShowsIn, least_of}
use Rattle.machine.specs.Insides.{seen, IsMemoryFor, IsReducedIn, IsMachine, with_memory_of}
use Rattle.machine.specs.laws.Laws.{with_memory_bytes}
use Rattle.machine.proofs.Reduced.{another_store}

-- a memory of this limit is one of such a program
pub typed_memory : (program : Program) (memory : LinearMemory)
    → IsMemoryFor program.least_pages program.most_pages memory → IsTypedMemory program memory.bytes
typed_memory program memory h =
    let whole = h.shape.whole in
    let least = h.least in
    let within : length memory.bytes ≤ program.most_pages * page_size =
    subst (λ z. length memory.bytes ≤ z * page_size) h.limit h.shape.within in
    record {
      pages = length memory.bytes / page_size;
      whole = omega (arith, whole);
      least = omega (arith, whole, least);
      within = omega (arith, within);
      bytes = h.bytes;
    }

-- ---- the module's minimum

module _ (m : Module) (most : ℕ) (functions : List FunctionType) (program : Program)
    (is : IsProgramIn m most functions program) where
  -- a memory for the module is one for its program
  pub memory_in : {memory : LinearMemory} → IsMemoryFor (least_of m) most memory
      → IsMemoryFor program.least_pages program.most_pages memory
  memory_in {memory} h = record {
    limit = h.limit ∙ sym is.most;
    least = subst (λ z. z * page_size ≤ length memory.bytes) (sym is.is_program.least_pages)
        h.least;
    shape = h.shape;
    bytes = h.bytes;
  }

  -- a typed memory has the least pages of the module
  pub has_least : (memory : List ℕ) → IsTypedMemory program memory
      → least_of m * page_size ≤ length memory
  has_least memory h =
      let pages = h.pages in let least = h.least in let whole = h.whole in
      let enough : program.least_pages * page_size ≤ length memory = omega (arith, least, whole) in
      subst (λ z. z * page_size ≤ length memory) is.is_program.least_pages enough

  -- so there may be as many
  pub least_fits : {memory : List ℕ} → IsTypedMemory program memory → least_of m ≤ most
  least_fits h =
      let least = h.least in let within = h.within in
      let fits : program.least_pages ≤ program.most_pages = omega (arith, least, within) in
      subst (λ z. z ≤ most) is.is_program.least_pages
      (subst (λ z. program.least_pages ≤ z) is.most fits)

module _ {code : Executable} {s : State} {functions : List FunctionType} {program : Program}
    {d : Configuration} (stands : StateStandsFor code s functions program d) where
  pub with_another : {memory : LinearMemory}
      → IsMemoryFor program.least_pages program.most_pages memory
      → StateStandsFor code (with_memory_of s memory) functions program
      (with_memory_bytes d memory.bytes)
  with_another {memory} h =
      let k = stands.stands in
      record {
        is_code = stands.is_code;
        stands = record {
          typed = record {
            store = record {
              memory = typed_memory program memory h;
              globals = k.typed.store.globals;
              table = k.typed.store.table;
            };
            thread = k.typed.thread;
            later = k.typed.later;
          };
          frames = k.frames;
          shown = record {
            globals_are = k.shown.globals_are;
            bytes_are = refl;
            limit_is = h.limit;
          };
          same_table = k.same_table;
          later = k.later;
          few_frames = k.few_frames;
          few_values = k.few_values;
        };
      }

  pub reduced_with : {memory : LinearMemory} → IsReduced program d
      → IsMemoryFor program.least_pages program.most_pages memory
      → IsReducedIn code (with_memory_of s memory) functions program
  reduced_with {memory} e h = record {
    configuration = with_memory_bytes d memory.bytes;
    stands = with_another h;
    reduced = another_store program d.thread d.later d.store
        (record d.store { memory = memory.bytes }) e;
  }

  -- it has the memory that it should
  pub holds_reduced : {most : ℕ} → IsProgramIn code.«module» most functions program
      → HoldsMemory (seen code s most)
  holds_reduced {most} is = record {
    limit = stands.stands.shown.limit_is ∙ is.most;
    least = has_least code.«module» most functions program is s.memory.bytes
        (subst (IsTypedMemory program) (sym stands.stands.shown.bytes_are)
        stands.stands.typed.store.memory);
  }

  -- what it stands for is shown
  module _ {most : ℕ} (is : IsProgramIn code.«module» most functions program) where
    pub shown : IsReduced program d → ShowsIn (seen code s most) program d
    shown e = record {
      functions = functions;
      is = is;
      holds = holds_reduced is;
      shows = reduced_is_shown (module_context code.«module» functions) program
          (opcodes_in code.«module») (tables_in code.«module» code.routines.items) code.table.items
          (parts_of_state s) d (ready stands) stands.stands e;
    }

-- and what is shown, it stands for
pub shown_is_stood_for : {code : Executable} {s : State} (most : ℕ) {program : Program}
    {d e : Configuration} → (shows : ShowsIn (seen code s most) program d)
    → StateStandsFor code s shows.functions program e → StateStandsFor code s
    shows.functions program d
shown_is_stood_for {code} {s} most {program} {d} {e} shows stands = record {
  is_code = stands.is_code;
  stands = shown_stands (module_context code.«module» shows.functions) program code.table.items
      (parts_of_state s) e d (shows.holds.limit ∙ sym shows.is.most) stands.stands shows.shows;
}

-- the memory that it holds is one of those that may be in its place
pub stood_for : {code : Executable} {s : State} {most : ℕ} → IsMachine code s most
    → IsWithinLimit s.memory → AllByRecursion IsByte s.memory.bytes
    → {program : Program} {d : Configuration} → (shows : ShowsIn (seen code s most) program d)
    → StateStandsFor code s shows.functions program d
stood_for {code} {s} {most} machine shape bytes {program} shows =
    let memory : IsMemoryFor (least_of code.«module») most s.memory = record {
      limit = shows.holds.limit;
      least = shows.holds.least;
      shape = shape;
      bytes = bytes;
    } in
    let some = machine.reduced s.memory shows.functions program memory shows.is in
    shown_is_stood_for most shows some.stands
