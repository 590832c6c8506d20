-- What linking makes.
use Rattle.std.proofs.Common.{◌≡◌, ℕ, ◌≤◌, ◌^◌, List, sym, ◌∙◌, subst}
use Rattle.wasm_syntax.specs.declared.types.FunctionType.{FunctionType}
use Rattle.wasm_syntax.specs.declared.module.Module.{Module}
use Rattle.wasm_rules.specs.Validity.{IsValid, AreFunctionTypes}
use Rattle.wasm_rules.specs.Configuration.{Program, Store, Configuration}
use Rattle.wasm_rules.specs.Instantiation.{IsProgram, calls_of, Begins}
use Rattle.wasm_rules.specs.Steps.{ReducesTo}
use Rattle.wasm_rules.specs.Typed.{IsTypedMemory}
use Rattle.wasm_rules.proofs.OneRun.{reduces_once}
use Rattle.wasm_rules.proofs.OneStore.{store_once}
use Rattle.machine.specs.declared.execution.state.State.{State}
use Rattle.machine.specs.declared.execution.pause.Paused.{Paused}
use Rattle.machine.specs.Execution.Codes.{StandsForSome}
use Rattle.machine.specs.Execution.Pauses.{Pauses}
use Rattle.machine.specs.declared.hosting.starting.MachineStart.{MachineStart}
use Rattle.machine.specs.Hosting.Beginnings.{first, StartStands as HasStarted}
use Rattle.machine.specs.rules.Values.{IsProgramIn, ShowsIn}
use Rattle.machine.specs.rules.Runs.{HasBegun}
use Rattle.machine.specs.Insides.{seen, IsMachine}
use Rattle.machine.proofs.Inside.{memory_in, has_least, least_fits, reduced_with, shown}
use Rattle.machine.proofs.InstanceLemmas.Begun.{own_memories}
use Rattle.machine.proofs.AtOnce.{ReducesIn, at_once}

module _ {pages : ℕ} {m : Module} {b : MachineStart} (few : pages ≤ 2 ^ 16)
    (h : HasStarted pages m b) where
  pub begin_stands : StandsForSome b.code b.state
  begin_stands = record {
    functions = h.functions;
    program = h.program;
    configuration = first h.linkable.store (calls_of m.start h.linkable.entry);
    stands = h.stands h.functions h.program h.types h.is_program;
  }

  pub begin_valid : IsValid m
  begin_valid =
      let start = h.stands h.functions h.program h.types h.is_program in
      subst IsValid h.guest start.is_code.valid

  module _ (state : State) (paused : Paused) (pauses : Pauses b.code b.state 0 paused state) where
    reduces : (functions : List FunctionType) {program : Program} → AreFunctionTypes m functions
        → IsProgram m pages program
        → ReducesIn b.code state functions program
        (first h.linkable.store (calls_of m.start h.linkable.entry))
    reduces functions {program} types is =
        let start = first h.linkable.store (calls_of m.start h.linkable.entry) in
        at_once b.code state functions program start paused.fuel_left paused.why
        (pauses functions program start (h.stands functions program types is))

    program_in : (functions : List FunctionType) {program : Program} → AreFunctionTypes m functions
        → IsProgram m pages program
        → IsProgramIn b.code.«module» b.state.memory.limit functions program
    program_in functions types is = record {
      pages = pages;
      few = few;
      is_program = rw h.guest is;
      most = is.most_pages ∙ sym h.limit;
      types = rw h.guest types;
    }

    -- one of the limit of memory is one under so many pages
    under_pages : {functions : List FunctionType} {program : Program}
        → IsProgramIn b.code.«module» b.state.memory.limit functions program
        → IsProgram m pages program × AreFunctionTypes m functions
    under_pages {functions} {program} is =
        let p : IsProgram m is.pages program =
        subst (λ z. IsProgram z is.pages program) h.guest is.is_program in (
          record {
            types = p.types;
            functions = p.functions;
            least_pages = p.least_pages;
            most_pages = is.most ∙ h.limit;
          },
          subst (λ z. AreFunctionTypes z functions) h.guest is.types,
        )

    reduced_memory : IsTypedMemory h.program state.memory.bytes
    reduced_memory =
        let after = reduces h.functions h.types h.is_program in
        let stands = after.stands.stands in
        subst (IsTypedMemory h.program) (sym stands.shown.bytes_are) stands.typed.store.memory

    pub linked_machine : IsMachine b.code state b.state.memory.limit
    linked_machine = record {
      functions = h.functions;
      program = h.program;
      is = program_in h.functions h.types h.is_program;
      own = rw h.guest (own_memories m h.linkable.imports);
      fits = least_fits b.code.«module» b.state.memory.limit h.functions h.program
          (program_in h.functions h.types h.is_program) reduced_memory;
      reduced = λ memory functions program is_memory is.
          let under = under_pages is in
          let after = reduces functions under.1 under.0 in
          reduced_with after.stands after.reduced (memory_in b.code.«module» b.state.memory.limit
          functions program is is_memory);
    }

    same_limit : state.memory.limit ≡ b.state.memory.limit
    same_limit =
        let after = reduces h.functions h.types h.is_program in
        after.stands.stands.shown.limit_is ∙ h.is_program.most_pages ∙ sym h.limit

    -- where the module begins is what the beginning reduces to
    shows_begun : (program : Program) (d : Configuration)
        → Begins m pages h.linkable.entry program d
        → ShowsIn (seen b.code state b.state.memory.limit) program d
    shows_begun program d begins =
        let after = reduces h.functions h.types begins.is_program in
        let stores : begins.store ≡ h.linkable.store =
        store_once m begins.store h.linkable.store begins.is_store h.linkable.segments in
        let P : Store → Type 0 =
        λ z. ReducesTo program (first z (calls_of m.start h.linkable.entry)) d in
        let same : after.configuration ≡ d =
        reduces_once program (first h.linkable.store (calls_of m.start h.linkable.entry))
        after.configuration d after.reduces (subst P stores begins.reduces) in
        let Q : Configuration → Type 0 =
        λ z. ShowsIn (seen b.code state b.state.memory.limit) program z in
        subst Q same (shown after.stands (program_in h.functions h.types begins.is_program)
        after.reduced)

    some_begins : (program : Program) × (d : Configuration)
        × Begins m pages h.linkable.entry program d
    some_begins =
        let after = reduces h.functions h.types h.is_program in (
          h.program,
          after.configuration,
          record {
            is_program = h.is_program;
            store = h.linkable.store;
            is_store = h.linkable.segments;
            reduces = after.reduces;
          },
        )

    pub linked_begun : HasBegun pages m (seen b.code state b.state.memory.limit)
    linked_begun = record {
      guest = h.guest;
      linkable = h.linkable;
      holds = record {
        limit = same_limit;
        least = has_least b.code.«module» b.state.memory.limit h.functions h.program
            (program_in h.functions h.types h.is_program) state.memory.bytes reduced_memory;
      };
      shows = shows_begun;
      begins = some_begins;
    }
