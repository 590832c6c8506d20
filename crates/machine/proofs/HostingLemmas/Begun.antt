-- What a machine begins with stands for the configuration before the host's first call.
use Rattle.std.proofs.Common.{◌≡◌, ℕ, ◌≤◌, ◌^◌, List, [], sym, ap, ◌∙◌, subst, arith}
use Rattle.std.specs.Prelude.{map, reverse}
use Rattle.std.proofs.lemmas.List.{reverse-reverse}
use Rattle.wasm_syntax.specs.declared.types.FunctionType.{FunctionType}
use Rattle.wasm_syntax.specs.declared.module.Module.{Module}
use Rattle.wasm_rules.specs.Types.{number_in}
use Rattle.wasm_rules.specs.Validity.{AreFunctionTypes, module_context, IsValid}
use Rattle.wasm_rules.specs.Configuration.{Program, Store}
use Rattle.wasm_rules.specs.Instantiation.{IsProgram, calls_of}
use Rattle.wasm_rules.proofs.Soundness.Beginning.{first_typed}
use Rattle.machine.specs.declared.instance.instance.Instance.{Instance}
use Rattle.machine.specs.rules.Offers.{offer}
use Rattle.machine.specs.rules.Instances.{IsLinked}
use Rattle.machine.proofs.InstanceLemmas.Offered.{no_entry}
use Rattle.machine_frame.specs.rules.Threads.{AreFrames, PartsStandFor}
use Rattle.machine.specs.Execution.Codes.{IsExecutable, StateStandsFor, parts_of_state}
use Rattle.machine.specs.declared.hosting.starting.MachineStart.{MachineStart}
use Rattle.machine.specs.Hosting.Beginnings.{first, IsOfInstance, StartStands}
use Rattle.machine.proofs.HostingLemmas.Programs.{has_program}

module _ {pages : ℕ} {m : Module} {i : Instance} {b : MachineStart} (few : pages ≤ 2 ^ 16)
    (linked : IsLinked pages m i) (h : IsOfInstance i b) where
  guest : b.code.«module» ≡ m
  guest = h.guest ∙ linked.same

  valid : IsValid m
  valid = subst IsValid linked.same h.valid

  module _ (functions : List FunctionType) (program : Program)
      (types : AreFunctionTypes m functions) (is_program : IsProgram m pages program) where
    is_code : IsExecutable b.code functions program
    is_code = record {
      valid = rw guest valid;
      types = rw guest types;
      pages = pages;
      few = few;
      is_program = rw guest is_program;
      routines = rw (guest, ← linked.same) h.routines;
      type_indices = rw (guest, ← linked.same) h.type_indices;
      calls = rw (guest, h.calls) linked.calls;
      offered = rw guest linked.linkable.imports;
    }

    start : i.«module».start ≡ m.start
    start = ap (λ (z : Module). z.start) linked.same

    first_stands : PartsStandFor (module_context m functions) program b.code.table.items
        (parts_of_state b.state)
        (first linked.linkable.store (calls_of m.start linked.linkable.entry))
    first_stands = record {
      typed = first_typed offer pages m functions program linked.linkable.store no_entry valid types
          linked.linkable is_program linked.linkable.segments;
      frames = subst (λ z. AreFrames (module_context m functions) program z b.state.slots [])
          (sym h.frames) h.slots;
      shown = record {
        globals_are = h.globals ∙ ap (λ (s : Store). map number_in s.globals) (sym linked.store);
        bytes_are = ap (λ z. z.bytes) h.memory ∙ ap (λ (s : Store). s.memory) (sym linked.store);
        limit_is = ap (λ z. z.limit) h.memory ∙ linked.limit ∙ sym is_program.most_pages;
      };
      same_table = ap (λ (s : Store). s.table) linked.store ∙ sym h.table;
      later = sym (ap reverse h.later ∙ reverse-reverse (calls_of i.«module».start i.entry)
          ∙ ap (λ z. calls_of z i.entry) start ∙ ap (λ z. calls_of m.start z) (sym linked.entry));
      few_frames = rw h.frames (omega arith);
      few_values = omega arith;
    }

    pub stands : StateStandsFor b.code b.state functions program
        (first linked.linkable.store (calls_of m.start linked.linkable.entry))
    stands = record { is_code = is_code; stands = rw guest first_stands }

  pub begun : StartStands pages m b
  begun =
      let program = has_program pages valid in
      record {
        guest = guest;
        linkable = linked.linkable;
        limit = ap (λ z. z.limit) h.memory ∙ linked.limit;
        program = program.0;
        is_program = program.1;
        functions = valid.functions;
        types = valid.function_types;
        stands = stands;
      }
