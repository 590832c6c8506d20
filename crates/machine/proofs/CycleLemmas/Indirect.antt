-- What a call through the table leads to.
use Rattle.std.proofs.Common.{◌≡◌, ◌↔◌, IsTrue, ℕ, ◌<◌, Bool, true, false, List, ◌∷◌, length}
use Rattle.std.proofs.Common.{Option, Some, None, get_or, sym, ap, ◌∙◌, subst, arith}
use Rattle.std.specs.Prelude.{slice_get}
use Rattle.wasm_syntax.specs.declared.types.FunctionType.{FunctionType}
use Rattle.wasm_syntax.specs.declared.value.Trap.TheVariants as trap
use Rattle.wasm_syntax.specs.declared.instruction.Instruction.TheVariants as instr
use Rattle.wasi_abi.specs.declared.call.Call.{Call}
use Rattle.wasm_rules.specs.Validity.{module_context}
use Rattle.wasm_rules.specs.Configuration.{Callee, Program, Configuration, Traps}
use Rattle.wasm_rules.specs.Steps.{counted_step, signature_of}
use Rattle.machine_frame.specs.laws.Threads.{CallLeads, EntryLeads}
use Rattle.machine_frame.proofs.Threads.Calling.{indirect_calls_lead}
use Rattle.machine.specs.Routines.Routines.{opcodes_in, tables_in}
use Rattle.machine.specs.declared.execution.code.Executable.{Executable}
use Rattle.machine.specs.declared.execution.state.State.{State}
use Rattle.machine.specs.Execution.Codes.{HasSignature, HaveSignatures, StateStandsFor}
use Rattle.machine.specs.Execution.Codes.{parts_of_state}
use Rattle.machine.specs.Execution.Cycles.{StateIsAtOpcode}
use Rattle.machine.proofs.CycleLemmas.Codes.{read_at}
use Rattle.machine.proofs.CycleLemmas.Advancing.{ready}
use Rattle.machine.proofs.CycleLemmas.Calling.{ImportAsks, import_asks, Own_enters, own_enters}
use Rattle.machine.proofs.CycleLemmas.FunctionSignatures.{signature_there}

-- the function that an entry names is there
pub names_at : {xs ys : List (Option ℕ)} (place : ℕ) {entry : Option ℕ} {f : ℕ} → xs ≡ ys
    → place < length xs → entry ≡ get_or xs place entry → entry ≡ Some f
    → slice_get ys place ≡ Some (Some f)
names_at place e within is named = read_at place e within is ∙ ap Some named

-- what the entry at this place leads to, which is on top of these words
pub record AtEntry (code : Executable) (s : State) (functions : List FunctionType)
    (program : Program) (d : Configuration) (t place : ℕ) : Type 0 where
  pub signature : FunctionType
  pub signature_is : slice_get code.«module».types t ≡ Some signature
  pub words : List ℕ
  pub words_are : s.slots ≡ place ∷ words
  pub leads : EntryLeads (module_context code.«module» functions) program code.table.items
      (parts_of_state s) d words signature (slice_get code.table.items place)

module _ {code : Executable} {s : State} {functions : List FunctionType} {program : Program}
    {d : Configuration} (stands : StateStandsFor code s functions program d) {t : ℕ}
    (at : StateIsAtOpcode code s (instr.CallIndirect t)) where
  -- ---- the entry's place on top

  some_entry : (place : ℕ) × AtEntry code s functions program d t place
  some_entry =
      let l = indirect_calls_lead (module_context code.«module» functions) program
      (opcodes_in code.«module») (tables_in code.«module» code.routines.items) code.table.items
      (parts_of_state s) d at.0 at.1 t (ready stands) stands.stands
      (record { frames_are = at.2; here = at.3 }) in (
        l.2,
        record {
          signature = l.0;
          signature_is = ap (λ types. slice_get types t) (sym
              stands.is_code.is_program.types) ∙ l.1;
          words = l.3;
          words_are = l.4;
          leads = l.5;
        },
      )

  pub one_word : 0 < length s.slots
  one_word = let h = some_entry.1 in omega (arith, ap length h.words_are)

  pub at_entry : {place : ℕ} → slice_get s.slots 0 ≡ Some place
      → AtEntry code s functions program d t place
  at_entry {place} top =
      let known = some_entry.1.words_are in
      let first : slice_get (some_entry.0 ∷ some_entry.1.words) 0 ≡ Some place =
      subst (λ z. slice_get z 0 ≡ Some place) known top in
      let same : some_entry.0 ≡ place = cc in
      subst (AtEntry code s functions program d t) same some_entry.1

  module _ {place : ℕ} (top : slice_get s.slots 0 ≡ Some place) where
    abbrev pub entry : AtEntry code s functions program d t place
    entry = at_entry top

    leads_at : {found : Option (Option ℕ)} → slice_get code.table.items place ≡ found
        → EntryLeads (module_context code.«module» functions) program code.table.items
        (parts_of_state s) d entry.words entry.signature found
    leads_at e =
        subst (λ z. EntryLeads (module_context code.«module» functions) program code.table.items
        (parts_of_state s) d entry.words entry.signature z) e entry.leads

    -- what is below the place
    pub others_are : {popped : ℕ} {others : List ℕ} → s.slots ≡ popped ∷ others
        → others ≡ entry.words
    others_are {popped} {others} e =
        let known : popped ∷ others ≡ place ∷ entry.words = sym e ∙ entry.words_are in cc

    -- there is no such entry, or it names no function
    pub undefined : slice_get code.table.items place ≡ None
        → counted_step program d ≡ Traps trap.UndefinedElement
    undefined e = leads_at e

    pub uninitialized : slice_get code.table.items place ≡ Some None
        → counted_step program d ≡ Traps trap.UninitializedElement
    uninitialized e = leads_at e

    -- ---- the function that it names

    module _ {f : ℕ} (named : slice_get code.table.items place ≡ Some (Some f)) where
      callee : (callee : Callee) × (slice_get program.functions f ≡ Some callee)
          × ((entry.signature ≡ signature_of callee
          → CallLeads (module_context code.«module» functions) program code.table.items
          (parts_of_state s) d entry.words f callee) × ((entry.signature ≡ signature_of callee → ⊥)
          → counted_step program d ≡ Traps trap.IndirectCallTypeMismatch))
      callee = leads_at named

      has_signature : HasSignature code f (signature_of callee.0)
      has_signature = signature_there stands.is_code f callee.1

      pub have_signatures : HaveSignatures code f t
      have_signatures = (signature_of callee.0, has_signature, entry.signature, entry.signature_is)

      -- whether it has the type that is asked for
      module _ (answer : Bool) (is : (f' g : FunctionType) → HasSignature code f f' → slice_get
          code.«module».types t ≡ Some g → IsTrue answer ↔ (g ≡ f')) where
        same : IsTrue answer ↔ (entry.signature ≡ signature_of callee.0)
        same = is (signature_of callee.0) entry.signature has_signature entry.signature_is

        pub mismatched : answer ≡ false → counted_step program d
            ≡ Traps trap.IndirectCallTypeMismatch
        mismatched differs = callee.2.1 (λ e. absurd (cc (same.1 e, differs)))

        leads : answer ≡ true
            → CallLeads (module_context code.«module» functions) program code.table.items
            (parts_of_state s) d entry.words f callee.0
        leads agrees = callee.2.0 (same.0 agrees)

        pub indirect_import : {call : Call} → answer ≡ true
            → slice_get code.calls.items f ≡ Some call → ImportAsks code functions program
            stands.is_code code.table.items (parts_of_state s) d entry.words f call
        indirect_import agrees there =
            import_asks code functions program stands.is_code code.table.items (parts_of_state s) d
            entry.words f callee.0 callee.1 (leads agrees) there

        pub indirect_own : answer ≡ true → slice_get code.calls.items f ≡ None
            → Own_enters code functions program stands.is_code code.table.items
            (parts_of_state s) d entry.words f
        indirect_own agrees there =
            own_enters code functions program stands.is_code code.table.items
            (parts_of_state s) d entry.words f callee.0 callee.1 (leads agrees) there
