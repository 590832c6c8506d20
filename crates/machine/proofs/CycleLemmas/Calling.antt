-- What a call leads to, of a function of the host's or of the module's own.
use Rattle.std.proofs.Common.{◌≡◌, ◌⊎◌, ℕ, zero, suc, ◌+◌, ◌-◌, ◌<◌, ◌≤◌, List, [], ◌∷◌, ◌++◌}
use Rattle.std.proofs.Common.{length, Option, Some, None, refl, sym, ap, ◌∙◌, subst, arith}
use Rattle.std.specs.Prelude.{slice_get, map, replicate}
use Rattle.std.proofs.lemmas.List.{length-map, length-reverse}
use Rattle.std.proofs.lemmas.Option.{slice_get_past}
use Rattle.std.specs.Option.{option_map}
use Rattle.std.specs.List.{AllByRecursion}
use Rattle.wasm_syntax.specs.declared.types.ValueType.{ValueType}
use Rattle.wasm_syntax.specs.declared.types.FunctionType.{FunctionType}
use Rattle.wasm_syntax.specs.declared.value.Value.{Value}
use Rattle.wasm_syntax.specs.declared.value.Trap.TheVariants as trap
use Rattle.wasm_syntax.specs.declared.module.Import.{Import}
use Rattle.wasm_syntax.specs.declared.module.ImportItem.{ImportItem}
use Rattle.wasm_syntax.specs.declared.module.ImportItem.TheVariants as import
use Rattle.wasm_syntax.specs.rules.Sequence.{Sequence}
use Rattle.wasi_abi.specs.declared.call.Call.{Call}
use Rattle.wasi_abi.specs.rules.Calls.{call_type_of, parameters_of}
use Rattle.wasm_rules.specs.Types.{AreOf, number_in, takes_of, imported_functions}
use Rattle.wasm_rules.specs.Types.{with_function_index}
use Rattle.wasm_rules.specs.Validity.{module_context}
use Rattle.wasm_rules.specs.Linking.{IsItemOffered, IsOffered}
use Rattle.wasm_rules.specs.Configuration.{Callee, Imported, Own, Program, Thread, Configuration}
use Rattle.wasm_rules.specs.Configuration.{Asks, Traps}
use Rattle.wasm_rules.specs.Steps.{counted_step, IsCounted}
use Rattle.machine_slots.specs.declared.limits.TheConstants.{FRAMES, HELD_VALUES}
use Rattle.machine.specs.rules.Offers.{offer, offered_call, imported_call}
use Rattle.machine_frame.specs.rules.Threads.{IsOwn, MachineParts, PartsStandFor}
use Rattle.machine_frame.specs.laws.Threads.{CallLeads}
use Rattle.machine.specs.laws.Routines.{IsNumberedCallee}
use Rattle.machine.proofs.RoutineLemmas.Numbers.{functions_numbered}
use Rattle.machine.specs.declared.execution.code.Executable.{Executable}
use Rattle.machine.specs.Execution.Codes.{IsExecutable}
use Rattle.machine.proofs.CycleLemmas.Codes.{calls_count}
use Rattle.machine_frame.proofs.Threads.Words.{values_count}

-- ---- a function of the host's

-- an offered function has the type of its call
offered_signature : (o : Option Call) (types : List FunctionType) (item : ImportItem)
    (others : List ℕ) {x : ℕ} {signature : FunctionType} → IsItemOffered (option_map call_type_of o)
    types item → slice_get (with_function_index item others) 0 ≡ Some x
    → slice_get types x ≡ Some signature → (call : Call) × (o ≡ Some call)
    × (signature ≡ call_type_of call)
offered_signature None types item others h e k = absurd h
offered_signature (Some call) types (import.Function y) others {x} h e k =
    let same : y ≡ x = cc in
    let there : slice_get types x ≡ Some (call_type_of call) =
    subst (λ z. slice_get types z ≡ Some (call_type_of call)) same h in
    (call, refl, (cc))
offered_signature (Some call) types (import.Table t) others h e k = absurd h
offered_signature (Some call) types (import.Memory t) others h e k = absurd h
offered_signature (Some call) types (import.Global t) others h e k = absurd h

next_function : (o : Option FunctionType) (types : List FunctionType) (item : ImportItem)
    (others : List ℕ) (f : ℕ) → IsItemOffered o types item
    → slice_get (with_function_index item others) (suc f) ≡ slice_get others f
next_function None types item others f h = absurd h
next_function (Some signature) types (import.Function x) others f h = refl
next_function (Some signature) types (import.Table t) others f h = absurd h
next_function (Some signature) types (import.Memory t) others f h = absurd h
next_function (Some signature) types (import.Global t) others f h = absurd h

pub call_of_import : (types : List FunctionType) (imports : List Import) (f : ℕ) {x : ℕ}
    {signature : FunctionType} → AllByRecursion (IsOffered offer types) imports
    → slice_get (imported_functions imports) f ≡ Some x → slice_get types x ≡ Some signature
    → (call : Call) × (slice_get (map imported_call imports) f ≡ Some (Some call))
    × (signature ≡ call_type_of call)
unfolding offered_call offer
call_of_import types [] f h e k = absurd (cc)
call_of_import types (i ∷ imports) zero h e k =
    let found = offered_signature (offered_call i.module_name i.name) types i.item
    (imported_functions imports) h.0 e k in
    (found.0, ap Some found.1, found.2)
call_of_import types (i ∷ imports) (suc f) h e k =
    call_of_import types imports f h.1 (sym (next_function (offer i.module_name i.name) types i.item
    (imported_functions imports) f h.0) ∙ e) k

some_some : (calls : List Call) (f : ℕ) {call : Call}
    → slice_get (map Some calls) f ≡ Some (Some call) → slice_get calls f ≡ Some call
some_some [] f e = absurd (cc)
some_some (c ∷ calls) zero {call} e = let h : Some c ≡ Some call = (cc) in h
some_some (c ∷ calls) (suc f) e = some_some calls f e

module _ (code : Executable) (functions : List FunctionType) (program : Program)
    (is : IsExecutable code functions program) where
  numbered : (f : ℕ) {callee : Callee} → slice_get program.functions f ≡ Some callee
      → IsNumberedCallee code.«module» f callee
  numbered f {callee} e = functions_numbered is.pages code.«module» program f callee is.is_program e

  -- the call that one of the host's functions is
  pub call_of_import_at : (f : ℕ) (signature : FunctionType)
      → slice_get program.functions f ≡ Some (Imported signature)
      → (call : Call) × (slice_get code.calls.items f ≡ Some call) × (signature ≡ call_type_of call)
  call_of_import_at f signature e =
      let n = numbered f e in
      let found = call_of_import code.«module».types code.«module».imports f is.offered n.2 n.3 in (
        found.0,
        some_some code.calls.items f (ap (λ xs. slice_get xs f) (sym is.calls) ∙ found.1),
        found.2,
      )

  -- an own function is after the calls
  pub own_is_behind : (f : ℕ) (signature : FunctionType) (declared : List ValueType)
      (body : Sequence) → slice_get program.functions f ≡ Some (Own signature declared body)
      → slice_get code.calls.items f ≡ None
  own_is_behind f signature declared body e =
      let n = numbered f e in
      let count = calls_count code functions program is in
      let place = n.2 in
      slice_get_past code.calls.items f (omega (arith, count, place))

  module _ (table : List (Option ℕ)) (held : MachineParts) (d : Configuration) (words : List ℕ)
      (f : ℕ) where
    -- where it is the host's, it is asked for
    pub record ImportAsks (call : Call) : Type 0 where
      pub arguments : List Value
      pub waits : Thread
      pub under : List ℕ
      pub asks : counted_step program d ≡ Asks f arguments waits
      pub is_imported : slice_get program.functions f ≡ Some (Imported (call_type_of call))
      pub typed : AreOf (takes_of (call_type_of call)) arguments
      pub count : length (parameters_of call) ≡ length (map number_in arguments)
      pub words_are : words ≡ map number_in arguments ++ under

    pub import_asks : (callee : Callee) {call : Call} → slice_get program.functions f ≡ Some callee
        → CallLeads (module_context code.«module» functions) program table held d words f callee
        → slice_get code.calls.items f ≡ Some call → ImportAsks call
    import_asks (Imported signature) {call} e leads there =
        let found = call_of_import_at f signature e in
        let known = found.1 in
        let same : found.0 ≡ call = cc in
        let signatures : signature ≡ call_type_of call = found.2 ∙ ap call_type_of same in
        let counts = values_count (takes_of signature) leads.0 leads.4 in
        record {
          arguments = leads.0;
          waits = leads.1;
          under = leads.2;
          asks = leads.3;
          is_imported = e ∙ ap (λ k. Some (Imported k)) signatures;
          typed = subst (λ k. AreOf (takes_of k) leads.0) signatures leads.4;
          count = omega (
            arith,
            counts,
            length-reverse signature.parameters,
            ap (λ (k : FunctionType). length k.parameters) signatures,
            length-map leads.0 number_in,
          );
          words_are = leads.5;
        }
    import_asks (Own signature declared body) e leads there =
        let none = own_is_behind f signature declared body e in absurd (cc)

    -- where it is the module's own, it is entered, or the stack is exhausted
    pub record Own_enters : Type 0 where
      pub own : IsOwn program f
      pub enough : length own.signature.parameters ≤ length words
      pub enters : length held.frames < FRAMES → length own.declared + length words ≤ HELD_VALUES
          → (e : Configuration) × IsCounted program d e
          × PartsStandFor (module_context code.«module» functions) program table
          (record held {
            frames = record {
              function = f;
              position = 0;
              base = length words - length own.signature.parameters;
            } ∷ held.frames;
            words = replicate (length own.declared) 0 ++ words;
          }) e
      pub exhausts : (FRAMES ≤ length held.frames)
          ⊎ (HELD_VALUES < length own.declared + length words)
          → counted_step program d ≡ Traps trap.StackExhausted

    pub own_enters : (callee : Callee) → slice_get program.functions f ≡ Some callee
        → CallLeads (module_context code.«module» functions) program table held d words f callee
        → slice_get code.calls.items f ≡ None → Own_enters
    own_enters (Imported signature) e leads there = let found = call_of_import_at f signature e in
        let known = found.1
        in absurd (cc)
    own_enters (Own signature declared body) e leads there = record {
      own = record { signature = signature; declared = declared; body = body; is = e };
      enough = leads.0;
      enters = leads.1;
      exhausts = leads.2;
    }
