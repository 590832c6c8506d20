-- What the code of a machine has for each function.
use Rattle.std.proofs.Common.{◌≡◌, ℕ, suc, ◌-◌, ◌<◌, ◌≤◌, List, [], ◌∷◌, length, get_or, Option}
use Rattle.std.proofs.Common.{Some, None, refl, sym, ap, ◌∙◌, subst, arith}
use Rattle.std.specs.Prelude.{slice_get, map}
use Rattle.std.proofs.lemmas.List.{length-map}
use Rattle.std.proofs.lemmas.Option.{slice_get_within, slice_get_past, slice_get-get_or}
use Rattle.wasm_syntax.specs.declared.instruction.Instruction.{Instruction}
use Rattle.std.specs.List.{AllByRecursion}
use Rattle.wasm_syntax.specs.declared.types.FunctionType.{FunctionType}
use Rattle.wasm_syntax.specs.declared.module.Import.{Import}
use Rattle.wasm_syntax.specs.declared.module.ImportItem.{ImportItem}
use Rattle.wasm_syntax.specs.declared.module.ImportItem.TheVariants as import
use Rattle.wasm_syntax.specs.declared.module.Function.{Function}
use Rattle.wasi_abi.specs.declared.call.Call.{Call}
use Rattle.wasm_rules.specs.Types.{imported_functions, with_function_index}
use Rattle.wasm_rules.specs.Linking.{IsItemOffered, IsOffered}
use Rattle.wasm_rules.specs.Configuration.{Program}
use Rattle.machine.specs.rules.Offers.{offer, imported_call}
use Rattle.machine_frame.specs.rules.Threads.{IsOwn}
use Rattle.machine.specs.declared.routines.routine.Routine.{Routine}
use Rattle.machine_frame.specs.Frame.ByRegisterCode.{CodeFits}
use Rattle.machine.specs.Routines.Routines.{imported_count, HasCounts, opcodes_in, tables_in}
use Rattle.machine.specs.declared.execution.code.Executable.{Executable}
use Rattle.machine.specs.Execution.Codes.{IsExecutable, HasOwnFunction}

-- what is read at a place is there, and where nothing is read there is nothing
pub read_at : {X : Type 0} {xs ys : List X} (place : ℕ) {x : X} → xs ≡ ys → place < length xs
    → x ≡ get_or xs place x → slice_get ys place ≡ Some x
read_at {xs} place {x} e within is =
    subst (λ z. slice_get z place ≡ Some x) e (slice_get-get_or xs place x within
    ∙ ap Some (sym is))

pub none_at : {X : Type 0} {xs ys : List X} (place : ℕ) → xs ≡ ys → length xs ≤ place
    → slice_get ys place ≡ None
none_at {xs} place e past = subst (λ z. slice_get z place ≡ None) e (slice_get_past xs place past)

-- only functions are imported
item_counts : (o : Option FunctionType) (types : List FunctionType) (item : ImportItem)
    (others : List ℕ) → IsItemOffered o types item
    → length (with_function_index item others) ≡ suc (length others)
item_counts None types item others h = absurd h
item_counts (Some signature) types (import.Function x) others h = refl
item_counts (Some signature) types (import.Table t) others h = absurd h
item_counts (Some signature) types (import.Memory t) others h = absurd h
item_counts (Some signature) types (import.Global t) others h = absurd h

all_functions : (types : List FunctionType) (imports : List Import)
    → AllByRecursion (IsOffered offer types) imports
    → length (imported_functions imports) ≡ length imports
all_functions types [] h = refl
all_functions types (i ∷ imports) h =
    item_counts (offer i.module_name i.name) types i.item (imported_functions imports) h.0
    ∙ ap suc (all_functions types imports h.1)

module _ (code : Executable) (functions : List FunctionType) (program : Program)
    (is : IsExecutable code functions program) where
  -- the host's functions are as many as the calls
  pub calls_count : length code.calls.items ≡ imported_count code.«module»
  calls_count =
      let a : length (map imported_call code.«module».imports)
      ≡ length (map Some code.calls.items) = ap length is.calls in
      let some : Call → Option Call = Some in
      let b = all_functions code.«module».types code.«module».imports is.offered in
      omega (
        arith,
        a,
        b,
        length-map code.«module».imports imported_call,
        length-map code.calls.items some,
      )

  -- what an own function has
  pub record HasOwn (f : ℕ) (own : IsOwn program f) : Type 0 where
    pub not_imported : length code.calls.items ≤ f
    pub function : Function
    pub routine : Routine
    pub function_there : slice_get code.«module».functions (f - length code.calls.items)
        ≡ Some function
    pub routine_there : slice_get code.routines.items (f - length code.calls.items) ≡ Some routine
    pub opcodes : opcodes_in code.«module» f ≡ function.code.body
    pub table : tables_in code.«module» code.routines.items f ≡ routine.table
    pub counts : HasCounts own.signature own.declared routine
    pub code_fits : CodeFits routine.code function.code.body routine.table routine.locals

  pub has_own : {f : ℕ} (own : IsOwn program f) → HasOwn f own
  has_own {f} own =
      let h = is.routines.own is.pages program is.is_program f own in
      let count = calls_count in
      let number = h.number in
      let place : h.place ≡ f - length code.calls.items = omega (arith, count, number) in
      record {
        not_imported = omega (arith, count, number);
        function = h.function;
        routine = h.routine;
        function_there =
            subst (λ z. slice_get code.«module».functions z
            ≡ Some h.function) place h.function_there;
        routine_there =
            subst (λ z. slice_get code.routines.items z ≡ Some h.routine) place h.routine_there;
        opcodes = h.opcodes;
        table = h.table;
        counts = h.counts;
        code_fits = h.code;
      }

-- ---- looking it up

module _ {code : Executable} {f : ℕ} (r : HasOwnFunction code f) {calls : List Call} (n : ℕ)
    (calls_are : calls ≡ code.calls.items) (count : n ≡ length calls) where
  abbrev own : HasOwn code r.functions r.program r.is_code f r.own
  own = has_own code r.functions r.program r.is_code r.own

  same_place : f - n ≡ f - length code.calls.items
  same_place = ap (λ z. f - z) (count ∙ ap length calls_are)

  pub not_imported_there : n ≤ f
  not_imported_there = rw (count ∙ ap length calls_are) own.not_imported

  pub routine_within : {routines : List Routine} → routines ≡ code.routines.items
      → f - n < length routines
  routine_within e =
      rw (e, same_place) (slice_get_within code.routines.items (f
      - length code.calls.items) own.routine own.routine_there)

  pub routine_read : {routines : List Routine} {routine : Routine} → routines ≡ code.routines.items
      → routine ≡ get_or routines (f - n) routine
      → slice_get code.routines.items (f - length code.calls.items) ≡ Some routine
  routine_read {routines} {routine} e is =
      let within = routine_within e in
      let there = slice_get-get_or routines (f - n) routine within ∙ ap Some (sym is) in
      subst (λ z. slice_get code.routines.items z
      ≡ Some routine) same_place (subst (λ z. slice_get z (f - n) ≡ Some routine) e there)

  pub function_within : {own_functions : List Function} → own_functions ≡ code.«module».functions
      → f - n < length own_functions
  function_within e =
      rw (e, same_place) (slice_get_within code.«module».functions (f
      - length code.calls.items) own.function own.function_there)

  pub opcodes_read : {own_functions : List Function} → own_functions ≡ code.«module».functions
      → {function : Function} → function ≡ get_or own_functions (f - n) function
      → {opcodes : List Instruction} → opcodes ≡ (get_or own_functions (f - n) function).code.body
      → opcodes ≡ opcodes_in code.«module» f
  opcodes_read {own_functions} e {function} is body =
      let within = function_within e in
      let there = slice_get-get_or own_functions (f - n) function within in
      let here : slice_get code.«module».functions (f - length code.calls.items)
      ≡ Some (get_or own_functions (f - n) function) = subst (λ z.
      slice_get code.«module».functions z
      ≡ Some (get_or own_functions (f - n) function)) same_place
      (subst (λ z. slice_get z (f - n) ≡ Some (get_or own_functions (f - n) function)) e there)
      in
      let known = own.function_there in
      let same : get_or own_functions (f - n) function ≡ own.function = cc in
      body ∙ ap (λ (g : Function). g.code.body) same ∙ sym own.opcodes
