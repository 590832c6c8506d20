-- What a module reaches that is valid and can be linked is typed.
use Rattle.std.proofs.Common.{◌≡◌, ◌⊎◌, inl, inr, ℕ, zero, suc, ◌^◌, ◌<◌, List, [], ◌∷◌}
use Rattle.std.proofs.Common.{Option, Some, None, refl, sym, ap, ◌∙◌, subst, arith}
use Rattle.std.specs.Prelude.{Ok, Err, reverse, map, slice_get, codes}
use Rattle.std.specs.List.{AllByRecursion}
use Rattle.wasm_syntax.specs.declared.types.FunctionType.{FunctionType}
use Rattle.wasm_syntax.specs.declared.types.ValueType.TheVariants.{I32}
use Rattle.wasm_syntax.specs.declared.value.Value.{Value}
use Rattle.wasm_syntax.specs.declared.value.Value.TheVariants as value
use Rattle.wasm_syntax.specs.declared.module.Module.{Module}
use Rattle.wasm_syntax.specs.declared.module.Import.{Import}
use Rattle.wasm_syntax.specs.declared.module.ImportItem.{ImportItem}
use Rattle.wasm_syntax.specs.declared.module.ImportItem.TheVariants as import
use Rattle.wasm_syntax.specs.declared.module.ExportItem.TheVariants as export
use Rattle.wasm_syntax.specs.declared.module.Function.{Function}
use Rattle.wasm_rules.specs.Types.{AreOf, takes_of, gives_of, number_in}
use Rattle.wasm_rules.specs.Types.{with_function_index, imported_functions}
use Rattle.wasm_rules.specs.Typing.{Context}
use Rattle.wasm_rules.specs.Validity.{module_context}
use Rattle.wasm_rules.specs.Configuration.{Callee, Imported, Own, Thread}
use Rattle.wasm_rules.specs.Configuration.{Configuration, Outcome, Goes, Traps, Asks, Stuck}
use Rattle.wasm_rules.specs.Instantiation.{AreCallees, Begins}
use Rattle.wasm_rules.specs.Linking.{Offer, IsItemOffered, IsOffered}
use Rattle.wasm_rules.specs.Steps.{counted_step, stopped, IsReduced, IsEnded}
use Rattle.wasm_rules.specs.Typed.{IsTypedProgram, IsTypedMemory, IsTyped}
use Rattle.wasm_rules.specs.laws.Soundness.{IsSound}
use Rattle.wasm_rules.proofs.Soundness.Beginning.{begins_typed}
use Rattle.wasm_rules.proofs.Soundness.AdministrativeSound.{never_stuck_holds, answers_typed}
use Rattle.wasm_rules.proofs.Soundness.AdministrativeSound.{reduces_typed, goes_typed}
use Rattle.wasi_abi.specs.declared.answer.Answer.{Answer}
use Rattle.wasi_abi.specs.declared.call.Call.{Call}
use Rattle.wasi_abi.specs.declared.call.Call.TheVariants as call
use Rattle.wasi_abi.specs.declared.errno.Errno.{Errno}
use Rattle.wasi_abi.specs.declared.errno.Errno.TheVariants as errno
use Rattle.wasi_abi.specs.rules.Calls.{module_name, name_of, call_type_of}
use Rattle.wasi_abi.specs.rules.Numbers.{errno_number}
use Rattle.wasi_calls_rules.specs.WasiStates.{WasiState}
use Rattle.wasi_calls_rules.specs.Checks.{Bytes, Refuses, Ends, Asks as Inquires, Done, Ruling}
use Rattle.wasi_calls_rules.specs.CallRules.{call_rule}
use Rattle.wasi_calls_rules.proofs.Halting.{exit_alone_ends}
use Rattle.wasi_calls_rules.proofs.KeepsMemory.{call_rules_keep_memory, call_rules_keep_bytes}
use Rattle.process_rules.specs.Processes.{ProcessState, Guest, AreCalls, closed_at}
use Rattle.process_rules.specs.Origins.{succeeding}
use Rattle.process_rules.specs.Runs.{Next, On, Over, Wants, Nowhere, given_by, after_call_rule}
use Rattle.process_rules.specs.Runs.{after_call, after_counted_step, next_of, stepped, LeadsTo}
use Rattle.process_rules.specs.Runs.{Moves, Kept, Runs, none, step, take, widened, widen, succeed}
use Rattle.process_rules.specs.laws.Laws.{OffersCalls, IsSmallEnding, IsTypedProcess}
use Rattle.process_rules.specs.laws.Laws.{ReachedAreTyped}
use Rattle.process_rules.proofs.ReachedStates.{Holds, ProcessHolds, move_holds, widened_holds}
use Rattle.process_rules.proofs.ReachedStates.{succeeding_holds, start_holds, beginning}
use Rattle.process_rules.proofs.OneStart.{entry_once, item_number}

-- ---- the types of the calls

-- each call is one of the host's functions, of its own type
abbrev AreTyped : List Call → List Callee → Type 0
AreTyped calls callees = (f : ℕ) (c : Call) (signature : FunctionType) → slice_get calls f ≡ Some c
    → slice_get callees f ≡ Some (Imported signature) → signature ≡ call_type_of c

-- one import and its call
first_typed : (m : Module) (o : Option FunctionType) (c : Call) (item : ImportItem)
    (imports : List Import) (own : List Function) (callees : List Callee) (signature : FunctionType)
    → ((k : FunctionType) → o ≡ Some k → k ≡ call_type_of c) → IsItemOffered o m.types item
    → AreCallees m (with_function_index item (imported_functions imports)) own callees
    → slice_get callees 0 ≡ Some (Imported signature) → signature ≡ call_type_of c
first_typed m None c item imports own callees signature named h a e = absurd h
first_typed m (Some k) c (import.Function x) imports own [] signature named h a e = absurd a
first_typed m (Some k) c (import.Function x) imports own (Own l declared body
    ∷ callees) signature named
    h a e = absurd a
first_typed m (Some k) c (import.Function x) imports own (Imported l
    ∷ callees) signature named h a e =
    let there = a.0 in
    let same : k ≡ signature = cc in
    sym same ∙ named k refl
first_typed m (Some k) c _ imports own callees signature named h a e = absurd h

-- the callees after one import
others_there : (m : Module) (o : Option FunctionType) (item : ImportItem) (imports : List Import)
    (own : List Function) (callees : List Callee) → IsItemOffered o m.types item
    → AreCallees m (with_function_index item (imported_functions imports)) own callees
    → (others : List Callee) × AreCallees m (imported_functions imports) own others
    × ((f : ℕ) → slice_get callees (suc f) ≡ slice_get others f)
others_there m None item imports own callees h a = absurd h
others_there m (Some k) (import.Function x) imports own [] h a = absurd a
others_there m (Some k) (import.Function x) imports own (Own l declared body ∷ callees) h a =
    absurd a
others_there m (Some k) (import.Function x) imports own (Imported l ∷ callees) h a =
    (callees, a.1, λ f. refl)
others_there m (Some k) _ imports own callees h a = absurd h

calls_typed : (offer : Offer) (m : Module) (imports : List Import) (own : List Function)
    (callees : List Callee) (calls : List Call) → OffersCalls offer
    → AllByRecursion (IsOffered offer m.types) imports
    → AreCallees m (imported_functions imports) own callees → AreCalls imports calls
    → AreTyped calls callees
calls_typed offer m [] own callees [] offers h a are f c signature at is = absurd (cc)
calls_typed offer m [] own callees (d ∷ calls) offers h a are f c signature at is = absurd are
calls_typed offer m (i ∷ imports) own callees [] offers h a are f c signature at is = absurd are
calls_typed offer m (i ∷ imports) own callees (d ∷ calls) offers h a are zero c signature at is =
    let same : d ≡ c = cc in
    first_typed m (offer i.module_name i.name) d i.item imports own callees signature
    (λ k e. offers d k (named k e)) h.0 a is ∙ ap call_type_of same
  where
    named : (k : FunctionType) → offer i.module_name i.name ≡ Some k
        → offer module_name (name_of d) ≡ Some k
    named k e =
        let same : offer i.module_name i.name ≡ offer module_name (name_of d) =
        rw (are.0, are.1) refl in
        sym same ∙ e
calls_typed offer m (i ∷ imports) own callees (d ∷ calls) offers h a are (suc f) c signature at is =
    let others = others_there m (offer i.module_name i.name) i.item imports own callees h.0 a in
    calls_typed offer m imports own others.0 calls offers h.1 others.1 are.2 f c signature at
    (sym (others.2 f) ∙ is)

-- ---- what a call gives

pub errno_small : (e : Errno) → errno_number e < 2 ^ 32
errno_small errno.Badf = omega arith
errno_small _ = omega arith

given_typed : (c : Call) (n : ℕ) → n < 2 ^ 32 → AreOf (gives_of (call_type_of c)) (given_by c n)
given_typed call.ProcExit n small = tt
given_typed _ n small = (small, tt)

-- the code of an exit is an i32
exit_small : (vs : List Value) (given : Option Answer) (m : Bytes) (h : WasiState) (code : ℕ)
    → AreOf (I32 ∷ []) vs
    → call_rule call.ProcExit (reverse (map number_in vs)) given m h ≡ Err (Ends code)
    → code < 2 ^ 32
exit_small [] given m h code are e = absurd are
exit_small (value.I64 n ∷ vs) given m h code are e = absurd are.0
exit_small (value.I32 n ∷ v ∷ vs) given m h code are e = absurd are.1
exit_small (value.I32 n ∷ []) given m h code are e =
    let same : n ≡ code = cc in
    subst (λ k. k < 2 ^ 32) same are.0

code_small : (c : Call) (vs : List Value) (given : Option Answer) (m : Bytes)
    (h : WasiState) (code : ℕ) → AreOf (takes_of (call_type_of c)) vs
    → call_rule c (reverse (map number_in vs)) given m h ≡ Err (Ends code) → code < 2 ^ 32
code_small c vs given m h code are e =
    let is = exit_alone_ends c (reverse (map number_in vs)) given m h code e in
    exit_small vs given m h code (subst (λ (k : Call). AreOf (takes_of (call_type_of k)) vs) is are)
    (subst (λ (k : Call). call_rule k (reverse (map number_in vs)) given m h
    ≡ Err (Ends code)) is e)

-- ---- one counted step

module _ (c : Context) (guest : Guest) (typed : IsTypedProgram c guest.program)
    (are : AreTyped guest.calls guest.program.functions) where
  abbrev IsTypedNext : Next → Type 0
  IsTypedNext (On d h) = IsTyped c guest.program d
  IsTypedNext (Over why d h) =
      IsTyped c guest.program d × IsReduced guest.program d × IsSmallEnding (Some why)
  IsTypedNext (Wants question) = Unit {0}
  IsTypedNext Nowhere = Unit {0}

  stopped_typed : (d : Configuration) → IsTyped c guest.program d
      → IsTyped c guest.program (stopped d) × IsReduced guest.program (stopped d)
  stopped_typed d now = (record { store = now.store; thread = tt; later = tt }, refl)

  -- a configuration at a call of the host's
  record IsAtImport (d : Configuration) (k : Call) (f : ℕ) (arguments : List Value)
      (waits : Thread) : Type 0 where
    now : IsTyped c guest.program d
    reduced : IsReduced guest.program d
    asks : counted_step guest.program d ≡ Asks f arguments waits
    is_imported : slice_get guest.program.functions f ≡ Some (Imported (call_type_of k))
    arguments_are : AreOf (takes_of (call_type_of k)) arguments

  -- the memory that a call leaves
  memory_typed : (k : Call) (numbers : List ℕ) (given : Option Answer) (d : Configuration)
      (h : WasiState) (done : Done) → IsTyped c guest.program d → Holds d.store.memory h
      → call_rule k numbers given d.store.memory h ≡ Ok done
      → IsTypedMemory guest.program done.memory
  memory_typed k numbers given d h done now holds e = record {
    pages = now.store.memory.pages;
    whole = call_rules_keep_memory k numbers given d.store.memory h done e ∙ now.store.memory.whole;
    least = now.store.memory.least;
    within = now.store.memory.within;
    bytes = call_rules_keep_bytes k numbers given d.store.memory h done holds.memory_bytes
        holds.of_bytes e;
  }

  call_rule_typed : (k : Call) (r : Ruling) (given : Option Answer) (d : Configuration)
      (h : WasiState) (f : ℕ) (arguments : List Value) (waits : Thread)
      → IsAtImport d k f arguments waits → Holds d.store.memory h
      → call_rule k (reverse (map number_in arguments)) given d.store.memory h ≡ r
      → IsTypedNext (after_call_rule k r d h waits)
  call_rule_typed k (Ok done) given d h f arguments waits at holds e =
      answers_typed c guest.program d f arguments waits done.memory (given_by k 0) (call_type_of k)
      typed at.now at.asks at.reduced at.is_imported (given_typed k 0 (omega arith))
      (memory_typed k (reverse (map number_in arguments)) given d h done at.now holds e)
  call_rule_typed k (Err (Refuses error)) given d h f arguments waits at holds e =
      answers_typed c guest.program d f arguments waits d.store.memory
      (given_by k (errno_number error)) (call_type_of k) typed at.now at.asks at.reduced
      at.is_imported (given_typed k (errno_number error) (errno_small error)) at.now.store.memory
  call_rule_typed k (Err (Ends code)) given d h f arguments waits at holds e =
      let ends = stopped_typed d at.now in (
        ends.0,
        ends.1,
        code_small k arguments given d.store.memory h code at.arguments_are e,
      )
  call_rule_typed k (Err (Inquires question)) given d h f arguments waits at holds e = tt

  call_typed : (o : Option Call) (given : Option Answer) (d : Configuration) (h : WasiState) (f : ℕ)
      (arguments : List Value) (waits : Thread) → slice_get guest.calls f ≡ o
      → IsTyped c guest.program d → IsReduced guest.program d
      → counted_step guest.program d ≡ Asks f arguments waits
      → IsSound c guest.program (Asks f arguments waits) → Holds d.store.memory h
      → IsTypedNext (after_call o arguments given d h waits)
  call_typed None given d h f arguments waits at now reduced asks sound holds = tt
  call_typed (Some k) given d h f arguments waits at now reduced asks sound holds =
      let signature : sound.0 ≡ call_type_of k = are f k sound.0 at sound.1 in
      call_rule_typed k (call_rule k (reverse (map number_in arguments)) given d.store.memory
      h) given d h f arguments waits (record {
        now = now;
        reduced = reduced;
        asks = asks;
        is_imported = sound.1 ∙ ap (λ (t : FunctionType). Some (Imported t)) signature;
        arguments_are = subst (λ (t : FunctionType). AreOf (takes_of t) arguments)
            signature sound.2;
      }) holds refl

  -- what a counted step that is known leads to
  sound_at : (d : Configuration) (o : Outcome) → counted_step guest.program d ≡ o
      → IsEnded d ⊎ IsSound c guest.program (counted_step guest.program d)
      → (o ≡ Stuck → ⊥) → IsSound c guest.program o
  sound_at d o e (inl ended) stuck =
      let none : counted_step guest.program d ≡ Stuck = rw ended.returned refl in
      absurd (stuck (sym e ∙ none))
  sound_at d o e (inr sound) stuck = subst (IsSound c guest.program) e sound

  step_typed : (o : Outcome) (given : Option Answer) (d : Configuration) (h : WasiState)
      → counted_step guest.program d ≡ o → IsTyped c guest.program d → IsReduced guest.program d
      → Holds d.store.memory h → IsTypedNext (after_counted_step guest o given d h)
  step_typed (Goes next) given d h e now reduced holds =
      goes_typed c guest.program d next e (never_stuck_holds c guest.program d typed now reduced)
  step_typed (Traps why) given d h e now reduced holds =
      let ends = stopped_typed d now in (ends.0, ends.1, tt)
  step_typed (Asks f arguments waits) given d h e now reduced holds =
      call_typed (slice_get guest.calls f) given d h f arguments waits refl now reduced e
      (sound_at d (Asks f arguments waits) e
      (never_stuck_holds c guest.program d typed now reduced) (λ stuck. cc)) holds
  step_typed Stuck given d h e now reduced holds = tt

  -- ---- processes

  abbrev IsTypedHere : ProcessState → Type 0
  IsTypedHere p = IsTypedProcess c guest.program p

  closed_typed : (thread : Thread) (later : List ℕ) (p : ProcessState) → IsTypedHere p
      → IsTypedHere (closed_at thread later p)
  closed_typed [] [] p t = record { typed = t.typed; reduced = t.reduced; ended = omega arith }
  closed_typed [] (x ∷ later) p t = t
  closed_typed (frame ∷ frames) [] p t = t
  closed_typed (frame ∷ frames) (x ∷ later) p t = t

  leads_typed : (next : Next) (given : Option Answer) (p q : ProcessState) → IsTypedNext next
      → LeadsTo guest next given p q → IsTypedHere q
  leads_typed (On d h) given p q t to =
      let reduced = reduces_typed c guest.program d to.0 typed t to.1 in
      subst IsTypedHere (sym to.2)
      (closed_typed to.0.thread to.0.later (stepped given to.0 h p)
      (record { typed = reduced.0; reduced = reduced.1; ended = tt }))
  leads_typed (Over why d h) given p q t to =
      subst IsTypedHere (sym to) (record { typed = t.0; reduced = t.1; ended = t.2 })
  leads_typed (Wants question) given p q t to = absurd to
  leads_typed Nowhere given p q t to = absurd to

  move_typed : (p q : ProcessState) (given : Option Answer) → Moves guest p given q
      → ProcessHolds p → IsTypedHere p → IsTypedHere q
  move_typed p q given moves holds t =
      leads_typed (next_of guest p given) given p q
      (step_typed (counted_step guest.program p.configuration) given p.configuration
      p.host refl t.typed t.reduced holds) moves.leads

  runs_typed : (p q : ProcessState) (kept : List Kept) (n : ℕ) → Runs guest p kept n q
      → ProcessHolds p → IsTypedHere p → IsTypedHere q
  runs_typed p q kept n none holds t = t
  runs_typed p q kept n (step {p = p'} {q = next} {kept = kept'} {n = k} moves rest) holds t =
      runs_typed next q kept' k rest (move_holds guest p' next None moves holds)
      (move_typed p' next None moves holds t)
  runs_typed p q kept n (take {p = p'} {q = next} {a = a} {kept = kept'} {n = k} moves rest) holds
      t =
      runs_typed next q kept' k rest (move_holds guest p' next (Some a) moves holds)
      (move_typed p' next (Some a) moves holds t)
  runs_typed p q kept n (widen {p = p'} {kept = kept'} {n = k} at rest) holds t =
      runs_typed (widened p') q kept' k rest (widened_holds p' holds)
      (record { typed = t.typed; reduced = t.reduced; ended = t.ended })
  runs_typed p q kept n (succeed {p = p'} {o = o} {kept = kept'} {k = k} at sum rest) holds t =
      runs_typed (succeeding o p') q kept' k rest (succeeding_holds o p' at holds)
      (record { typed = t.typed; reduced = t.reduced; ended = t.ended })

-- ---- the beginning

pub reached_are_typed : ReachedAreTyped
reached_are_typed offer m config functions kept n p no_entry offers few valid link types bytes r =
    let s = r.begins in
    let entries : s.entry ≡ link.entry =
    item_number s.entry link.entry (entry_once m.exports (codes "_start")
    (export.Function s.entry) (export.Function link.entry) valid.names s.exported
    link.has_entry.exported) in
    let begins : Begins m config.pages link.entry r.guest.program s.first =
    subst (λ (k : ℕ). Begins m config.pages k r.guest.program s.first) entries s.begins in
    let first = begins_typed offer config.pages m functions r.guest.program s.first no_entry few
    valid
    types link begins in
    let c : Context = module_context m functions in
    let are = calls_typed offer m m.imports m.functions r.guest.program.functions r.guest.calls
    offers link.imports s.begins.is_program.functions s.calls in
    let start : IsTypedProcess c r.guest.program r.start =
    subst (IsTypedProcess c r.guest.program) (sym s.is)
    (closed_typed c r.guest first.0 are s.first.thread s.first.later (beginning s.first config)
    (record { typed = first.1; reduced = first.2; ended = tt })) in
    runs_typed c r.guest first.0 are r.start p kept n r.runs
    (start_holds m config r.guest r.start valid bytes s) start
