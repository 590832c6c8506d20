-- The outermost frame is that of the function that the host has called, and the table stays.
use Rattle.std.proofs.Common.{◌≡◌, ℕ, zero, suc, Bool, true, false, List, [], ◌∷◌, length, drop}
use Rattle.std.proofs.Common.{Option, Some, None, refl, sym, ap, ◌∙◌, subst}
use Rattle.std.specs.Prelude.{Ok, Err, if◌then◌else◌, map, reverse, slice_get, unwrap_or, ◌++◌}
use Rattle.std.specs.Option.{option_map}
use Rattle.wasm_syntax.specs.declared.types.FunctionType.{FunctionType}
use Rattle.wasm_syntax.specs.declared.value.Value.{Value}
use Rattle.wasm_syntax.specs.declared.value.Value.TheVariants as value
use Rattle.wasm_syntax.specs.declared.value.Trap.TheVariants as trap
use Rattle.wasm_syntax.specs.declared.instruction.Instruction.{Instruction}
use Rattle.wasm_syntax.specs.declared.instruction.Instruction.TheVariants as instr
use Rattle.wasm_syntax.specs.declared.module.Module.{Module}
use Rattle.wasm_syntax.specs.rules.Sequence.{Sequence, Stop, Plain, InBlock, InLoop, InIf, InIfElse}
use Rattle.wasm_rules.specs.Types.{number_in, takes_of, gives_of, is_same_function_type}
use Rattle.wasm_rules.specs.Typing.{Context}
use Rattle.wasm_rules.specs.Configuration.{Callee, Imported, Own, Program, Store}
use Rattle.wasm_rules.specs.Configuration.{Label, LabelOf, FrameOf, Thread}
use Rattle.wasm_rules.specs.Configuration.{Configuration, Outcome, Goes, Traps, Asks, Stuck}
use Rattle.wasm_rules.specs.Effects.{Effect, Gives, Fails, Wrong, effect}
use Rattle.wasm_rules.specs.Instantiation.{calls_of}
use Rattle.wasm_rules.specs.Steps.{where_some, topmost, branch, is_exhausted, entered, called}
use Rattle.wasm_rules.specs.Steps.{calls, signature_of, calls_entry, after_effect, execute, goes_on}
use Rattle.wasm_rules.specs.Steps.{counted_step_of, counted_step, returned, exited, begun}
use Rattle.wasm_rules.specs.Steps.{exited_by, ReducesTo, here, on}
use Rattle.machine_slots.specs.rules.Places.{ShownFrame, ShowsCallers, ShowsThread}
use Rattle.machine_frame.proofs.FramePosition.Effects.{table_stays}
use Rattle.wasi_abi.specs.declared.answer.Answer.{Answer}
use Rattle.wasi_abi.specs.declared.call.Call.{Call}
use Rattle.wasi_abi.specs.rules.Configs.{Settings}
use Rattle.wasi_calls_rules.specs.WasiStates.{WasiState}
use Rattle.wasi_calls_rules.specs.Checks.{Refuses, Ends, Asks as Inquires, Ruling}
use Rattle.wasi_calls_rules.specs.CallRules.{call_rule}
use Rattle.process_rules.specs.Processes.{ProcessState, Guest, IsStart, closed_at}
use Rattle.process_rules.specs.Origins.{succeeding}
use Rattle.process_rules.specs.Runs.{Next, On, Over, Wants, Nowhere, after_call_rule, after_call}
use Rattle.process_rules.specs.Runs.{after_counted_step, next_of, stepped, LeadsTo, Moves, Kept}
use Rattle.process_rules.specs.Runs.{Runs, none, step, take, widen, succeed, widened, Reaches}
use Rattle.process_rules.proofs.ReachedStates.{beginning}
use Rattle.process_rules.proofs.MemoryKept.{reduced_store}
use Rattle.state_image.specs.rules.WellTyped.{EntryPoints, IsCalled, IsOutermost}

-- ---- where the host has called

module _ (b : EntryPoints) where
  -- the host has called the outermost one of these frames and of the function above them
  abbrev IsOver : List ℕ → ℕ → Thread → Type 0
  IsOver later g [] = IsCalled b later g
  IsOver later g (FrameOf f ls labels vs rest ∷ frames) = IsOver later f frames

  -- the host may make these calls next
  abbrev AreToCome : List ℕ → Type 0
  AreToCome [] = Unit {0}
  AreToCome (f ∷ later) = IsCalled b later f

  abbrev pub IsCalledThread : List ℕ → Thread → Type 0
  IsCalledThread later [] = AreToCome later
  IsCalledThread later (FrameOf f ls labels vs rest ∷ frames) = IsOver later f frames

  to_come : (later : List ℕ) (f : ℕ) → IsCalled b later f → AreToCome later
  to_come [] f h = tt
  to_come (x ∷ []) f h = h.0
  to_come (x ∷ y ∷ later) f h = absurd h

  returned_over : (later : List ℕ) (results : List Value) (g : ℕ) (frames : Thread)
      → IsOver later g frames → IsCalledThread later (returned results frames)
  returned_over later results g [] h = to_come later g h
  returned_over later results g (FrameOf f ls labels vs rest ∷ frames) h = h

  answered_thread : (later : List ℕ) (results : List Value) (waits : Thread)
      → IsCalledThread later waits → IsCalledThread later (returned results waits)
  answered_thread later results [] h = h
  answered_thread later results (FrameOf f ls labels vs rest ∷ frames) h = h

  -- ---- counted steps

  -- a configuration whose table is this
  record IsCalledWith (table : List (Option ℕ)) (c : Configuration) : Type 0 where
    thread : IsCalledThread c.later c.thread
    table_is : c.store.table ≡ table

  abbrev GoesWell : Configuration → Outcome → Type 0
  GoesWell c (Goes next) = IsCalledWith c.store.table next
  GoesWell c (Traps why) = Unit {0}
  GoesWell c (Asks f arguments waits) = IsCalledThread c.later waits
  GoesWell c Stuck = Unit {0}

  where_well : {X : Type 0} (c : Configuration) (o : Option X) (go : X → Outcome)
      → ((x : X) → GoesWell c (go x)) → GoesWell c (where_some o go)
  where_well c None go h = tt
  where_well c (Some x) go h = h x

  branch_well : (c : Configuration) (l f : ℕ) (ls : List Value) (labels : List Label)
      (vs : List Value) (frames : Thread) → IsOver c.later f frames
      → GoesWell c (goes_on c (branch l f ls labels vs) frames)
  branch_well c zero f ls [] vs frames h = tt
  branch_well c (suc l) f ls [] vs frames h = tt
  branch_well c zero f ls (LabelOf keeps target below after which ∷ labels) vs frames h =
      by_top (topmost keeps vs)
    where
      by_top : (o : Option (List Value)) → GoesWell c (goes_on c
          (option_map (λ kept. FrameOf f ls labels (kept ++ below) target) o) frames)
      by_top None = tt
      by_top (Some kept) = record { thread = h; table_is = refl }
  branch_well c (suc l) f ls (LabelOf keeps target below after which ∷ labels) vs frames h =
      branch_well c l f ls labels vs frames h

  called_well : (f : ℕ) (callee : Callee) (c : Configuration) (g : ℕ) (ls : List Value)
      (labels : List Label) (rest : Sequence) (vs : List Value) (frames : Thread)
      → IsOver c.later g frames
      → GoesWell c (called f callee c (λ below. FrameOf g ls labels below rest) vs frames)
  called_well f (Imported signature) c g ls labels rest vs frames h =
      where_well c (topmost (length (takes_of signature)) vs) _ (λ arguments. h)
  called_well f (Own signature declared body) c g ls labels rest vs frames h =
      where_well c (topmost (length (takes_of signature)) vs) _ (λ arguments.
      by_test arguments (is_exhausted (inner arguments)))
    where
      inner : List Value → Thread
      inner arguments =
          entered f signature declared body arguments
          ∷ FrameOf g ls labels (drop (length (takes_of signature)) vs) rest ∷ frames

      by_test : (arguments : List Value) (full : Bool) → GoesWell c (if full
          then Traps trap.StackExhausted else Goes (record c { thread = inner arguments }))
      by_test arguments true = tt
      by_test arguments false = record { thread = h; table_is = refl }

  calls_well : (program : Program) (f : ℕ) (c : Configuration) (g : ℕ) (ls : List Value)
      (labels : List Label) (rest : Sequence) (vs : List Value) (frames : Thread)
      → IsOver c.later g frames
      → GoesWell c (calls program f c (λ below. FrameOf g ls labels below rest) vs frames)
  calls_well program f c g ls labels rest vs frames h =
      where_well c (slice_get program.functions f) _ (λ callee.
      called_well f callee c g ls labels rest vs frames h)

  entry_well : (program : Program) (o : Option (Option ℕ)) (signature : FunctionType)
      (c : Configuration) (g : ℕ) (ls : List Value) (labels : List Label) (rest : Sequence)
      (vs : List Value) (frames : Thread) → IsOver c.later g frames
      → GoesWell c
      (calls_entry program o signature c (λ below. FrameOf g ls labels below rest) vs frames)
  entry_well program None signature c g ls labels rest vs frames h = tt
  entry_well program (Some None) signature c g ls labels rest vs frames h = tt
  entry_well program (Some (Some f)) signature c g ls labels rest vs frames h =
      where_well c (slice_get program.functions f) _ (λ callee.
      by_test callee (is_same_function_type signature (signature_of callee)))
    where
      by_test : (callee : Callee) (same : Bool) → GoesWell c (if same
          then called f callee c (λ below. FrameOf g ls labels below rest) vs frames
          else Traps trap.IndirectCallTypeMismatch)
      by_test callee true = called_well f callee c g ls labels rest vs frames h
      by_test callee false = tt

  after_well : (program : Program) (i : Instruction) (c : Configuration) (f : ℕ)
      (ls : List Value) (labels : List Label) (vs : List Value) (rest : Sequence)
      (frames : Thread) (o : Effect) → effect program i c.store ls vs ≡ o
      → IsOver c.later f frames
      → GoesWell c (after_effect o c (λ ls' vs'. FrameOf f ls' labels vs' rest ∷ frames))
  after_well program i c f ls labels vs rest frames (Gives store ls' vs') e h =
      record { thread = h; table_is = table_stays program i c.store store ls ls' vs vs' e }
  after_well program i c f ls labels vs rest frames (Fails why) e h = tt
  after_well program i c f ls labels vs rest frames Wrong e h = tt

  execute_well : (program : Program) (c : Configuration) (f : ℕ) (ls : List Value)
      (labels : List Label) (i : Instruction) (vs : List Value) (rest : Sequence)
      (frames : Thread) → IsOver c.later f frames
      → GoesWell c (execute program c f ls labels i vs rest frames)
  execute_well program c f ls labels (instr.Br l) vs rest frames h =
      branch_well c l f ls labels vs frames h
  execute_well program c f ls labels (instr.BrIf l) (value.I32 zero ∷ vs) rest frames h =
      record { thread = h; table_is = refl }
  execute_well program c f ls labels (instr.BrIf l) (value.I32 (suc n) ∷ vs) rest frames h =
      branch_well c l f ls labels vs frames h
  execute_well program c f ls labels (instr.BrTable table last) (value.I32 n ∷ vs) rest frames h =
      branch_well c (unwrap_or (slice_get table n) last) f ls labels vs frames h
  execute_well program c f ls labels instr.Return vs rest frames h =
      where_well c (slice_get program.functions f) _ (λ callee.
      where_well c (topmost (length (gives_of (signature_of callee))) vs) _ (λ results.
      record { thread = returned_over c.later results f frames h; table_is = refl }))
  execute_well program c f ls labels (instr.Call g) vs rest frames h =
      calls_well program g c f ls labels rest vs frames h
  execute_well program c f ls labels (instr.CallIndirect t) (value.I32 i ∷ vs) rest frames h =
      where_well c (slice_get program.types t) _ (λ signature.
      entry_well program (slice_get c.store.table i) signature c f ls labels rest vs frames h)
  execute_well program c f ls labels i vs rest frames h =
      after_well program i c f ls labels vs rest frames (effect program i c.store ls vs) refl h

  step_well : (program : Program) (c : Configuration) → IsCalledThread c.later c.thread
      → GoesWell c (counted_step program c)
  step_well program c h = by_thread c.thread h where
    by_thread : (thread : Thread) → IsCalledThread c.later thread
        → GoesWell c (counted_step_of program c thread)
    by_thread (FrameOf f ls labels vs (Plain i rest) ∷ frames) h =
        execute_well program c f ls labels i vs rest frames h
    by_thread (FrameOf f ls labels vs (InBlock t body rest) ∷ frames) h =
        record { thread = h; table_is = refl }
    by_thread (FrameOf f ls labels vs (InLoop t body rest) ∷ frames) h =
        record { thread = h; table_is = refl }
    by_thread (FrameOf f ls labels (value.I32 zero ∷ vs) (InIf t first rest) ∷ frames) h =
        record { thread = h; table_is = refl }
    by_thread (FrameOf f ls labels (value.I32 (suc n) ∷ vs) (InIf t first rest) ∷ frames) h =
        record { thread = h; table_is = refl }
    by_thread (FrameOf f ls labels (value.I32 zero ∷ vs) (InIfElse t first second rest) ∷ frames)
        h = record { thread = h; table_is = refl }
    by_thread (FrameOf f ls labels (value.I32 (suc n) ∷ vs) (InIfElse t first second rest)
        ∷ frames) h = record { thread = h; table_is = refl }
    by_thread _ h = tt

  -- ---- administrative steps

  begun_well : (later : List ℕ) (f : ℕ) (o : Option Callee) (t : Thread) → begun o f ≡ Some t
      → IsCalled b later f → IsCalledThread later t
  begun_well later f None t e h = absurd (cc)
  begun_well later f (Some (Imported signature)) t e h = absurd (cc)
  begun_well later f (Some (Own signature declared body)) t e h =
      let same : entered f signature declared body [] ∷ [] ≡ t = cc in
      subst (IsCalledThread later) same h

  exited_well : (later : List ℕ) (f : ℕ) (ls : List Value) (labels : List Label) (vs : List Value)
      (rest : Sequence) (frames t : Thread) → exited rest f ls labels vs frames ≡ Some t
      → IsOver later f frames → IsCalledThread later t
  exited_well later f ls (LabelOf keeps target below after which ∷ labels) vs Stop frames t e h =
      let same : FrameOf f ls labels (vs ++ below) after ∷ frames ≡ t = cc in
      subst (IsCalledThread later) same h
  exited_well later f ls [] vs Stop frames t e h =
      let same : returned vs frames ≡ t = cc in
      subst (IsCalledThread later) same (returned_over later vs f frames h)
  exited_well later f ls labels vs _ frames t e h = absurd (cc)

  with_thread : (store : Store) (later : List ℕ) (o : Option Thread) (d : Configuration)
      → option_map (λ (thread : Thread).
      record { store = store; thread = thread; later = later }) o ≡ Some d
      → ((t : Thread) → o ≡ Some t → IsCalledThread later t) → IsCalledThread d.later d.thread
  with_thread store later None d e h = absurd (cc)
  with_thread store later (Some t) d e h =
      let next : Configuration = record { store = store; thread = t; later = later } in
      let same : next ≡ d = cc in
      subst (λ (z : Configuration). IsCalledThread z.later z.thread) same (h t refl)

  administrative_well : (program : Program) (thread : Thread) (later : List ℕ) (store : Store)
      (d : Configuration) → exited_by program thread later store ≡ Some d
      → IsCalledThread later thread → IsCalledThread d.later d.thread
  administrative_well program [] [] store d e h = absurd (cc)
  administrative_well program [] (f ∷ later) store d e h =
      with_thread store later (begun (slice_get program.functions f) f) d e (λ t k.
      begun_well later f (slice_get program.functions f) t k h)
  administrative_well program (FrameOf f ls labels vs rest ∷ frames) later store d e h =
      with_thread store later (exited rest f ls labels vs frames) d e (λ t k.
      exited_well later f ls labels vs rest frames t k h)

  reduces_well : (program : Program) (c d : Configuration) → ReducesTo program c d
      → IsCalledThread c.later c.thread → IsCalledThread d.later d.thread
  reduces_well program c d (here s) h = h
  reduces_well program c d (on {c = c'} {d = between} e rest) h =
      reduces_well program between d rest
      (administrative_well program c'.thread c'.later c'.store between e h)

  -- ---- one counted step

  module _ (table : List (Option ℕ)) where
    abbrev IsCalledNext : Next → Type 0
    IsCalledNext (On c h) = IsCalledWith table c
    IsCalledNext (Over why c h) = IsCalledWith table c
    IsCalledNext (Wants question) = Unit {0}
    IsCalledNext Nowhere = Unit {0}

    call_rule_well : (c : Call) (r : Ruling) (before : Configuration) (h : WasiState)
        (waits : Thread) → before.store.table ≡ table → IsCalledThread before.later waits
        → IsCalledNext (after_call_rule c r before h waits)
    call_rule_well c (Ok done) before h waits same k =
        record { thread = answered_thread before.later _ waits k; table_is = same }
    call_rule_well c (Err (Refuses e)) before h waits same k =
        record { thread = answered_thread before.later _ waits k; table_is = same }
    call_rule_well c (Err (Ends code)) before h waits same k = record
        { thread = tt; table_is = same }
    call_rule_well c (Err (Inquires question)) before h waits same k = tt

    call_well : (o : Option Call) (arguments : List Value) (given : Option Answer)
        (before : Configuration) (h : WasiState) (waits : Thread) → before.store.table ≡ table
        → IsCalledThread before.later waits
        → IsCalledNext (after_call o arguments given before h waits)
    call_well None arguments given before h waits same k = tt
    call_well (Some c) arguments given before h waits same k =
        call_rule_well c (call_rule c (reverse (map number_in arguments)) given
        before.store.memory h) before h waits same k

    outcome_well : (guest : Guest) (o : Outcome) (given : Option Answer) (before : Configuration)
        (h : WasiState) → before.store.table ≡ table → GoesWell before o
        → IsCalledNext (after_counted_step guest o given before h)
    outcome_well guest (Goes next) given before h same k =
        record { thread = k.thread; table_is = k.table_is ∙ same }
    outcome_well guest (Traps why) given before h same k =
        record { thread = tt; table_is = same }
    outcome_well guest (Asks f arguments waits) given before h same k =
        call_well (slice_get guest.calls f) arguments given before h waits same k
    outcome_well guest Stuck given before h same k = tt

    abbrev IsCalledHere : ProcessState → Type 0
    IsCalledHere p = IsCalledWith table p.configuration

    closed_well : (thread : Thread) (later : List ℕ) (p : ProcessState) → IsCalledHere p
        → IsCalledHere (closed_at thread later p)
    closed_well [] [] p k = k
    closed_well [] (x ∷ later) p k = k
    closed_well (frame ∷ frames) [] p k = k
    closed_well (frame ∷ frames) (x ∷ later) p k = k

    leads_well : (guest : Guest) (next : Next) (given : Option Answer) (p q : ProcessState)
        → IsCalledNext next → LeadsTo guest next given p q → IsCalledHere q
    leads_well guest (On c h) given p q k to =
        subst IsCalledHere (sym to.2)
        (closed_well to.0.thread to.0.later (stepped given to.0 h p) (record {
          thread = reduces_well guest.program c to.0 to.1 k.thread;
          table_is =
              ap (λ (s : Store). s.table) (reduced_store guest.program c to.0 to.1) ∙ k.table_is;
        }))
    leads_well guest (Over why c h) given p q k to = subst IsCalledHere (sym to) k
    leads_well guest (Wants question) given p q k to = absurd to
    leads_well guest Nowhere given p q k to = absurd to

    move_well : (guest : Guest) (p q : ProcessState) (given : Option Answer)
        → Moves guest p given q → IsCalledHere p → IsCalledHere q
    move_well guest p q given moves k =
        leads_well guest (next_of guest p given) given p q
        (outcome_well guest (counted_step guest.program p.configuration) given
        p.configuration p.host k.table_is (step_well guest.program p.configuration
        k.thread)) moves.leads

    runs_well : (guest : Guest) (p q : ProcessState) (kept : List Kept) (n : ℕ)
        → Runs guest p kept n q → IsCalledHere p → IsCalledHere q
    runs_well guest p q kept n none k = k
    runs_well guest p q kept n (step {p = p'} {q = next} {kept = kept'} {n = m} moves rest) k =
        runs_well guest next q kept' m rest (move_well guest p' next None moves k)
    runs_well guest p q kept n
        (take {p = p'} {q = next} {a = a} {kept = kept'} {n = m} moves rest) k =
        runs_well guest next q kept' m rest (move_well guest p' next (Some a) moves k)
    runs_well guest p q kept n (widen {p = p'} {kept = kept'} {n = m} at rest) k =
        runs_well guest (widened p') q kept' m rest k
    runs_well guest p q kept n (succeed {p = p'} {o = o} {kept = kept'} {k = m} at sum rest) k =
        runs_well guest (succeeding o p') q kept' m rest k

  -- ---- places

  -- the places that show the frames below the function g, and the one that shows it
  callers_outermost : (c : Context) (program : Program) (above : FunctionType) (later : List ℕ)
      (place : ShownFrame) (g : ℕ) (places : List ShownFrame) (frames : Thread)
      → place.function ≡ g → ShowsCallers c program above places frames → IsOver later g frames
      → IsOutermost b later (place ∷ places)
  callers_outermost c program above later place g [] [] same shows h =
      subst (IsCalled b later) (sym same) h
  callers_outermost c program above later place g [] (frame ∷ frames) same shows h = absurd shows
  callers_outermost c program above later place g (next ∷ places) [] same shows h = absurd shows
  callers_outermost c program above later place g (next ∷ places)
      (FrameOf f ls labels vs rest ∷ frames) same shows h =
      callers_outermost c program shows.0.signature later next f places frames
      shows.0.same shows.2 h

  pub outermost_shown : (c : Context) (program : Program) (later : List ℕ)
      (places : List ShownFrame) (thread : Thread) → ShowsThread c program places thread
      → IsCalledThread later thread → IsOutermost b later places
  outermost_shown c program later [] [] shows h = tt
  outermost_shown c program later [] (frame ∷ frames) shows h = absurd shows
  outermost_shown c program later (place ∷ places) [] shows h = absurd shows
  outermost_shown c program later (place ∷ places) (FrameOf f ls labels vs rest ∷ frames) shows h =
      callers_outermost c program shows.0.signature later place f places frames
      shows.0.same shows.2 h

-- ---- what is reached

first_calls : (start : Option ℕ) (entry : ℕ)
    → AreToCome (record { start = start; entry = entry }) (calls_of start entry)
first_calls None entry = refl
first_calls (Some f) entry = (refl, refl)

-- what a module begins with
abbrev pub entry_points : {m : Module} {config : Settings} {guest : Guest} {p : ProcessState}
    → IsStart m config guest p → EntryPoints
entry_points {m} begins = record { start = m.start; entry = begins.entry }

-- the host has called the outermost frame's function, and the table is that of the beginning
pub record ReachedIsCalled (b : EntryPoints) (table : List (Option ℕ)) (p : ProcessState) :
    Type 0 where
  pub thread : IsCalledThread b p.configuration.later p.configuration.thread
  pub same_table : p.configuration.store.table ≡ table

pub reached_is_called : (m : Module) (config : Settings) (kept : List Kept) (n : ℕ)
    (p : ProcessState) → (r : Reaches m config kept n p)
    → ReachedIsCalled (entry_points r.begins) r.begins.begins.store.table p
reached_is_called m config kept n p r =
    let s = r.begins in
    let b : EntryPoints = entry_points s in
    let table : List (Option ℕ) = s.begins.store.table in
    let first : Configuration = record {
      store = s.begins.store;
      thread = [];
      later = calls_of m.start s.entry;
    } in
    let start : IsCalledHere b table r.start =
    subst (IsCalledHere b table) (sym s.is)
    (closed_well b table s.first.thread s.first.later (beginning s.first config) (record {
      thread = reduces_well b r.guest.program first s.first s.begins.reduces
          (first_calls m.start s.entry);
      table_is = ap (λ (z : Store). z.table)
          (reduced_store r.guest.program first s.first s.begins.reduces);
    })) in
    let last = runs_well b table r.guest r.start p kept n r.runs start in
    record { thread = last.thread; same_table = last.table_is }
