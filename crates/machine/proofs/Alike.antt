-- Two machines that show one configuration go on alike.
use Rattle.std.proofs.Common.{◌≡◌, ◌≢◌, ℕ, suc, ◌+◌, ◌-◌, ◌<◌, ◌≤◌, List, [], ◌∷◌, length, Option}
use Rattle.std.proofs.Common.{Some, refl, sym, ap, ◌∙◌, subst, arith}
use Rattle.std.specs.Prelude.{map, reverse}
use Rattle.wasm_syntax.specs.declared.types.FunctionType.{FunctionType}
use Rattle.wasm_syntax.specs.declared.types.ValueType.{ValueType}
use Rattle.wasm_syntax.specs.declared.value.Value.{Value}
use Rattle.wasm_syntax.specs.declared.instruction.Instruction.TheVariants as instr
use Rattle.wasm_syntax.specs.declared.module.Module.{Module}
use Rattle.wasm_syntax.specs.rules.Sequence.{Sequence, Plain, spelled}
use Rattle.wasi_abi.specs.declared.call.Call.{Call}
use Rattle.wasm_rules.specs.Types.{number_in}
use Rattle.wasm_rules.specs.Typing.{Context, body_context}
use Rattle.wasm_rules.specs.Validity.{module_context}
use Rattle.wasm_rules.specs.Configuration.{Own, Program, Label, Thread, FrameOf}
use Rattle.wasm_rules.specs.Configuration.{Configuration, Traps, Stuck}
use Rattle.wasm_rules.specs.Steps.{counted_step, counted_step_of, stopped, answered, IsEnded}
use Rattle.wasm_rules.specs.Steps.{ReducesTo, Advances, Steps, none, more}
use Rattle.wasm_rules.proofs.OneRun.{one_run, reduces_once}
use Rattle.machine_slots.specs.rules.Places.{ShownFrame, IsCallOf, ShowsRunning, ShowsWaiting}
use Rattle.machine_slots.specs.rules.Places.{IsFrameOf, ShowsCallers, ShowsThread}
use Rattle.machine_slots.proofs.ShapePositions.{labels_tell}
use Rattle.machine.specs.declared.execution.pause.HostCall.{HostCall}
use Rattle.machine.specs.declared.execution.pause.Pause.{Pause}
use Rattle.machine.specs.declared.execution.pause.Pause.TheVariants as pause
use Rattle.machine.specs.declared.execution.pause.Paused.{Paused}
use Rattle.machine.specs.rules.Values.{MachineValue, IsProgramIn, ShowsIn}
use Rattle.machine.specs.rules.Runs.{AsksFor, RunsFor}
use Rattle.machine.specs.laws.Alike.{OneMachineShows, MachinesRunAlike, MachinesAnswerAlike}
use Rattle.machine.proofs.OneProgram.{one_list}
use Rattle.machine.proofs.OneShown.{running_of, waiting_of}

-- ---- one position

-- a call, and what follows it
call_length : (c : Context) (s : Sequence) (signature : FunctionType) (takes : List ValueType)
    (rest : Sequence) → IsCallOf c s signature takes rest
    → length (spelled s) ≡ suc (length (spelled rest))
call_length c (Plain (instr.Call x) after) signature takes rest h =
    ap (λ z. suc (length (spelled z))) (sym h.2)
call_length c (Plain (instr.CallIndirect x) after) signature takes rest h =
    ap (λ z. suc (length (spelled z))) (sym h.2)
call_length c _ signature takes rest h = absurd h

module _ {c : Context} {body : Sequence} {a b : ShownFrame} {ls : List Value} {labels : List Label}
    {vs : List Value} {rest : Sequence} where
  one_running_place : ShowsRunning c body a ls labels vs rest
      → ShowsRunning c body b ls labels vs rest → a.position ≡ b.position
  one_running_place h k =
      labels_tell c body a.position b.position h.shape k.shape labels h.reached k.reached
      h.labels_are k.labels_are
      (ap (λ z. length (spelled z)) (sym h.remains ∙ k.remains))

  one_waiting_place : {above other : FunctionType} → ShowsWaiting c body a above ls labels vs rest
      → ShowsWaiting c body b other ls labels vs rest → a.position ≡ b.position
  one_waiting_place {above} {other} h k =
      labels_tell c body a.position b.position h.shape k.shape labels h.reached k.reached
      h.labels_are k.labels_are
      (call_length c h.shape.rest above h.takes rest h.calls
      ∙ sym (call_length c k.shape.rest other k.takes rest k.calls))

abbrev frame_at : ℕ → ℕ → List ℕ → ShownFrame
frame_at f position slots = record { function = f; position = position; slots = slots }

one_frame : (a b : ShownFrame) → a.function ≡ b.function → a.position ≡ b.position
    → a.slots ≡ b.slots → a ≡ b
one_frame a b f p s =
    let whole : frame_at a.function a.position a.slots ≡ frame_at b.function b.position b.slots =
    rw (f, p, s) refl in
    whole

-- the function of a frame has one type, one list of declared locals and one body
module _ {c : Context} {program : Program} {a b : ShownFrame} {f : ℕ} (h : IsFrameOf c program a f)
    (k : IsFrameOf c program b f) where
  same_own : Own k.signature k.declared k.body ≡ Own h.signature h.declared h.body
  same_own = let x = h.is in let y = k.is in cc

  same_signature : k.signature ≡ h.signature
  same_signature = let e = same_own in cc

  same_declared : k.declared ≡ h.declared
  same_declared = let e = same_own in cc

  same_body : k.body ≡ h.body
  same_body = let e = same_own in cc

  module _ {ls : List Value} {labels : List Label} {vs : List Value} {rest : Sequence} where
    one_running : ShowsRunning (body_context c h.signature h.declared) h.body a ls labels vs rest
        → ShowsRunning (body_context c k.signature k.declared) k.body b ls labels vs rest → a ≡ b
    one_running x y =
        let there : ShowsRunning (body_context c h.signature h.declared) h.body b ls
        labels vs rest = running_of c same_signature same_declared same_body y in
        one_frame a b (h.same ∙ sym k.same) (one_running_place x there) (x.slots ∙ sym y.slots)

    one_waiting : {above other : FunctionType}
        → ShowsWaiting (body_context c h.signature h.declared) h.body a above ls labels vs rest
        → ShowsWaiting (body_context c k.signature k.declared) k.body b other ls labels
        vs rest → a ≡ b
    one_waiting {other} x y =
        let there : ShowsWaiting (body_context c h.signature h.declared) h.body b other ls labels vs
        rest =
        waiting_of c same_signature same_declared same_body y in
        one_frame a b (h.same ∙ sym k.same) (one_waiting_place x there) (x.slots ∙ sym y.slots)

-- ---- one machine

one_callers : (c : Context) (program : Program) (above other : FunctionType)
    (frames others : List ShownFrame) (thread : Thread)
    → ShowsCallers c program above frames thread → ShowsCallers c program other others thread
    → frames ≡ others
one_callers c program above other [] [] [] h k = refl
one_callers c program above other [] (b ∷ others) [] h k = absurd k
one_callers c program above other (a ∷ frames) others [] h k = absurd h
one_callers c program above other [] others (FrameOf f ls labels vs rest ∷ thread) h k = absurd h
one_callers c program above other (a ∷ frames) [] (FrameOf f ls labels vs rest ∷ thread) h k =
    absurd k
one_callers c program above other (a ∷ frames) (b ∷ others) (FrameOf f ls labels vs rest
    ∷ thread) h k =
    let first : a ≡ b = one_waiting h.0 k.0 h.1 k.1 in
    let behind : frames ≡ others =
    one_callers c program h.0.signature k.0.signature frames others thread h.2 k.2 in
    cc

one_frames : (c : Context) (program : Program) (frames others : List ShownFrame) (thread : Thread)
    → ShowsThread c program frames thread → ShowsThread c program others thread → frames ≡ others
one_frames c program [] [] [] h k = refl
one_frames c program [] (b ∷ others) [] h k = absurd k
one_frames c program (a ∷ frames) others [] h k = absurd h
one_frames c program [] others (FrameOf f ls labels vs rest ∷ thread) h k = absurd h
one_frames c program (a ∷ frames) [] (FrameOf f ls labels vs rest ∷ thread) h k = absurd k
one_frames c program (a ∷ frames) (b ∷ others) (FrameOf f ls labels vs rest ∷ thread) h k =
    let first : a ≡ b = one_running h.0 k.0 h.1 k.1 in
    let behind : frames ≡ others =
    one_callers c program h.0.signature k.0.signature frames others thread h.2 k.2 in
    cc

abbrev pub machine_with : Module → ℕ → List (Option ℕ) → List ShownFrame → List ℕ → List ℕ
    → List ℕ → ℕ → MachineValue
machine_with m most_pages table frames globals memory later limit =
    record {
      guest = m;
      most_pages = most_pages;
      table = table;
      state = record {
        frames = frames;
        globals = globals;
        memory = memory;
        later = later;
      };
      limit = limit;
    }

pub one_machine : OneMachineShows
one_machine v w program d guest h k =
    let pages : v.most_pages ≡ w.most_pages = sym h.is.most ∙ k.is.most in
    let is : IsProgramIn v.guest v.most_pages k.functions program =
    subst (λ (m : Module). IsProgramIn m v.most_pages k.functions program) (sym guest)
    (subst (λ n. IsProgramIn w.guest n k.functions program) (sym pages) k.is) in
    let functions : k.functions ≡ h.functions =
    one_list v.guest v.most_pages k.functions h.functions program program is h.is in
    let there : ShowsThread (module_context v.guest h.functions) program w.state.frames d.thread =
    subst (λ (z : List FunctionType).
    ShowsThread (module_context v.guest z) program w.state.frames d.thread) functions
    (subst (λ (m : Module).
    ShowsThread (module_context m k.functions) program w.state.frames d.thread)
    (sym guest) k.shows.frames) in
    let frames : v.state.frames ≡ w.state.frames =
    one_frames (module_context v.guest h.functions) program v.state.frames w.state.frames
    d.thread h.shows.frames there in
    let table : v.table ≡ w.table = sym h.shows.same_table ∙ k.shows.same_table in
    let globals : v.state.globals ≡ w.state.globals = h.shows.globals ∙ sym k.shows.globals in
    let memory : v.state.memory ≡ w.state.memory = h.shows.memory ∙ sym k.shows.memory in
    let later : v.state.later ≡ w.state.later = h.shows.later ∙ sym k.shows.later in
    let limit : v.limit ≡ w.limit = h.holds.limit ∙ pages ∙ sym k.holds.limit in
    let whole : machine_with v.guest v.most_pages v.table v.state.frames v.state.globals
    v.state.memory v.state.later v.limit
    ≡ machine_with w.guest w.most_pages w.table w.state.frames w.state.globals w.state.memory
    w.state.later w.limit =
    rw (guest, pages, table, frames, globals, memory, later, limit) refl in
    whole

-- ---- where a run halts

-- a counted step that leads nowhere
abbrev Stays : Program → Configuration → Type 0
Stays program e = (f : Configuration) → Advances program e f → ⊥

-- Two runs from one configuration that go on as far as the fuel allows are of one length.
same_length : {program : Program} {m n : ℕ} (fuel : ℕ) {d e f : Configuration} → Steps program m d e
    → Steps program n d f
    → m ≤ fuel → n ≤ fuel → (m < fuel → Stays program e) → (n < fuel → Stays program f) → m ≡ n
same_length fuel none none within within' stays stays' = refl
same_length fuel none (more {n = k} {d = g} b rest) within within' stays stays' =
    absurd (stays (omega (arith, within')) g b)
same_length fuel (more {n = k} {d = g} a rest) none within within' stays stays' =
    absurd (stays' (omega (arith, within)) g a)
same_length {program} fuel {f} (more {n = j} {c = c} {d = g} a rest) (more {n = k} {d = h} b rest')
    within within' stays stays' =
    let same : h ≡ g = one_run program 1 c h g (more b none) (more a none) in
    let others =
    same_length (fuel - 1) rest (subst (λ z. Steps program k z f) same rest')
    (omega (arith, within)) (omega (arith, within')) (λ less. stays (omega (arith, less)))
    (λ less. stays' (omega (arith, less))) in
    ap suc others

-- nothing applies once the program has ended
stuck : (program : Program) {e : Configuration} → IsEnded e → counted_step program e ≡ Stuck
stuck program {e} h = ap (λ t. counted_step_of program e t) h.returned

-- the configuration that is shown after a pause
abbrev shown_after : Pause → Configuration → Configuration
shown_after (pause.Trapped why) e = stopped e
shown_after _ e = e

-- why a machine pauses after so many steps, with so much of the fuel left
abbrev IsPauseAt : Module → Program → Configuration → ℕ → ℕ → ℕ → Pause → Type 0
IsPauseAt m program e steps fuel fuel_left pause.Spent = (e.thread ≢ []) × (fuel_left ≡ 0)
    × (steps + fuel_left ≡ fuel)
IsPauseAt m program e steps fuel fuel_left (pause.Host asked) =
    AsksFor m program e asked.call asked.arguments × (0 < fuel_left) × (steps + fuel_left ≡ fuel)
IsPauseAt m program e steps fuel fuel_left pause.Returned = IsEnded e × (steps + fuel_left ≡ fuel)
IsPauseAt m program e steps fuel fuel_left (pause.Trapped why) =
    (counted_step program e ≡ Traps why) × (suc steps + fuel_left ≡ fuel)

record Halts (new : MachineValue) (program : Program) (d : Configuration) (fuel fuel_left : ℕ)
    (why : Pause) : Type 0 where
  end : Configuration
  steps : ℕ
  ran : Steps program steps d end
  within : steps ≤ fuel
  stays : steps < fuel → Stays program end
  is : IsPauseAt new.guest program end steps fuel fuel_left why
  shows : ShowsIn new program (shown_after why end)

halts : (new : MachineValue) (program : Program) (d : Configuration)
    (fuel fuel_left : ℕ) (why : Pause) → RunsFor new program d fuel fuel_left why
    → Halts new program d fuel fuel_left why
halts new program d fuel fuel_left pause.Spent h =
    let a = h.0 in let used = a.used in let nothing = h.2 in
    record {
      end = a.configuration;
      steps = a.steps;
      ran = a.ran;
      within = omega (arith, used);
      stays = λ less. absurd (omega (arith, used, nothing, less));
      is = (h.1, h.2, used);
      shows = a.shows;
    }
halts new program d fuel fuel_left (pause.Host asked) h =
    let a = h.0 in let used = a.used in
    record {
      end = a.configuration;
      steps = a.steps;
      ran = a.ran;
      within = omega (arith, used);
      stays = λ less f on. (let asks = h.1.asks in let goes = on.counted in cc);
      is = (h.1, h.2, used);
      shows = a.shows;
    }
halts new program d fuel fuel_left pause.Returned h =
    let a = h.0 in let used = a.used in
    record {
      end = a.configuration;
      steps = a.steps;
      ran = a.ran;
      within = omega (arith, used);
      stays = λ less f on. (let none = stuck program h.1 in let goes = on.counted in cc);
      is = (h.1, used);
      shows = a.shows;
    }
halts new program d fuel fuel_left (pause.Trapped why) h =
    let used = h.used in
    record {
      end = h.configuration;
      steps = h.steps;
      ran = h.ran;
      within = omega (arith, used);
      stays = λ less f on. (let traps = h.traps in let goes = on.counted in cc);
      is = (h.traps, used);
      shows = h.shows;
    }

-- ---- one pause

some_once : (xs ys : List Call) → map Some xs ≡ map Some ys → xs ≡ ys
some_once [] [] e = refl
some_once [] (y ∷ ys) e = absurd (cc)
some_once (x ∷ xs) [] e = absurd (cc)
some_once (x ∷ xs) (y ∷ ys) e = let others = some_once xs ys (cc) in cc

abbrev call_of : Call → List ℕ → HostCall
call_of call arguments = record { call = call; arguments = arguments }

-- a counted step asks for one call
asks_once : {m : Module} {program : Program} {e : Configuration} (a b : HostCall)
    → AsksFor m program e a.call a.arguments → AsksFor m program e b.call b.arguments → a ≡ b
asks_once a b h k =
    let asks = h.asks in let asks' = k.asks in
    let function : h.function ≡ k.function = cc in
    let operands : h.operands ≡ k.operands = cc in
    let calls : h.calls ≡ k.calls = some_once h.calls k.calls (sym h.are_calls ∙ k.are_calls) in
    let there = h.is_call in let there' = k.is_call in
    let call : a.call ≡ b.call = cc in
    let arguments : a.arguments ≡ b.arguments =
    h.are ∙ ap (λ vs. reverse (map number_in vs)) operands ∙ sym k.are in
    let whole : call_of a.call a.arguments ≡ call_of b.call b.arguments = rw (call, arguments) refl
    in
    whole

module _ (m : Module) (program : Program) (e : Configuration)
    (steps fuel fuel_left fuel_left' : ℕ) where
  abbrev One : Pause → Pause → Type 0
  One x y = (x ≡ y) × (fuel_left ≡ fuel_left')

  one_pause : (x y : Pause) → IsPauseAt m program e steps fuel fuel_left x
      → IsPauseAt m program e steps fuel fuel_left' y → One x y
  one_pause pause.Spent pause.Spent h k = let a = h.1 in let b = k.1 in (refl, omega (arith, a, b))
  one_pause (pause.Host asked) (pause.Host other) h k =
      let used = h.2 in let used' = k.2 in (
        ap (λ (z : HostCall). pause.Host z) (asks_once asked other h.0 k.0),
        omega (arith, used, used'),
      )
  one_pause pause.Returned pause.Returned h k = let used = h.1 in let used' = k.1 in
      (refl, omega (arith, used, used'))
  one_pause (pause.Trapped why) (pause.Trapped other) h k =
      let traps = h.0 in let traps' = k.0 in let used = h.1 in let used' = k.1 in
      let same : why ≡ other = cc in
      (ap (λ z. pause.Trapped z) same, omega (arith, used, used'))
  one_pause pause.Spent (pause.Host other) h k = let a = h.1 in let used = h.2 in let some = k.1 in
      let used' = k.2 in absurd (omega (arith, a, used, some, used'))
  one_pause (pause.Host asked) pause.Spent h k = let a = k.1 in let used = k.2 in let some = h.1 in
      let used' = h.2 in absurd (omega (arith, a, used, some, used'))
  one_pause pause.Spent pause.Returned h k = absurd (h.0 k.0.returned)
  one_pause pause.Returned pause.Spent h k = absurd (k.0 h.0.returned)
  one_pause pause.Spent (pause.Trapped why) h k = let a = h.1 in let used = h.2 in let used' = k.1
      in absurd (omega (arith, a, used, used'))
  one_pause (pause.Trapped why) pause.Spent h k = let a = k.1 in let used = k.2 in let used' = h.1
      in absurd (omega (arith, a, used, used'))
  one_pause (pause.Host asked) pause.Returned h k = let asks = h.0.asks in
      let none = stuck program k.0 in absurd (cc)
  one_pause pause.Returned (pause.Host other) h k = let asks = k.0.asks in
      let none = stuck program h.0 in absurd (cc)
  one_pause (pause.Host asked) (pause.Trapped why) h k = let asks = h.0.asks in let traps = k.0 in
      absurd (cc)
  one_pause (pause.Trapped why) (pause.Host other) h k = let asks = k.0.asks in let traps = h.0 in
      absurd (cc)
  one_pause pause.Returned (pause.Trapped why) h k = let traps = k.0 in
      let none = stuck program h.0 in absurd (cc)
  one_pause (pause.Trapped why) pause.Returned h k = let traps = h.0 in
      let none = stuck program k.0 in absurd (cc)

-- ---- two machines

abbrev paused_with : Pause → ℕ → Paused
paused_with why fuel_left = record { why = why; fuel_left = fuel_left }

pub run_alike : MachinesRunAlike
run_alike v w v' w' program d fuel x y guest same same' shows shows' runs runs' =
    let a = halts v' program d fuel x.fuel_left x.why (runs program d shows) in
    let b = halts w' program d fuel y.fuel_left y.why (runs' program d shows') in
    let length : a.steps ≡ b.steps =
    same_length fuel a.ran b.ran a.within b.within a.stays b.stays in
    let end : a.end ≡ b.end =
    one_run program b.steps d a.end b.end (subst (λ n. Steps program n d a.end) length a.ran)
    b.ran in
    let guests : v'.guest ≡ w'.guest = same.guest ∙ guest ∙ sym same'.guest in
    let here : IsPauseAt v'.guest program a.end a.steps fuel y.fuel_left y.why =
    subst (λ m. IsPauseAt m program a.end a.steps fuel y.fuel_left y.why) (sym guests)
    (subst (λ z. IsPauseAt w'.guest program z a.steps fuel y.fuel_left y.why) (sym end)
    (subst (λ n. IsPauseAt w'.guest program b.end n fuel y.fuel_left y.why) (sym length) b.is)) in
    let one = one_pause v'.guest program a.end a.steps fuel x.fuel_left y.fuel_left x.why
    y.why a.is here in
    let why : x.why ≡ y.why = one.0 in
    let fuel_left : x.fuel_left ≡ y.fuel_left = one.1 in
    let whole : paused_with x.why x.fuel_left ≡ paused_with y.why y.fuel_left = rw
    (why, fuel_left) refl in
    let shown : ShowsIn w' program (shown_after x.why a.end) =
    subst (λ z. ShowsIn w' program (shown_after x.why z)) (sym end)
    (subst (λ z. ShowsIn w' program (shown_after z b.end)) (sym why) b.shows) in
    (whole, one_machine v' w' program (shown_after x.why a.end) guests a.shows shown)

pub answer_alike : MachinesAnswerAlike
answer_alike v w v' w' program d results f arguments waits signature guest same same'
    shows shows' asks there gives answers answers' =
    let a = answers program d f arguments waits signature shows asks there gives in
    let b = answers' program d f arguments waits signature shows' asks there gives in
    let memory : w.state.memory ≡ v.state.memory =
    ap (λ (z : MachineValue). z.state.memory)
    (sym (one_machine v w program d guest shows shows')) in
    let reduces =
    subst (λ bytes. ReducesTo program (answered d bytes results waits) b.configuration) memory
    b.reduces in
    let one : b.configuration ≡ a.configuration =
    reduces_once program (answered d v.state.memory results waits) b.configuration
    a.configuration reduces a.reduces in
    let guests : v'.guest ≡ w'.guest = same.guest ∙ guest ∙ sym same'.guest in
    one_machine v' w' program a.configuration guests a.shows
    (subst (λ z. ShowsIn w' program z) one b.shows)
