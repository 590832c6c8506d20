-- An answer that fits what a process wants is short enough for a record.
use Rattle.std.proofs.Common.{◌≡◌, ℕ, ◌≤◌, List, [], ◌∷◌, length, refl, ap, subst, arith, lit≤}
use Rattle.std.specs.Prelude.{Bool, true, false, if◌then◌else◌, nat_le, Option, Some, None, Ok}
use Rattle.std.specs.Prelude.{Result, Err, ◌==◌, slice_get, reverse, map}
use Rattle.std.proofs.lemmas.Bool.{leb-true}
use Rattle.wasm_syntax.specs.declared.value.Value.{Value}
use Rattle.wasm_rules.specs.Types.{number_in}
use Rattle.wasm_rules.specs.Configuration.{Configuration, Thread, Outcome, Goes, Traps, Asks, Stuck}
use Rattle.wasm_rules.specs.Steps.{counted_step}
use Rattle.wasi_abi.specs.declared.errno.Errno.{Errno}
use Rattle.wasi_abi.specs.declared.errno.Errno.TheVariants.{Inval}
use Rattle.wasi_abi.specs.declared.answer.Question.{Question}
use Rattle.wasi_abi.specs.declared.answer.Question.TheVariants as question
use Rattle.wasi_abi.specs.declared.answer.Answer.{Answer}
use Rattle.wasi_abi.specs.declared.answer.Answer.TheVariants as answer
use Rattle.wasi_abi.specs.declared.call.Call.{Call}
use Rattle.wasi_abi.specs.declared.call.Call.TheVariants as call
use Rattle.wasi_abi.specs.rules.Answers.{Fits}
use Rattle.wasi_abi.specs.rules.Versions.{text_limit}
use Rattle.wasi_calls_rules.specs.WasiStates.{Target, Stream, Node, Descriptor, WasiState}
use Rattle.wasi_calls_rules.specs.Checks.{Bytes, Halt, Refuses, Ends, Asks as Inquires, ◌>>=◌}
use Rattle.wasi_calls_rules.specs.Checks.{Buffer, Ruling, check_or, some_or, buffers, asked}
use Rattle.wasi_calls_rules.specs.Checks.{fitting, answered_by}
use Rattle.wasi_abi.specs.declared.version.Version.{Version}
use Rattle.wasi_abi.specs.declared.version.Version.TheVariants.{One, Two}
use Rattle.disk_layout.specs.rules.Journal.{payload_of}
use Rattle.wasi_calls_rules.specs.Small.{time_put, clock_question, clock_time_get, random_put}
use Rattle.wasi_calls_rules.specs.Small.{random_get}
use Rattle.wasi_calls_rules.specs.Moving.{Got, input_taken, input_read, target_read, fd_read}
use Rattle.wasi_calls_rules.specs.CallRules.{call_rule}
use Rattle.wasi_calls_rules.proofs.Halting.{few_call_rules_ask}
use Rattle.process_rules.specs.Processes.{ProcessState, Guest}
use Rattle.process_rules.specs.Runs.{Next, Wants, after_call_rule, after_call}
use Rattle.process_rules.specs.Runs.{after_counted_step, next_of}

-- ---- what a counted step asks for

module _ (limit : ℕ) where
  -- where it asks for random bytes, they are few
  record AsksFew {A : Type 0} (r : Result A Halt) : Type 0 where
    pub few : (n : ℕ) → r ≡ Err (Inquires (question.Random n)) → n ≤ limit

  done : {A : Type 0} (x : A) → AsksFew (Ok x)
  done x = record { few = λ n e. absurd (cc) }

  refused : {A : Type 0} (e : Errno) → AsksFew {A = A} (Err (Refuses e))
  refused e = record { few = λ n same. absurd (cc) }

  next : {A B : Type 0} (r : Result A Halt) (go : A → Result B Halt) → AsksFew r
      → ((x : A) → AsksFew (go x)) → AsksFew (r >>= go)
  next (Ok x) go h f = f x
  next (Err why) go h f = record {
    few = λ n e. let is : why ≡ Inquires (question.Random n) = cc in h.few n (ap (λ z. Err z) is);
  }

  check : {B : Type 0} (b : Bool) (e : Errno) (go : Unit {0} → Result B Halt) → AsksFew (go tt)
      → AsksFew (check_or b e >>= go)
  check true e go h = h
  check false e go h = refused e

  -- where the test tells something
  check_so : {B : Type 0} (b : Bool) (e : Errno) (go : Unit {0} → Result B Halt)
      → (b ≡ true → AsksFew (go tt)) → AsksFew (check_or b e >>= go)
  check_so true e go h = h refl
  check_so false e go h = refused e

  found : {A B : Type 0} (e : Errno) (o : Option A) (go : A → Result B Halt)
      → ((x : A) → AsksFew (go x)) → AsksFew (some_or e o >>= go)
  found e None go f = refused e
  found e (Some x) go f = f x

  either : {A : Type 0} (b : Bool) (x y : Result A Halt) → AsksFew x → AsksFew y
      → AsksFew (if b then x else y)
  either true x y h k = h
  either false x y h k = k

  asked_few : (k : Question) (o : Option Answer) → ((n : ℕ) → k ≡ question.Random n → n ≤ limit)
      → AsksFew (asked k o)
  asked_few k None f = record { few = λ n e. let is : k ≡ question.Random n = cc in f n is }
  asked_few k (Some a) f = done a

  answered_then : {A : Type 0} (h : WasiState) (k : Question) (given : Option Answer)
      (go : Answer → Result A Halt) → ((n : ℕ) → k ≡ question.Random n → n ≤ limit)
      → ((a : Answer) → AsksFew (go a)) → AsksFew (answered_by h k given >>= go)
  answered_then h k given go f g =
      next (answered_by h k given) go (asked_few k (fitting (text_limit h.version) k given) f) g

  -- ---- the three calls that ask

  module _ (m : Bytes) (h : WasiState) where
    time_few : (a : Answer) (ret : ℕ) → AsksFew (time_put a ret m h)
    time_few (answer.Monotonic n) ret = done _
    time_few (answer.Realtime n) ret = done _
    time_few _ ret = refused Inval

    clock_not_random : (b : Bool) (n : ℕ) → (if b then question.Realtime else question.Monotonic)
        ≡ question.Random n → n ≤ limit
    clock_not_random true n e = absurd (cc)
    clock_not_random false n e = absurd (cc)

    clock_answered : {A : Type 0} (id : ℕ) (given : Option Answer) (go : Answer → Result A Halt)
        → ((a : Answer) → AsksFew (go a))
        → AsksFew (answered_by h (clock_question id) given >>= go)
    clock_answered id given go f =
        answered_then h (clock_question id) given go (λ n e. clock_not_random (id == 0) n e) f

    clock_few : (id ret : ℕ) (given : Option Answer) → AsksFew (clock_time_get id ret given m h)
    clock_few id ret given = search (check, clock_answered, time_few) depth 12

    random_put_few : (a : Answer) (buf : ℕ) → AsksFew (random_put a buf m h)
    random_put_few (answer.Random bytes) buf = done _
    random_put_few _ buf = refused Inval

    same_count : (len n : ℕ) → len ≤ limit → question.Random len ≡ question.Random n → n ≤ limit
    same_count len n below e = let is : len ≡ n = cc in omega (arith, below, is)

    random_answered : {A : Type 0} (len : ℕ) → len ≤ limit → (given : Option Answer)
        (go : Answer → Result A Halt) → ((a : Answer) → AsksFew (go a))
        → AsksFew (answered_by h (question.Random len) given >>= go)
    random_answered len few given go f =
        answered_then h (question.Random len) given go (λ n e. same_count len n few e) f

    random_few : (buf len : ℕ) (given : Option Answer) → text_limit h.version ≡ limit
        → AsksFew (random_get buf len given m h)
    random_few buf len given same =
        check_so (nat_le len (text_limit h.version)) Inval _ (λ below.
        let few : len ≤ text_limit h.version = leb-true len (text_limit h.version) below in
        let here : len ≤ limit = omega (arith, few, same) in
        search (check, either, random_answered, random_put_few, done) depth 12)

    taken_few : (n : ℕ) (a : Answer) → AsksFew (input_taken n a h)
    taken_few n (answer.Request text) = done _
    taken_few n answer.End = done _
    taken_few n _ = refused Inval

    request_answered : {A : Type 0} (given : Option Answer) (go : Answer → Result A Halt)
        → ((a : Answer) → AsksFew (go a)) → AsksFew (answered_by h question.Request given >>= go)
    request_answered given go f =
        answered_then h question.Request given go (λ n e. absurd (cc)) f

    read_few : (n : ℕ) (given : Option Answer) → AsksFew (input_read n given h)
    read_few n given = search (either, request_answered, taken_few, done) depth 12

    target_few : (t : Target) (fd : ℕ) (d : Descriptor) (n : ℕ) (given : Option Answer)
        → AsksFew (target_read t fd d n given h)
    target_few (Stream s) fd d n given = read_few n given
    target_few (Node k) fd d n given = done _

    buffers_few : (iovs count : ℕ) → AsksFew (buffers m iovs count)
    buffers_few iovs count = search (check, done) depth 8

    buffers_then : {A : Type 0} (iovs count : ℕ) (go : List Buffer → Result A Halt)
        → ((bs : List Buffer) → AsksFew (go bs)) → AsksFew (buffers m iovs count >>= go)
    buffers_then iovs count go f = next (buffers m iovs count) go (buffers_few iovs count) f

    target_then : {A : Type 0} (t : Target) (fd : ℕ) (d : Descriptor) (n : ℕ)
        (given : Option Answer) (go : Got → Result A Halt) → ((got : Got) → AsksFew (go got))
        → AsksFew (target_read t fd d n given h >>= go)
    target_then t fd d n given go f =
        next (target_read t fd d n given h) go (target_few t fd d n given) f

    fd_read_few : (fd iovs count ret : ℕ) (given : Option Answer)
        → AsksFew (fd_read fd iovs count ret given m h)
    fd_read_few fd iovs count ret given =
        search (found, buffers_then, target_then, check, done) depth 12

    -- ---- any call

    clock_call_rule : (arguments : List ℕ) (given : Option Answer)
        → AsksFew (call_rule call.ClockTimeGet arguments given m h)
    clock_call_rule (id ∷ precision ∷ ret ∷ []) given = clock_few id ret given
    clock_call_rule _ given = refused Inval

    read_call_rule : (arguments : List ℕ) (given : Option Answer)
        → AsksFew (call_rule call.FdRead arguments given m h)
    read_call_rule (fd ∷ iovs ∷ count ∷ ret ∷ []) given = fd_read_few fd iovs count ret given
    read_call_rule _ given = refused Inval

    random_call_rule : (arguments : List ℕ) (given : Option Answer) → text_limit h.version ≡ limit
        → AsksFew (call_rule call.RandomGet arguments given m h)
    random_call_rule (buf ∷ len ∷ []) given same = random_few buf len given same
    random_call_rule _ given same = refused Inval

    call_rule_few : (c : Call) (arguments : List ℕ) (given : Option Answer)
        → text_limit h.version ≡ limit → AsksFew (call_rule c arguments given m h)
    call_rule_few call.ClockTimeGet arguments given same = clock_call_rule arguments given
    call_rule_few call.FdRead arguments given same = read_call_rule arguments given
    call_rule_few call.RandomGet arguments given same = random_call_rule arguments given same
    call_rule_few c arguments given same = record {
      few = λ n e. absurd (few_call_rules_ask c arguments given m h (question.Random n) e);
    }

  -- ---- what the next step wants

  abbrev FewWanted : Next → Type 0
  FewWanted (Wants (question.Random n)) = n ≤ limit
  FewWanted _ = Unit {0}

  question_few : (k : Question) → ((n : ℕ) → k ≡ question.Random n → n ≤ limit)
      → FewWanted (Wants k)
  question_few (question.Random n) f = f n refl
  question_few question.Request f = tt
  question_few question.Realtime f = tt
  question_few question.Monotonic f = tt

  call_rule_wanted : (c : Call) (r : Ruling) (before : Configuration) (h : WasiState)
      (waits : Thread) → AsksFew r → FewWanted (after_call_rule c r before h waits)
  call_rule_wanted c (Ok done) before h waits few = tt
  call_rule_wanted c (Err (Refuses e)) before h waits few = tt
  call_rule_wanted c (Err (Ends code)) before h waits few = tt
  call_rule_wanted c (Err (Inquires k)) before h waits few =
      question_few k (λ n e. few.few n (ap (λ z. Err (Inquires z)) e))

  call_wanted : (o : Option Call) (arguments : List Value) (given : Option Answer)
      (before : Configuration) (h : WasiState) (waits : Thread) → text_limit h.version ≡ limit
      → FewWanted (after_call o arguments given before h waits)
  call_wanted None arguments given before h waits same = tt
  call_wanted (Some c) arguments given before h waits same =
      call_rule_wanted c _ before h waits
      (call_rule_few before.store.memory h c (reverse (map number_in arguments)) given same)

  step_wanted : (guest : Guest) (outcome : Outcome) (given : Option Answer)
      (before : Configuration) (h : WasiState) → text_limit h.version ≡ limit
      → FewWanted (after_counted_step guest outcome given before h)
  step_wanted guest (Goes next) given before h same = tt
  step_wanted guest (Traps why) given before h same = tt
  step_wanted guest (Asks f arguments waits) given before h same =
      call_wanted (slice_get guest.calls f) arguments given before h waits same
  step_wanted guest Stuck given before h same = tt

-- at most as many bytes as a line may have
pub few_wanted : (guest : Guest) (p : ProcessState) (n : ℕ)
    → next_of guest p None ≡ Wants (question.Random n) → n ≤ text_limit p.host.version
few_wanted guest p n wants =
    subst (FewWanted (text_limit p.host.version)) wants
    (step_wanted (text_limit p.host.version) guest (counted_step guest.program p.configuration) None
    p.configuration p.host refl)

-- ---- an answer

-- a time is shorter than any text may be
short_time : (v : Version) → 8 ≤ text_limit v
short_time One = lit≤ tt
short_time Two = lit≤ tt

pub short_payload : (guest : Guest) (p : ProcessState) (k : Question) (a : Answer)
    → next_of guest p None ≡ Wants k → Fits (text_limit p.host.version) k a
    → length (payload_of a) ≤ text_limit p.host.version
short_payload guest p question.Request (answer.Request text) wants fits = fits.short
short_payload guest p question.Request answer.End wants fits = omega arith
short_payload guest p question.Realtime (answer.Realtime n) wants fits = short_time p.host.version
short_payload guest p question.Monotonic (answer.Monotonic n) wants fits = short_time p.host.version
short_payload guest p (question.Random n) (answer.Random bytes) wants fits =
    let few = few_wanted guest p n wants in
    let count : length bytes ≡ n = fits.count in
    omega (arith, few, count)
short_payload guest p _ _ wants fits = absurd fits
