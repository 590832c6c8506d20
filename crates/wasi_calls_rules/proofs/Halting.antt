-- Why a call is not done: a walk over all calls' rules, for any predicate on why that holds of
-- refusals.
use Rattle.std.proofs.Common.{◌≡◌, ℕ, List, [], ◌∷◌, refl}
use Rattle.std.specs.Prelude.{Bool, true, false, if◌then◌else◌, Option, Some, None, Result, Ok, Err}
use Rattle.std.specs.Prelude.{ℤ, pos, negsuc, nat_lt, ◌^◌}
use Rattle.wasi_abi.specs.declared.errno.Errno.{Errno}
use Rattle.wasi_abi.specs.declared.errno.Errno.TheVariants.{Inval, Noent, Notcapable, Notdir}
use Rattle.wasi_abi.specs.declared.answer.Question.{Question}
use Rattle.wasi_abi.specs.declared.answer.Answer.{Answer}
use Rattle.wasi_abi.specs.declared.answer.Answer.TheVariants as answer
use Rattle.wasi_abi.specs.declared.call.Call.{Call}
use Rattle.wasi_abi.specs.declared.call.Call.TheVariants as call
use Rattle.file_tree.specs.rules.Files.{Name, Files, is_directory, child}
use Rattle.wasi_abi.specs.rules.Versions.{text_limit}
use Rattle.wasi_calls_rules.specs.WasiStates.{Target, Stream, Node, Descriptor, WasiState}
use Rattle.wasi_calls_rules.specs.Checks.{Bytes, Buffer, Halt, Refuses, Asks, Ends, ◌>>=◌, check_or}
use Rattle.wasi_calls_rules.specs.Checks.{some_or, a_file, lent, buffers, asked, fitting}
use Rattle.wasi_calls_rules.specs.Checks.{answered_by}
use Rattle.wasi_calls_rules.specs.Paths.{WalkEnd, Self, Leaf, formed, directory_entered, backed}
use Rattle.wasi_calls_rules.specs.Paths.{onward, is_back, walk}
use Rattle.wasi_calls_rules.specs.Small.{time_put, roomy, file_offset, random_put}
use Rattle.wasi_calls_rules.specs.Moving.{Got, input_taken, input_read, target_read}
use Rattle.wasi_calls_rules.specs.Moving.{file_written, write_offset, target_written}
use Rattle.wasi_calls_rules.specs.Entries.{a_leaf, placed, gives_way, renamed_to, OpenMode}
use Rattle.wasi_calls_rules.specs.Entries.{opened_there, opened_new, opened_at}
use Rattle.wasi_calls_rules.specs.CallRules.{call_rule}
use Rattle.wasi_calls_rules.specs.laws.Laws.{MayAsk, FewCallRulesAsk, ExitAloneEnds}

-- where it is not done, this holds of why
pub record HaltsBy {A : Type 0} (Q : Halt → Type 0) (r : Result A Halt) : Type 0 where
  pub halts : (halt : Halt) → r ≡ Err halt → Q halt

module _ (Q : Halt → Type 0) (refusals : (e : Errno) → Q (Refuses e)) where
  -- ---- steps

  pub done : {A : Type 0} (x : A) → HaltsBy Q (Ok x)
  done x = record { halts = λ halt e. absurd (cc) }

  halted : {A : Type 0} (why : Halt) → Q why → HaltsBy {A = A} Q (Err why)
  halted why q = record { halts = λ halt same. let is : why ≡ halt = cc in rw is at q }

  refused : {A : Type 0} (e : Errno) → HaltsBy {A = A} Q (Err (Refuses e))
  refused e = halted (Refuses e) (refusals e)

  next : {A B : Type 0} (r : Result A Halt) (go : A → Result B Halt) → HaltsBy Q r
      → ((x : A) → HaltsBy Q (go x)) → HaltsBy Q (r >>= go)
  next (Ok x) go h f = f x
  next (Err why) go h f = halted why (h.halts why refl)

  check : {B : Type 0} (b : Bool) (e : Errno) (go : Unit {0} → Result B Halt) → HaltsBy Q (go tt)
      → HaltsBy Q (check_or b e >>= go)
  check true e go h = h
  check false e go h = refused e

  checked : (b : Bool) (e : Errno) → HaltsBy Q (check_or b e)
  checked true e = done tt
  checked false e = refused e

  found : {A B : Type 0} (e : Errno) (o : Option A) (go : A → Result B Halt)
      → ((x : A) → HaltsBy Q (go x)) → HaltsBy Q (some_or e o >>= go)
  found e None go f = refused e
  found e (Some x) go f = f x

  either : {A : Type 0} (b : Bool) (x y : Result A Halt) → HaltsBy Q x → HaltsBy Q y
      → HaltsBy Q (if b then x else y)
  either true x y h k = h
  either false x y h k = k

  leaf : {A : Type 0} (place : WalkEnd) (go : ℕ → Name → Result A Halt)
      → ((d : ℕ) (name : Name) → HaltsBy Q (go d name)) → HaltsBy Q (a_leaf place go)
  leaf (Self k) go f = refused Inval
  leaf (Leaf d name) go f = f d name

  pub buffers_halt : (m : Bytes) (iovs count : ℕ) → HaltsBy Q (buffers m iovs count)
  buffers_halt m iovs count = search (check, done) depth 8

  buffers_then : {A : Type 0} (m : Bytes) (iovs count : ℕ) (go : List Buffer → Result A Halt)
      → ((bs : List Buffer) → HaltsBy Q (go bs)) → HaltsBy Q (buffers m iovs count >>= go)
  buffers_then m iovs count go f = next (buffers m iovs count) go (buffers_halt m iovs count) f

  lent_then : {A : Type 0} (m : Bytes) (from len : ℕ) (go : Bytes → Result A Halt)
      → ((bytes : Bytes) → HaltsBy Q (go bytes)) → HaltsBy Q (lent m from len >>= go)
  lent_then m from len go f = next (lent m from len) go (search (check, done) depth 8) f

  file_then : {A : Type 0} (h : WasiState) (d : Descriptor) (go : Unit {0} → Result A Halt)
      → HaltsBy Q (go tt) → HaltsBy Q (a_file h d >>= go)
  file_then h d go k = next (a_file h d) go (search (check, checked) depth 8) (λ _. k)

  roomy_then : {A : Type 0} (h : WasiState) (k size : ℕ) (go : Unit {0} → Result A Halt)
      → HaltsBy Q (go tt) → HaltsBy Q (roomy h k size >>= go)
  roomy_then h k size go f = next (roomy h k size) go (search (check, checked) depth 8) (λ _. f)

  offset_then : {A : Type 0} (z : ℤ) (go : ℕ → Result A Halt) → ((n : ℕ) → HaltsBy Q (go n))
      → HaltsBy Q (file_offset z >>= go)
  offset_then (pos n) go f =
      next (file_offset (pos n)) go (either (nat_lt n (2 ^ 63)) _ _ (done n) (refused Inval)) f
  offset_then (negsuc n) go f = refused Inval

  -- ---- paths

  formed_then : {A : Type 0} (bytes : List ℕ) (go : List Name → Result A Halt)
      → ((names : List Name) → HaltsBy Q (go names)) → HaltsBy Q (formed bytes >>= go)
  formed_then bytes go f = next (formed bytes) go (search (check, done) depth 12) f

  entered_halts : (fs : Files) (o : Option ℕ) → HaltsBy Q (directory_entered fs o)
  entered_halts fs None = refused Noent
  entered_halts fs (Some k) = either (is_directory fs k) _ _ (done k) (refused Notdir)

  onward_halts : (fs : Files) (d : ℕ) (name : Name) (names : List Name)
      (walk_on : ℕ → Result WalkEnd Halt) → ((k : ℕ) → HaltsBy Q (walk_on k))
      → HaltsBy Q (onward fs d name names walk_on)
  onward_halts fs d name [] walk_on f = done (Leaf d name)
  onward_halts fs d name (more ∷ names) walk_on f =
      next (directory_entered fs (child fs d name)) walk_on (entered_halts fs (child fs d name)) f

  backed_halts : (walk_on : ℕ → List ℕ → Result WalkEnd Halt) (behind : List ℕ)
      → ((d : ℕ) (others : List ℕ) → HaltsBy Q (walk_on d others))
      → HaltsBy Q (backed walk_on behind)
  backed_halts walk_on [] f = refused Notcapable
  backed_halts walk_on (d ∷ behind) f = f d behind

  walk_halts : (fs : Files) (d : ℕ) (behind : List ℕ) (names : List Name)
      → HaltsBy Q (walk fs d behind names)
  walk_halts fs d behind [] = done (Self d)
  walk_halts fs d behind (name ∷ names) =
      either (is_back name) _ _
      (backed_halts (λ b others. walk fs b others names) behind
      (λ b others. walk_halts fs b others names))
      (onward_halts fs d name names (λ k. walk fs k (d ∷ behind) names)
      (λ k. walk_halts fs k (d ∷ behind) names))

  placed_then : {A : Type 0} (h : WasiState) (d : Descriptor) (names : List Name)
      (go : WalkEnd → Result A Halt) → ((place : WalkEnd) → HaltsBy Q (go place))
      → HaltsBy Q (placed h d names >>= go)
  placed_then h d names go f = next (placed h d names) go (walk_halts h.files _ [] names) f

  -- ---- the rules that want no answer

  module _ (m : Bytes) (h : WasiState) where
    file_written_halts : (k offset : ℕ) (bytes : Bytes) → HaltsBy Q (file_written k offset bytes h)
    file_written_halts k offset [] = done h
    file_written_halts k offset (b ∷ bytes) = search (roomy_then, done) depth 8

    target_written_halts : (t : Target) (fd : ℕ) (d : Descriptor) (bytes : Bytes)
        → HaltsBy Q (target_written t fd d bytes h)
    target_written_halts (Stream s) fd d bytes = done _
    target_written_halts (Node k) fd d bytes =
        next _ _ (file_written_halts k (write_offset h k d) bytes) (λ after. done _)

    target_written_then : {A : Type 0} (t : Target) (fd : ℕ) (d : Descriptor) (bytes : Bytes)
        (go : WasiState → Result A Halt) → ((after : WasiState) → HaltsBy Q (go after))
        → HaltsBy Q (target_written t fd d bytes h >>= go)
    target_written_then t fd d bytes go f =
        next (target_written t fd d bytes h) go (target_written_halts t fd d bytes) f

    file_written_then : {A : Type 0} (k offset : ℕ) (bytes : Bytes) (go : WasiState → Result A Halt)
        → ((after : WasiState) → HaltsBy Q (go after)) → HaltsBy Q
        (file_written k offset bytes h >>= go)
    file_written_then k offset bytes go f =
        next (file_written k offset bytes h) go (file_written_halts k offset bytes) f

    way_then : {A : Type 0} (k : ℕ) (o : Option ℕ) (go : Unit {0} → Result A Halt)
        → HaltsBy Q (go tt) → HaltsBy Q (gives_way h.files k o >>= go)
    way_then k None go f = f
    way_then k (Some j) go f =
        next (gives_way h.files k (Some j)) go (search (check, checked) depth 8) (λ _. f)

    renamed_to_halts : (d : ℕ) (name : Name) (source : WalkEnd) (e : ℕ) (other : Name)
        (target : WalkEnd) → HaltsBy Q (renamed_to d name source e other target m h)
    renamed_to_halts d name source e other target =
        search (found, either, way_then, check, done) depth 14

    opened_there_halts : (k : ℕ) (w : OpenMode) (ret : ℕ) → HaltsBy Q (opened_there k w ret m h)
    opened_there_halts k w ret = search (found, check, done) depth 14

    opened_new_halts : (place : WalkEnd) (w : OpenMode) (ret : ℕ)
        → HaltsBy Q (opened_new place w ret m h)
    opened_new_halts place w ret = search (found, leaf, check, done) depth 14

    opened_at_halts : (o : Option ℕ) (place : WalkEnd) (w : OpenMode) (ret : ℕ)
        → HaltsBy Q (opened_at o place w ret m h)
    opened_at_halts None place w ret = opened_new_halts place w ret
    opened_at_halts (Some k) place w ret = opened_there_halts k w ret

    -- ---- what becomes of an answer

    pub time_put_halts : (a : Answer) (ret : ℕ) → HaltsBy Q (time_put a ret m h)
    time_put_halts (answer.Monotonic n) ret = done _
    time_put_halts (answer.Realtime n) ret = done _
    time_put_halts _ ret = refused Inval

    pub random_put_halts : (a : Answer) (buf : ℕ) → HaltsBy Q (random_put a buf m h)
    random_put_halts (answer.Random bytes) buf = done _
    random_put_halts _ buf = refused Inval

    pub input_taken_halts : (n : ℕ) (a : Answer) → HaltsBy Q (input_taken n a h)
    input_taken_halts n (answer.Request text) = done _
    input_taken_halts n answer.End = done _
    input_taken_halts n _ = refused Inval

    -- ---- the rules that may want one

    module _ (questions : (k : Question) → Q (Asks k)) where
      asked_halts : (k : Question) (o : Option Answer) → HaltsBy Q (asked k o)
      asked_halts k None = halted (Asks k) (questions k)
      asked_halts k (Some a) = done a

      answered_then : {A : Type 0} (k : Question) (given : Option Answer) (go : Answer
          → Result A Halt) → ((a : Answer) → HaltsBy Q (go a))
          → HaltsBy Q (answered_by h k given >>= go)
      answered_then k given go f =
          next (answered_by h k given) go (asked_halts k (fitting (text_limit h.version) k given)) f

      input_read_halts : (n : ℕ) (given : Option Answer) → HaltsBy Q (input_read n given h)
      input_read_halts n given = search (either, answered_then, input_taken_halts, done) depth 12

      target_read_halts : (t : Target) (fd : ℕ) (d : Descriptor) (n : ℕ) (given : Option Answer)
          → HaltsBy Q (target_read t fd d n given h)
      target_read_halts (Stream s) fd d n given = input_read_halts n given
      target_read_halts (Node k) fd d n given = done _

      target_read_then : {A : Type 0} (t : Target) (fd : ℕ) (d : Descriptor) (n : ℕ)
          (given : Option Answer) (go : Got → Result A Halt) → ((got : Got) → HaltsBy Q (go got))
          → HaltsBy Q (target_read t fd d n given h >>= go)
      target_read_then t fd d n given go f =
          next (target_read t fd d n given h) go (target_read_halts t fd d n given) f

    -- ---- all rules

    call_halts : (c : Call) (arguments : List ℕ) (given : Option Answer)
        → (MayAsk c → (k : Question) → Q (Asks k))
        → (c ≡ call.ProcExit → (code : ℕ) → Q (Ends code))
        → HaltsBy Q (call_rule c arguments given m h)
    call_halts call.ArgsGet (argv ∷ buf ∷ []) given asks ends = search (check, done) depth 14
    call_halts call.ArgsSizesGet (count ∷ size ∷ []) given asks ends = search (check, done) depth 14
    call_halts call.EnvironGet (environ ∷ buf ∷ []) given asks ends = search (check, done) depth 14
    call_halts call.EnvironSizesGet (count ∷ size ∷ []) given asks ends =
        search (check, done) depth 14
    call_halts call.ClockResGet (id ∷ ret ∷ []) given asks ends = search (check, done) depth 14
    call_halts call.ClockTimeGet (id ∷ precision ∷ ret ∷ []) given asks ends =
        search (check, answered_then (asks tt), time_put_halts) depth 12
    call_halts call.FdClose (fd ∷ []) given asks ends = search (found, check, done) depth 14
    call_halts call.FdDatasync (fd ∷ []) given asks ends = search (found, check, done) depth 14
    call_halts call.FdFdstatGet (fd ∷ ret ∷ []) given asks ends =
        search (found, check, done) depth 14
    call_halts call.FdFdstatSetFlags (fd ∷ flags ∷ []) given asks ends =
        search (found, check, done) depth 14
    call_halts call.FdFilestatGet (fd ∷ ret ∷ []) given asks ends =
        search (found, check, done) depth 14
    call_halts call.FdFilestatSetSize (fd ∷ size ∷ []) given asks ends =
        search (found, file_then, roomy_then, check, done) depth 14
    call_halts call.FdPread (fd ∷ iovs ∷ count ∷ offset ∷ ret ∷ []) given asks ends =
        search (found, file_then, buffers_then, check, done) depth 14
    call_halts call.FdPrestatGet (fd ∷ ret ∷ []) given asks ends =
        search (found, check, done) depth 14
    call_halts call.FdPrestatDirName (fd ∷ path ∷ len ∷ []) given asks ends =
        search (found, check, done) depth 14
    call_halts call.FdPwrite (fd ∷ iovs ∷ count ∷ offset ∷ ret ∷ []) given asks ends =
        search (found, file_then, buffers_then, file_written_then, check, done) depth 14
    call_halts call.FdRead (fd ∷ iovs ∷ count ∷ ret ∷ []) given asks ends =
        search (found, buffers_then, target_read_then (asks tt), check, done) depth 12
    call_halts call.FdReaddir (fd ∷ buf ∷ len ∷ cookie ∷ ret ∷ []) given asks ends =
        search (found, check, done) depth 14
    call_halts call.FdSeek (fd ∷ delta ∷ whence ∷ ret ∷ []) given asks ends =
        search (found, file_then, offset_then, check, done) depth 14
    call_halts call.FdSync (fd ∷ []) given asks ends = search (found, check, done) depth 14
    call_halts call.FdTell (fd ∷ ret ∷ []) given asks ends =
        search (found, file_then, check, done) depth 14
    call_halts call.FdWrite (fd ∷ iovs ∷ count ∷ ret ∷ []) given asks ends =
        search (found, buffers_then, target_written_then, check, done) depth 14
    call_halts call.PathCreateDirectory (fd ∷ path ∷ len ∷ []) given asks ends =
        search (found, lent_then, formed_then, placed_then, leaf, check, done) depth 14
    call_halts call.PathFilestatGet (fd ∷ flags ∷ path ∷ len ∷ ret ∷ []) given asks ends =
        search (found, lent_then, formed_then, placed_then, check, done) depth 14
    call_halts call.PathOpen (fd ∷ dirflags ∷ path ∷ len ∷ oflags ∷ base ∷ inheriting
        ∷ fdflags ∷ ret ∷ []) given asks ends =
        search (found, lent_then, formed_then, placed_then, check, opened_at_halts) depth 18
    call_halts call.PathRemoveDirectory (fd ∷ path ∷ len ∷ []) given asks ends =
        search (found, lent_then, formed_then, placed_then, leaf, check, done) depth 14
    call_halts call.PathRename (fd ∷ path ∷ len ∷ to_fd ∷ to_path ∷ to_len ∷ []) given asks ends =
        search (found, lent_then, formed_then, placed_then, leaf, check, renamed_to_halts) depth 18
    call_halts call.PathUnlinkFile (fd ∷ path ∷ len ∷ []) given asks ends =
        search (found, lent_then, formed_then, placed_then, leaf, check, done) depth 14
    call_halts call.ProcExit (code ∷ []) given asks ends = halted (Ends code) (ends refl code)
    call_halts call.SchedYield [] given asks ends = done _
    call_halts call.RandomGet (buf ∷ len ∷ []) given asks ends =
        search (check, either, answered_then (asks tt), random_put_halts, done) depth 12
    call_halts _ _ given asks ends = refused Inval

-- ---- all calls

-- how a call may come to nothing
abbrev MayHalt : Call → Halt → Type 0
MayHalt c (Refuses e) = Unit {0}
MayHalt c (Asks k) = MayAsk c
MayHalt c (Ends code) = c ≡ call.ProcExit

refuses : (c : Call) (e : Errno) → MayHalt c (Refuses e)
refuses c e = tt

call_rule_halts : (c : Call) (arguments : List ℕ) (given : Option Answer) (m : Bytes)
    (h : WasiState) → HaltsBy (MayHalt c) (call_rule c arguments given m h)
call_rule_halts c arguments given m h =
    call_halts (MayHalt c) (refuses c) m h c arguments given (λ may k. may) (λ is code. is)

pub few_call_rules_ask : FewCallRulesAsk
few_call_rules_ask c arguments given m h k e = (call_rule_halts c arguments given m
    h).halts (Asks k) e

pub exit_alone_ends : ExitAloneEnds
exit_alone_ends c arguments given m h code e = (call_rule_halts c arguments given m
    h).halts (Ends code) e
