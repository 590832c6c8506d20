-- Laws of what a process reaches.
use Rattle.std.specs.Prelude.{◌≡◌, ℕ, suc, ◌+◌, ◌<◌, ◌≤◌, ◌^◌, List, [], ◌∷◌, ◌++◌, length, Option}
use Rattle.std.specs.Prelude.{Some, None}
use Rattle.wasm_syntax.specs.declared.types.FunctionType.{FunctionType}
use Rattle.wasm_syntax.specs.declared.value.Trap.{Trap}
use Rattle.wasm_syntax.specs.declared.module.Module.{Module}
use Rattle.wasm_rules.specs.Typing.{Context}
use Rattle.wasm_rules.specs.Validity.{AreFunctionTypes, module_context, IsValid}
use Rattle.wasm_rules.specs.Configuration.{Program, Configuration, Traps}
use Rattle.wasm_rules.specs.Linking.{Offer, IsLinkable}
use Rattle.wasm_rules.specs.Steps.{counted_step, stopped, IsReduced, IsEnded, Steps}
use Rattle.wasm_rules.specs.Typed.{IsTyped}
use Rattle.wasm_rules.specs.laws.Soundness.{OffersNoEntry}
use Rattle.wasi_abi.specs.declared.call.Call.{Call}
use Rattle.wasi_abi.specs.rules.Calls.{module_name, name_of, call_type_of}
use Rattle.wasi_abi.specs.rules.Configs.{Settings}
use Rattle.wasi_abi.specs.rules.Answers.{AreBytes}
use Rattle.wasi_calls_rules.specs.WasiStates.{Line, IsWasiState}
use Rattle.wasi_calls_rules.specs.laws.Laws.{Emits, IsConfiguredAs, IsOfBytes}
use Rattle.wasi_abi.specs.declared.version.Version.{Version}
use Rattle.wasi_abi.specs.declared.version.Version.TheVariants.{One, Two}
use Rattle.wasi_abi.specs.rules.Versions.{text_limit, widenings}
use Rattle.process_rules.specs.Processes.{Ending, ProcessState, Guest, Exited, Trapped, over}
use Rattle.process_rules.specs.Processes.{host_of, IsStart}
use Rattle.process_rules.specs.Origins.{Origin, IsOrigin, IsSucceeding, succeeding}
use Rattle.process_rules.specs.Runs.{Kept, Wider, Succeeds, widened, Moves, Runs, version_after}
use Rattle.process_rules.specs.Runs.{first_kept, answers_in, Reaches}
use Rattle.process_rules.specs.Behind.{Syncs}
use Rattle.process_rules.specs.Owing.{RunsQuietly}

-- A valid module reaches one process at most on the same answers in the same number of steps.
abbrev pub OneProcess : Type 0
OneProcess =
    (m : Module) (config : Settings) (kept : List Kept) (n : ℕ) (p q : ProcessState) → IsValid m
    → Reaches m config kept n p → Reaches m config kept n q → p ≡ q

-- ---- runs, one after another

-- so does any process
abbrev pub OneProcessRun : Type 0
OneProcessRun = (guest : Guest) (p q r : ProcessState) (kept : List Kept) (n : ℕ)
    → Runs guest p kept n q → Runs guest p kept n r → q ≡ r

abbrev pub RunsJoin : Type 0
RunsJoin =
    (guest : Guest) (p q r : ProcessState) (front rest : List Kept) (n k : ℕ)
    → Runs guest p front n q → Runs guest q rest k r → Runs guest p (front ++ rest) (n + k) r

-- the first part of a run of so many steps without answers, and what it leads on to
abbrev pub QuietRunsJoin : Type 0
QuietRunsJoin = (guest : Guest) (p q r : ProcessState) (n k : ℕ) → RunsQuietly guest p n q
    → RunsQuietly guest q k r → RunsQuietly guest p (n + k) r

-- steps after which nothing is owed take no answer, and emit no line
abbrev pub QuietRunsAreRuns : Type 0
QuietRunsAreRuns = (guest : Guest) (p q : ProcessState) (n : ℕ) → RunsQuietly guest p n q
    → Runs guest p [] n q × (q.host.lines ≡ p.host.lines)

-- a run of so many steps is counted, and emits lines after those that were there
abbrev pub RunsCount : Type 0
RunsCount = (guest : Guest) (p q : ProcessState) (kept : List Kept) (n : ℕ) → Runs guest p kept n q
    → q.steps ≡ p.steps + n

abbrev pub RunsEmit : Type 0
RunsEmit = (guest : Guest) (p q : ProcessState) (kept : List Kept) (n : ℕ) → Runs guest p kept n q
    → Emits p.host q.host

-- Where kept answers widen a process, those before lead to version 1: so it is widened once.
abbrev pub WidenedOnce : Type 0
WidenedOnce =
    (m : Module) (config : Settings) (front rest : List Kept) (n steps : ℕ) (p : ProcessState)
    → Reaches m config (front ++ Wider steps ∷ rest) n p → version_after front ≡ One

-- After the same steps the widened process is the other one but for the widening.
abbrev pub WideningIsAll : Type 0
WideningIsAll =
    (guest : Guest) (p q r : ProcessState) (kept : List Kept) (n steps : ℕ)
    → Runs guest p (kept ++ Wider steps ∷ []) n r → steps ≡ r.steps → Runs guest p kept n q
    → r ≡ widened q

-- ---- processes that go on from others

-- What goes on from another one does so once, before its first step.
abbrev pub SucceedsFirst : Type 0
SucceedsFirst =
    (m : Module) (config : Settings) (front rest : List Kept) (o : Origin) (n : ℕ)
    (p : ProcessState) → Reaches m config (front ++ Succeeds o ∷ rest) n p → front ≡ []

-- what has come from there: no fewer steps, and lines after those that were there
pub record HasComeFrom (o : Origin) (n : ℕ) (p : ProcessState) : Type 0 where
  pub origin : IsOrigin p.host.room o
  pub counts : o.steps ≤ n
  pub lines : List Line
  pub are : p.host.lines ≡ o.lines ++ lines

abbrev pub SuccessorsHaveComeFrom : Type 0
SuccessorsHaveComeFrom =
    (m : Module) (config : Settings) (kept : List Kept) (o : Origin) (n : ℕ) (p : ProcessState)
    → Reaches m config (Succeeds o ∷ kept) n p → HasComeFrom o n p

-- a process in this version, which begins in version 1
abbrev pub in_version : Version → ProcessState → ProcessState
in_version One p = p
in_version Two p = widened p

-- Whatever has room for it may go on from an origin, in each version.
abbrev pub EachMaySucceed : Type 0
EachMaySucceed =
    (m : Module) (config : Settings) (guest : Guest) (p : ProcessState) (v : Version) (o : Origin)
    → IsStart m config guest p → IsOrigin (host_of config).room o
    → Runs guest p (first_kept v o) o.steps (in_version v (succeeding o p))

-- After the steps of the origin it is nothing else.
abbrev pub OneSuccessor : Type 0
OneSuccessor =
    (guest : Guest) (p q : ProcessState) (v : Version) (o : Origin)
    → Runs guest p (first_kept v o) o.steps q
    → IsSucceeding o p × (q ≡ in_version v (succeeding o p))

-- how many answers two lists have together
abbrev pub AnswersJoin : Type 0
AnswersJoin = (front rest : List Kept) → answers_in (front ++ rest)
    ≡ answers_in front + answers_in rest

-- ---- rules that ask the host for nothing

-- Where so many counted steps lead to a configuration that isn't the program's end, after none of
-- them anything is owed.
abbrev pub StepsAreQuiet : Type 0
StepsAreQuiet =
    (guest : Guest) (p : ProcessState) (n : ℕ) (d : Configuration) → p.ended ≡ None
    → Steps guest.program n p.configuration d → (IsEnded d → ⊥)
    → RunsQuietly guest p n (record p { configuration = d; steps = p.steps + n })

-- a step that ends the process, after so many after which nothing is owed
pub record EndsAfter (guest : Guest) (p : ProcessState) (n : ℕ) (q : ProcessState) : Type 0 where
  pub before : ProcessState
  pub runs : RunsQuietly guest p n before
  pub same_host : before.host ≡ p.host
  pub moves : Moves guest before None q
  pub no_sync : Syncs guest before → ⊥

-- The last counted step ends it, where that leads to the program's end.
abbrev pub LastStepEnds : Type 0
LastStepEnds =
    (guest : Guest) (p : ProcessState) (n : ℕ) (d : Configuration) → p.ended ≡ None
    → Steps guest.program (suc n) p.configuration d → IsEnded d
    → EndsAfter guest p n (over (Exited 0) (record p {
      configuration = d;
      steps = p.steps + suc n;
    }))

-- A trap after so many counted steps ends it.
abbrev pub TrapEnds : Type 0
TrapEnds =
    (guest : Guest) (p : ProcessState) (n : ℕ) (d : Configuration) (why : Trap) → p.ended ≡ None
    → Steps guest.program n p.configuration d → counted_step guest.program d ≡ Traps why
    → EndsAfter guest p n (over (Trapped why) (record p {
      configuration = stopped d;
      steps = p.steps + suc n;
    }))

-- ---- hosts

-- A reached process has the host that its configuration gave it, as far as no call changes that.
abbrev pub ReachedAreConfigured : Type 0
ReachedAreConfigured =
    (m : Module) (config : Settings) (kept : List Kept) (n : ℕ) (p : ProcessState)
    → Reaches m config kept n p → IsConfiguredAs (host_of config) p.host

-- It has the version to which the kept answers lead.
abbrev pub ReachedVersions : Type 0
ReachedVersions =
    (m : Module) (config : Settings) (kept : List Kept) (n : ℕ) (p : ProcessState)
    → Reaches m config kept n p → p.host.version ≡ version_after kept

-- At most one request's text and its newline wait to be read.
abbrev pub ReachedInputIsShort : Type 0
ReachedInputIsShort =
    (m : Module) (config : Settings) (kept : List Kept) (n : ℕ) (p : ProcessState)
    → Reaches m config kept n p → length p.host.unread ≤ text_limit p.host.version + 1

-- Each step makes one node at most, beside the root and the number that comes next.
abbrev pub NodesAreFew : Type 0
NodesAreFew =
    (m : Module) (config : Settings) (kept : List Kept) (n : ℕ) (p : ProcessState)
    → Reaches m config kept n p → p.host.files.next ≤ n + 2

-- a process with a host, whose host and memory hold bytes
pub record HasWasiState (p : ProcessState) : Type 0 where
  pub host : IsWasiState p.host
  pub of_bytes : IsOfBytes p.host
  pub memory : AreBytes p.configuration.store.memory

-- What a valid module reaches has a host, where its arguments and environment are bytes.
abbrev pub ReachedHaveWasiStates : Type 0
ReachedHaveWasiStates =
    (m : Module) (config : Settings) (kept : List Kept) (n : ℕ) (p : ProcessState) → IsValid m
    → IsOfBytes (host_of config) → Reaches m config kept n p → HasWasiState p

-- ---- counts and ends

-- so many steps, and these answers; of these are the requests and the end of input
pub record HasCounted (kept : List Kept) (n : ℕ) (p : ProcessState) : Type 0 where
  pub steps : p.steps ≡ n
  pub answers : p.answers ≡ answers_in kept
  pub few_answers : p.answers ≤ p.steps + widenings p.host.version
  pub few_requests : p.requests ≤ p.answers

-- A reached process has counted its steps and its answers: one a step at most, and its widening.
abbrev pub ReachedAreCounted : Type 0
ReachedAreCounted =
    (m : Module) (config : Settings) (kept : List Kept) (n : ℕ) (p : ProcessState)
    → Reaches m config kept n p → HasCounted kept n p

-- one that runs has not come to its program's end; one that has ended has, and no unfinished line
abbrev pub IsClosed : Option Ending → ProcessState → Type 0
IsClosed None p = IsEnded p.configuration → ⊥
IsClosed (Some why) p = IsEnded p.configuration × (p.host.first ≡ []) × (p.host.second ≡ [])

-- A reached process has ended exactly where its program has come to its end.
abbrev pub ReachedAreClosed : Type 0
ReachedAreClosed =
    (m : Module) (config : Settings) (kept : List Kept) (n : ℕ) (p : ProcessState)
    → Reaches m config kept n p → IsClosed p.ended p

-- ---- types

-- what is offered under the name of a call has its type
abbrev pub OffersCalls : Offer → Type 0
OffersCalls offer = (c : Call) (signature : FunctionType) → offer module_name (name_of c)
    ≡ Some signature → signature ≡ call_type_of c

-- the code of an exit has 32 bits
abbrev pub IsSmallEnding : Option Ending → Type 0
IsSmallEnding None = Unit {0}
IsSmallEnding (Some (Exited code)) = code < 2 ^ 32
IsSmallEnding (Some (Trapped why)) = Unit {0}

-- its configuration is typed and reduced, and where it has exited, its code has 32 bits
pub record IsTypedProcess (c : Context) (program : Program) (p : ProcessState) : Type 0 where
  pub typed : IsTyped c program p.configuration
  pub reduced : IsReduced program p.configuration
  pub ended : IsSmallEnding p.ended

-- A process is typed and reduced that a valid module reaches which can be linked under these pages,
-- where its arguments and environment are bytes.
abbrev pub ReachedAreTyped : Type 0
ReachedAreTyped =
    (offer : Offer) (m : Module) (config : Settings) (functions : List FunctionType)
    (kept : List Kept) (n : ℕ) (p : ProcessState) → OffersNoEntry offer → OffersCalls offer
    → config.pages ≤ 2 ^ 16 → IsValid m → IsLinkable offer config.pages m
    → AreFunctionTypes m functions → IsOfBytes (host_of config)
    → (reached : Reaches m config kept n p)
    → IsTypedProcess (module_context m functions) reached.guest.program p
