-- What is reached has a host, of bytes, configured as at the beginning, with few nodes.
use Rattle.std.proofs.Common.{◌≡◌, ℕ, ◌+◌, ◌≤◌, List, [], ◌∷◌, ◌++◌, Option, Some, None, refl, sym}
use Rattle.std.proofs.Common.{ap, subst, ◌∙◌, ◌*◌, arith}
use Rattle.std.specs.Prelude.{Ok, Err, reverse, map, slice_get}
use Rattle.wasm_syntax.specs.declared.value.Value.{Value}
use Rattle.wasm_syntax.specs.declared.module.Module.{Module}
use Rattle.wasm_rules.specs.Types.{number_in}
use Rattle.wasm_rules.specs.Validity.{IsValid}
use Rattle.wasm_rules.specs.Configuration.{Configuration, Store, Thread, Outcome, Goes, Traps, Asks}
use Rattle.wasm_rules.specs.Configuration.{Stuck}
use Rattle.wasm_rules.specs.Steps.{counted_step}
use Rattle.wasi_abi.specs.declared.answer.Answer.{Answer}
use Rattle.wasi_abi.specs.declared.call.Call.{Call}
use Rattle.wasi_abi.specs.declared.version.Version.TheVariants.{One, Two}
use Rattle.wasi_abi.specs.rules.Answers.{AreBytes}
use Rattle.wasi_abi.specs.rules.Configs.{Settings}
use Rattle.wasi_abi.specs.rules.Versions.{text_limit}
use Rattle.file_tree.specs.declared.limits.TheConstants.{UNIT_BYTES}
use Rattle.wasi_calls_rules.specs.WasiStates.{WasiState, IsWasiState}
use Rattle.wasi_calls_rules.specs.Checks.{Refuses, Ends, Asks as Inquires, Done, Ruling}
use Rattle.wasi_calls_rules.specs.Lines.{lines_ended}
use Rattle.wasi_calls_rules.specs.CallRules.{call_rule}
use Rattle.wasi_calls_rules.specs.laws.Laws.{IsOfBytes, IsConfiguredAs, MakesOneNodeAtMost}
use Rattle.wasi_calls_rules.specs.laws.Laws.{HasShortInput}
use Rattle.wasi_calls_rules.proofs.KeepsMemory.{call_rules_keep_bytes}
use Rattle.wasi_calls_rules.proofs.Configured.{call_rules_keep_configurations}
use Rattle.wasi_calls_rules.proofs.Configured.{call_rules_keep_versions}
use Rattle.wasi_calls_rules.proofs.Configured.{call_rules_make_one_node_at_most}
use Rattle.wasi_calls_rules.proofs.WasiStateBytes.{call_rules_keep_states_of_bytes}
use Rattle.wasi_calls_rules.proofs.ShortInput.{call_rules_keep_input_short}
use Rattle.wasi_calls_rules.proofs.KeepsWasiStates.{call_rules_keep_wasi_states}
use Rattle.wasi_calls_rules.proofs.KeptLines.{nothing_unfinished}
use Rattle.wasi_calls_rules.proofs.FirstWasiStates.{first_is_host, of_any_version, of_files_left}
use Rattle.process_rules.specs.Processes.{ProcessState, Guest, IsStart, host_of, closed_at}
use Rattle.process_rules.specs.Origins.{Origin, IsSucceeding, succeeding}
use Rattle.process_rules.specs.Runs.{Next, On, Over, Wants, Nowhere, after_call_rule, after_call}
use Rattle.process_rules.specs.Runs.{after_counted_step, next_of, stepped, LeadsTo, Moves, Kept}
use Rattle.process_rules.specs.Runs.{widened, Given, Wider, Succeeds, IsWidening, Runs, none, step}
use Rattle.process_rules.specs.Runs.{take, widen, succeed, version_after}
use Rattle.process_rules.specs.laws.Laws.{ReachedAreConfigured, NodesAreFew, ReachedVersions}
use Rattle.process_rules.specs.laws.Laws.{WidenedOnce, ReachedInputIsShort, ReachedHaveWasiStates}
use Rattle.process_rules.proofs.Growing.{move_counts, runs_count, start_counts}
use Rattle.process_rules.proofs.MemoryKept.{GoesToBytes, step_bytes, reduced_store}
use Rattle.process_rules.proofs.MemoryKept.{begins_with_bytes}

-- ---- one node a step at most

pub record Follows (h after : WasiState) : Type 0 where
  pub configured : IsConfiguredAs h after
  pub version : after.version ≡ h.version
  pub nodes : MakesOneNodeAtMost h after
  pub input : HasShortInput h → HasShortInput after

same_host : (h : WasiState) → Follows h h
same_host h = record {
  configured = record { room = refl; arguments = refl; environment = refl };
  version = refl;
  nodes = record { least = omega arith; most = omega arith };
  input = λ short. short;
}

abbrev FollowsTo : WasiState → Next → Type 0
FollowsTo h (On c after) = Follows h after
FollowsTo h (Over why c after) = Follows h after
FollowsTo h (Wants question) = Unit {0}
FollowsTo h Nowhere = Unit {0}

call_rule_follows : (c : Call) (r : Ruling) (before : Configuration) (h : WasiState)
    (waits : Thread) → ((done : Done) → r ≡ Ok done → Follows h done.host)
    → FollowsTo h (after_call_rule c r before h waits)
call_rule_follows c (Ok done) before h waits f = f done refl
call_rule_follows c (Err (Refuses e)) before h waits f = same_host h
call_rule_follows c (Err (Ends code)) before h waits f = same_host h
call_rule_follows c (Err (Inquires question)) before h waits f = tt

call_follows : (o : Option Call) (arguments : List Value) (given : Option Answer)
    (before : Configuration) (h : WasiState) (waits : Thread)
    → FollowsTo h (after_call o arguments given before h waits)
call_follows None arguments given before h waits = tt
call_follows (Some c) arguments given before h waits =
    let numbers = reverse (map number_in arguments) in
    call_rule_follows c (call_rule c numbers given before.store.memory h) before h waits
    (λ done e. record {
      configured = call_rules_keep_configurations c numbers given before.store.memory h done e;
      version = call_rules_keep_versions c numbers given before.store.memory h done e;
      nodes = call_rules_make_one_node_at_most c numbers given before.store.memory h done e;
      input = λ short.
          call_rules_keep_input_short c numbers given before.store.memory h done short e;
    })

step_follows : (guest : Guest) (outcome : Outcome) (given : Option Answer) (before : Configuration)
    (h : WasiState) → FollowsTo h (after_counted_step guest outcome given before h)
step_follows guest (Goes next) given before h = same_host h
step_follows guest (Traps why) given before h = same_host h
step_follows guest (Asks f arguments waits) given before h =
    call_follows (slice_get guest.calls f) arguments given before h waits
step_follows guest Stuck given before h = tt

ended_follows : (g h : WasiState) → Follows g h → Follows g (lines_ended h)
ended_follows g h f = search

closed_follows : (thread : Thread) (later : List ℕ) (g : WasiState) (p : ProcessState)
    → Follows g p.host → Follows g (closed_at thread later p).host
closed_follows [] [] g p f = ended_follows g p.host f
closed_follows [] (x ∷ later) g p f = f
closed_follows (frame ∷ frames) [] g p f = f
closed_follows (frame ∷ frames) (x ∷ later) g p f = f

leads_follow : (guest : Guest) (next : Next) (given : Option Answer) (p q : ProcessState)
    → FollowsTo p.host next → LeadsTo guest next given p q → Follows p.host q.host
leads_follow guest (On c h) given p q f to =
    let after : ProcessState = stepped given to.0 h p in
    subst (λ (z : ProcessState). Follows p.host z.host) (sym to.2)
    (closed_follows to.0.thread to.0.later p.host after f)
leads_follow guest (Over why c h) given p q f to =
    subst (λ (z : ProcessState). Follows p.host z.host) (sym to) (ended_follows p.host h f)
leads_follow guest (Wants question) given p q f to = absurd to
leads_follow guest Nowhere given p q f to = absurd to

move_follows : (guest : Guest) (p q : ProcessState) (given : Option Answer) → Moves guest p given q
    → Follows p.host q.host
move_follows guest p q given moves =
    leads_follow guest (next_of guest p given) given p q
    (step_follows guest (counted_step guest.program p.configuration) given p.configuration p.host)
    moves.leads

pub move_version : (guest : Guest) (p q : ProcessState) (given : Option Answer)
    → Moves guest p given q → q.host.version ≡ p.host.version
move_version guest p q given moves = (move_follows guest p q given moves).version

configured_on : (g h k : WasiState) → IsConfiguredAs g h → IsConfiguredAs h k → IsConfiguredAs g k
configured_on g h k a b = record {
  room = b.room ∙ a.room;
  arguments = b.arguments ∙ a.arguments;
  environment = b.environment ∙ a.environment;
}

pub runs_configured : (guest : Guest) (p q : ProcessState) (kept : List Kept) (n : ℕ)
    → Runs guest p kept n q → IsConfiguredAs p.host q.host
runs_configured guest p q kept n (none {p = p'}) = (same_host p'.host).configured
runs_configured guest p q kept n (step {p = p'} {q = next} {kept = kept'} {n = m} moves rest) =
    configured_on p'.host next.host q.host (move_follows guest p' next None moves).configured
    (runs_configured guest next q kept' m rest)
runs_configured guest p q kept n
    (take {p = p'} {q = next} {a = a} {kept = kept'} {n = m} moves rest) =
    configured_on p'.host next.host q.host (move_follows guest p' next (Some a) moves).configured
    (runs_configured guest next q kept' m rest)
runs_configured guest p q kept n (widen {p = p'} {kept = kept'} {n = m} at rest) =
    configured_on p'.host (widened p').host q.host
    (record { room = refl; arguments = refl; environment = refl })
    (runs_configured guest (widened p') q kept' m rest)
runs_configured guest p q kept n (succeed {p = p'} {o = o} {kept = kept'} {k = m} at sum rest) =
    configured_on p'.host (succeeding o p').host q.host
    (record { room = refl; arguments = refl; environment = refl })
    (runs_configured guest (succeeding o p') q kept' m rest)

-- a widened process stays in version 2
pub runs_wide : (guest : Guest) (p q : ProcessState) (kept : List Kept) (n : ℕ)
    → Runs guest p kept n q → p.host.version ≡ Two → q.host.version ≡ Two
runs_wide guest p q kept n none wide = wide
runs_wide guest p q kept n (step {p = p'} {q = next} {kept = kept'} {n = m} moves rest) wide =
    runs_wide guest next q kept' m rest (move_version guest p' next None moves ∙ wide)
runs_wide guest p q kept n
    (take {p = p'} {q = next} {a = a} {kept = kept'} {n = m} moves rest) wide =
    runs_wide guest next q kept' m rest (move_version guest p' next (Some a) moves ∙ wide)
runs_wide guest p q kept n (widen {p = p'} {kept = kept'} {n = m} at rest) wide =
    runs_wide guest (widened p') q kept' m rest refl
runs_wide guest p q kept n (succeed at sum rest) wide =
    absurd (let narrow = at.narrow in cc)

-- one of version 1 comes to the version to which the kept answers lead
pub runs_version : (guest : Guest) (p q : ProcessState) (kept : List Kept) (n : ℕ)
    → Runs guest p kept n q → p.host.version ≡ One → q.host.version ≡ version_after kept
runs_version guest p q kept n none first = first
runs_version guest p q kept n (step {p = p'} {q = next} {kept = kept'} {n = m} moves rest) first =
    runs_version guest next q kept' m rest (move_version guest p' next None moves ∙ first)
runs_version guest p q kept n
    (take {p = p'} {q = next} {a = a} {kept = kept'} {n = m} moves rest) first =
    runs_version guest next q kept' m rest (move_version guest p' next (Some a) moves ∙ first)
runs_version guest p q kept n (widen {p = p'} {kept = kept'} {n = m} at rest) first =
    runs_wide guest (widened p') q kept' m rest refl
runs_version guest p q kept n (succeed {p = p'} {o = o} {kept = kept'} {k = m} at sum rest) first =
    runs_version guest (succeeding o p') q kept' m rest first

-- one node a step at most, beside the root and the number that comes next
abbrev HasFewNodes : ProcessState → Type 0
HasFewNodes p = p.host.files.next ≤ p.steps + 2

move_nodes : (guest : Guest) (p q : ProcessState) (given : Option Answer) → Moves guest p given q
    → HasFewNodes p → HasFewNodes q
move_nodes guest p q given moves few =
    let one = (move_follows guest p q given moves).nodes.most in
    let counted = move_counts guest p q given moves in
    omega (arith, one, counted, few)

runs_nodes : (guest : Guest) (p q : ProcessState) (kept : List Kept) (n : ℕ) → Runs guest p kept n q
    → HasFewNodes p → HasFewNodes q
runs_nodes guest p q kept n none few = few
runs_nodes guest p q kept n (step {p = p'} {q = next} {kept = kept'} {n = m} moves rest) few =
    runs_nodes guest next q kept' m rest (move_nodes guest p' next None moves few)
runs_nodes guest p q kept n (take {p = p'} {q = next} {a = a} {kept = kept'} {n = m} moves rest)
    few = runs_nodes guest next q kept' m rest (move_nodes guest p' next (Some a) moves few)
runs_nodes guest p q kept n (widen {p = p'} {kept = kept'} {n = m} at rest) few =
    runs_nodes guest (widened p') q kept' m rest few
runs_nodes guest p q kept n (succeed {p = p'} {o = o} {kept = kept'} {k = m} at sum rest) few =
    runs_nodes guest (succeeding o p') q kept' m rest at.origin.next

-- version 2 has room for what version 1 had
widening_short : (s : ℕ) (p : ProcessState) → IsWidening p s → HasShortInput p.host
    → HasShortInput (widened p).host
widening_short s p at short =
    let narrow : text_limit p.host.version ≡ 4096 = ap text_limit at.narrow in
    omega (arith, narrow, short)

runs_input : (guest : Guest) (p q : ProcessState) (kept : List Kept) (n : ℕ) → Runs guest p kept n q
    → HasShortInput p.host → HasShortInput q.host
runs_input guest p q kept n none short = short
runs_input guest p q kept n (step {p = p'} {q = next} {kept = kept'} {n = m} moves rest) short =
    runs_input guest next q kept' m rest ((move_follows guest p' next None moves).input short)
runs_input guest p q kept n (take {p = p'} {q = next} {a = a} {kept = kept'} {n = m} moves rest)
    short =
    runs_input guest next q kept' m rest ((move_follows guest p' next (Some a) moves).input short)
runs_input guest p q kept n (widen {p = p'} {steps = s} {kept = kept'} {n = m} at rest) short =
    runs_input guest (widened p') q kept' m rest (widening_short s p' at short)
runs_input guest p q kept n (succeed {p = p'} {o = o} {kept = kept'} {k = m} at sum rest) short =
    runs_input guest (succeeding o p') q kept' m rest short

-- the process before its first step
abbrev pub beginning : (c : Configuration) → Settings → ProcessState
beginning c config = record {
  configuration = c;
  host = host_of config;
  steps = 0;
  answers = 0;
  requests = 0;
  ended = None;
}

pub start_follows : (m : Module) (config : Settings) (guest : Guest) (p : ProcessState)
    → IsStart m config guest p → Follows (host_of config) p.host
start_follows m config guest p start =
    subst (λ (z : ProcessState). Follows (host_of config) z.host) (sym start.is)
    (closed_follows start.first.thread start.first.later (host_of config)
    (beginning start.first config) (same_host (host_of config)))

start_next : (m : Module) (config : Settings) (guest : Guest) (p : ProcessState)
    → IsStart m config guest p → p.host.files.next ≡ 2
start_next m config guest p start =
    ap (λ (z : ProcessState). z.host.files.next) start.is
    ∙ closed_next start.first.thread start.first.later where
      closed_next : (thread : Thread) (later : List ℕ)
          → (closed_at thread later (beginning start.first config)).host.files.next ≡ 2
      closed_next [] [] = refl
      closed_next [] (x ∷ later) = refl
      closed_next (frame ∷ frames) [] = refl
      closed_next (frame ∷ frames) (x ∷ later) = refl

pub reached_are_configured : ReachedAreConfigured
reached_are_configured m config kept n p r =
    configured_on (host_of config) r.start.host p.host
    (start_follows m config r.guest r.start r.begins).configured
    (runs_configured r.guest r.start p kept n r.runs)

pub reached_versions : ReachedVersions
reached_versions m config kept n p r =
    runs_version r.guest r.start p kept n r.runs
    (start_follows m config r.guest r.start r.begins).version

-- a widened process is widened no more
never_again : (guest : Guest) (p q : ProcessState) (whole front rest : List Kept) (n steps : ℕ)
    → Runs guest p whole n q → p.host.version ≡ Two → whole ≡ front ++ Wider steps ∷ rest → ⊥
never_again guest p q whole front rest n steps none wide e = nothing_else front e
  where
    nothing_else : (front : List Kept) → [] ≡ front ++ Wider steps ∷ rest → ⊥
    nothing_else [] e = cc
    nothing_else (x ∷ front) e = cc
never_again guest p q whole front rest n steps
    (step {p = p'} {q = next} {kept = whole'} {n = m} moves others) wide e =
    never_again guest next q whole' front rest m steps others
    (move_version guest p' next None moves ∙ wide) e
never_again guest p q whole [] rest n steps (take moves others) wide e = cc
never_again guest p q whole (x ∷ front) rest n steps
    (take {p = p'} {q = next} {a = a} {kept = whole'} {n = m} moves others) wide e =
    let behind : whole' ≡ front ++ Wider steps ∷ rest = cc in
    never_again guest next q whole' front rest m steps others
    (move_version guest p' next (Some a) moves ∙ wide) behind
never_again guest p q whole front rest n steps (widen at others) wide e =
    let narrow = at.narrow in cc
never_again guest p q whole front rest n steps (succeed at sum others) wide e =
    let narrow = at.narrow in cc

runs_widen_once : (guest : Guest) (p q : ProcessState) (whole front rest : List Kept) (n steps : ℕ)
    → Runs guest p whole n q → whole ≡ front ++ Wider steps ∷ rest → version_after front ≡ One
runs_widen_once guest p q whole [] rest n steps run e = refl
runs_widen_once guest p q whole (x ∷ front) rest n steps none e = absurd (cc)
runs_widen_once guest p q whole (x ∷ front) rest n steps
    (step {q = next} {kept = whole'} {n = m} moves others) e =
    runs_widen_once guest next q whole' (x ∷ front) rest m steps others e
runs_widen_once guest p q whole (Wider s ∷ front) rest n steps (take moves others) e = absurd (cc)
runs_widen_once guest p q whole (Succeeds o ∷ front) rest n steps (take moves others) e =
    absurd (cc)
runs_widen_once guest p q whole (Given x ∷ front) rest n steps
    (take {q = next} {kept = whole'} {n = m} moves others) e =
    let behind : whole' ≡ front ++ Wider steps ∷ rest = cc in
    runs_widen_once guest next q whole' front rest m steps others behind
runs_widen_once guest p q whole (Given x ∷ front) rest n steps (widen at others) e = absurd (cc)
runs_widen_once guest p q whole (Wider s ∷ front) rest n steps
    (widen {p = p'} {kept = whole'} {n = m} at others) e =
    let behind : whole' ≡ front ++ Wider steps ∷ rest = cc in
    absurd (never_again guest (widened p') q whole' front rest m steps others refl behind)
runs_widen_once guest p q whole (Succeeds o ∷ front) rest n steps (widen at others) e = absurd (cc)
runs_widen_once guest p q whole (Given x ∷ front) rest n steps (succeed at sum others) e =
    absurd (cc)
runs_widen_once guest p q whole (Wider s ∷ front) rest n steps (succeed at sum others) e =
    absurd (cc)
runs_widen_once guest p q whole (Succeeds o ∷ front) rest n steps
    (succeed {p = p'} {o = from} {kept = whole'} {k = m} at sum others) e =
    let behind : whole' ≡ front ++ Wider steps ∷ rest = cc in
    runs_widen_once guest (succeeding from p') q whole' front rest m steps others behind

pub widened_once : WidenedOnce
widened_once m config front rest n steps p r =
    runs_widen_once r.guest r.start p (front ++ Wider steps ∷ rest) front rest n steps r.runs refl

pub nodes_are_few : NodesAreFew
nodes_are_few m config kept n p r =
    let first = start_next m config r.guest r.start r.begins in
    let none = start_counts m config r.guest r.start r.begins in
    let few : HasFewNodes r.start = omega (arith, first, none) in
    let counted = runs_count r.guest r.start p kept n r.runs in
    let all = runs_nodes r.guest r.start p kept n r.runs few in
    omega (arith, all, counted, none)

pub reached_input_is_short : ReachedInputIsShort
reached_input_is_short m config kept n p r =
    let first = (start_follows m config r.guest r.start r.begins).input (omega arith) in
    runs_input r.guest r.start p kept n r.runs first

-- ---- hosts and bytes

pub record Holds (memory : List ℕ) (h : WasiState) : Type 0 where
  pub memory_bytes : AreBytes memory
  pub of_bytes : IsOfBytes h
  pub host : IsWasiState h

abbrev HoldsIn : Next → Type 0
HoldsIn (On c h) = Holds c.store.memory h
HoldsIn (Over why c h) = Holds c.store.memory h
HoldsIn (Wants question) = Unit {0}
HoldsIn Nowhere = Unit {0}

call_rule_holds : (c : Call) (r : Ruling) (before : Configuration) (h : WasiState) (waits : Thread)
    → Holds before.store.memory h → ((done : Done) → r ≡ Ok done → Holds done.memory done.host)
    → HoldsIn (after_call_rule c r before h waits)
call_rule_holds c (Ok done) before h waits k f = f done refl
call_rule_holds c (Err (Refuses e)) before h waits k f = k
call_rule_holds c (Err (Ends code)) before h waits k f = k
call_rule_holds c (Err (Inquires question)) before h waits k f = tt

call_holds : (o : Option Call) (arguments : List Value) (given : Option Answer)
    (before : Configuration) (h : WasiState) (waits : Thread) → Holds before.store.memory h
    → HoldsIn (after_call o arguments given before h waits)
call_holds None arguments given before h waits k = tt
call_holds (Some c) arguments given before h waits k =
    let numbers = reverse (map number_in arguments) in
    let m = before.store.memory in
    call_rule_holds c (call_rule c numbers given m h) before h waits k
    (λ done e. record {
      memory_bytes = call_rules_keep_bytes c numbers given m h done k.memory_bytes k.of_bytes e;
      of_bytes = call_rules_keep_states_of_bytes c numbers given m h done
          k.memory_bytes k.of_bytes e;
      host = call_rules_keep_wasi_states c numbers given m h done k.memory_bytes k.host e;
    })

step_holds : (guest : Guest) (outcome : Outcome) (given : Option Answer) (before : Configuration)
    (h : WasiState) → GoesToBytes outcome → Holds before.store.memory h
    → HoldsIn (after_counted_step guest outcome given before h)
step_holds guest (Goes next) given before h b k =
    record { memory_bytes = b; of_bytes = k.of_bytes; host = k.host }
step_holds guest (Traps why) given before h b k = k
step_holds guest (Asks f arguments waits) given before h b k =
    call_holds (slice_get guest.calls f) arguments given before h waits k
step_holds guest Stuck given before h b k = tt

ended_holds : (memory : List ℕ) (h : WasiState) → Holds memory h → Holds memory (lines_ended h)
ended_holds memory h k = search nothing_unfinished

abbrev pub ProcessHolds : ProcessState → Type 0
ProcessHolds p = Holds p.configuration.store.memory p.host

closed_holds : (thread : Thread) (later : List ℕ) (p : ProcessState) → ProcessHolds p
    → ProcessHolds (closed_at thread later p)
closed_holds [] [] p k = ended_holds p.configuration.store.memory p.host k
closed_holds [] (x ∷ later) p k = k
closed_holds (frame ∷ frames) [] p k = k
closed_holds (frame ∷ frames) (x ∷ later) p k = k

leads_hold : (guest : Guest) (next : Next) (given : Option Answer) (p q : ProcessState)
    → HoldsIn next → LeadsTo guest next given p q → ProcessHolds q
leads_hold guest (On c h) given p q k to =
    let reduced : Configuration = to.0 in
    let after : ProcessState = stepped given reduced h p in
    let same = reduced_store guest.program c reduced to.1 in
    subst ProcessHolds (sym to.2)
    (closed_holds reduced.thread reduced.later after
    (subst (λ (s : Store). Holds s.memory h) (sym same) k))
leads_hold guest (Over why c h) given p q k to =
    subst ProcessHolds (sym to) (ended_holds c.store.memory h k)
leads_hold guest (Wants question) given p q k to = absurd to
leads_hold guest Nowhere given p q k to = absurd to

pub move_holds : (guest : Guest) (p q : ProcessState) (given : Option Answer)
    → Moves guest p given q → ProcessHolds p → ProcessHolds q
move_holds guest p q given moves k =
    leads_hold guest (next_of guest p given) given p q
    (step_holds guest (counted_step guest.program p.configuration) given p.configuration p.host
    (step_bytes guest.program p.configuration k.memory_bytes) k) moves.leads

pub widened_holds : (p : ProcessState) → ProcessHolds p → ProcessHolds (widened p)
widened_holds p k = search (of_any_version p.host Two k.host)

pub succeeding_holds : (o : Origin) (p : ProcessState) → IsSucceeding o p → ProcessHolds p
    → ProcessHolds (succeeding o p)
succeeding_holds o p at k =
    search (of_files_left p.host o.files o.lines o.last_monotonic k.host at.opened at.origin.files
    at.origin.named at.origin.within at.origin.time)

runs_hold : (guest : Guest) (p q : ProcessState) (kept : List Kept) (n : ℕ) → Runs guest p kept n q
    → ProcessHolds p → ProcessHolds q
runs_hold guest p q kept n none k = k
runs_hold guest p q kept n (step {p = p'} {q = next} {kept = kept'} {n = m} moves rest) k =
    runs_hold guest next q kept' m rest (move_holds guest p' next None moves k)
runs_hold guest p q kept n (take {p = p'} {q = next} {a = a} {kept = kept'} {n = m} moves rest) k =
    runs_hold guest next q kept' m rest (move_holds guest p' next (Some a) moves k)
runs_hold guest p q kept n (widen {p = p'} {kept = kept'} {n = m} at rest) k =
    runs_hold guest (widened p') q kept' m rest (widened_holds p' k)
runs_hold guest p q kept n (succeed {p = p'} {o = o} {kept = kept'} {k = m} at sum rest) k =
    runs_hold guest (succeeding o p') q kept' m rest (succeeding_holds o p' at k)

pub start_holds : (m : Module) (config : Settings) (guest : Guest) (p : ProcessState) → IsValid m
    → IsOfBytes (host_of config) → IsStart m config guest p → ProcessHolds p
start_holds m config guest p valid bytes start =
    subst ProcessHolds (sym start.is)
    (closed_holds start.first.thread start.first.later (beginning start.first config) (record {
      memory_bytes = begins_with_bytes m config.pages start.entry guest.program start.first valid
          start.begins;
      of_bytes = bytes;
      host = first_is_host (config.files * UNIT_BYTES) One config.arguments
          config.environment;
    }))

pub reached_have_wasi_states : ReachedHaveWasiStates
reached_have_wasi_states m config kept n p valid bytes r =
    let k = runs_hold r.guest r.start p kept n r.runs
    (start_holds m config r.guest r.start valid bytes r.begins) in
    record { host = k.host; of_bytes = k.of_bytes; memory = k.memory_bytes }
