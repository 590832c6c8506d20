-- A life that is abreast of earlier ones stays so. A process that asks takes no step by itself.
use Rattle.std.proofs.Common.{ap, ◌≡◌, ◌<◌, ⊎_elim, ℕ, ◌+◌, Bool, true, ◌||◌, List, [], ◌∷◌, ◌++◌}
use Rattle.std.proofs.Common.{Option, Some, None, is_some, refl, subst, arith}
use Rattle.wasm_syntax.specs.declared.module.Module.{Module}
use Rattle.wasm_rules.specs.Validity.{IsValid}
use Rattle.wasi_abi.specs.declared.answer.Question.{Question}
use Rattle.wasi_abi.specs.declared.answer.Answer.{Answer}
use Rattle.wasi_abi.specs.rules.Configs.{Settings}
use Rattle.process_rules.specs.Processes.{Ending, ProcessState, Guest}
use Rattle.process_rules.specs.Runs.{Kept, Given, Next, Wants, next_of, LeadsTo, Moves, Runs}
use Rattle.process_rules.specs.Runs.{Reaches, none, step, take as takes, widen, succeed}
use Rattle.process_rules.proofs.Growing.{runs_count}
use Rattle.worker_store.specs.restart_theorem.Lives.{Reply, Over, Spent, Waits, Done, Fails, Event}
use Rattle.worker_store.specs.restart_theorem.Lives.{Told, Asked, Opened, Ended}
use Rattle.worker_store.specs.restart_theorem.Courses.{Stage, abreast_by, next_stage, stage_after}
use Rattle.worker_store.specs.restart_theorem.Promises.{Promise, promised, after, AreKept}
use Rattle.worker_store.specs.restart_theorem.Promises.{TakesLast}
use Rattle.worker_store.proofs.RestartLemmas.Fronts.{LeadsOn, fronts_lead_on, reached_counts}

-- ---- it stays abreast

at_opening : (ended : Option Ending) (b : Bool) → b ≡ true → (is_some ended || b) ≡ true
at_opening None b is = is
at_opening (Some why) b is = refl

-- a process that has ended makes it so
pub at_its_end : (ended : Option Ending) (why : Ending) (b : Bool) → ended ≡ Some why
    → (is_some ended || b) ≡ true
at_its_end None why b is = absurd (cc)
at_its_end (Some other) why b is = refl

at_end : (reply : Reply) (b : Bool) → b ≡ true → abreast_by reply b ≡ true
at_end Spent b is = is
at_end Waits b is = is
at_end (Over why) b is = refl
at_end Done b is = is
at_end (Fails cause) b is = is

by_one : (stage : Stage) (e : Event) → stage.is_abreast ≡ true
    → (next_stage stage e).is_abreast ≡ true
by_one stage (Told r is_taken) is = is
by_one stage (Asked steps question said fits) is = refl
by_one stage (Opened held shown) is = at_opening shown.ended stage.is_abreast is
by_one stage (Ended act reply held shown) is = at_end reply stage.is_abreast is

pub stays_abreast : (stage : Stage) (events : List Event) → stage.is_abreast ≡ true
    → (stage_after stage events).is_abreast ≡ true
stays_abreast stage [] is = is
stays_abreast stage (e ∷ events) is = stays_abreast (next_stage stage e) events (by_one stage e is)

-- ---- what comes after the first events keeps what was promised by them

pub kept_behind : (m : Module) (config : Settings) (so_far : Promise) (stage : Stage)
    (first rest : List Event) → AreKept m config so_far stage (first ++ rest)
    → AreKept m config (promised so_far first) (stage_after stage first) rest
kept_behind m config so_far stage [] rest kept = kept
kept_behind m config so_far stage (e ∷ first) rest kept =
    kept_behind m config (after so_far e) (next_stage stage e) first rest kept.1

-- ---- a process that asks

pub wants_no_step : (guest : Guest) (p q : ProcessState) (question : Question)
    → next_of guest p None ≡ Wants question → Moves guest p None q → ⊥
wants_no_step guest p q question wants moves =
    leads_nowhere (next_of guest p None) wants moves.leads
  where
    leads_nowhere : (next : Next) → next ≡ Wants question → LeadsTo guest next None p q → ⊥
    leads_nowhere next is leads = rw is at leads

-- Without answers a process that can't move stays where it is,
pub stays_put : (guest : Guest) (p q : ProcessState) (kept : List Kept) (n : ℕ)
    → Runs guest p kept n q → kept ≡ []
    → ((next : ProcessState) → Moves guest p None next → ⊥) → q ≡ p
stays_put guest p q kept n none e still = refl
stays_put guest p q kept n (step {q = next} moves rest) e still = absurd (still next moves)
stays_put guest p q kept n (takes moves rest) e still = absurd (cc)
stays_put guest p q kept n (widen at rest) e still = absurd (cc)
stays_put guest p q kept n (succeed at sum rest) e still = absurd (cc)

-- as one that asks.
pub stays_asking : (guest : Guest) (p q : ProcessState) (question : Question) (kept : List Kept)
    (n : ℕ) → Runs guest p kept n q → kept ≡ [] → next_of guest p None ≡ Wants question → q ≡ p
stays_asking guest p q question kept n runs e wants = stays_put guest p q kept n runs e
    (λ next moves. wants_no_step guest p next question wants moves)

-- so where it asks before any answer, no other process is reached later without one
none_later : (m : Module) (config : Settings) (n k : ℕ) (p q : ProcessState)
    (question : Question) → IsValid m → (reached : Reaches m config [] n p)
    → next_of reached.guest p None ≡ Wants question → Reaches m config [] k q → n < k → ⊥
none_later m config n k p q question valid reached wants other late =
    let here : p.steps ≡ n = reached_counts m config [] n p reached in
    let there : q.steps ≡ k = reached_counts m config [] k q other in
    ⊎_elim
    (λ (on : LeadsOn reached.guest p q [] []).
    let same : q.steps ≡ p.steps = ap (λ (z : ProcessState). z.steps)
    (stays_asking reached.guest p q question on.kept on.steps on.runs on.front wants) in
    omega (arith, here, there, same, late))
    (λ (on : LeadsOn reached.guest q p [] []).
    let count = runs_count reached.guest q p on.kept on.steps on.runs in
    omega (arith, here, there, count, late))
    (fronts_lead_on m config [] 0 0 n k p q valid reached other tt tt)

-- the one answer of a list is its last one
none_before : (others : List Kept) (a b : Answer) → Given a ∷ [] ≡ others ++ Given b ∷ []
    → others ≡ []
none_before [] a b e = refl
none_before (x ∷ []) a b e = absurd (cc)
none_before (x ∷ y ∷ others) a b e = absurd (cc)

-- so nothing but the step that asked has taken it
pub taken_at_once : (m : Module) (config : Settings) (answer : Answer) (n steps : ℕ)
    (p : ProcessState) (question : Question) → IsValid m → (reached : Reaches m config [] n p)
    → next_of reached.guest p None ≡ Wants question
    → TakesLast m config (Given answer ∷ []) steps → n + 1 < steps → ⊥
taken_at_once m config answer n steps p question valid reached wants last late =
    let first : last.others ≡ [] = none_before last.others answer last.last last.are in
    let other : Reaches m config [] last.before last.process =
    subst (λ l. Reaches m config l last.before last.process) first last.reached in
    let next = last.next in
    none_later m config n last.before p last.process question valid reached wants other
    (omega (arith, next, late))
