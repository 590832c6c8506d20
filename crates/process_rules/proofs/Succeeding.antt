-- What goes on from another process, and what it is then.
use Rattle.std.proofs.Common.{◌≡◌, ℕ, ◌+◌, List, [], ◌∷◌, ◌++◌, Some, None, refl, sym, subst, arith}
use Rattle.wasm_syntax.specs.declared.module.Module.{Module}
use Rattle.wasm_rules.specs.Configuration.{Configuration, Thread}
use Rattle.wasi_abi.specs.declared.version.Version.TheVariants.{One, Two}
use Rattle.wasi_abi.specs.rules.Configs.{Settings}
use Rattle.wasi_calls_rules.specs.WasiStates.{first_descriptors}
use Rattle.process_rules.specs.Processes.{ProcessState, Guest, IsStart, host_of, closed_at}
use Rattle.process_rules.specs.Origins.{Origin, IsOrigin, IsSucceeding, succeeding}
use Rattle.process_rules.specs.Runs.{Kept, Given, Wider, Succeeds, widened, Runs, none, step}
use Rattle.process_rules.specs.Runs.{take, widen, succeed}
use Rattle.process_rules.specs.laws.Laws.{SucceedsFirst, SuccessorsHaveComeFrom, EachMaySucceed}
use Rattle.process_rules.specs.laws.Laws.{OneSuccessor, AnswersJoin}
use Rattle.process_rules.proofs.Growing.{move_counts, runs_emit, start_counts}
use Rattle.process_rules.proofs.OneProcess.{succeeds_first, stays}
use Rattle.process_rules.proofs.ReachedStates.{beginning, start_follows, runs_configured}

-- ---- the beginning

-- what a module begins as has no line, no answer and no descriptor of its own
record IsFresh (p : ProcessState) : Type 0 where
  answers : p.answers ≡ 0
  lines : p.host.lines ≡ []
  descriptors : p.host.descriptors ≡ first_descriptors

closed_fresh : (config : Settings) (c : Configuration) (thread : Thread) (later : List ℕ)
    → IsFresh (closed_at thread later (beginning c config))
closed_fresh config c [] [] = record { answers = refl; lines = refl; descriptors = refl }
closed_fresh config c [] (f ∷ later) = record { answers = refl; lines = refl; descriptors = refl }
closed_fresh config c (frame ∷ frames) [] =
    record { answers = refl; lines = refl; descriptors = refl }
closed_fresh config c (frame ∷ frames) (f ∷ later) =
    record { answers = refl; lines = refl; descriptors = refl }

pub start_succeeds : (m : Module) (config : Settings) (guest : Guest) (p : ProcessState)
    (o : Origin) → IsStart m config guest p → IsOrigin (host_of config).room o → IsSucceeding o p
start_succeeds m config guest p o start origin =
    let follows = start_follows m config guest p start in
    let fresh : IsFresh p =
    subst IsFresh (sym start.is)
    (closed_fresh config start.first start.first.thread start.first.later) in
    record {
      origin = subst (λ room. IsOrigin room o) (sym follows.configured.room) origin;
      no_steps = start_counts m config guest p start;
      no_answers = fresh.answers;
      no_lines = fresh.lines;
      narrow = follows.version;
      opened = fresh.descriptors;
    }

pub each_may_succeed : EachMaySucceed
each_may_succeed m config guest p One o start origin =
    succeed (start_succeeds m config guest p o start origin) (omega arith) none
each_may_succeed m config guest p Two o start origin =
    let at = start_succeeds m config guest p o start origin in
    succeed at (omega arith) (widen (record { narrow = at.narrow; at = refl }) none)

-- ---- one successor

only_widened : (guest : Guest) (p q : ProcessState) (whole : List Kept) (s : ℕ)
    → Runs guest p whole 0 q → whole ≡ Wider s ∷ [] → q ≡ widened p
only_widened guest p q whole s none e = absurd (cc)
only_widened guest p q whole s (widen {p = p'} {kept = kept} at rest) e =
    let nothing : kept ≡ [] = cc in
    stays guest (widened p') q kept rest nothing
only_widened guest p q whole s (succeed at sum rest) e = absurd (cc)

no_steps_more : (a b : ℕ) → a ≡ a + b → b ≡ 0
no_steps_more a b e = omega (arith, e)

pub one_successor : OneSuccessor
one_successor guest p q One o run =
    let on = succeeds_first guest p q (Succeeds o ∷ []) [] o.steps o run refl in
    let at_once = subst (λ z. Runs guest (succeeding o p) [] z q)
    (no_steps_more o.steps on.steps on.sum) on.runs in
    (on.succeeds, stays guest (succeeding o p) q [] at_once refl)
one_successor guest p q Two o run =
    let on = succeeds_first guest p q (Succeeds o ∷ Wider o.steps ∷ []) (Wider o.steps
    ∷ []) o.steps o run refl in
    let at_once = subst (λ z. Runs guest (succeeding o p) (Wider o.steps ∷ []) z q)
    (no_steps_more o.steps on.steps on.sum) on.runs in
    (on.succeeds, only_widened guest (succeeding o p) q (Wider o.steps ∷ []) o.steps at_once refl)

-- ---- first, and once

-- Where something goes on from another process later, there was no step and no widening.
fresh_before : (guest : Guest) (p q : ProcessState) (whole front rest : List Kept) (n : ℕ)
    (o : Origin) → Runs guest p whole n q → whole ≡ front ++ Succeeds o ∷ rest
    → (p.steps ≡ 0) × (p.host.version ≡ One)
fresh_before guest p q whole (x ∷ front) rest n o none e = absurd (cc)
fresh_before guest p q whole front rest n o
    (step {p = p'} {q = next} {kept = whole'} {n = m} moves others) e =
    let later = (fresh_before guest next q whole' front rest m o others e).0 in
    let counted = move_counts guest p' next None moves in
    absurd (omega (arith, later, counted))
fresh_before guest p q whole (x ∷ front) rest n o
    (take {p = p'} {q = next} {a = a} {kept = whole'} {n = m} moves others) e =
    let behind : whole' ≡ front ++ Succeeds o ∷ rest = cc in
    let later = (fresh_before guest next q whole' front rest m o others behind).0 in
    let counted = move_counts guest p' next (Some a) moves in
    absurd (omega (arith, later, counted))
fresh_before guest p q whole (x ∷ front) rest n o
    (widen {p = p'} {kept = whole'} {n = m} at others) e =
    let behind : whole' ≡ front ++ Succeeds o ∷ rest = cc in
    let later : Two ≡ One =
    (fresh_before guest (widened p') q whole' front rest m o others behind).1 in
    absurd (cc)
fresh_before guest p q whole front rest n o (succeed at sum others) e = (at.no_steps, at.narrow)
fresh_before guest p q whole [] rest n o _ e = absurd (cc)

runs_succeed_first : (guest : Guest) (p q : ProcessState) (whole front rest : List Kept) (n : ℕ)
    (o : Origin) → Runs guest p whole n q → whole ≡ front ++ Succeeds o ∷ rest → front ≡ []
runs_succeed_first guest p q whole [] rest n o run e = refl
runs_succeed_first guest p q whole (x ∷ front) rest n o none e = absurd (cc)
runs_succeed_first guest p q whole (x ∷ front) rest n o
    (step {q = next} {kept = whole'} {n = m} moves others) e =
    runs_succeed_first guest next q whole' (x ∷ front) rest m o others e
runs_succeed_first guest p q whole (x ∷ front) rest n o
    (take {p = p'} {q = next} {a = a} {kept = whole'} {n = m} moves others) e =
    let behind : whole' ≡ front ++ Succeeds o ∷ rest = cc in
    let later = (fresh_before guest next q whole' front rest m o others behind).0 in
    let counted = move_counts guest p' next (Some a) moves in
    absurd (omega (arith, later, counted))
runs_succeed_first guest p q whole (x ∷ front) rest n o
    (widen {p = p'} {kept = whole'} {n = m} at others) e =
    let behind : whole' ≡ front ++ Succeeds o ∷ rest = cc in
    let later : Two ≡ One =
    (fresh_before guest (widened p') q whole' front rest m o others behind).1 in
    absurd (cc)
runs_succeed_first guest p q whole (x ∷ front) rest n o
    (succeed {p = p'} {o = from} {kept = whole'} {k = m} at sum others) e =
    let behind : whole' ≡ front ++ Succeeds o ∷ rest = cc in
    let later : from.steps ≡ 0 =
    (fresh_before guest (succeeding from p') q whole' front rest m o others behind).0 in
    let some_steps = at.origin.some_steps in
    absurd (omega (arith, later, some_steps))

pub succeeds_once : SucceedsFirst
succeeds_once m config front rest o n p r =
    runs_succeed_first r.guest r.start p (front ++ Succeeds o ∷ rest) front rest n o r.runs refl

pub successors_have_come_from : SuccessorsHaveComeFrom
successors_have_come_from m config kept o n p r =
    let on = succeeds_first r.guest r.start p (Succeeds o ∷ kept) kept n o r.runs refl in
    let emitted = runs_emit r.guest (succeeding o r.start) p kept on.steps on.runs in
    let as_before = runs_configured r.guest r.start p (Succeeds o ∷ kept) n r.runs in
    let sum = on.sum in
    record {
      origin = subst (λ room. IsOrigin room o) (sym as_before.room) on.succeeds.origin;
      counts = omega (arith, sum);
      lines = emitted.lines;
      are = emitted.are;
    }

-- ---- answers

pub answers_join : AnswersJoin
answers_join [] rest = omega arith
answers_join (Given a ∷ front) rest =
    let others = answers_join front rest in
    omega (arith, others)
answers_join (Wider s ∷ front) rest =
    let others = answers_join front rest in
    omega (arith, others)
answers_join (Succeeds o ∷ front) rest =
    let others = answers_join front rest in
    omega (arith, others)
