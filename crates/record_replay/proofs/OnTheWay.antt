-- Runs without answers, and where a longer one goes on from.
use Rattle.std.proofs.Common.{◌≡◌, ℕ, suc, ◌+◌, List, [], None, Some, refl, subst, arith}
use Rattle.wasi_abi.specs.declared.answer.Answer.{Answer}
use Rattle.process_rules.specs.Processes.{ProcessState, Guest}
use Rattle.process_rules.specs.Origins.{succeeding}
use Rattle.process_rules.specs.Runs.{Moves, Kept, widened, Runs, none, step, take, widen, succeed}
use Rattle.process_rules.proofs.OneProcess.{runs_once, one_or_other, never_late, never_then}
use Rattle.process_rules.proofs.Quiet.{runs_join, quiet_runs_are_runs}
use Rattle.process.specs.rules.Values.{ProcessValue}
use Rattle.process.specs.rules.Stops.{ComesQuietly, ComesOwing}

-- ---- where the steps of a process lead

pub quiet_runs : (new : ProcessValue) (guest : Guest) (p : ProcessState)
    (come : ComesQuietly new guest p) → Runs guest p [] come.steps come.process
quiet_runs new guest p come =
    (quiet_runs_are_runs guest p come.process come.steps come.runs).0

pub owing_runs : (new : ProcessValue) (guest : Guest) (p : ProcessState)
    (come : ComesOwing new guest p) → Runs guest p [] (come.steps + 1) come.process
owing_runs new guest p come =
    runs_join guest p come.before come.process [] [] come.steps 1
    (quiet_runs_are_runs guest p come.before come.steps come.runs).0 (step come.moves none)

-- ---- a longer run on the same answers

one_move : (guest : Guest) (p q r : ProcessState) → Moves guest p None q → Moves guest p None r
    → q ≡ r
one_move guest p q r a b = runs_once guest p q r [] 1 (step a none) (step b none)

one_taken : (guest : Guest) (p q r : ProcessState) (a : Answer) → Moves guest p (Some a) q
    → Moves guest p (Some a) r → q ≡ r
one_taken guest p q r a b c = runs_once guest p q r _ 1 (take b none) (take c none)

-- it goes on without an answer from where the shorter one has come
pub goes_on : (guest : Guest) (p q r : ProcessState) (kept : List Kept) (n m k : ℕ)
    → Runs guest p kept n q → Runs guest p kept m r → m ≡ n + suc k → Runs guest q [] (suc k) r
goes_on guest p q r kept n m k (none {p = p'}) b e =
    let same : m ≡ suc k = omega (arith, e) in
    subst (λ z. Runs guest p' [] z r) same b
goes_on guest p q r kept n m k (step a rest) none e = absurd (omega (arith, e))
goes_on guest p q r kept n m k (step {p = p'} {q = q'} {kept = kept'} {n = n'} a rest)
    (step {q = r'} {n = m'} b rest') e =
    let same : r' ≡ q' = one_move guest p' r' q' b a in
    goes_on guest q' q r kept' n' m' k rest (subst (λ z. Runs guest z kept' m' r) same rest')
    (omega (arith, e))
goes_on guest p q r kept n m k (step {p = p'} {q = q'} a rest) (take {q = r'} {a = answer} b rest')
    e = absurd (one_or_other guest p' q' r' answer a b)
goes_on guest p q r kept n m k (take {p = p'} {q = q'} {a = answer} a rest) (step {q = r'} b rest')
    e = absurd (one_or_other guest p' r' q' answer b a)
goes_on guest p q r kept n m k
    (take {p = p'} {q = q'} {a = answer} {kept = kept'} {n = n'} a rest)
    (take {q = r'} {n = m'} b rest') e =
    let same : r' ≡ q' = one_taken guest p' r' q' answer b a in
    goes_on guest q' q r kept' n' m' k rest (subst (λ z. Runs guest z kept' m' r) same rest')
    (omega (arith, e))
goes_on guest p q r kept n m k (step {p = p'} {q = q'} {kept = kept'} {n = n'} a rest)
    (widen at others) e = absurd (never_late guest p' q' q kept' n' a rest at refl)
goes_on guest p q r kept n m k (widen at others)
    (step {p = p'} {q = r'} {kept = kept'} {n = m'} b rest') e =
    absurd (never_late guest p' r' r kept' m' b rest' at refl)
goes_on guest p q r kept n m k (widen {p = p'} {kept = kept'} at rest) (widen at' rest') e =
    goes_on guest (widened p') q r kept' n m k rest rest' e
goes_on guest p q r kept n m k (step {p = p'} {q = q'} {kept = kept'} {n = n'} a rest)
    (succeed at sum others) e = absurd (never_then guest p' q' q kept' n' a rest refl)
goes_on guest p q r kept n m k (succeed at sum others)
    (step {p = p'} {q = r'} {kept = kept'} {n = m'} b rest') e =
    absurd (never_then guest p' r' r kept' m' b rest' refl)
goes_on guest p q r kept n m k (succeed {p = p'} {o = o} {kept = kept'} {k = n'} at sum rest)
    (succeed {k = m'} at' sum' rest') e =
    goes_on guest (succeeding o p') q r kept' n' m' k rest rest' (omega (arith, sum, sum', e))

pub first_moves : (guest : Guest) (q r : ProcessState) (k : ℕ) → Runs guest q [] (suc k) r
    → (to : ProcessState) × Moves guest q None to
first_moves guest q r k (step {q = to} a rest) = (to, a)
