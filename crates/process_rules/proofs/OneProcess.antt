-- The same answers lead to the same process in the same number of steps.
use Rattle.std.proofs.Common.{◌≡◌, ℕ, ◌+◌, ◌≤◌, List, ◌∷◌, ◌++◌, [], Option, Some, None, refl, sym}
use Rattle.std.proofs.Common.{ap, ◌∙◌, subst, arith, suc}
use Rattle.wasm_rules.proofs.OneRun.{reduces_once}
use Rattle.wasi_abi.specs.declared.answer.Answer.{Answer}
use Rattle.process_rules.specs.Processes.{ProcessState, Guest, closed}
use Rattle.process_rules.specs.Origins.{Origin, IsSucceeding, succeeding}
use Rattle.process_rules.specs.Runs.{Next, On, Over, Wants, Nowhere, next_of, stepped, LeadsTo}
use Rattle.process_rules.specs.Runs.{Moves, Kept, Given, Wider, Succeeds, widened, IsWidening}
use Rattle.process_rules.specs.Runs.{Runs, none, step, take, widen, succeed}
use Rattle.process_rules.specs.laws.Laws.{OneProcess, OneProcessRun, WideningIsAll}
use Rattle.process_rules.proofs.OneStart.{start_once}
use Rattle.process_rules.proofs.Growing.{move_counts, runs_count}

leads_once : (guest : Guest) (next : Next) (given : Option Answer) (p q r : ProcessState)
    → LeadsTo guest next given p q → LeadsTo guest next given p r → q ≡ r
leads_once guest (On c h) given p q r a b =
    let same : a.0 ≡ b.0 = reduces_once guest.program c a.0 b.0 a.1 b.1 in
    a.2 ∙ ap (λ z. closed (stepped given z h p)) same ∙ sym b.2
leads_once guest (Over why c h) given p q r a b = a ∙ sym b
leads_once guest (Wants question) given p q r a b = absurd a
leads_once guest Nowhere given p q r a b = absurd a

pub moves_once : (guest : Guest) (p q r : ProcessState) (given : Option Answer)
    → Moves guest p given q → Moves guest p given r → q ≡ r
moves_once guest p q r given a b =
    leads_once guest (next_of guest p given) given p q r a.leads b.leads

-- where an answer is wanted, no step goes on without
pub one_or_other : (guest : Guest) (p q r : ProcessState) (a : Answer) → Moves guest p None q
    → Moves guest p (Some a) r → ⊥
one_or_other guest p q r a x y =
    let stopped : LeadsTo guest (next_of guest p None) None p q = x.leads in
    (rw y.wanted.1 at stopped)

-- What widens a process first comes no earlier than where the run begins.
pub starts_by : (guest : Guest) (p q : ProcessState) (whole kept : List Kept) (n steps : ℕ)
    → Runs guest p whole n q → whole ≡ Wider steps ∷ kept → p.steps ≤ steps
starts_by guest p q whole kept n steps
    (step {p = p'} {q = next} {kept = whole'} {n = m} moves rest) e =
    let later = starts_by guest next q whole' kept m steps rest e in
    let counted = move_counts guest p' next None moves in
    omega (arith, later, counted)
starts_by guest p q whole kept n steps (widen {p = p'} {steps = s} at rest) e =
    let same : s ≡ steps = cc in
    let here = at.at in
    omega (arith, same, here)
starts_by guest p q whole kept n steps _ e = absurd (cc)

-- Where a process is widened, no step comes before that.
pub never_late : (guest : Guest) (p q r : ProcessState) (whole : List Kept) (n : ℕ)
    {steps : ℕ} {kept : List Kept} → Moves guest p None q → Runs guest q whole n r
    → IsWidening p steps → whole ≡ Wider steps ∷ kept → ⊥
never_late guest p q r whole n {steps = s} {kept = kept} moves rest at e =
    let later = starts_by guest q r whole kept n s rest e in
    let counted = move_counts guest p q None moves in
    let here = at.at in
    omega (arith, later, counted, here)

-- A run that goes on from another process, and the steps after that.
pub record GoesOnFrom (guest : Guest) (o : Origin) (p : ProcessState) (kept : List Kept) (n : ℕ)
    (q : ProcessState) : Type 0 where
  pub succeeds : IsSucceeding o p
  pub steps : ℕ
  pub sum : n ≡ o.steps + steps
  pub runs : Runs guest (succeeding o p) kept steps q

-- What succeeds another one has taken no step before.
pub succeeds_first : (guest : Guest) (p q : ProcessState) (whole kept : List Kept) (n : ℕ)
    (o : Origin) → Runs guest p whole n q → whole ≡ Succeeds o ∷ kept
    → GoesOnFrom guest o p kept n q
succeeds_first guest p q whole kept n o
    (step {p = p'} {q = next} {kept = whole'} {n = m} moves rest) e =
    let later = (succeeds_first guest next q whole' kept m o rest e).succeeds.no_steps in
    let counted = move_counts guest p' next None moves in
    absurd (omega (arith, later, counted))
succeeds_first guest p q whole kept n o
    (succeed {p = p'} {o = from} {kept = kept'} {k = k} at sum rest) e =
    let origins : from ≡ o = cc in
    let others : kept' ≡ kept = cc in
    subst (λ z. GoesOnFrom guest z p' kept n q) origins (record {
      succeeds = at;
      steps = k;
      sum = sum;
      runs = subst (λ z. Runs guest (succeeding from p') z k q) others rest;
    })
succeeds_first guest p q whole kept n o _ e = absurd (cc)

-- So no step comes before it.
pub never_then : (guest : Guest) (p q r : ProcessState) (whole : List Kept) (n : ℕ) {o : Origin}
    {kept : List Kept} → Moves guest p None q → Runs guest q whole n r
    → whole ≡ Succeeds o ∷ kept → ⊥
never_then guest p q r whole n {o = o} {kept = kept} moves rest e =
    let later = (succeeds_first guest q r whole kept n o rest e).succeeds.no_steps in
    let counted = move_counts guest p q None moves in
    omega (arith, later, counted)

-- as many steps after as many before
pub same_rest : (a b c n : ℕ) → n ≡ c + a → n ≡ c + b → a ≡ b
same_rest a b c n e f = omega (arith, e, f)

pub runs_once : OneProcessRun
runs_once guest p q r kept n none none = refl
runs_once guest p q r kept n (step {p = p'} {q = q'} {kept = kept'} {n = n'} m rest)
    (step {q = r'} m' rest') =
    let same : r' ≡ q' = moves_once guest p' r' q' None m' m in
    runs_once guest q' q r kept' n' rest (subst (λ z. Runs guest z kept' n' r) same rest')
runs_once guest p q r kept n (step {p = p'} {q = q'} m rest) (take {q = r'} {a = a} m' rest') =
    absurd (one_or_other guest p' q' r' a m m')
runs_once guest p q r kept n (take {p = p'} {q = q'} {a = a} m rest) (step {q = r'} m' rest') =
    absurd (one_or_other guest p' r' q' a m' m)
runs_once guest p q r kept n (take {p = p'} {q = q'} {a = a} {kept = kept'} {n = n'} m rest)
    (take {q = r'} m' rest') =
    let same : r' ≡ q' = moves_once guest p' r' q' (Some a) m' m in
    runs_once guest q' q r kept' n' rest (subst (λ z. Runs guest z kept' n' r) same rest')
runs_once guest p q r kept n (step {p = p'} {q = q'} {kept = kept'} {n = n'} m rest)
    (widen at others) =
    absurd (never_late guest p' q' q kept' n' m rest at refl)
runs_once guest p q r kept n (widen at rest)
    (step {p = p'} {q = r'} {kept = kept'} {n = n'} m' rest') =
    absurd (never_late guest p' r' r kept' n' m' rest' at refl)
runs_once guest p q r kept n (widen {p = p'} {kept = kept'} {n = n'} at rest) (widen at' rest') =
    runs_once guest (widened p') q r kept' n' rest rest'
runs_once guest p q r kept n (step {p = p'} {q = q'} {kept = kept'} {n = n'} m rest)
    (succeed at sum others) =
    absurd (never_then guest p' q' q kept' n' m rest refl)
runs_once guest p q r kept n (succeed at sum rest)
    (step {p = p'} {q = r'} {kept = kept'} {n = n'} m' rest') =
    absurd (never_then guest p' r' r kept' n' m' rest' refl)
runs_once guest p q r kept n
    (succeed {p = p'} {o = o} {kept = kept'} {n = whole} {k = k} at sum rest)
    (succeed {k = j} at' sum' rest') =
    let same : j ≡ k = same_rest j k o.steps whole sum' sum in
    runs_once guest (succeeding o p') q r kept' k rest
    (subst (λ z. Runs guest (succeeding o p') kept' z r) same rest')

pub one_process : OneProcess
one_process m config kept n p q v a b =
    let same = start_once m config a.guest b.guest a.start b.start v a.begins b.begins in
    let other : Runs a.guest b.start kept n q =
    subst (λ g. Runs g b.start kept n q) (sym same.0) b.runs in
    runs_once a.guest a.start p q kept n a.runs (subst (λ z. Runs a.guest z kept n q)
    (sym same.1) other)

-- ---- widening

-- no steps on no answers lead nowhere else
pub stays : (guest : Guest) (p q : ProcessState) (kept : List Kept) → Runs guest p kept 0 q
    → kept ≡ [] → q ≡ p
stays guest p q kept none e = refl
stays guest p q kept (widen at rest) e = absurd (cc)
stays guest p q kept (succeed at sum rest) e = absurd (cc)

-- Where one run widens a process, the other one takes no step there first.
no_step_first : (guest : Guest) (p q r other : ProcessState) (kept whole : List Kept)
    (m s steps : ℕ) → IsWidening p s → Runs guest (widened p) whole (suc m) r
    → Wider s ∷ whole ≡ kept ++ Wider steps ∷ [] → steps ≡ r.steps → Moves guest p None other
    → Runs guest other kept m q → ⊥
no_step_first guest p q r other [] whole m s steps here rest e at moves rest' =
    let same : s ≡ steps = cc in
    let counted = runs_count guest (widened p) r whole (suc m) rest in
    let there = here.at in
    omega (arith, same, counted, there, at)
no_step_first guest p q r other (Given a ∷ kept) whole m s steps here rest e at moves rest' =
    absurd (cc)
no_step_first guest p q r other (Succeeds o ∷ kept) whole m s steps here rest e at moves rest' =
    absurd (cc)
no_step_first guest p q r other (Wider t ∷ kept) whole m s steps here rest e at moves rest' =
    let same : t ≡ s = cc in
    never_late guest p other q (Wider t ∷ kept) m moves rest' here (ap (λ z. Wider z ∷ kept) same)

-- Where one run goes on from another process, the other one takes no step there first.
succeeds_not_late : (guest : Guest) (p q r : ProcessState) (kept : List Kept) (m steps : ℕ)
    {o : Origin} {whole : List Kept} → Moves guest p None q → Runs guest q kept m r
    → Succeeds o ∷ whole ≡ kept ++ Wider steps ∷ [] → ⊥
succeeds_not_late guest p q r (Succeeds from ∷ kept) m steps moves rest e =
    never_then guest p q r (Succeeds from ∷ kept) m moves rest refl
succeeds_not_late guest p q r _ m steps moves rest e = cc

-- as the law, for a whole list of answers
widening_from : (guest : Guest) (p q r : ProcessState) (whole kept : List Kept) (n steps : ℕ)
    → Runs guest p whole n r → whole ≡ kept ++ Wider steps ∷ [] → steps ≡ r.steps
    → Runs guest p kept n q → r ≡ widened q
widening_from guest p q r whole kept n steps none e at none = absurd (cc)
widening_from guest p q r whole kept n steps none e at (widen there rest') = absurd (cc)
widening_from guest p q r whole kept n steps none e at (succeed there sum rest') = absurd (cc)
widening_from guest p q r whole kept n steps
    (step {p = p'} {q = next} {kept = whole'} {n = m} moves rest) e at
    (step {q = other} {kept = kept'} moves' rest') =
    let same : other ≡ next = moves_once guest p' other next None moves' moves in
    widening_from guest next q r whole' kept' m steps rest e at
    (subst (λ z. Runs guest z kept' m q) same rest')
widening_from guest p q r whole kept n steps (step {p = p'} {q = next} moves rest) e at
    (take {q = other} {a = a} moves' rest') =
    absurd (one_or_other guest p' next other a moves moves')
widening_from guest p q r whole kept n steps
    (step {p = p'} {q = next} {kept = whole'} {n = m} moves rest) e at (widen there rest') =
    absurd (never_late guest p' next r whole' m moves rest there e)
widening_from guest p q r whole kept n steps
    (step {p = p'} {q = next} {kept = whole'} {n = m} moves rest) e at (succeed there sum rest') =
    absurd (never_then guest p' next r whole' m moves rest e)
widening_from guest p q r whole kept n steps (take {p = p'} {q = next} {a = a} moves rest) e at
    (step {q = other} moves' rest') =
    absurd (one_or_other guest p' other next a moves' moves)
widening_from guest p q r whole kept n steps
    (take {p = p'} {q = next} {a = a} {kept = whole'} {n = m} moves rest) e at
    (take {q = other} {a = b} {kept = kept'} moves' rest') =
    let one : b ≡ a = cc in
    let others : whole' ≡ kept' ++ Wider steps ∷ [] = cc in
    let moved : Moves guest p' (Some a) other =
    subst (λ z. Moves guest p' (Some z) other) one moves' in
    let same : other ≡ next = moves_once guest p' other next (Some a) moved moves in
    widening_from guest next q r whole' kept' m steps rest others at
    (subst (λ z. Runs guest z kept' m q) same rest')
widening_from guest p q r whole kept n steps (take moves rest) e at (widen there rest') =
    absurd (cc)
widening_from guest p q r whole kept n steps (take moves rest) e at (succeed there sum rest') =
    absurd (cc)
widening_from guest p q r whole kept n steps (widen {p = p'} {kept = whole'} here rest) e at none =
    let nothing : whole' ≡ [] = cc in
    stays guest (widened p') r whole' rest nothing
widening_from guest p q r whole kept n steps
    (widen {p = p'} {steps = s} {kept = whole'} here rest) e at
    (step {q = other} {kept = kept'} {n = m} moves' rest') =
    absurd (no_step_first guest p' q r other kept' whole' m s steps here rest e at moves' rest')
widening_from guest p q r whole kept n steps (widen here rest) e at (take moves' rest') =
    absurd (cc)
widening_from guest p q r whole kept n steps (widen here rest) e at (succeed there sum rest') =
    absurd (cc)
widening_from guest p q r whole kept n steps
    (widen {p = p'} {kept = whole'} {n = m} here rest) e at (widen {kept = kept'} there rest') =
    let others : whole' ≡ kept' ++ Wider steps ∷ [] = cc in
    widening_from guest (widened p') q r whole' kept' m steps rest others at rest'
widening_from guest p q r whole kept n steps (succeed here sum rest) e at none = absurd (cc)
widening_from guest p q r whole kept n steps (succeed here sum rest) e at
    (step {p = p'} {q = other} {kept = kept'} {n = m} moves' rest') =
    absurd (succeeds_not_late guest p' other q kept' m steps moves' rest' e)
widening_from guest p q r whole kept n steps (succeed here sum rest) e at (take moves' rest') =
    absurd (cc)
widening_from guest p q r whole kept n steps (succeed here sum rest) e at (widen there rest') =
    absurd (cc)
widening_from guest p q r whole kept n steps
    (succeed {p = p'} {o = o} {kept = whole'} {n = all} {k = k} here sum rest) e at
    (succeed {o = from} {kept = kept'} {k = j} there sum' rest') =
    let origins : from ≡ o = cc in
    let others : whole' ≡ kept' ++ Wider steps ∷ [] = cc in
    let same : j ≡ k = same_rest j k o.steps all
    (subst (λ (z : Origin). all ≡ z.steps + j) origins sum') sum in
    let moved : Runs guest (succeeding o p') kept' j q =
    subst (λ z. Runs guest (succeeding z p') kept' j q) origins rest' in
    widening_from guest (succeeding o p') q r whole' kept' k steps rest others at
    (subst (λ z. Runs guest (succeeding o p') kept' z q) same moved)

pub widening_is_all : WideningIsAll
widening_is_all guest p q r kept n steps a at b =
    widening_from guest p q r (kept ++ Wider steps ∷ []) kept n steps a refl at b
