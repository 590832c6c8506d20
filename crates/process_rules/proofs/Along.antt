-- A run with what is known of each process on it. What the same answers lead to is one of these.
use Rattle.std.proofs.Common.{◌≡◌, ℕ, zero, suc, ◌+◌, List, [], ◌∷◌, ◌++◌, length, take as firsts}
use Rattle.std.proofs.Common.{Some, None, refl, ◌≤◌, subst, arith}
use Rattle.wasi_abi.specs.declared.answer.Answer.{Answer}
use Rattle.process_rules.specs.Processes.{Ending, ProcessState, Guest}
use Rattle.process_rules.specs.Origins.{Origin}
use Rattle.process_rules.specs.Runs.{Kept, Given, Wider, Succeeds, IsWidening, Moves, Runs, none}
use Rattle.process_rules.specs.Runs.{step, take, widen, succeed}
use Rattle.process_rules.specs.Behind.{IsNarrowTo}
use Rattle.process_rules.proofs.Growing.{runs_count}
use Rattle.process_rules.proofs.OneProcess.{moves_once, one_or_other}

-- From the process after n steps and a answers, a run on these answers. P is known of each process
-- on it, with how far it has come.
pub data Along (guest : Guest) (P : ℕ → ℕ → ProcessState → Type 0) :
    ℕ → ℕ → ProcessState → List Kept → ℕ → ProcessState → Type 0 where
  last : {n a : ℕ} {p : ProcessState} → P n a p → Along guest P n a p [] 0 p
  goes : {n a k : ℕ} {p q r : ProcessState} {kept : List Kept} → P n a p → Moves guest p None q
      → Along guest P (n + 1) a q kept k r → Along guest P n a p kept (suc k) r
  takes : {n a k : ℕ} {p q r : ProcessState} {x : Answer} {kept : List Kept} → P n a p
      → Moves guest p (Some x) q
      → Along guest P (n + 1) (a + 1) q kept k r → Along guest P n a p (Given x ∷ kept) (suc k) r

pub is_run : (guest : Guest) (P : ℕ → ℕ → ProcessState → Type 0) (n a k : ℕ) (p r : ProcessState)
    (kept : List Kept) → Along guest P n a p kept k r → Runs guest p kept k r
is_run guest P n a k p r kept (last holds) = none
is_run guest P n a k p r kept (goes {k = k'} {q = q} holds m rest) =
    step m (is_run guest P (n + 1) a k' q r kept rest)
is_run guest P n a k p r kept (takes {k = k'} {q = q} {kept = kept'} holds m rest) =
    take m (is_run guest P (n + 1) (a + 1) k' q r kept' rest)

-- ---- what is known of it at its start

first_known : (guest : Guest) (P : ℕ → ℕ → ProcessState → Type 0) (n a k : ℕ) (p r : ProcessState)
    (kept : List Kept) → Along guest P n a p kept k r → P n a p
first_known guest P n a k p r kept (last holds) = holds
first_known guest P n a k p r kept (goes holds m rest) = holds
first_known guest P n a k p r kept (takes holds m rest) = holds

moved : (P : ℕ → ℕ → ProcessState → Type 0) (n a n' a' : ℕ) (q : ProcessState) → n ≡ n' → a ≡ a'
    → P n a q → P n' a' q
moved P n a n' a' q e f holds = subst (λ z. P z a' q) e (subst (λ z. P n z q) f holds)

-- ---- what is known of all that the same answers lead to

-- Such a run widens nothing, and what is kept next widens nothing up to its end.
up_to_end : (guest : Guest) (P : ℕ → ℕ → ProcessState → Type 0) (n a k s : ℕ) (p r : ProcessState)
    (kept more : List Kept) → Along guest P n a p kept k r → IsNarrowTo more s
    → IsNarrowTo (kept ++ more) s
up_to_end guest P n a k s p r kept more (last holds) up = up
up_to_end guest P n a k s p r kept more (goes {k = k'} {q = q} holds m rest) up =
    up_to_end guest P (n + 1) a k' s q r kept more rest up
up_to_end guest P n a k s p r kept more (takes holds m rest) up = tt

-- so no process on it is widened
not_widened : (guest : Guest) (P : ℕ → ℕ → ProcessState → Type 0) (n a k b s : ℕ)
    (p r : ProcessState) (kept more others : List Kept) → Along guest P n a p kept k r
    → IsNarrowTo more (suc r.steps) → IsWidening p s
    → Wider s ∷ others ≡ firsts b (kept ++ more) → ⊥
not_widened guest P n a k b s p r kept more others along up at e =
    let counted = runs_count guest p r kept k (is_run guest P n a k p r kept along) in
    let here = at.at in
    let late = next_widens b (kept ++ more)
    (up_to_end guest P n a k (suc r.steps) p r kept more along up) e in
    omega (arith, counted, here, late)
  where
    next_widens : (b : ℕ) (list : List Kept) → IsNarrowTo list (suc r.steps)
        → Wider s ∷ others ≡ firsts b list → suc r.steps ≤ s
    next_widens zero list up e = absurd (cc)
    next_widens (suc b) [] up e = absurd (cc)
    next_widens (suc b) (Given x ∷ list) up e = absurd (cc)
    next_widens (suc b) (Succeeds o ∷ list) up e = absurd (cc)
    next_widens (suc b) (Wider t ∷ list) up e =
        let same : t ≡ s = cc in
        subst (λ z. suc r.steps ≤ z) same up

-- nor goes on from another one
none_succeeds : (guest : Guest) (P : ℕ → ℕ → ProcessState → Type 0) (n a k b : ℕ)
    (p r : ProcessState) (kept more others : List Kept) (o : Origin)
    → Along guest P n a p kept k r → IsNarrowTo more (suc r.steps)
    → Succeeds o ∷ others ≡ firsts b (kept ++ more) → ⊥
none_succeeds guest P n a k b p r kept more others o along up e =
    next_succeeds b (kept ++ more)
    (up_to_end guest P n a k (suc r.steps) p r kept more along up) e
  where
    next_succeeds : (b : ℕ) (list : List Kept) → IsNarrowTo list (suc r.steps)
        → Succeeds o ∷ others ≡ firsts b list → ⊥
    next_succeeds zero list up e = cc
    next_succeeds (suc b) [] up e = cc
    next_succeeds (suc b) (Given x ∷ list) up e = cc
    next_succeeds (suc b) (Wider t ∷ list) up e = cc
    next_succeeds (suc b) (Succeeds from ∷ list) up e = omega (arith, up)

-- It ends, so any process that some of its answers lead to, and of what was kept after them, is on
-- it, where that widens nothing up to its end.
all_known : (guest : Guest) (P : ℕ → ℕ → ProcessState → Type 0) (n a k : ℕ) (p r : ProcessState)
    (kept more prefix : List Kept) (b j : ℕ) (q : ProcessState) (why : Ending)
    → r.ended ≡ Some why → IsNarrowTo more (suc r.steps) → Along guest P n a p kept k r
    → Runs guest p prefix j q
    → prefix ≡ firsts b (kept ++ more) → P (n + j) (a + length prefix) q
all_known guest P n a k p r kept more prefix b j q why over up along (none {p = p'}) e =
    moved P n a (n + 0) (a + 0) p' (omega arith) (omega arith)
    (first_known guest P n a k p' r kept along)
all_known guest P n a k p r kept more prefix b j q why over up (last holds) (step m rest) e =
    absurd (let running = m.running in cc)
all_known guest P n a k p r kept more prefix b j q why over up (last holds) (take m rest) e =
    absurd (let running = m.running in cc)
all_known guest P n a k p r kept more prefix b j q why over up
    (goes {k = k'} {p = p'} {q = q'} holds m rest)
    (step {q = r'} {kept = prefix'} {n = j'} m' rest') e =
    let same : r' ≡ q' = moves_once guest p' r' q' None m' m in
    moved P ((n + 1) + j') (a + length prefix') (n + suc j') (a + length prefix') q (omega arith)
    refl
    (all_known guest P (n + 1) a k' q' r kept more prefix' b j' q why over up rest
    (subst (λ z. Runs guest z prefix' j' q) same rest') e)
all_known guest P n a k p r kept more prefix b j q why over up (goes {p = p'} {q = q'} holds m rest)
    (take {q = r'} {a = x} m' rest') e = absurd (one_or_other guest p' q' r' x m m')
all_known guest P n a k p r kept more prefix b j q why over up
    (takes {p = p'} {q = q'} {x = x} holds m rest) (step {q = r'} m' rest') e =
    absurd (one_or_other guest p' r' q' x m' m)
all_known guest P n a k p r kept more prefix zero j q why over up (takes holds m rest)
    (take m' rest') e = absurd (cc)
all_known guest P n a k p r kept more prefix (suc b) j q why over up
    (takes {k = k'} {p = p'} {q = q'} {x = x} {kept = kept'} holds m rest)
    (take {q = r'} {a = y} {kept = prefix'} {n = j'} m' rest') e =
    let one : y ≡ x = cc in
    let others : prefix' ≡ firsts b (kept' ++ more) = cc in
    let moves : Moves guest p' (Some x) r' = subst (λ z. Moves guest p' (Some z) r') one m' in
    let same : r' ≡ q' = moves_once guest p' r' q' (Some x) moves m in
    moved P ((n + 1) + j') ((a + 1) + length prefix') (n + suc j') (a + suc (length prefix')) q
    (omega arith) (omega arith)
    (all_known guest P (n + 1) (a + 1) k' q' r kept' more prefix' b j' q why over up rest
    (subst (λ z. Runs guest z prefix' j' q) same rest') others)
all_known guest P n a k p r kept more prefix b j q why over up along
    (widen {p = p'} {steps = s} {kept = others} at rest) e =
    absurd (not_widened guest P n a k b s p' r kept more others along up at e)
all_known guest P n a k p r kept more prefix b j q why over up along
    (succeed {p = p'} {o = o} {kept = others} at sum rest) e =
    absurd (none_succeeds guest P n a k b p' r kept more others o along up e)

-- so it is of a whole run
pub known_from_start : (guest : Guest) (P : ℕ → ℕ → ProcessState → Type 0) (k : ℕ)
    (p r : ProcessState) (kept more prefix : List Kept) (b j : ℕ) (q : ProcessState) (why : Ending)
    → r.ended ≡ Some why → IsNarrowTo more (suc r.steps) → Along guest P 0 0 p kept k r
    → Runs guest p prefix j q
    → prefix ≡ firsts b (kept ++ more) → P j (length prefix) q
known_from_start guest P k p r kept more prefix b j q why over up along runs e =
    moved P (0 + j) (0 + length prefix) j (length prefix) q (omega arith) (omega arith)
    (all_known guest P 0 0 k p r kept more prefix b j q why over up along runs e)
