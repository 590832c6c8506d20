-- Of two runs on fronts of the same answers one leads on to the other. So a line has one text.
use Rattle.std.proofs.Common.{◌≡◌, ◌⊎◌, inl, inr, ℕ, ◌+◌, ◌<◌, ◌≤◌, List, [], ◌∷◌, ◌++◌, length}
use Rattle.std.proofs.Common.{take, drop, Some, None, refl, sym, ap, ◌∙◌, subst, arith}
use Rattle.std.proofs.Common.{length-append, zero, suc}
use Rattle.std.specs.Prelude.{slice_get, min, Bool, true, false, Ok, Err}
use Rattle.std.proofs.lemmas.List.{take-append-drop, take-append-le, take_min, get_or_append_left}
use Rattle.std.proofs.lemmas.Option.{slice_get-get_or, slice_get_within, same_Some}
use Rattle.wasm_syntax.specs.declared.module.Module.{Module}
use Rattle.wasm_rules.specs.Validity.{IsValid}
use Rattle.wasi_abi.specs.declared.answer.Answer.{Answer}
use Rattle.wasi_abi.specs.rules.Configs.{Settings}
use Rattle.wasi_calls_rules.specs.WasiStates.{Line}
use Rattle.process_rules.specs.Processes.{ProcessState, Guest}
use Rattle.process_rules.specs.Origins.{Origin, succeeding}
use Rattle.process_rules.specs.Runs.{Kept, Given, Wider, Succeeds, widened, IsWidening, Moves, Runs}
use Rattle.process_rules.specs.Runs.{Reaches, none, step, take as takes, widen, succeed}
use Rattle.process_rules.specs.Behind.{IsNarrowTo, AnswersBehindLine, IsLine}
use Rattle.worker_store.specs.restart_theorem.Lives.{SourceSaid, kept_of_said}
use Rattle.process_rules.proofs.OneStart.{start_once}
use Rattle.process_rules.proofs.OneProcess.{moves_once, one_or_other, never_late, never_then}
use Rattle.process_rules.proofs.Growing.{move_counts, runs_count, runs_emit, start_counts}

-- ---- runs

-- a run leads from p, reached on the answers a, to q, reached on b
pub record LeadsOn (guest : Guest) (p q : ProcessState) (a b : List Kept) : Type 0 where
  pub kept : List Kept
  pub steps : ℕ
  pub runs : Runs guest p kept steps q
  pub front : a ++ kept ≡ b

abbrev pub OneLeadsOn : Guest → ProcessState → ProcessState → List Kept → List Kept → Type 0
OneLeadsOn guest p q a b = LeadsOn guest p q a b ⊎ LeadsOn guest q p b a

-- with one more answer before both
one_before : (guest : Guest) (p q : ProcessState) (x y : Kept) (a b : List Kept) → x ≡ y
    → OneLeadsOn guest p q a b → OneLeadsOn guest p q (x ∷ a) (y ∷ b)
one_before guest p q x y a b same (inl on) =
    inl (record {
      kept = on.kept;
      steps = on.steps;
      runs = on.runs;
      front = rw (on.front, same) refl;
    })
one_before guest p q x y a b same (inr on) =
    inr (record {
      kept = on.kept;
      steps = on.steps;
      runs = on.runs;
      front = rw (on.front, same) refl;
    })

abbrev first_or : Kept → List Kept → Kept
first_or k [] = k
first_or k (x ∷ kept) = x

abbrev others : List Kept → List Kept
others [] = []
others (x ∷ kept) = kept

same_answer : (a b : Answer) → Given a ≡ Given b → a ≡ b
same_answer a b e = cc

same_origin : (x y : Origin) → Succeeds x ≡ Succeeds y → x ≡ y
same_origin x y e = cc

-- Where one run widens a process, no front takes a step there that widens it next at its end, or
-- never.
no_step_there : (guest : Guest) (s p q : ProcessState) (a c others : List Kept) (n steps : ℕ)
    → Moves guest s None q → Runs guest q a n p → IsWidening s steps → a ++ c ≡ Wider steps ∷ others
    → IsNarrowTo c p.steps → ⊥
no_step_there guest s p q [] [] others n steps m rest at e up = cc
no_step_there guest s p q [] (Given x ∷ c) others n steps m rest at e up = cc
no_step_there guest s p q [] (Succeeds x ∷ c) others n steps m rest at e up = cc
no_step_there guest s p q [] (Wider t ∷ c) others n steps m rest at e up =
    let same : t ≡ steps = cc in
    let here = at.at in
    let first = move_counts guest s q None m in
    let counted = runs_count guest q p [] n rest in
    omega (arith, same, here, first, counted, up)
no_step_there guest s p q (Given x ∷ a) c others n steps m rest at e up = cc
no_step_there guest s p q (Succeeds x ∷ a) c others n steps m rest at e up = cc
no_step_there guest s p q (Wider t ∷ a) c others n steps m rest at e up =
    let same : t ≡ steps = cc in
    never_late guest s q p (Wider t ∷ a) n m rest at (ap (λ z. Wider z ∷ a) same)

-- Where one run goes on from another process, no front takes a step first.
none_before : (guest : Guest) (s p q : ProcessState) (a c others : List Kept) (n : ℕ) (o : Origin)
    → Moves guest s None q → Runs guest q a n p → a ++ c ≡ Succeeds o ∷ others
    → IsNarrowTo c p.steps → ⊥
none_before guest s p q [] [] others n o m rest e up = cc
none_before guest s p q [] (Given x ∷ c) others n o m rest e up = cc
none_before guest s p q [] (Wider x ∷ c) others n o m rest e up = cc
none_before guest s p q [] (Succeeds x ∷ c) others n o m rest e up =
    let first = move_counts guest s q None m in
    let counted = runs_count guest q p [] n rest in
    omega (arith, first, counted, up)
none_before guest s p q (Given x ∷ a) c others n o m rest e up = cc
none_before guest s p q (Wider x ∷ a) c others n o m rest e up = cc
none_before guest s p q (Succeeds x ∷ a) c others n o m rest e up =
    never_then guest s q p (Succeeds x ∷ a) n m rest refl

one_leads_on : (guest : Guest) (s p q : ProcessState) (a b c d : List Kept) (n k : ℕ)
    → Runs guest s a n p → Runs guest s b k q → a ++ c ≡ b ++ d → IsNarrowTo c p.steps
    → IsNarrowTo d q.steps → OneLeadsOn guest p q a b
one_leads_on guest s p q a b c d n k (none {p = p'}) right e up up' =
    inl (record { kept = b; steps = k; runs = right; front = refl })
one_leads_on guest s p q a b c d n k (step {p = p'} {q = p''} {kept = a'} {n = n'} m rest)
    (none {p = q'}) e up up' =
    inr (record { kept = a; steps = n; runs = step m rest; front = refl })
one_leads_on guest s p q a b c d n k (takes {p = p'} {q = p''} {a = x} {kept = a'} {n = n'} m rest)
    (none {p = q'}) e up up' =
    inr (record { kept = a; steps = n; runs = takes m rest; front = refl })
one_leads_on guest s p q a b c d n k (widen at rest) (none {p = q'}) e up up' =
    inr (record { kept = a; steps = n; runs = widen at rest; front = refl })
one_leads_on guest s p q a b c d n k (succeed at sum rest) (none {p = q'}) e up up' =
    inr (record { kept = a; steps = n; runs = succeed at sum rest; front = refl })
one_leads_on guest s p q a b c d n k (step {p = s'} {q = p'} {kept = a'} {n = n'} m rest)
    (step {q = q'} {kept = b'} {n = k'} m' rest') e up up' =
    let same : q' ≡ p' = moves_once guest s' q' p' None m' m in
    one_leads_on guest p' p q a' b' c d n' k' rest (subst (λ z. Runs guest z b' k' q) same rest') e
    up up'
one_leads_on guest s p q a b c d n k (step {p = s'} {q = p'} m rest)
    (takes {q = q'} {a = y} m' rest') e up up' = absurd (one_or_other guest s' p' q' y m m')
one_leads_on guest s p q a b c d n k (step {p = s'} {q = p'} {kept = a'} {n = n'} m rest)
    (widen {steps = t} {kept = b'} at rest') e up up' =
    absurd (no_step_there guest s' p p' a' c (b' ++ d) n' t m rest at e up)
one_leads_on guest s p q a b c d n k (step {p = s'} {q = p'} {kept = a'} {n = n'} m rest)
    (succeed {o = o} {kept = b'} at sum rest') e up up' =
    absurd (none_before guest s' p p' a' c (b' ++ d) n' o m rest e up)
one_leads_on guest s p q a b c d n k (takes {p = s'} {q = p'} {a = x} m rest)
    (step {q = q'} m' rest') e up up' = absurd (one_or_other guest s' q' p' x m' m)
one_leads_on guest s p q a b c d n k (takes {p = s'} {q = p'} {a = x} {kept = a'} {n = n'} m rest)
    (takes {q = q'} {a = y} {kept = b'} {n = k'} m' rest') e up up' =
    let answers : y ≡ x = sym (same_answer x y (ap (first_or (Given x)) e)) in
    let same : q' ≡ p' = moves_once guest s' q' p' (Some x)
    (subst (λ z. Moves guest s' (Some z) q') answers m') m in
    one_before guest p q (Given x) (Given y) a' b' (ap Given (sym answers))
    (one_leads_on guest p' p q a' b' c d n' k' rest (subst (λ z. Runs guest z b' k' q) same rest')
    (ap others e) up up')
one_leads_on guest s p q a b c d n k (takes m rest) (widen at rest') e up up' = absurd (cc)
one_leads_on guest s p q a b c d n k (takes m rest) (succeed at sum rest') e up up' = absurd (cc)
one_leads_on guest s p q a b c d n k (widen {steps = t} {kept = a'} at rest)
    (step {p = s'} {q = q'} {kept = b'} {n = k'} m' rest') e up up' =
    absurd (no_step_there guest s' q q' b' d (a' ++ c) k' t m' rest' at (sym e) up')
one_leads_on guest s p q a b c d n k (widen at rest) (takes m' rest') e up up' = absurd (cc)
one_leads_on guest s p q a b c d n k (widen at rest) (succeed at' sum rest') e up up' =
    absurd (cc)
one_leads_on guest s p q a b c d n k (widen {p = s'} {steps = t} {kept = a'} {n = n'} at rest)
    (widen {steps = t'} {kept = b'} {n = k'} at' rest') e up up' =
    one_before guest p q (Wider t) (Wider t') a' b' (ap Wider (at.at ∙ sym at'.at))
    (one_leads_on guest (widened s') p q a' b' c d n' k' rest rest' (ap others e) up up')
one_leads_on guest s p q a b c d n k (succeed {o = o} {kept = a'} at sum rest)
    (step {p = s'} {q = q'} {kept = b'} {n = k'} m' rest') e up up' =
    absurd (none_before guest s' q q' b' d (a' ++ c) k' o m' rest' (sym e) up')
one_leads_on guest s p q a b c d n k (succeed at sum rest) (takes m' rest') e up up' = absurd (cc)
one_leads_on guest s p q a b c d n k (succeed at sum rest) (widen at' rest') e up up' =
    absurd (cc)
one_leads_on guest s p q a b c d n k
    (succeed {p = s'} {o = o} {kept = a'} {k = n'} at sum rest)
    (succeed {o = o'} {kept = b'} {k = k'} at' sum' rest') e up up' =
    let origins : o' ≡ o = sym (same_origin o o' (ap (first_or (Succeeds o)) e)) in
    one_before guest p q (Succeeds o) (Succeeds o') a' b' (ap Succeeds (sym origins))
    (one_leads_on guest (succeeding o s') p q a' b' c d n' k' rest
    (subst (λ z. Runs guest (succeeding z s') b' k' q) origins rest') (ap others e) up up')

-- what is reached counts its steps
pub reached_counts : (m : Module) (config : Settings) (kept : List Kept) (n : ℕ) (p : ProcessState)
    → Reaches m config kept n p → p.steps ≡ n
reached_counts m config kept n p reached =
    let counted = runs_count reached.guest reached.start p kept n reached.runs in
    let first = start_counts m config reached.guest reached.start reached.begins in
    omega (arith, counted, first)

-- of two processes that fronts of the same answers lead to, where none is widened before
pub fronts_lead_on : (m : Module) (config : Settings) (kept : List Kept) (a b n k : ℕ)
    (p q : ProcessState) → IsValid m
    → (left : Reaches m config (take a kept) n p) → Reaches m config (take b kept) k q
    → IsNarrowTo (drop a kept) n → IsNarrowTo (drop b kept) k
    → OneLeadsOn left.guest p q (take a kept) (take b kept)
fronts_lead_on m config kept a b n k p q valid left right up up' =
    let same = start_once m config left.guest right.guest left.start right.start valid left.begins
    right.begins in
    let other : Runs left.guest right.start (take b kept) k q =
    subst (λ g. Runs g right.start (take b kept) k q) (sym same.0) right.runs in
    one_leads_on left.guest left.start p q (take a kept) (take b kept) (drop a kept)
    (drop b kept) n k left.runs
    (subst (λ z. Runs left.guest z (take b kept) k q) (sym same.1) other)
    (take-append-drop a kept ∙ sym (take-append-drop b kept))
    (subst (λ z. IsNarrowTo (drop a kept) z)
    (sym (reached_counts m config (take a kept) n p left)) up)
    (subst (λ z. IsNarrowTo (drop b kept) z) (sym (reached_counts m config (take b kept) k q right))
    up')

-- ---- lines

left_of_append : {X : Type 0} (xs ys : List X) (k : ℕ) (d : X) → k < length xs
    → slice_get (xs ++ ys) k ≡ slice_get xs k
left_of_append xs ys k d within =
    let longer : k < length (xs ++ ys) = rw (length-append xs ys) (omega (arith, within)) in
    slice_get-get_or (xs ++ ys) k d longer ∙ ap Some (get_or_append_left xs ys d k within)
    ∙ sym (slice_get-get_or xs k d within)

-- a line that one of two processes has emitted, the other one has not emitted otherwise
pub line_stays : (guest : Guest) (p q : ProcessState) (a b : List Kept) (place : ℕ) (line : Line)
    → OneLeadsOn guest p q a b → slice_get p.host.lines place ≡ Some line
    → place < length q.host.lines
    → slice_get q.host.lines place ≡ Some line
line_stays guest p q a b place line (inl on) is within =
    let emits = runs_emit guest p q on.kept on.steps on.runs in
    rw emits.are (left_of_append p.host.lines emits.lines place line
    (slice_get_within p.host.lines place line is) ∙ is)
line_stays guest p q a b place line (inr on) is within =
    let emits = runs_emit guest q p on.kept on.steps on.runs in
    let there : slice_get (q.host.lines ++ emits.lines) place ≡ Some line =
    subst (λ z. slice_get z place ≡ Some line) emits.are is in
    sym (left_of_append q.host.lines emits.lines place line within) ∙ there

pub one_line : (m : Module) (config : Settings) (kept : List Kept) (i : ℕ) (a b : Line) → IsValid m
    → IsLine m config kept i a → IsLine m config kept i b → a ≡ b
one_line m config kept i a b valid left right =
    let place : left.place ≡ right.place =
    same_place left.place right.place i left.counted right.counted in
    let within : left.place < length right.process.host.lines =
    subst (λ z. z < length right.process.host.lines) (sym place)
    (slice_get_within right.process.host.lines right.place b right.is) in
    let on = fronts_lead_on m config kept left.answers right.answers left.steps right.steps
    left.process right.process valid left.reached right.reached left.up_to right.up_to in
    let here : slice_get right.process.host.lines left.place ≡ Some a =
    line_stays left.reached.guest left.process right.process (take left.answers kept)
    (take right.answers kept) left.place a on left.is within in
    same_Some a b (sym here ∙ ap (slice_get right.process.host.lines) place ∙ right.is)
  where
    same_place : (x y i : ℕ) → i ≡ x + 1 → i ≡ y + 1 → x ≡ y
    same_place x y i e f = omega arith

-- ---- fronts of fronts

front_of_front : {X : Type 0} (a n : ℕ) (xs : List X) → a ≤ n → take a (take n xs) ≡ take a xs
front_of_front zero n xs within = refl
front_of_front (suc a) zero xs within = absurd (none_below a within)
  where
    none_below : (a : ℕ) → suc a ≤ 0 → ⊥
    none_below a h = omega (arith, h)
front_of_front (suc a) (suc n) [] within = refl
front_of_front (suc a) (suc n) (x ∷ xs) within =
    ap (λ z. x ∷ z) (front_of_front a n xs (omega (arith, within)))

front_of_more : {X : Type 0} (a : ℕ) (xs ys : List X)
    → take (min a (length xs)) (xs ++ ys) ≡ take a xs
front_of_more a xs ys = take-append-le (min a (length xs)) xs ys (omega arith) ∙ take_min a xs

-- what widens no process before widens none in a front
pub up_to_front : (a n k : ℕ) (kept : List Kept) → IsNarrowTo (drop a kept) k
    → IsNarrowTo (drop a (take n kept)) k
up_to_front zero zero k kept up = tt
up_to_front (suc a) zero k kept up = tt
up_to_front zero (suc n) k [] up = tt
up_to_front zero (suc n) k (Given x ∷ kept) up = tt
up_to_front zero (suc n) k (Wider s ∷ kept) up = up
up_to_front zero (suc n) k (Succeeds o ∷ kept) up = up
up_to_front (suc a) (suc n) k [] up = tt
up_to_front (suc a) (suc n) k (x ∷ kept) up = up_to_front a n k kept up

-- nor in what is kept with more that widens none
up_to_more : (a b k : ℕ) (kept more : List Kept) → b ≡ min a (length kept)
    → IsNarrowTo (drop a kept) k → IsNarrowTo more k → IsNarrowTo (drop b (kept ++ more)) k
up_to_more a zero k [] more e up up' = up'
up_to_more a (suc b) k [] more e up up' = absurd (omega (arith, e))
up_to_more zero zero k (Given x ∷ kept) more e up up' = tt
up_to_more zero zero k (Wider s ∷ kept) more e up up' = up
up_to_more zero zero k (Succeeds o ∷ kept) more e up up' = up
up_to_more zero (suc b) k (x ∷ kept) more e up up' = absurd (omega (arith, e))
up_to_more (suc a) zero k (x ∷ kept) more e up up' = absurd (omega (arith, e))
up_to_more (suc a) (suc b) k (x ∷ kept) more e up up' =
    up_to_more a b k kept more (omega (arith, e)) up up'

pub up_to_behind : (a k : ℕ) (kept more : List Kept) → a ≤ length kept
    → IsNarrowTo (drop a kept) k → IsNarrowTo more k → IsNarrowTo (drop a (kept ++ more)) k
up_to_behind a k kept more within up up' =
    up_to_more a a k kept more (omega (arith, within)) up up'

-- nor does what a question adds
pub said_widens_none : (said : SourceSaid) (fits : Bool) (k : ℕ)
    → IsNarrowTo (kept_of_said said fits) k
said_widens_none (Ok (Some a)) true k = tt
said_widens_none (Ok (Some a)) false k = tt
said_widens_none (Ok None) fits k = tt
said_widens_none (Err e) fits k = tt

-- ---- no answers

abbrev pub no_answer : List Kept
no_answer = []

pub front_of_none : (n : ℕ) → take n no_answer ≡ no_answer
front_of_none zero = refl
front_of_none (suc n) = refl

pub none_widens : (n k : ℕ) → IsNarrowTo (drop n no_answer) k
none_widens zero k = tt
none_widens (suc n) k = tt

-- ---- what is kept more

-- a line stays the line of its number where a front is kept that is after it
pub line_of_front : (m : Module) (config : Settings) (kept : List Kept) (i answers a : ℕ)
    (line : Line) → IsValid m → IsLine m config kept i line → a ≤ answers
    → AnswersBehindLine m config kept i a
    → IsLine m config (take answers kept) i line
line_of_front m config kept i answers a line valid is within behind =
    let on = fronts_lead_on m config kept is.answers a is.steps behind.steps is.process
    behind.process valid is.reached behind.reached is.up_to behind.up_to in
    record {
      answers = a;
      steps = behind.steps;
      process = behind.process;
      reached = subst (λ z. Reaches m config z behind.steps behind.process)
          (sym (front_of_front a answers kept within)) behind.reached;
      up_to = up_to_front a answers behind.steps kept behind.up_to;
      place = is.place;
      counted = is.counted;
      is = line_stays is.reached.guest is.process behind.process (take is.answers kept)
          (take a kept) is.place line on is.is
          (emitted_there is.place i (length behind.process.host.lines) is.counted behind.emitted);
    }
  where
    emitted_there : (place i n : ℕ) → i ≡ place + 1 → i ≤ n → place < n
    emitted_there place i n e within = omega arith

-- and where more is kept that widens no process up to there
pub line_of_more : (m : Module) (config : Settings) (kept more : List Kept) (i : ℕ) (line : Line)
    → (is : IsLine m config kept i line) → IsNarrowTo more is.steps
    → IsLine m config (kept ++ more) i line
line_of_more m config kept more i line is up = record {
  answers = min is.answers (length kept);
  steps = is.steps;
  process = is.process;
  reached = subst (λ z. Reaches m config z is.steps is.process)
      (sym (front_of_more is.answers kept more)) is.reached;
  up_to = up_to_more is.answers (min is.answers (length kept)) is.steps kept more refl is.up_to up;
  place = is.place;
  counted = is.counted;
  is = is.is;
}
