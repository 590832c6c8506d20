-- What an upgrade adds to what is kept.
use Rattle.std.proofs.Common.{◌≡◌, ◌≢◌, ◌⊎◌, inl, inr, ⊎_elim, ℕ, zero, suc, ◌+◌, ◌<◌, ◌≤◌, List}
use Rattle.std.proofs.Common.{[], ◌∷◌, ◌++◌, length, take, drop, Some, refl, sym, ap, ◌∙◌, subst}
use Rattle.std.proofs.Common.{arith, length-append, take_all}
use Rattle.std.proofs.lemmas.List.{take-append-le}
use Rattle.std.proofs.Math.Seq.{take-length}
use Rattle.wasm_syntax.specs.declared.module.Module.{Module}
use Rattle.wasm_rules.specs.Validity.{IsValid}
use Rattle.wasi_abi.specs.declared.version.Version.{Version}
use Rattle.wasi_abi.specs.declared.version.Version.TheVariants.{One, Two}
use Rattle.wasi_abi.specs.rules.Configs.{Settings}
use Rattle.wasi_calls_rules.specs.WasiStates.{Line}
use Rattle.process_rules.specs.Processes.{ProcessState, Guest}
use Rattle.process_rules.specs.Origins.{succeeding}
use Rattle.process_rules.specs.Runs.{Kept, Given, Wider, Succeeds, widened, version_after}
use Rattle.process_rules.specs.Runs.{IsWidening, Moves, Runs, Reaches, none, step, take as takes}
use Rattle.process_rules.specs.Runs.{widen, succeed}
use Rattle.process_rules.specs.Behind.{IsNarrowTo, AnswersBehindSync, IsLine}
use Rattle.process_rules.proofs.Growing.{runs_count}
use Rattle.process_rules.proofs.ReachedStates.{reached_versions}
use Rattle.process_rules.proofs.Quiet.{runs_join}
use Rattle.state_image.specs.rules.ProcessImage.{Saved}
use Rattle.worker_store.specs.restart_theorem.Lives.{Act, Slice, Batch, Checkpoint, Upgrade, Reply}
use Rattle.worker_store.specs.restart_theorem.Lives.{kept_by_widening, kept_by_end}
use Rattle.worker_store.specs.restart_theorem.Courses.{Stage}
use Rattle.worker_store.specs.restart_theorem.Promises.{Promise, IsAt, MayWiden, IsEnding}
use Rattle.worker_store.specs.restart_theorem.laws.Upgrades.{IsWidened, EndsWidenOnce}
use Rattle.worker_store.proofs.RestartLemmas.Fronts.{fronts_lead_on, reached_counts, line_stays}
use Rattle.worker_store.proofs.RestartLemmas.Fronts.{line_of_more, up_to_behind}

-- ---- versions of what is kept

pub one_is_not_two : (v : Version) → v ≡ One → v ≡ Two → ⊥
one_is_not_two One e f = absurd (cc)
one_is_not_two Two e f = absurd (cc)

-- a longer front is as wide, also of a front
pub wide_cut : (a b c : ℕ) (kept : List Kept) → a ≤ b → a ≤ c → version_after (take a kept) ≡ Two
    → version_after (take b (take c kept)) ≡ Two
wide_cut zero b c [] h k wide = absurd (one_is_not_two One refl wide)
wide_cut zero b c (x ∷ kept) h k wide = absurd (one_is_not_two One refl wide)
wide_cut (suc a) zero c kept h k wide = absurd (omega (arith, h))
wide_cut (suc a) (suc b) zero kept h k wide = absurd (omega (arith, k))
wide_cut (suc a) (suc b) (suc c) [] h k wide = absurd (one_is_not_two One refl wide)
wide_cut (suc a) (suc b) (suc c) (Given x ∷ kept) h k wide =
    wide_cut a b c kept (omega (arith, h)) (omega (arith, k)) wide
wide_cut (suc a) (suc b) (suc c) (Succeeds o ∷ kept) h k wide =
    wide_cut a b c kept (omega (arith, h)) (omega (arith, k)) wide
wide_cut (suc a) (suc b) (suc c) (Wider s ∷ kept) h k wide = refl

pub wide_longer : (a b : ℕ) (kept : List Kept) → a ≤ b → version_after (take a kept) ≡ Two
    → version_after (take b kept) ≡ Two
wide_longer zero b [] h wide = absurd (one_is_not_two One refl wide)
wide_longer zero b (x ∷ kept) h wide = absurd (one_is_not_two One refl wide)
wide_longer (suc a) zero kept h wide = absurd (omega (arith, h))
wide_longer (suc a) (suc b) [] h wide = absurd (one_is_not_two One refl wide)
wide_longer (suc a) (suc b) (Given x ∷ kept) h wide = wide_longer a b kept (omega (arith, h)) wide
wide_longer (suc a) (suc b) (Succeeds o ∷ kept) h wide =
    wide_longer a b kept (omega (arith, h)) wide
wide_longer (suc a) (suc b) (Wider s ∷ kept) h wide = refl

-- so are all of them, and those with more
pub wide_whole : (a : ℕ) (kept : List Kept) → version_after (take a kept) ≡ Two
    → version_after kept ≡ Two
wide_whole zero [] wide = absurd (one_is_not_two One refl wide)
wide_whole zero (x ∷ kept) wide = absurd (one_is_not_two One refl wide)
wide_whole (suc a) [] wide = absurd (one_is_not_two One refl wide)
wide_whole (suc a) (Given x ∷ kept) wide = wide_whole a kept wide
wide_whole (suc a) (Succeeds o ∷ kept) wide = wide_whole a kept wide
wide_whole (suc a) (Wider s ∷ kept) wide = refl

pub wide_more : (a : ℕ) (kept more : List Kept) → version_after (take a kept) ≡ Two
    → version_after (take a (kept ++ more)) ≡ Two
wide_more zero [] more wide = absurd (one_is_not_two One refl wide)
wide_more zero (x ∷ kept) more wide = absurd (one_is_not_two One refl wide)
wide_more (suc a) [] more wide = absurd (one_is_not_two One refl wide)
wide_more (suc a) (Given x ∷ kept) more wide = wide_more a kept more wide
wide_more (suc a) (Succeeds o ∷ kept) more wide = wide_more a kept more wide
wide_more (suc a) (Wider s ∷ kept) more wide = refl

-- a prefix of what doesn't widen doesn't, nor do two such
pub narrow_front : (a : ℕ) (kept : List Kept) → version_after kept ≡ One
    → version_after (take a kept) ≡ One
narrow_front zero [] narrow = refl
narrow_front zero (x ∷ kept) narrow = refl
narrow_front (suc a) [] narrow = refl
narrow_front (suc a) (Given x ∷ kept) narrow = narrow_front a kept narrow
narrow_front (suc a) (Succeeds o ∷ kept) narrow = narrow_front a kept narrow
narrow_front (suc a) (Wider s ∷ kept) narrow = absurd (one_is_not_two Two narrow refl)

pub narrow_more : (kept more : List Kept) → version_after kept ≡ One → version_after more ≡ One
    → version_after (kept ++ more) ≡ One
narrow_more [] more narrow behind = behind
narrow_more (Given x ∷ kept) more narrow behind = narrow_more kept more narrow behind
narrow_more (Succeeds o ∷ kept) more narrow behind = narrow_more kept more narrow behind
narrow_more (Wider s ∷ kept) more narrow behind = absurd (one_is_not_two Two narrow refl)

-- what is shown has the version to which its answers lead
pub at_version : (m : Module) (config : Settings) (kept : List Kept) (n : ℕ) (s : Saved)
    → IsAt m config kept n s → s.version ≡ version_after kept
at_version m config kept n s at =
    at.shown.version ∙ reached_versions m config kept n at.process at.reached

-- ---- runs that end with a widening

-- a run led to this process, which was then widened
record WasWidened (guest : Guest) (s : ProcessState) (kept : List Kept) (n : ℕ) (r : ProcessState)
    : Type 0 where
  before : ProcessState
  runs : Runs guest s kept n before
  is : r ≡ widened before

pub nowhere : (guest : Guest) (p q : ProcessState) (kept : List Kept) (n : ℕ) → n ≡ 0 → kept ≡ []
    → Runs guest p kept n q → q ≡ p
nowhere guest p q kept n e f none = refl
nowhere guest p q kept n e f (step moves rest) = absurd (omega (arith, e))
nowhere guest p q kept n e f (takes moves rest) = absurd (omega (arith, e))
nowhere guest p q kept n e f (widen at rest) = absurd (cc)
nowhere guest p q kept n e f (succeed at sum rest) = absurd (cc)

was_widened : (guest : Guest) (s r : ProcessState) (whole kept : List Kept) (n steps : ℕ)
    → Runs guest s whole n r → whole ≡ kept ++ Wider steps ∷ [] → steps ≡ r.steps
    → WasWidened guest s kept n r
was_widened guest s r whole [] n steps none e at = absurd (cc)
was_widened guest s r whole (x ∷ kept) n steps none e at = absurd (cc)
was_widened guest s r whole kept n steps
    (step {p = s'} {q = next} {kept = whole'} {n = m} moves rest) e at =
    let was = was_widened guest next r whole' kept m steps rest e at in
    record { before = was.before; runs = step moves was.runs; is = was.is }
was_widened guest s r whole [] n steps (takes moves rest) e at = absurd (cc)
was_widened guest s r whole (Wider t ∷ kept) n steps (takes moves rest) e at = absurd (cc)
was_widened guest s r whole (Succeeds o ∷ kept) n steps (takes moves rest) e at = absurd (cc)
was_widened guest s r whole (Given b ∷ kept) n steps
    (takes {p = s'} {q = next} {a = a} {kept = whole'} {n = m} moves rest) e at =
    let same : a ≡ b = cc in
    let others : whole' ≡ kept ++ Wider steps ∷ [] = cc in
    let was = was_widened guest next r whole' kept m steps rest others at in
    record {
      before = was.before;
      runs = takes (subst (λ z. Moves guest s' (Some z) next) same moves) was.runs;
      is = was.is;
    }
was_widened guest s r whole [] n steps
    (widen {p = s'} {steps = t} {kept = whole'} {n = m} here rest) e at =
    let same : t ≡ steps = cc in
    let nothing : whole' ≡ [] = cc in
    let counted : r.steps ≡ s'.steps + m = runs_count guest (widened s') r whole' m rest in
    let there = here.at in
    let none_left : m ≡ 0 = omega (arith, same, counted, there, at) in
    record {
      before = s';
      runs = subst (λ k. Runs guest s' [] k s') (sym none_left) none;
      is = nowhere guest (widened s') r whole' m none_left nothing rest;
    }
was_widened guest s r whole (Given b ∷ kept) n steps (widen here rest) e at = absurd (cc)
was_widened guest s r whole (Succeeds o ∷ kept) n steps (widen here rest) e at = absurd (cc)
was_widened guest s r whole (Wider u ∷ kept) n steps
    (widen {p = s'} {steps = t} {kept = whole'} {n = m} here rest) e at =
    let same : t ≡ u = cc in
    let others : whole' ≡ kept ++ Wider steps ∷ [] = cc in
    let was = was_widened guest (widened s') r whole' kept m steps rest others at in
    record {
      before = was.before;
      runs = widen (subst (λ z. IsWidening s' z) same here) was.runs;
      is = was.is;
    }
was_widened guest s r whole [] n steps (succeed here sum rest) e at = absurd (cc)
was_widened guest s r whole (Given b ∷ kept) n steps (succeed here sum rest) e at = absurd (cc)
was_widened guest s r whole (Wider u ∷ kept) n steps (succeed here sum rest) e at = absurd (cc)
was_widened guest s r whole (Succeeds from ∷ kept) n steps
    (succeed {p = s'} {o = o} {kept = whole'} {n = n'} {k = m} here sum rest) e at =
    let same : o ≡ from = cc in
    let others : whole' ≡ kept ++ Wider steps ∷ [] = cc in
    let was = was_widened guest (succeeding o s') r whole' kept m steps rest others at in
    record {
      before = was.before;
      runs = subst (λ z. Runs guest s' (Succeeds z ∷ kept) n' was.before) same
          (succeed here sum was.runs);
      is = was.is;
    }

-- what is shown after so many steps, widened there
pub widened_at : (m : Module) (config : Settings) (kept : List Kept) (n : ℕ) (s : Saved)
    → s.version ≡ One → IsAt m config kept n s
    → IsAt m config (kept ++ Wider n ∷ []) n
    (record s { version = Two; answers = s.answers + 1 })
widened_at m config kept n s one at =
    let p : ProcessState = at.process in
    let r = at.reached in
    let shown = at.shown in
    let counted : p.steps ≡ n = reached_counts m config kept n p r in
    let whole : Runs r.guest r.start (kept ++ Wider n ∷ []) (n + 0) (widened p) =
    runs_join r.guest r.start p (widened p) kept (Wider n ∷ []) n 0 r.runs
    (widen (record { narrow = sym shown.version ∙ one; at = sym counted }) none) in
    record {
      process = widened p;
      reached = record {
        guest = r.guest;
        start = r.start;
        begins = r.begins;
        runs = subst (λ k. Runs r.guest r.start (kept ++ Wider n ∷ []) k (widened p))
            (plus_none n) whole;
      };
      functions = at.functions;
      function_types = at.function_types;
      table = at.table;
      shown = record {
        version = refl;
        machine = shown.machine;
        files = shown.files;
        descriptors = shown.descriptors;
        unread = shown.unread;
        input_ended = shown.input_ended;
        last_monotonic = shown.last_monotonic;
        first = shown.first;
        second = shown.second;
        steps = shown.steps;
        answers = ap (λ (a : ℕ). a + 1) shown.answers;
        requests = shown.requests;
        lines = shown.lines;
        ended = shown.ended;
      };
    }
  where
    plus_none : (n : ℕ) → n + 0 ≡ n
    plus_none n = omega arith

-- a run that widens a process has come to its step
pub past_widening : (guest : Guest) (s p : ProcessState) (whole front rest : List Kept) (n w : ℕ)
    → Runs guest s whole n p → whole ≡ front ++ Wider w ∷ rest → w ≤ p.steps
past_widening guest s p whole [] rest n w none e = absurd (cc)
past_widening guest s p whole (x ∷ front) rest n w none e = absurd (cc)
past_widening guest s p whole front rest n w
    (step {p = s'} {q = next} {kept = whole'} {n = m} moves others) e =
    past_widening guest next p whole' front rest m w others e
past_widening guest s p whole [] rest n w (takes moves others) e = absurd (cc)
past_widening guest s p whole (x ∷ front) rest n w
    (takes {p = s'} {q = next} {kept = whole'} {n = m} moves others) e =
    let behind : whole' ≡ front ++ Wider w ∷ rest = cc in
    past_widening guest next p whole' front rest m w others behind
past_widening guest s p whole [] rest n w
    (widen {p = s'} {steps = t} {kept = whole'} {n = m} here others) e =
    let same : t ≡ w = cc in
    let counted : p.steps ≡ s'.steps + m = runs_count guest (widened s') p whole' m others in
    let there = here.at in
    omega (arith, same, counted, there)
past_widening guest s p whole (x ∷ front) rest n w
    (widen {p = s'} {kept = whole'} {n = m} here others) e =
    let behind : whole' ≡ front ++ Wider w ∷ rest = cc in
    past_widening guest (widened s') p whole' front rest m w others behind
past_widening guest s p whole [] rest n w (succeed here sum others) e = absurd (cc)
past_widening guest s p whole (x ∷ front) rest n w
    (succeed {p = s'} {o = o} {kept = whole'} {k = m} here sum others) e =
    let behind : whole' ≡ front ++ Wider w ∷ rest = cc in
    past_widening guest (succeeding o s') p whole' front rest m w others behind

-- ---- the end of a call

same_by : (before now : Version) (steps : ℕ) (kept : List Kept)
    → (kept_by_widening before now steps kept ≡ kept) ⊎ ((before ≡ One) × (now ≡ Two))
same_by One One steps kept = inl refl
same_by One Two steps kept = inr (refl, refl)
same_by Two One steps kept = inl refl
same_by Two Two steps kept = inl refl

pub wider_by : (before now : Version) (steps : ℕ) (kept : List Kept) → before ≡ One → now ≡ Two
    → kept_by_widening before now steps kept ≡ kept ++ Wider steps ∷ []
wider_by One One steps kept e f = absurd (one_is_not_two One refl f)
wider_by One Two steps kept e f = refl
wider_by Two now steps kept e f = absurd (one_is_not_two Two e refl)

-- it adds a widening
pub record AddsWidening (act : Act) (shown : Saved) (kept : List Kept) : Type 0 where
  pub is_upgrade : act ≡ Upgrade
  pub narrow : version_after kept ≡ One
  pub wide : shown.version ≡ Two
  pub kept_is : kept_by_end act shown kept ≡ kept ++ Wider shown.steps ∷ []

-- or it adds nothing
pub end_keeps : (act : Act) (shown : Saved) (kept : List Kept)
    → (kept_by_end act shown kept ≡ kept) ⊎ AddsWidening act shown kept
end_keeps (Slice fuel) shown kept = inl refl
end_keeps (Batch fuel most) shown kept = inl refl
end_keeps Checkpoint shown kept = inl refl
end_keeps Upgrade shown kept =
    ⊎_elim
    (λ (same : kept_by_widening (version_after kept) shown.version shown.steps kept ≡ kept).
    inl same)
    (λ (both : (version_after kept ≡ One) × (shown.version ≡ Two)).
    inr (record {
      is_upgrade = refl;
      narrow = both.0;
      wide = both.1;
      kept_is = wider_by (version_after kept) shown.version shown.steps kept both.0 both.1;
    }))
    (same_by (version_after kept) shown.version shown.steps kept)

pub one_longer : (kept : List Kept) (steps : ℕ)
    → length (kept ++ Wider steps ∷ []) ≡ length kept + 1
one_longer kept steps = length-append kept (Wider steps ∷ [])

-- which is one more
pub adds_one : (act : Act) (shown : Saved) (kept : List Kept) → AddsWidening act shown kept
    → kept_by_end act shown kept ≢ kept
adds_one act shown kept adds same =
    let long : length (kept_by_end act shown kept) ≡ length kept = ap (λ l. length l) same in
    let longer : length (kept_by_end act shown kept) ≡ length (kept ++ Wider shown.steps ∷ []) =
    ap (λ l. length l) adds.kept_is in
    let one = one_longer kept shown.steps in
    omega (arith, long, longer, one)

-- A process of version 2 has taken the widening that is kept last.
pub all_taken : (kept : List Kept) (steps held : ℕ) → version_after kept ≡ One
    → version_after (take held (kept ++ Wider steps ∷ [])) ≡ Two → length kept < held
all_taken [] steps zero narrow wide = absurd (one_is_not_two One refl wide)
all_taken [] steps (suc held) narrow wide = omega arith
all_taken (x ∷ kept) steps zero narrow wide = absurd (one_is_not_two One refl wide)
all_taken (Given a ∷ kept) steps (suc held) narrow wide =
    let less = all_taken kept steps held narrow wide in
    omega (arith, less)
all_taken (Succeeds o ∷ kept) steps (suc held) narrow wide =
    let less = all_taken kept steps held narrow wide in
    omega (arith, less)
all_taken (Wider s ∷ kept) steps (suc held) narrow wide =
    absurd (one_is_not_two Two narrow refl)

module _ (m : Module) (config : Settings) where
  -- what is reached with the widening, and without it
  widening_of : (kept : List Kept) (act : Act) (held : ℕ) (shown : Saved)
      → held ≤ length (kept_by_end act shown kept)
      → IsAt m config (take held (kept_by_end act shown kept)) shown.steps shown
      → AddsWidening act shown kept → IsWidened m config kept act held shown
  widening_of kept act held shown within at adds =
      let whole : List Kept = kept ++ Wider shown.steps ∷ [] in
      let there : IsAt m config (take held whole) shown.steps shown =
      subst (λ l. IsAt m config (take held l) shown.steps shown) adds.kept_is at in
      let wide : version_after (take held whole) ≡ Two =
      sym (at_version m config (take held whole) shown.steps shown there) ∙ adds.wide in
      let more : length kept < held = all_taken kept shown.steps held adds.narrow wide in
      let longer : length (kept_by_end act shown kept) ≡ length whole =
      ap (λ l. length l) adds.kept_is in
      let one = one_longer kept shown.steps in
      let all : take held whole ≡ whole =
      take_all held whole (omega (arith, one, more)) in
      let p : ProcessState = there.process in
      let reached : Reaches m config whole shown.steps p =
      subst (λ l. Reaches m config l shown.steps p) all there.reached in
      let was = was_widened reached.guest reached.start p whole kept shown.steps shown.steps
      reached.runs refl there.shown.steps in
      let before : Reaches m config kept shown.steps was.before = record {
        guest = reached.guest;
        start = reached.start;
        begins = reached.begins;
        runs = was.runs;
      } in
      record {
        is_upgrade = adds.is_upgrade;
        kept_is = adds.kept_is;
        all = omega (arith, more, within, longer, one);
        version = adds.wide;
        process = was.before;
        reached = before;
        narrow = reached_versions m config kept shown.steps was.before before ∙ adds.narrow;
        wide = subst (λ (q : ProcessState). Reaches m config whole shown.steps q) was.is reached;
        lines = there.shown.lines ∙ ap (λ (q : ProcessState). length q.host.lines) was.is;
      }

pub ends_widen_once : EndsWidenOnce
ends_widen_once m config so_far stage act reply held shown ends differs =
    ⊎_elim
    (λ (same : kept_by_end act shown so_far.kept ≡ so_far.kept). absurd (differs same))
    (λ (adds : AddsWidening act shown so_far.kept).
    widening_of m config so_far.kept act held shown ends.within ends.at adds)
    (end_keeps act shown so_far.kept)

-- ---- lines and syncs

none_next : (kept : List Kept) (n : ℕ) → IsNarrowTo (drop (length kept) kept) n
none_next [] n = tt
none_next (x ∷ kept) n = none_next kept n

-- a line of what is kept, at a process that all of it leads to
record IsLineHere (m : Module) (config : Settings) (kept : List Kept) (i n : ℕ) (line : Line)
    : Type 0 where
  is : IsLine m config kept i line
  steps : is.steps ≡ n

line_here : (m : Module) (config : Settings) (kept : List Kept) (i n : ℕ) (line : Line)
    (q : ProcessState) → IsValid m → IsLine m config kept i line → Reaches m config kept n q
    → i ≤ length q.host.lines → IsLineHere m config kept i n line
line_here m config kept i n line q valid is reached emitted =
    let there : Reaches m config (take (length kept) kept) n q =
    subst (λ l. Reaches m config l n q) (sym (take-length kept)) reached in
    let on = fronts_lead_on m config kept is.answers (length kept) is.steps n is.process q valid
    is.reached there is.up_to (none_next kept n) in
    record {
      is = record {
        answers = length kept;
        steps = n;
        process = q;
        reached = there;
        up_to = none_next kept n;
        place = is.place;
        counted = is.counted;
        is = line_stays is.reached.guest is.process q (take is.answers kept)
            (take (length kept) kept) is.place line on is.is
            (below is.place i (length q.host.lines) is.counted emitted);
      };
      steps = refl;
    }
  where
    below : (place i n : ℕ) → i ≡ place + 1 → i ≤ n → place < n
    below place i n e within = omega (arith, e, within)

-- A line that was told stays the line of its number, since the process has emitted it that is
-- widened.
pub line_at_end : (m : Module) (config : Settings) (so_far : Promise) (stage : Stage) (act : Act)
    (reply : Reply) (held : ℕ) (shown : Saved) (i : ℕ) (line : Line) → IsValid m
    → IsEnding m config so_far stage
    (record { act = act; reply = reply; held = held; shown = shown })
    → i ≤ so_far.begun → IsLine m config so_far.kept i line
    → IsLine m config (kept_by_end act shown so_far.kept) i line
line_at_end m config so_far stage act reply held shown i line valid ends was is =
    ⊎_elim
    (λ (same : kept_by_end act shown so_far.kept ≡ so_far.kept).
    subst (λ l. IsLine m config l i line) (sym same) is)
    (λ (adds : AddsWidening act shown so_far.kept).
    let may : MayWiden config so_far shown =
    ends.widens (adds_one act shown so_far.kept adds) in
    let widened_so = widening_of m config so_far.kept act held shown ends.within ends.at adds in
    let begun = may.lines in
    let lines = widened_so.lines in
    let here = line_here m config so_far.kept i shown.steps line widened_so.process valid is
    widened_so.reached (omega (arith, was, begun, lines)) in
    subst (λ l. IsLine m config l i line) (sym adds.kept_is)
    (line_of_more m config so_far.kept (Wider shown.steps ∷ []) i line here.is
    (at_most here.is.steps shown.steps here.steps)))
    (end_keeps act shown so_far.kept)
  where
    at_most : (a b : ℕ) → a ≡ b → a ≤ b
    at_most a b e = omega (arith, e)

pub behind_more : (m : Module) (config : Settings) (kept more : List Kept) (k a : ℕ)
    → IsNarrowTo more k → AnswersBehindSync m config kept k a
    → AnswersBehindSync m config (kept ++ more) k a
behind_more m config kept more k a up behind = record {
  within = longer a kept more behind.within;
  before = behind.before;
  process = behind.process;
  reached = record {
    guest = behind.reached.guest;
    start = behind.reached.start;
    begins = behind.reached.begins;
    runs = subst (λ z. Runs behind.reached.guest behind.reached.start z behind.before
        behind.process)
        (sym (take-append-le a kept more behind.within)) behind.reached.runs;
  };
  up_to = up_to_behind a k kept more behind.within behind.up_to up;
  next = behind.next;
  syncs = behind.syncs;
}
  where
    longer : (a : ℕ) (xs ys : List Kept) → a ≤ length xs → a ≤ length (xs ++ ys)
    longer a xs ys h = rw (length-append xs ys) (omega (arith, h))

-- So does a sync that isn't beyond it.
pub sync_at_end : (m : Module) (config : Settings) (kept : List Kept) (act : Act) (shown : Saved)
    (k a : ℕ) → (kept_by_end act shown kept ≢ kept → k ≤ shown.steps)
    → AnswersBehindSync m config kept k a
    → AnswersBehindSync m config (kept_by_end act shown kept) k a
sync_at_end m config kept act shown k a early behind =
    ⊎_elim
    (λ (same : kept_by_end act shown kept ≡ kept).
    subst (λ l. AnswersBehindSync m config l k a) (sym same) behind)
    (λ (adds : AddsWidening act shown kept).
    subst (λ l. AnswersBehindSync m config l k a) (sym adds.kept_is)
    (behind_more m config kept (Wider shown.steps ∷ []) k a
    (early (adds_one act shown kept adds)) behind))
    (end_keeps act shown kept)
