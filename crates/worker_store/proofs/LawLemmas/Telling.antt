-- Lines that are released one after another.
use Rattle.std.proofs.Common.{◌≡◌, ℕ, zero, suc, ◌+◌, ◌≤◌, max, List, [], ◌∷◌, ◌++◌, length}
use Rattle.std.proofs.Common.{map, drop, refl, sym, ap, subst, arith, Bool, true, false}
use Rattle.std.proofs.Common.{Some, Ok, Err, ⊎_elim, ◌<◌}
use Rattle.std.specs.Prelude.{slice_get}
use Rattle.std.proofs.Math.Nat.{le-max_left, le-max_right, max-eq_left, max-eq_right, le_trans}
use Rattle.std.proofs.lemmas.List.{length-drop}
use Rattle.std.proofs.lemmas.Option.{slice_get_within}
use Rattle.wasm_syntax.specs.declared.module.Module.{Module}
use Rattle.wasi_abi.specs.rules.Configs.{Settings}
use Rattle.wasi_calls_rules.specs.WasiStates.{Line}
use Rattle.process_rules.specs.Processes.{ProcessState, Guest}
use Rattle.record_replay.specs.rules.Calls.{Exchange, Begun, Tells, all_taken}
use Rattle.worker_store.specs.restart_theorem.Lives.{Act, Release, Told, OfOutlet}
use Rattle.worker_store.specs.restart_theorem.Courses.{Stage, Phase, Broken, first_taken}
use Rattle.worker_store.specs.restart_theorem.Courses.{next_stage}
use Rattle.worker_store.specs.restart_theorem.Promises.{Promise, heard_by, after, IsTelling}
use Rattle.worker_store.specs.restart_theorem.Exchanges.{was_taken, release_of, none, told}
use Rattle.worker_store.specs.laws.Underway.{IsUnderWay, IsBroken, HasLinesLeft, standstill}
use Rattle.worker_store.specs.rules.BetweenCalls.{IsForetold}
use Rattle.worker_store.specs.laws.Telling.{AddsLines, ArePerformed, AllLinesAreTold}
use Rattle.worker_store.specs.laws.Telling.{LinesAreToldInVain, LeftLinesAreTold}
use Rattle.worker_store.specs.laws.Telling.{LeftLinesAreToldInVain}
use Rattle.worker_store.proofs.LawLemmas.Underway.{lines_are_told, taken_lines_go_on}
use Rattle.worker_store.proofs.LawLemmas.Underway.{refused_lines_break, left_lines_are_told}
use Rattle.worker_store.proofs.LawLemmas.Underway.{taken_lines_are_left, refused_lines_break_off}

pub max_within : (a b c : ℕ) → a ≤ c → b ≤ c → max a b ≤ c
max_within a b c x y =
    ⊎_elim (λ (h : a ≤ b). subst (λ z. z ≤ c) (sym (max-eq_right h)) y)
    (λ (h : b < a). subst (λ z. z ≤ c) (sym (max-eq_left (omega (arith, h)))) x) (grind arith)

-- nothing is added where nothing was done
pub adds_none : (promise : Promise) (line : ℕ) → AddsLines promise line promise
adds_none promise line = record {
  kept = refl;
  answers = refl;
  steps = refl;
  passed = refl;
  synced = refl;
  created = refl;
  opened = refl;
  begun = le-max_right line promise.begun;
  heard = omega arith;
  events = omega arith;
}

-- a line more, and then others
pub adds_more : (promise promise' : Promise) (r : Release) (is_taken : Bool) (line : ℕ)
    → r.number ≤ line → AddsLines (after promise (Told r is_taken)) line promise'
    → AddsLines promise line promise'
adds_more promise promise' r is_taken line few adds = record {
  kept = adds.kept;
  answers = adds.answers;
  steps = adds.steps;
  passed = adds.passed;
  synced = adds.synced;
  created = adds.created;
  opened = adds.opened;
  begun = le_trans adds.begun (max_within line (max r.number promise.begun)
      (max line promise.begun) (le-max_left line promise.begun)
      (max_within r.number promise.begun (max line promise.begun)
      (le_trans few (le-max_left line promise.begun)) (le-max_right line promise.begun)));
  heard = le_trans (le-max_right (heard_by is_taken r.number) promise.heard) adds.heard;
  events = (let e = adds.events in omega (arith, e));
}

-- a line and what is after it
pub is_next : (lines rest : List Line) (line : Line) (place : ℕ) → drop place lines ≡ line ∷ rest
    → (slice_get lines place ≡ Some line) × (drop (place + 1) lines ≡ rest)
is_next [] rest line zero is = absurd cc
is_next [] rest line (suc k) is = absurd cc
is_next (x ∷ lines) rest line zero is = (cc, cc)
is_next (x ∷ lines) rest line (suc k) is =
    let next = is_next lines rest line k is in
    let one : suc (k + 1) ≡ suc k + 1 = omega arith in
    (next.0, subst (λ n. drop n (x ∷ lines) ≡ rest) one next.1)

pub all_dropped : (lines : List Line) (place : ℕ) → place ≤ length lines → drop place lines ≡ []
    → place ≡ length lines
all_dropped lines place few is =
    let none : length (drop place lines) ≡ 0 = ap length is in
    omega (arith, few, none, length-drop place lines)

-- lines that were taken, and one of this number that was refused
abbrev pub until : ℕ → ℕ → List Line → Line → List Begun
until number last first line =
    all_taken number first ++ (record {
      number = last;
      line = line;
      said = Err (record {});
    } ∷ [])

module _ (m : Module) (config : Settings) (guest : Guest) where
  -- a release that was made, and then others
  abbrev pub performed_more : (promise : Promise) (stage : Stage) (line : ℕ) (begun : Begun)
      (rest : List Exchange) → begun.number ≤ line
      → IsTelling m config promise stage (release_of begun) (was_taken begun.said)
      → ArePerformed m config (after promise (Told (release_of begun) (was_taken begun.said)))
      (next_stage stage (Told (release_of begun) (was_taken begun.said))) line rest
      → ArePerformed m config promise stage line (Tells begun ∷ rest)
  performed_more promise stage line begun rest few is made = record {
    promise' = made.promise';
    stage' = made.stage';
    done = record {
      events = Told (release_of begun) (was_taken begun.said) ∷ made.done.events;
      are = told made.done.are;
      kept = (is, made.done.kept);
      promised_is = made.done.promised_is;
      stage_is = made.done.stage_is;
    };
    adds = adds_more promise made.promise' (release_of begun) (was_taken begun.said) line few
        made.adds;
  }

  abbrev pub performed_none : (promise : Promise) (stage : Stage) (line : ℕ)
      → ArePerformed m config promise stage line []
  performed_none promise stage line = record {
    promise' = promise;
    stage' = stage;
    done = record {
      events = [];
      are = none;
      kept = tt;
      promised_is = refl;
      stage_is = refl;
    };
    adds = adds_none promise line;
  }

-- ---- what a worker has come to that tells lines

-- A worker has told so many lines, and each next one is told, whether the outlet takes it or not.
-- After one that was taken it has told one more, and one that was refused fails the call.
record CanTell (m : Module) (config : Settings) (guest : Guest) (act : Act) (p : ProcessState)
    (HasTold : Promise → Stage → ℕ → Type 0) : Type 0 where
  emitted : (promise : Promise) (stage : Stage) (told : ℕ) → HasTold promise stage told
      → told ≤ length p.host.lines
  tells : (promise : Promise) (stage : Stage) (told : ℕ) (line : Line)
      → HasTold promise stage told → slice_get p.host.lines told ≡ Some line
      → IsTelling m config promise stage (record { number = told + 1; line = line })
      (first_taken stage.takes)
  goes_on : (promise : Promise) (stage : Stage) (told : ℕ) (line : Line)
      → HasTold promise stage told → slice_get p.host.lines told ≡ Some line
      → HasTold (after promise (Told (record { number = told + 1; line = line }) true))
      (next_stage stage (Told (record { number = told + 1; line = line }) true)) (told + 1)
  breaks : (promise : Promise) (stage : Stage) (told : ℕ) (r : Release)
      → HasTold promise stage told → r.number ≤ length p.host.lines
      → IsBroken m config guest (after promise (Told r false)) (next_stage stage (Told r false)) act
      (standstill (length promise.kept) p (Broken OfOutlet))

module _ (m : Module) (config : Settings) (guest : Guest) (act : Act) (p : ProcessState)
    (HasTold : Promise → Stage → ℕ → Type 0) (can : CanTell m config guest act p HasTold) where
  -- ---- one line

  -- the line at a place, which counts from 0, is that of the number after it
  one_told : (promise : Promise) (stage : Stage) (place : ℕ) (line : Line) (number : ℕ)
      (is_taken : Bool) → number ≡ place + 1 → is_taken ≡ first_taken stage.takes
      → HasTold promise stage place → slice_get p.host.lines place ≡ Some line
      → IsTelling m config promise stage (record { number = number; line = line }) is_taken
  one_told promise stage place line number is_taken same heard way is =
      subst (λ t. IsTelling m config promise stage (record { number = number; line = line }) t)
      (sym heard)
      (subst (λ n. IsTelling m config promise stage (record { number = n; line = line })
      (first_taken stage.takes)) (sym same) (can.tells promise stage place line way is))

  one_taken : (promise : Promise) (stage : Stage) (place : ℕ) (line : Line) (number : ℕ)
      → number ≡ place + 1 → HasTold promise stage place
      → slice_get p.host.lines place ≡ Some line
      → HasTold (after promise (Told (record { number = number; line = line }) true))
      (next_stage stage (Told (record { number = number; line = line }) true)) (place + 1)
  one_taken promise stage place line number same way is =
      subst (λ n. HasTold (after promise (Told (record { number = n; line = line }) true))
      (next_stage stage (Told (record { number = n; line = line }) true)) (place + 1))
      (sym same) (can.goes_on promise stage place line way is)

  -- ---- all of them

  told_from : (promise : Promise) (stage : Stage) (place : ℕ) (lines : List Line) (number : ℕ)
      → number ≡ place + 1 → HasTold promise stage place → drop place p.host.lines ≡ lines
      → IsForetold stage (map Tells (all_taken number lines))
      → (made : ArePerformed m config promise stage (length p.host.lines)
      (map Tells (all_taken number lines)))
      × HasTold made.promise' made.stage' (length p.host.lines)
  told_from promise stage place [] number same way is foretold = (
    performed_none m config guest promise stage (length p.host.lines),
    subst (λ k. HasTold promise stage k)
        (all_dropped p.host.lines place (can.emitted promise stage place way) is) way,
  )
  told_from promise stage place (line ∷ lines) number same way is foretold =
      let next = is_next p.host.lines lines line place is in
      let inside : place < length p.host.lines =
      slice_get_within p.host.lines place line next.0 in
      let r : Release = record { number = number; line = line } in
      let rest = told_from (after promise (Told r true)) (next_stage stage (Told r true))
      (place + 1) lines (number + 1) (ap (λ n. n + 1) same)
      (one_taken promise stage place line number same way next.0) next.1 foretold.1 in (
        performed_more m config guest promise stage (length p.host.lines)
            (record { number = number; line = line; said = Ok tt })
            (map Tells (all_taken (number + 1) lines)) (omega (arith, same, inside))
            (one_told promise stage place line number true same foretold.0 way next.0)
            rest.0,
        rest.1,
      )

  -- ---- up to one that is refused

  told_until : (promise : Promise) (stage : Stage) (place : ℕ) (first others : List Line)
      (line : Line) (number last : ℕ) → number ≡ place + 1 → last ≡ number + length first
      → HasTold promise stage place → drop place p.host.lines ≡ first ++ (line ∷ others)
      → IsForetold stage (map Tells (until number last first line))
      → (made : ArePerformed m config promise stage (length p.host.lines)
      (map Tells (until number last first line)))
      × IsBroken m config guest made.promise' made.stage' act
      (standstill (length promise.kept) p (Broken OfOutlet))
  told_until promise stage place [] others line number last same at way is foretold =
      let next = is_next p.host.lines others line place is in
      let inside : place < length p.host.lines =
      slice_get_within p.host.lines place line next.0 in
      let r : Release = record { number = last; line = line } in
      let here : last ≡ place + 1 = omega (arith, at, same) in (
        performed_more m config guest promise stage (length p.host.lines)
            (record { number = last; line = line; said = Err (record {}) }) []
            (omega (arith, here, inside))
            (one_told promise stage place line last false here foretold.0 way next.0)
            (performed_none m config guest (after promise (Told r false))
            (next_stage stage (Told r false)) (length p.host.lines)),
        can.breaks promise stage place r way (omega (arith, here, inside)),
      )
  told_until promise stage place (x
      ∷ first) others line number last same at way is foretold =
      let next = is_next p.host.lines (first ++ (line ∷ others)) x place is in
      let inside : place < length p.host.lines =
      slice_get_within p.host.lines place x next.0 in
      let r : Release = record { number = number; line = x } in
      let rest = told_until (after promise (Told r true)) (next_stage stage (Told r true))
      (place + 1) first others line (number + 1) last (ap (λ n. n + 1) same)
      (omega (arith, at)) (one_taken promise stage place x number same way next.0) next.1
      foretold.1 in (
        performed_more m config guest promise stage (length p.host.lines)
            (record { number = number; line = x; said = Ok tt })
            (map Tells (until (number + 1) last first line)) (omega (arith, same, inside))
            (one_told promise stage place x number true same foretold.0 way next.0) rest.0,
        rest.1,
      )

-- ---- an act that goes on, or a batch behind its last question

module _ (m : Module) (config : Settings) (guest : Guest) (act : Act) (p : ProcessState) where
  abbrev GoesOn : Promise → Stage → ℕ → Type 0
  GoesOn = λ promise stage told. IsUnderWay m config guest promise stage act told p

  tells_on : CanTell m config guest act p GoesOn
  tells_on = record {
    emitted = λ promise stage told way. way.emitted;
    tells = λ promise stage told line way is.
        lines_are_told m config guest promise stage act told p line way is;
    goes_on = λ promise stage told line way is.
        taken_lines_go_on m config guest promise stage act told p line way is;
    breaks = λ promise stage told r way among.
        refused_lines_break m config guest promise stage act told p r way among;
  }

  abbrev IsLeft : Phase → Promise → Stage → ℕ → Type 0
  IsLeft phase = λ promise stage told.
      HasLinesLeft m config guest promise stage act told p × (stage.phase ≡ phase)

  tells_rest : (phase : Phase) → CanTell m config guest act p (IsLeft phase)
  tells_rest phase = record {
    emitted = λ promise stage told left. left.0.emitted;
    tells = λ promise stage told line left is.
        left_lines_are_told m config guest promise stage act told p line left.0 is;
    goes_on = λ promise stage told line left is. (
      taken_lines_are_left m config guest promise stage act told p line left.0 is,
      left.1,
    );
    breaks = λ promise stage told r left among.
        refused_lines_break_off m config guest promise stage act told p r left.0 among;
  }

module _ (m : Module) (config : Settings) (guest : Guest) where
  pub all_lines_are_told : AllLinesAreTold m config guest
  all_lines_are_told promise stage act count p lines way is foretold =
      told_from m config guest act p (GoesOn m config guest act p)
      (tells_on m config guest act p) promise stage count lines (suc count) (omega arith) way is
      foretold

  pub lines_are_told_in_vain : LinesAreToldInVain m config guest
  lines_are_told_in_vain promise stage act count p first others line way is foretold =
      told_until m config guest act p (GoesOn m config guest act p)
      (tells_on m config guest act p) promise stage count first others line (suc count)
      (suc count + length first) (omega arith) refl way is foretold

  pub rest_is_told : LeftLinesAreTold m config guest
  rest_is_told promise stage act count p lines left is foretold =
      let made = told_from m config guest act p (IsLeft m config guest act p stage.phase)
      (tells_rest m config guest act p stage.phase) promise stage count lines (suc count)
      (omega arith) (left, refl) is foretold in
      (made.0, made.1.0, made.1.1)

  pub rest_is_told_in_vain : LeftLinesAreToldInVain m config guest
  rest_is_told_in_vain promise stage act count p first others line left is foretold =
      told_until m config guest act p (IsLeft m config guest act p stage.phase)
      (tells_rest m config guest act p stage.phase) promise stage count first others line
      (suc count) (suc count + length first) (omega arith) refl (left, refl) is foretold
