-- Lines that are held, and those that wait behind them.
use Rattle.std.proofs.Common.{◌≡◌, ℕ, suc, ◌+◌, ◌≤◌, List, [], ◌++◌, length, drop, sym, ap, ◌∙◌}
use Rattle.std.proofs.Common.{◌∷◌, refl, subst, Ok, Err, arith, append_assoc}
use Rattle.std.proofs.lemmas.List.{drop_all, drop-append-le, length-drop}
use Rattle.wasi_calls_rules.specs.WasiStates.{Line}
use Rattle.wasi_calls_rules.specs.laws.Laws.{Emits}
use Rattle.process_rules.specs.Processes.{ProcessState, Guest}
use Rattle.process.specs.rules.Values.{ProcessValue, ShowsProcess, waiting_in}
use Rattle.record_replay.specs.declared.fault.OutletFault.{OutletFault}
use Rattle.record_replay.specs.rules.Calls.{Taking, Begun, Released, Releases, all_taken}
use Rattle.record_replay.specs.rules.Calls.{last_refused}
use Rattle.record_replay.specs.rules.Waiting.{first_waiting, ReleasesSome}
use Rattle.record_replay.proofs.Emitted.{released_few, waiting_behind}
use Rattle.record_replay.proofs.Following.{leads_join, lines_in_order}
use Rattle.worker.specs.BatchTurns.{RefusesOne}
use Rattle.worker.specs.DurableTurns.{to_tell}

-- none is held, and none waits
pub none_to_tell : (v : ProcessValue) (lines : List Line) → waiting_in v ≡ []
    → to_tell [] v ≡ all_taken (suc (length lines)) (drop (length lines) lines)
none_to_tell v lines none_waits =
    ap (λ z. all_taken (first_waiting v) z) none_waits
    ∙ sym (ap (λ z. all_taken (suc (length lines)) z) (drop_all (length lines) lines (omega arith)))

-- as many releases as lines
pub length_taken : (n : ℕ) (lines : List Line) → length (all_taken n lines) ≡ length lines
length_taken n [] = refl
length_taken n (line ∷ lines) =
    let others = length_taken (n + 1) lines in omega (arith, others)

-- lines that are emitted wait behind those that do
module _ (v v' : ProcessValue) (guest : Guest) (p q : ProcessState)
    (shows : ShowsProcess v guest p) (shows' : ShowsProcess v' guest q)
    (same : v'.host.released ≡ v.host.released) (emits : Emits p.host q.host) where
  wait_on : waiting_in v' ≡ waiting_in v ++ emits.lines
  wait_on =
      sym (waiting_behind v' guest q shows')
      ∙ ap (λ n. drop n q.host.lines) same
      ∙ ap (λ z. drop v.host.released z) emits.are
      ∙ drop-append-le v.host.released p.host.lines emits.lines (released_few v guest p shows)
      ∙ ap (λ z. z ++ emits.lines) (waiting_behind v guest p shows)

  -- numbers go on
  behind : (n : ℕ) → n ≤ length p.host.lines
      → all_taken (suc n) (drop n p.host.lines ++ emits.lines)
      ≡ all_taken (suc n) (drop n p.host.lines)
      ++ all_taken (suc (length p.host.lines)) emits.lines
  behind n few =
      lines_in_order (suc n) (drop n p.host.lines) emits.lines
      ∙ ap (λ k. all_taken (suc n) (drop n p.host.lines) ++ all_taken k emits.lines) (sized n few)
    where
      sized : (n : ℕ) → n ≤ length p.host.lines
          → suc n + length (drop n p.host.lines) ≡ suc (length p.host.lines)
      sized n few = let long = length-drop n p.host.lines in omega (arith, long, few)

  queue_on : all_taken (first_waiting v') (waiting_in v')
      ≡ all_taken (first_waiting v) (waiting_in v)
      ++ all_taken (suc (length p.host.lines)) emits.lines
  queue_on =
      ap (λ n. all_taken (suc n) (waiting_in v')) same
      ∙ ap (λ z. all_taken (first_waiting v) z) wait_on
      ∙ sym (ap (λ z. all_taken (first_waiting v) (z ++ emits.lines))
      (waiting_behind v guest p shows))
      ∙ behind v.host.released (released_few v guest p shows)
      ∙ ap (λ z. all_taken (first_waiting v) z
      ++ all_taken (suc (length p.host.lines)) emits.lines) (waiting_behind v guest p shows)

  pub to_tell_on : (lines_held : List Begun) (told : ℕ)
      → told + length lines_held ≡ v.host.released
      → to_tell lines_held v ≡ all_taken (suc told) (drop told p.host.lines)
      → to_tell lines_held v' ≡ all_taken (suc told) (drop told q.host.lines)
  to_tell_on lines_held told counted queued =
      let few : told ≤ length p.host.lines =
      (let most = released_few v guest p shows in omega (arith, counted, most)) in
      ap (λ z. lines_held ++ z) queue_on
      ∙ sym (append_assoc lines_held (all_taken (first_waiting v) (waiting_in v))
      (all_taken (suc (length p.host.lines)) emits.lines))
      ∙ ap (λ z. z ++ all_taken (suc (length p.host.lines)) emits.lines) queued
      ∙ sym (behind told few)
      ∙ sym (ap (λ z. all_taken (suc told) z)
      (drop-append-le told p.host.lines emits.lines few))
      ∙ sym (ap (λ z. all_taken (suc told) (drop told z)) emits.are)

-- ---- one is refused

-- lines of which one was refused, cut there
pub record IsCutAt (first : ℕ) (lines : List Line) (begun : List Begun) : Type 0 where
  pub before : List Line
  pub line : Line
  pub others : List Line
  pub are : lines ≡ before ++ (line ∷ others)
  pub begun_is : begun ≡ last_refused first before line

abbrev refused_as : Begun → OutletFault → Begun
refused_as begun fault = record begun { said = Err fault }

abbrev taken_as : ℕ → Line → Begun
taken_as number line = record { number = number; line = line; said = Ok tt }

cons_eq : (a b : Begun) (xs ys : List Begun) → a ≡ b → xs ≡ ys → a ∷ xs ≡ b ∷ ys
cons_eq a b xs ys e f = cc

pub cut_taken : (n : ℕ) (lines : List Line) (front back : List Begun) (last : Begun)
    (fault : OutletFault) → all_taken n lines ≡ front ++ (last ∷ back)
    → IsCutAt n lines (front ++ (refused_as last fault ∷ []))
cut_taken n [] [] back last fault e = absurd (cc)
cut_taken n [] (b ∷ front) back last fault e = absurd (cc)
cut_taken n (line ∷ lines) [] back last fault e =
    let same : taken_as n line ≡ last = cc in
    let here : n ≡ n + 0 = omega arith in
    record {
      before = [];
      line = line;
      others = lines;
      are = refl;
      begun_is = ap (λ (b : Begun). refused_as b fault ∷ []) (sym same)
          ∙ ap (λ (k : ℕ). refused_as (taken_as k line) fault ∷ []) here;
    }
cut_taken n (line ∷ lines) (b ∷ front) back last fault e =
    let same : taken_as n line ≡ b = cc in
    let tails : all_taken (n + 1) lines ≡ front ++ (last ∷ back) = cc in
    let rest = cut_taken (n + 1) lines front back last fault tails in
    let number : (n + 1) + length rest.before ≡ n + length (line ∷ rest.before) = omega arith in
    record {
      before = line ∷ rest.before;
      line = rest.line;
      others = rest.others;
      are = ap (λ z. line ∷ z) rest.are;
      begun_is = cons_eq b (taken_as n line) (front ++ (refused_as last fault ∷ []))
          (last_refused (n + 1) rest.before rest.line) (sym same) rest.begun_is
          ∙ ap (λ (k : ℕ). taken_as n line ∷ (all_taken (n + 1) rest.before
          ++ (refused_as (taken_as k rest.line) (record {}) ∷ []))) number;
    }

module _ {O : Type 0} (takes : Taking O) (lines_held : List Begun) (v : ProcessValue)
    (outlet mid outlet' : O) where
  -- of the lines that are held
  pub held_refused : RefusesOne takes lines_held outlet outlet'
      → RefusesOne takes (to_tell lines_held v) outlet outlet'
  held_refused h = (
    h.0,
    h.1,
    h.2 ++ all_taken (first_waiting v) (waiting_in v),
    h.3,
    ap (λ z. z ++ all_taken (first_waiting v) (waiting_in v)) h.4
        ∙ append_assoc h.0 (h.1 ∷ h.2) (all_taken (first_waiting v) (waiting_in v)),
    h.5,
  )

  -- of those that wait
  pub waiting_refused : (new : ProcessValue) → Releases takes outlet lines_held mid
      → ReleasesSome takes v new mid outlet'
      → RefusesOne takes (to_tell lines_held v) outlet outlet'
  waiting_refused new told some =
      let n : ℕ = first_waiting v in
      let before : List Begun = all_taken n some.told in
      let last : Begun = taken_as (n + length some.told) some.line in
      let back : List Begun = all_taken (n + length some.told + 1) some.others in (
        lines_held ++ before,
        last,
        back,
        record {},
        ap (λ z. lines_held ++ all_taken n z) some.waiting
            ∙ ap (λ z. lines_held ++ z) (lines_in_order n some.told (some.line ∷ some.others))
            ∙ sym (append_assoc lines_held before (last ∷ back)),
        subst (λ z. Releases takes outlet z outlet')
            (sym (append_assoc lines_held before (refused_as last (record {}) ∷ [])))
            (leads_join (Released takes) outlet outlet' mid lines_held
            (last_refused n some.told some.line) told some.refused),
      )
