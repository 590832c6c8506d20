-- A replay on records that lead to a process with numbers below their ends is on the way there.
use Rattle.std.proofs.Common.{◌≡◌, ◌⊎◌, inl, inr, ℕ, suc, ◌+◌, ◌-◌, ◌<◌, ◌≤◌, ◌^◌, List, [], ◌∷◌}
use Rattle.std.proofs.Common.{◌++◌, length, drop, Option, Some, None, refl, sym, ap, ◌∙◌, subst}
use Rattle.std.proofs.Common.{arith, append_assoc, length-append}
use Rattle.std.proofs.lemmas.List.{drop-append-le}
use Rattle.wasm_rules.specs.Configuration.{Thread}
use Rattle.wasi_abi.specs.declared.answer.Answer.{Answer}
use Rattle.wasi_calls_rules.specs.Lines.{lines_ended}
use Rattle.process_rules.specs.Processes.{ProcessState, Guest, HasLineNumbers, closed_at}
use Rattle.process_rules.specs.Runs.{Next, On, Over, Wants, Nowhere, next_of, stepped, LeadsTo}
use Rattle.process_rules.specs.Runs.{Moves, Runs, step}
use Rattle.process_rules.proofs.Growing.{move_counts, runs_count, runs_emit}
use Rattle.process_rules.proofs.OneProcess.{runs_once}
use Rattle.process.specs.rules.Stops.{LacksNumbers, IsBeyond}
use Rattle.disk_layout.specs.declared.record.Record.{Record}
use Rattle.record_replay.specs.rules.Calls.{Taking}
use Rattle.record_replay.specs.rules.Records.{Recorded}
use Rattle.record_replay.specs.rules.Replays.{ReplaysUpTo, Diverges, answer_due, steps_before}
use Rattle.record_replay.specs.rules.Replays.{TellsFrom, RefusesFrom}
use Rattle.record_replay.specs.laws.Laws.{NextFits}
use Rattle.record_replay.proofs.OnTheWay.{goes_on}
use Rattle.record_replay.proofs.OneRecording.{first_of, split, one_recorded, refused_on_the_way}
use Rattle.record_replay.proofs.Playing.{due_at, due_before}
use Rattle.record_replay.proofs.Recordings.{recorded_emit}
use Rattle.worker_store.specs.restart_theorem.Stands.{IsNumbered}
use Rattle.worker_store.proofs.RestartLemmas.NumbersKept.{move_keeps_numbers, runs_keep_numbers}
use Rattle.worker_store.proofs.RestartLemmas.NumbersKept.{records_keep_numbers}
use Rattle.worker.specs.rules.Recoveries.{TellsSome}
use Rattle.worker_store.proofs.LawLemmas.Carrying.{more_lines}

-- ---- the next step

closed_numbers : (thread : Thread) (later : List ℕ) (p : ProcessState)
    → HasLineNumbers (closed_at thread later p).host → HasLineNumbers p.host
closed_numbers [] [] p has = omega (arith, has, length-append (lines_ended p.host).lines [])
closed_numbers [] (f ∷ later) p has = has
closed_numbers (frame ∷ frames) [] p has = has
closed_numbers (frame ∷ frames) (f ∷ later) p has = has

-- a step that leads to numbers below their ends has such
lacks_none : (guest : Guest) (next : Next) (given : Option Answer) (p q : ProcessState)
    → LeadsTo guest next given p q → IsNumbered q → LacksNumbers next → ⊥
lacks_none guest (On c h) given p q to has lacks =
    let lines : HasLineNumbers q.host = has.lines in
    lacks (closed_numbers to.0.thread to.0.later (stepped given to.0 h p)
    (subst (λ (z : ProcessState). HasLineNumbers z.host) to.2 lines))
lacks_none guest (Over why c h) given p q to has lacks = lacks
lacks_none guest (Wants question) given p q to has lacks = lacks
lacks_none guest Nowhere given p q to has lacks = lacks

not_beyond : (guest : Guest) (p q : ProcessState) (given : Option Answer) → Moves guest p given q
    → IsNumbered q → IsBeyond guest p given → ⊥
not_beyond guest p q given moves has (inl last) =
    let steps : q.steps < 2 ^ 63 = has.steps in
    omega (arith, steps, last, move_counts guest p q given moves)
not_beyond guest p q given moves has (inr lacks) =
    lacks_none guest (next_of guest p given) given p q moves.leads has lacks

-- the step after one on the way to a record's, with the answer that is due
record NextStep (guest : Guest) (p : ProcessState) (next : Record) : Type 0 where
  pub after : ProcessState
  pub moves : Moves guest p (answer_due p next) after
  pub numbered : IsNumbered after

first_step : (guest : Guest) (q r : ProcessState) (k : ℕ) → Runs guest q [] (suc k) r
    → (to : ProcessState) × Moves guest q None to × Runs guest to [] k r
first_step guest q r k (step {q = to} a rest) = (to, a, rest)

compare : (a b : ℕ) → a ≤ b → (a ≡ b) ⊎ (a < b)
compare a b le = grind arith

next_step : (guest : Guest) (reached p last : ProcessState) (n : ℕ) (next : Record)
    (others : List Record) → Runs guest reached [] n p
    → n ≤ steps_before reached (next ∷ others) → Recorded guest reached (next ∷ others) last
    → IsNumbered last → NextStep guest p next
next_step guest reached p last n next others runs few recorded has =
    let f = first_of guest reached last (next ∷ others) next others refl recorded in
    let counted : f.before.steps ≡ reached.steps + f.steps =
    runs_count guest reached f.before [] f.steps f.runs in
    let taken : f.after.steps ≡ f.before.steps + 1 =
    move_counts guest f.before f.after (Some next.answer) f.moves in
    let here : p.steps ≡ reached.steps + n = runs_count guest reached p [] n runs in
    let same : f.after.steps ≡ next.step = f.same in
    let after : IsNumbered f.after =
    records_keep_numbers guest f.after last others f.recorded has in
    elim (compare n f.steps (omega (arith, counted, taken, same, few))) [
      | inl e ↦
          let there : p ≡ f.before = runs_once guest reached p f.before [] n runs
          (subst (λ z. Runs guest reached [] z f.before) (sym e) f.runs) in
          record {
            after = f.after;
            moves = subst (λ z. Moves guest p z f.after)
                (sym (due_at p next (omega (arith, counted, taken, here, same, e))))
                (subst (λ (z : ProcessState). Moves guest z (Some next.answer) f.after) (sym there)
                f.moves);
            numbered = after;
          }
      | inr less ↦
          let k : ℕ = f.steps - suc n in
          let e : f.steps ≡ n + suc k = omega (arith, less) in
          let one = first_step guest p f.before k
          (goes_on guest reached p f.before [] n f.steps k runs f.runs e) in
          record {
            after = one.0;
            moves = subst (λ z. Moves guest p z one.0)
                (sym (due_before p next (omega (arith, counted, taken, here, same, less)))) one.1;
            numbered = runs_keep_numbers guest one.0 f.before [] k one.2
                (move_keeps_numbers guest f.before f.after (Some next.answer) f.moves after);
          }
    ]

-- ---- on the way

module _ (guest : Guest) (p last : ProcessState) (records : List Record)
    (recorded : Recorded guest p records last) (come : ReplaysUpTo guest p records) where
  rest_recorded : Recorded guest come.reached come.rest last
  rest_recorded =
      let s = split guest p last come.front come.rest
      (subst (λ z. Recorded guest p z last) come.are recorded) in
      subst (λ (z : ProcessState). Recorded guest z come.rest last)
      (one_recorded guest p s.at come.reached come.front s.first come.recorded) s.second

  pub undiverged : IsNumbered last → Diverges guest come.reached come.rest come.process → ⊥
  undiverged has diverges =
      let way = refused_on_the_way guest p last records recorded come in
      go come.rest rest_recorded come.within way.fits diverges
    where
      go : (rest : List Record) → Recorded guest come.reached rest last
          → come.steps ≤ steps_before come.reached rest → NextFits guest come.reached rest
          → Diverges guest come.reached rest come.process → ⊥
      go [] recorded few fits diverges = diverges
      go (next ∷ others) recorded few fits (inl nowhere) = fits nowhere
      go (next ∷ others) recorded few fits (inr beyond) =
          let n = next_step guest come.reached come.process last come.steps next others come.runs
          few recorded has in
          not_beyond guest come.process n.after (answer_due come.process next) n.moves n.numbered
          beyond.2

  -- ---- lines

  -- no line was emitted twice
  pub lines_grow : length p.host.lines ≤ length come.process.host.lines
  lines_grow =
      let first : length p.host.lines ≤ length come.reached.host.lines =
      more_lines p.host come.reached.host (recorded_emit guest p come.reached come.front
      come.recorded) in
      let later : length come.reached.host.lines ≤ length come.process.host.lines =
      more_lines come.reached.host come.process.host
      (runs_emit guest come.reached come.process [] come.steps come.runs) in
      omega (arith, first, later)

  pub lines_within : length come.process.host.lines ≤ length last.host.lines
  lines_within =
      let way = refused_on_the_way guest p last records recorded come in
      more_lines come.process.host last.host way.first_lines

  module _ {O : Type 0} (takes : Taking O) (released : ℕ)
      (few : released ≤ length p.host.lines) (outlet outlet' : O) where
    pub tells_some : TellsFrom takes released come.process outlet outlet'
        → TellsSome takes released last outlet outlet'
    tells_some told =
        let way = refused_on_the_way guest p last records recorded come in
        let first = way.first_lines in
        let grow = lines_grow in
        record {
          told = drop released come.process.host.lines;
          others = first.lines;
          are = ap (λ l. drop released l) first.are
              ∙ drop-append-le released come.process.host.lines first.lines
              (omega (arith, few, grow));
          releases = told;
        }

    pub refuses_on : RefusesFrom takes released come.process outlet outlet'
        → RefusesFrom takes released last outlet outlet'
    refuses_on r =
        let way = refused_on_the_way guest p last records recorded come in
        let first = way.first_lines in
        let grow = lines_grow in
        record {
          told = r.told;
          line = r.line;
          others = r.others ++ first.lines;
          are = ap (λ l. drop released l) first.are
              ∙ drop-append-le released come.process.host.lines first.lines
              (omega (arith, few, grow))
              ∙ ap (λ l. l ++ first.lines) r.are
              ∙ append_assoc r.told (r.line ∷ r.others) first.lines;
          refused = r.refused;
        }
