-- What is no life of `echo`.
use Rattle.std.proofs.Common.{◌≡◌, inl, inr, ℕ, zero, suc, ◌+◌, ◌≤◌, List, [], length}
use Rattle.std.proofs.Common.{None, sym, ap, ◌∙◌, subst, arith, length-append}
use Rattle.std.proofs.lemmas.Option.{slice_get_within}
use Rattle.wasm_syntax.specs.laws.Examples.{echo}
use Rattle.wasi_abi.specs.rules.Configs.{Settings}
use Rattle.wasi_abi.specs.declared.answer.Question.{Question}
use Rattle.wasi_abi.specs.declared.answer.Question.TheVariants as questions
use Rattle.wasi_calls_rules.specs.WasiStates.{Line}
use Rattle.process_rules.specs.Processes.{ProcessState}
use Rattle.process_rules.specs.Runs.{Kept, Wants, Runs, Reaches, next_of}
use Rattle.process_rules.specs.Behind.{AnswersBehindLine, IsLine}
use Rattle.process_rules.proofs.EchoValid.{echo_is_valid}
use Rattle.process_rules.proofs.EchoHolds.{EchoAsks, echo_asks}
use Rattle.process_rules.proofs.Growing.{runs_emit}
use Rattle.process_rules.proofs.OneStart.{start_once}
use Rattle.worker_store.specs.restart_theorem.laws.WholeLives.{EchoRefusals}
use Rattle.worker_store.proofs.RestartLemmas.Abreast.{stays_asking}
use Rattle.worker_store.proofs.RestartLemmas.Fronts.{OneLeadsOn, fronts_lead_on, front_of_none}

abbrev reaches_asking : (config : Settings) → Reaches echo config [] 5 (echo_asks config).asking
reaches_asking config = let asks = echo_asks config in record {
  guest = asks.guest;
  start = asks.start;
  begins = asks.begins;
  runs = asks.to_asking;
}

-- ---- what is no life

-- Before its first answer `echo` tells nothing,
no_line_unasked : (config : Settings) (n : ℕ) (p : ProcessState) → Reaches echo config [] n p
    → length p.host.lines ≡ 0
no_line_unasked config n p reached = go
    (fronts_lead_on echo config [] 0 0 5 n asks.asking p echo_is_valid
    (reaches_asking config) reached tt tt)
  where
    asks : EchoAsks config
    asks = echo_asks config

    go : OneLeadsOn asks.guest asks.asking p [] [] → length p.host.lines ≡ 0
    go (inl on) =
        let same = stays_asking asks.guest asks.asking p questions.Request on.kept on.steps on.runs
        on.front asks.asks in
        ap (λ (z : ProcessState). length z.host.lines) same ∙ ap length asks.no_line
    go (inr on) =
        let emits = runs_emit asks.guest p asks.asking on.kept on.steps on.runs in
        let counted : length asks.asking.host.lines ≡ length p.host.lines + length emits.lines =
        ap length emits.are ∙ length-append p.host.lines emits.lines in
        let none_there : length asks.asking.host.lines ≡ 0 = ap length asks.no_line in
        omega (arith, counted, none_there)

-- and what it then asks for is a request
asks_a_request : (config : Settings) (n : ℕ) (p : ProcessState) (question : Question)
    → (reached : Reaches echo config [] n p) → next_of reached.guest p None ≡ Wants question
    → question ≡ questions.Request
asks_a_request config n p question reached wanted =
    go (fronts_lead_on echo config [] 0 0 n 5 p asks.asking echo_is_valid reached
    (reaches_asking config) tt tt)
  where
    asks : EchoAsks config
    asks = echo_asks config

    guests : reached.guest ≡ asks.guest
    guests = (start_once echo config reached.guest asks.guest reached.start asks.start
        echo_is_valid reached.begins asks.begins).0

    asks_here : next_of reached.guest asks.asking None ≡ Wants questions.Request
    asks_here = subst (λ g. next_of g asks.asking None ≡ Wants questions.Request)
        (sym guests) asks.asks

    one_question : (k : Question) → Wants k ≡ Wants questions.Request → k ≡ questions.Request
    one_question k e = cc

    is_request : p ≡ asks.asking → question ≡ questions.Request
    is_request same = one_question question (sym wanted
        ∙ subst (λ z. next_of reached.guest z None ≡ Wants questions.Request) (sym same) asks_here)

    go : OneLeadsOn reached.guest p asks.asking [] [] → question ≡ questions.Request
    go (inl on) = is_request (sym (stays_asking reached.guest p asks.asking question
        on.kept on.steps on.runs on.front wanted))
    go (inr on) = is_request (stays_asking reached.guest asks.asking p questions.Request
        on.kept on.steps on.runs on.front asks_here)

-- a line that is told before any answer
unasked_line : (config : Settings) (i : ℕ) (line : Line) → IsLine echo config [] i line → ⊥
unasked_line config i line is =
    let reached : Reaches echo config [] is.steps is.process =
    subst (λ z. Reaches echo config z is.steps is.process)
    (front_of_none is.answers) is.reached in
    let there = slice_get_within is.process.host.lines is.place line is.is in
    let no_lines = no_line_unasked config is.steps is.process reached in
    omega (arith, there, no_lines)

-- a line after no answer
behind_none : (config : Settings) (kept : List Kept) (a : ℕ) → a ≤ 0
    → AnswersBehindLine echo config kept 1 a → ⊥
behind_none config kept zero h behind =
    let no_lines = no_line_unasked config behind.steps behind.process behind.reached in
    let there = behind.emitted in
    omega (arith, there, no_lines)
behind_none config kept (suc a) h behind = omega (arith, h)

question_kept : (config : Settings) (kept : List Kept) (steps : ℕ) (question : Question) → kept ≡ []
    → (p : ProcessState) → (reached : Reaches echo config kept steps p)
    → next_of reached.guest p None ≡ Wants question → question ≡ questions.Request
question_kept config kept steps question empty p reached wants =
    asks_a_request config steps p question (record {
      guest = reached.guest;
      start = reached.start;
      begins = reached.begins;
      runs = subst (λ z. Runs reached.guest reached.start z steps p) empty reached.runs;
    }) wants

pub echo_refusals_hold : (config : Settings) → EchoRefusals config
echo_refusals_hold config = record {
  loses_a_line = λ so_far stage shown kept begun is.
      (let held = is.holds.lines 1 begun in
      behind_none config so_far.kept held.0 held.1 held.2);
  tells_unasked = λ so_far stage r is_taken empty is.
      unasked_line config r.number r.line
      (subst (λ z. IsLine echo config z r.number r.line) empty is.is_line);
  asks_for_another = λ so_far stage steps question said fits empty is.
      question_kept config so_far.kept steps question empty is.process is.reached is.wants;
}
