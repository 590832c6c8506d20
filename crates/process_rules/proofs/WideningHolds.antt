-- The worked example of a widening holds.
use Rattle.std.proofs.Common.{◌≡◌, ℕ, zero, suc, ◌≤◌, [], ◌∷◌, length, None, refl, ap}
use Rattle.std.proofs.Common.{subst, arith, lit≤}
use Rattle.wasm_syntax.specs.declared.instruction.Instruction.TheVariants as instr
use Rattle.wasm_syntax.specs.rules.Sequence.{Plain}
use Rattle.wasm_syntax.specs.laws.Examples.{hello}
use Rattle.wasm_rules.specs.laws.Examples.{rest_behind_call, in_hello, v}
use Rattle.wasi_abi.specs.declared.version.Version.TheVariants.{Two}
use Rattle.wasi_abi.specs.rules.Configs.{Settings}
use Rattle.process_rules.specs.Processes.{ProcessState, Exited, host_of}
use Rattle.process_rules.specs.Runs.{Wider, On, next_of, widened, Runs, Reaches, none, step, widen}
use Rattle.process_rules.specs.Behind.{AnswersBehindLine}
use Rattle.process_rules.specs.laws.Examples.{ComesTo}
use Rattle.process_rules.specs.laws.WideningExamples.{HelloIsWidened}
use Rattle.process_rules.proofs.Along.{Along, last as at_last, goes, known_from_start}
use Rattle.process_rules.proofs.Ended.{comes}
use Rattle.process_rules.proofs.ExamplesHold.{first_memory, last_memory, all_memory, hi_line}
use Rattle.process_rules.proofs.ExamplesHold.{guest_of, within, first, last, begins, goes_on}
use Rattle.process_rules.proofs.ExamplesHold.{writes as narrow_writes, eight, hello_reaches}
use Rattle.process_rules.proofs.ExamplesValid.{hello_is_valid}
use Rattle.process_rules.proofs.OneStart.{start_once}
use Rattle.process_rules.proofs.Quiet.{runs_join}

-- ---- the steps of the widened process

-- the call that writes the line
writes : (config : Settings)
    → next_of (guest_of config) (widened (within (host_of config) 0 0 4 first_memory (v 16 ∷ v 1
    ∷ v 0 ∷ v 1 ∷ []) (Plain (instr.Call 0) rest_behind_call))) None
    ≡ On (in_hello (record { memory = last_memory; globals = []; table = [] }) (v 0 ∷ [])
    rest_behind_call) (record (host_of config) { version = Two; lines = hi_line ∷ [] })
unfolding first_memory last_memory
writes config = refl

-- ---- widened on the way

wide_eight : (config : Settings) → Runs (guest_of config) (first config) (Wider 4 ∷ []) 8
    (widened (last config last_memory))
wide_eight config =
    step (goes_on config refl) (step (goes_on config refl)
    (step (goes_on config refl) (step (goes_on config refl)
    (widen (record { narrow = refl; at = refl })
    (step (goes_on config (writes config)) (step (goes_on config refl) (step (goes_on config refl)
    (step (record { running = refl; wanted = tt; leads = refl }) none))))))))

wide_reaches : (config : Settings)
    → Reaches hello config (Wider 4 ∷ []) 8 (widened (last config last_memory))
wide_reaches config = record {
  guest = guest_of config;
  start = first config;
  begins = begins config;
  runs = wide_eight config;
}

late_reaches : (config : Settings)
    → Reaches hello config (Wider 8 ∷ []) 8 (widened (last config last_memory))
late_reaches config = record {
  guest = guest_of config;
  start = first config;
  begins = begins config;
  runs = runs_join (guest_of config) (first config) (last config last_memory)
      (widened (last config last_memory)) [] (Wider 8 ∷ []) 8 0 (eight config)
      (widen (record { narrow = refl; at = refl }) none);
}

-- ---- the line

-- in its first four steps it emits none
abbrev IsSilent : ℕ → ℕ → ProcessState → Type 0
IsSilent n a p = n ≤ 4 → p.host.lines ≡ []

silent : (config : Settings)
    → Along (guest_of config) IsSilent 0 0 (first config) [] 8 (last config last_memory)
silent config =
    goes (λ few. refl) (goes_on config refl) (goes (λ few. refl) (goes_on config refl)
    (goes (λ few. refl) (goes_on config refl) (goes (λ few. refl) (goes_on config refl)
    (goes (λ few. refl) (goes_on config (narrow_writes config))
    (goes (λ few. absurd (omega arith)) (goes_on config refl)
    (goes (λ few. absurd (omega arith)) (goes_on config refl)
    (goes (λ few. absurd (omega arith)) (record { running = refl; wanted = tt; leads = refl })
    (at_last (λ few. absurd (omega arith))))))))))

pub silent_there : (config : Settings) (n : ℕ) (p : ProcessState) → Reaches hello config [] n p
    → n ≤ 4 → p.host.lines ≡ []
silent_there config n p r few =
    let same = start_once hello config r.guest (guest_of config) r.start (first config)
    hello_is_valid r.begins (begins config) in
    let by_guest : Runs (guest_of config) r.start [] n p =
    subst (λ g. Runs g r.start [] n p) same.0 r.runs in
    known_from_start (guest_of config) IsSilent 8 (first config) (last config last_memory) [] [] []
    0 n p (Exited 7) refl tt (silent config)
    (subst (λ z. Runs (guest_of config) z [] n p) same.1 by_guest) refl few

no_fewer : (config : Settings) (a : ℕ) → AnswersBehindLine hello config (Wider 4 ∷ []) 1 a → a ≡ 1
no_fewer config zero b =
    let none : length b.process.host.lines ≡ 0 =
    ap length (silent_there config b.steps b.process b.reached b.up_to) in
    let emitted = b.emitted in
    absurd (omega arith)
no_fewer config (suc zero) b = refl
no_fewer config (suc (suc a)) b = let within = b.within in absurd (omega arith)

pub hello_is_widened : (config : Settings) → HelloIsWidened config
hello_is_widened config = record {
  comes = subst (λ memory. ComesTo hello config (Wider 4 ∷ []) (widened (last config memory)))
      all_memory (comes hello config (Wider 4 ∷ []) (Exited 7) (widened (last config last_memory))
      hello_is_valid refl (wide_reaches config));
  behind = record {
    within = omega arith;
    steps = 8;
    process = widened (last config last_memory);
    reached = wide_reaches config;
    up_to = tt;
    emitted = lit≤ tt;
  };
  no_fewer = no_fewer config;
  ended = subst (λ memory. ComesTo hello config (Wider 8 ∷ []) (widened (last config memory)))
      all_memory (comes hello config (Wider 8 ∷ []) (Exited 7) (widened (last config last_memory))
      hello_is_valid refl (late_reaches config));
  before = record {
    within = omega arith;
    steps = 8;
    process = last config last_memory;
    reached = hello_reaches config;
    up_to = lit≤ tt;
    emitted = lit≤ tt;
  };
}
