-- A process that has ended takes no further step.
use Rattle.std.proofs.Common.{◌≡◌, ℕ, ◌≤◌, List, Some, None, refl, sym, subst, arith}
use Rattle.wasm_syntax.specs.declared.module.Module.{Module}
use Rattle.wasm_rules.specs.Validity.{IsValid}
use Rattle.wasi_abi.specs.rules.Configs.{Settings}
use Rattle.process_rules.specs.Processes.{ProcessState, Guest, Ending}
use Rattle.process_rules.specs.Origins.{succeeding}
use Rattle.process_rules.specs.Runs.{Kept, widened, Runs, none, step, take, widen, succeed, Reaches}
use Rattle.process_rules.specs.laws.Examples.{ComesTo}
use Rattle.process_rules.proofs.OneStart.{start_once}
use Rattle.process_rules.proofs.OneProcess.{moves_once, one_or_other, never_late, never_then}
use Rattle.process_rules.proofs.OneProcess.{one_process}

none_longer : (guest : Guest) (p q r : ProcessState) (why : Ending) (kept : List Kept) (n k : ℕ)
    → q.ended ≡ Some why → Runs guest p kept n q → Runs guest p kept k r → k ≤ n
none_longer guest p q r why kept n k over none none = omega arith
none_longer guest p q r why kept n k over none (step m rest) = absurd (let running = m.running in
    cc)
none_longer guest p q r why kept n k over (step m rest) none = omega arith
none_longer guest p q r why kept n k over (step {p = p'} {q = q'} {kept = kept'} {n = n'} m rest)
    (step {q = r'} {n = k'} m' rest') =
    let same : r' ≡ q' = moves_once guest p' r' q' None m' m in
    let shorter : k' ≤ n' =
    none_longer guest q' q r why kept' n' k' over rest
    (subst (λ z. Runs guest z kept' k' r) same rest') in
    omega (arith, shorter)
none_longer guest p q r why kept n k over (step {p = p'} {q = q'} m rest)
    (take {q = r'} {a = a} m' rest') = absurd (one_or_other guest p' q' r' a m m')
none_longer guest p q r why kept n k over (take {p = p'} {q = q'} {a = a} m rest)
    (step {q = r'} m' rest') = absurd (one_or_other guest p' r' q' a m' m)
none_longer guest p q r why kept n k over
    (take {p = p'} {q = q'} {a = a} {kept = kept'} {n = n'} m rest)
    (take {q = r'} {n = k'} m' rest') =
    let same : r' ≡ q' = moves_once guest p' r' q' (Some a) m' m in
    let shorter : k' ≤ n' =
    none_longer guest q' q r why kept' n' k' over rest
    (subst (λ z. Runs guest z kept' k' r) same rest') in
    omega (arith, shorter)
none_longer guest p q r why kept n k over
    (step {p = p'} {q = q'} {kept = kept'} {n = n'} m rest) (widen at others) =
    absurd (never_late guest p' q' q kept' n' m rest at refl)
none_longer guest p q r why kept n k over (widen at rest)
    (step {p = p'} {q = r'} {kept = kept'} {n = k'} m' rest') =
    absurd (never_late guest p' r' r kept' k' m' rest' at refl)
none_longer guest p q r why kept n k over (widen {p = p'} {kept = kept'} {n = n'} at rest)
    (widen {n = k'} at' rest') =
    none_longer guest (widened p') q r why kept' n' k' over rest rest'
none_longer guest p q r why kept n k over
    (step {p = p'} {q = q'} {kept = kept'} {n = n'} m rest) (succeed at sum others) =
    absurd (never_then guest p' q' q kept' n' m rest refl)
none_longer guest p q r why kept n k over (succeed at sum rest)
    (step {p = p'} {q = r'} {kept = kept'} {n = k'} m' rest') =
    absurd (never_then guest p' r' r kept' k' m' rest' refl)
none_longer guest p q r why kept n k over
    (succeed {p = p'} {o = o} {kept = kept'} {k = n'} at sum rest)
    (succeed {k = k'} at' sum' rest') =
    let shorter : k' ≤ n' =
    none_longer guest (succeeding o p') q r why kept' n' k' over rest rest' in
    omega (arith, shorter, sum, sum')

no_more : (m : Module) (config : Settings) (kept : List Kept) (n k : ℕ) (why : Ending)
    (p other : ProcessState) → IsValid m → p.ended ≡ Some why
    → Reaches m config kept n p → Reaches m config kept k other → k ≤ n
no_more m config kept n k why p other valid over a b =
    let same = start_once m config a.guest b.guest a.start b.start valid a.begins b.begins in
    let by_guest : Runs a.guest b.start kept k other =
    subst (λ g. Runs g b.start kept k other) (sym same.0) b.runs in
    none_longer a.guest a.start p other why kept n k over a.runs
    (subst (λ z. Runs a.guest z kept k other) (sym same.1) by_guest)

-- what a valid module reaches, and has ended, is what it comes to
pub comes : (m : Module) (config : Settings) (kept : List Kept) (why : Ending) (p : ProcessState)
    → IsValid m → p.ended ≡ Some why
    → Reaches m config kept p.steps p → ComesTo m config kept p
comes m config kept why p valid over reached = record {
  reached = reached;
  no_other = λ other reaches. one_process m config kept p.steps other p valid reaches reached;
  no_more = λ k other reaches.
      no_more m config kept p.steps k why p other valid over reached reaches;
}
