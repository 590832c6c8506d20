-- Counted steps, and the steps that reduce them, lead to one configuration at most.
use Rattle.std.proofs.Common.{◌≡◌, refl, subst}
use Rattle.wasm_rules.specs.Configuration.{Program, Configuration}
use Rattle.wasm_rules.specs.Steps.{ReducesTo, here, on, Advances, Steps, none, more, IsReduced}
use Rattle.wasm_rules.specs.Steps.{IsAdministrative}
use Rattle.wasm_rules.specs.laws.Laws.{OneRun}

-- a reduced configuration reduces to itself, and another one by its own next counted step
reduced_now : (program : Program) (c d : Configuration) → ReducesTo program c d
    → IsReduced program c → c ≡ d
reduced_now program c d (here s') s = refl
reduced_now program c d (on {c = c'} {d = between} e rest) s = absurd (cc)

next_now : (program : Program) (c e d : Configuration) → ReducesTo program c e
    → IsAdministrative program c d → ReducesTo program d e
next_now program c e d (here s) step = absurd (cc)
next_now program c e d (on {c = c'} {d = other} step' rest') step =
    let same : other ≡ d = cc in
    subst (λ z. ReducesTo program z e) same rest'

pub reduces_once : (program : Program) (c d e : Configuration) → ReducesTo program c d
    → ReducesTo program c e → d ≡ e
reduces_once program c d e (here s) b = reduced_now program c e b s
reduces_once program c d e (on {c = c'} {d = between} step rest) b =
    reduces_once program between d e rest (next_now program c' e between b step)

advances_once : (program : Program) (c d e : Configuration) → Advances program c d
    → Advances program c e → d ≡ e
advances_once program c d e a b =
    let p = a.counted in let q = b.counted in
    let same : b.between ≡ a.between = cc in
    reduces_once program a.between d e a.reduces (subst (λ z. ReducesTo program z e) same b.reduces)

pub one_run : OneRun
one_run program n c d e none none = refl
one_run program n c d e (more {n = m} {c = c'} {d = between} a rest) (more {d = other} b rest') =
    let same : other ≡ between = advances_once program c other between b a in
    one_run program m between d e rest (subst (λ z. Steps program m z e) same rest')
