use Rattle.std.proofs.Common.{◌≡◌, suc, ◌+◌, ◌<◌, ◌≤◌, ◌^◌, true, false, [], Some, refl, sym, ap}
use Rattle.std.proofs.Common.{◌∙◌, subst, arith}
use Rattle.std.specs.Prelude.{Result, ltb}
use Rattle.std.specs.Option.{option_map}
use Rattle.process_rules.specs.Owing.{none}
use Rattle.process.specs.declared.stop.Stop.{Stop}
use Rattle.process.specs.declared.fault.ProcessFault.{ProcessFault}
use Rattle.process.specs.rules.Values.{ProcessValue, ShowsProcess, ending_of, process_of}
use Rattle.process.specs.rules.Values.{waiting_in}
use Rattle.process.specs.rules.Stops.{EndsFor}
use Rattle.process.proofs.Lines.{less_when, more_when, empty_when}
use Rattle.process.proofs.Counting.{comes_within, parts_of, after, is_process_after, ends_for}
use Rattle.process.proofs.process.Process.advance.Goals as goal

pub returns-in-Some-clause-advances : goal.returns-in-Some-clause-advances
returns-in-Some-clause-advances c = λ guest p shows.
    let none_waits : c.self.inside.host.host.lines ≡ [] = sym c.waiting_lines.ensures.lines
    ∙ empty_when _ (sym c.is_empty.ensures ∙ c.if-not-is_empty.false) in
    let same : waiting_in c.args.self.now ≡ [] =
    ap (λ (v : ProcessValue). waiting_in v) (sym c.self.view_is) ∙ none_waits in (
      same,
      record { steps = 0; process = p; runs = none; shows = shows; none_waits = same },
      omega arith,
      sym shows.ended ∙ ap (λ (v : ProcessValue). v.ended) (sym c.self.view_is)
          ∙ ap (option_map ending_of) c.in-Some.is,
    )

pub overflow_add-self : goal.overflow_add-self
overflow_add-self c =
    let i = c.self.invariant in
    let running = sym i.shows.ended ∙ ap (option_map ending_of) c.in_default.is in
    let come = c.take_steps-stretch.ensures.stretches i.guest i.process
    (parts_of (process_of c.self.inside.machine c.self.inside.host c.self.inside.steps
    c.self.inside.answers c.self.inside.requests c.self.inside.ended) i.guest i.process i.shows)
    running in
    let within =
    comes_within i.guest i.process come.process c.cap_fuel-most.result
    c.take_steps-stretch.result.steps c.take_steps-stretch.new.host.host.lines
    (Some c.take_steps-stretch.result.stop) come.comes in
    let counted = c.cap_fuel-most.ensures.counted in
    omega (arith, within, counted)

pub invariant_of-self : goal.invariant_of-self
invariant_of-self c =
    let v = c.self.inside in
    let i = c.self.invariant in
    let old : ProcessValue = process_of v.machine v.host v.steps v.answers v.requests v.ended in
    let running = sym i.shows.ended ∙ ap (option_map ending_of) c.in_default.is in
    let come = c.take_steps-stretch.ensures.stretches i.guest i.process
    (parts_of old i.guest i.process i.shows) running in
    is_process_after old c.take_steps-stretch.new.machine c.take_steps-stretch.new.host i.guest
    i.process i.shows c.cap_fuel-most.result c.take_steps-stretch.result.steps
    c.take_steps-stretch.result.ended c.take_steps-stretch.result.stop come
    c.cap_fuel-most.ensures.counted i.few_answers i.few_requests c.take_steps-stretch.ensures.few

pub returns-clause-shows : goal.returns-clause-shows
returns-clause-shows c =
    let v = c.self.inside in
    let i = c.self.invariant in
    let old : ProcessValue = process_of v.machine v.host v.steps v.answers v.requests v.ended in
    let running = sym i.shows.ended ∙ ap (option_map ending_of) c.in_default.is in
    let come = c.take_steps-stretch.ensures.stretches i.guest i.process
    (parts_of old i.guest i.process i.shows) running in
    is_process_after old c.take_steps-stretch.new.machine c.take_steps-stretch.new.host i.guest
    i.process i.shows c.cap_fuel-most.result c.take_steps-stretch.result.steps
    c.take_steps-stretch.result.ended c.take_steps-stretch.result.stop come
    c.cap_fuel-most.ensures.counted i.few_answers i.few_requests c.take_steps-stretch.ensures.few

pub returns-clause-advances : goal.returns-clause-advances
returns-clause-advances c = λ guest p shows.
    let P : ProcessValue → Type 0 = λ v. ShowsProcess v guest p in
    let here : ShowsProcess (process_of c.self.inside.machine c.self.inside.host c.self.inside.steps
    c.self.inside.answers c.self.inside.requests c.self.inside.ended) guest p = subst P
    (sym c.self.view_is) shows in
    let running = sym here.ended ∙ ap (option_map ending_of) c.in_default.is in
    let none_waits : c.self.inside.host.host.lines ≡ [] = sym c.waiting_lines.ensures.lines
    ∙ empty_when _ (sym c.is_empty.ensures ∙ c.if-not-is_empty.false) in
    let come = c.take_steps-stretch.ensures.stretches guest p
    (parts_of (process_of c.self.inside.machine c.self.inside.host c.self.inside.steps
    c.self.inside.answers c.self.inside.requests c.self.inside.ended) guest p here) running in
    let within = c.cap_fuel-most.ensures.within in
    let cut : ltb c.cap_fuel-most.result c.args.fuel ≡ true → (c.cap_fuel-most.result < c.args.fuel)
    × (suc (c.self.inside.steps + c.cap_fuel-most.result) ≡ 2 ^ 63) =
    λ e. let less : c.cap_fuel-most.result < c.args.fuel = less_when _ _ e in
    let last = c.cap_fuel-most.ensures.cut less in (less, omega (arith, last)) in
    let whole : ltb c.cap_fuel-most.result c.args.fuel ≡ false
    → c.cap_fuel-most.result ≡ c.args.fuel =
    λ e. let more : c.args.fuel ≤ c.cap_fuel-most.result = more_when _ _ e in
    omega (arith, more, within) in
    let next : ProcessValue =
    after (process_of c.self.inside.machine c.self.inside.host c.self.inside.steps
    c.self.inside.answers c.self.inside.requests c.self.inside.ended)
    c.take_steps-stretch.new.machine c.take_steps-stretch.new.host guest p here
    c.cap_fuel-most.result c.take_steps-stretch.result.steps c.take_steps-stretch.result.ended
    c.take_steps-stretch.result.stop come in
    let ends = ends_for (process_of c.self.inside.machine c.self.inside.host c.self.inside.steps
    c.self.inside.answers c.self.inside.requests c.self.inside.ended)
    c.take_steps-stretch.new.machine c.take_steps-stretch.new.host guest p here
    c.cap_fuel-most.result c.take_steps-stretch.result.steps c.take_steps-stretch.result.ended
    c.take_steps-stretch.result.stop come none_waits c.args.fuel within
    (ltb c.cap_fuel-most.result c.args.fuel) cut whole c.take_steps-stretch.result.stop refl
    come.comes in
    let Q : ProcessValue → Type 0 = λ v. EndsFor v next guest p c.args.fuel c.report_stop.result in
    let S : Result Stop ProcessFault → Type 0 =
    λ r. EndsFor (process_of c.self.inside.machine c.self.inside.host c.self.inside.steps
    c.self.inside.answers c.self.inside.requests c.self.inside.ended) next guest p c.args.fuel r
    in
    subst Q c.self.view_is (subst S (sym c.report_stop.ensures) ends)
