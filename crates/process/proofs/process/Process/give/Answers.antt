use Rattle.std.proofs.Common.{◌≡◌, ◌+◌, ◌^◌, [], sym, ap, ◌∙◌, subst, arith}
use Rattle.std.specs.Prelude.{Err}
use Rattle.std.proofs.lemmas.Result.{err_from_is_err_and}
use Rattle.process.specs.rules.Values.{ProcessValue, ShowsProcess, IsProcess, process_of}
use Rattle.process.specs.rules.Values.{waiting_in}
use Rattle.process.specs.rules.Stops.{GivesFor}
use Rattle.process.proofs.Lines.{below_when, empty_when}
use Rattle.process.proofs.Counting.{parts_of}
use Rattle.process.proofs.Giving.{running_when, is_kept, not_given, takes_answer, is_process_given}
use Rattle.process.proofs.process.Process.give.Goals as goal

pub invariant_of-self : goal.invariant_of-self
invariant_of-self c =
    let v = c.self.inside in
    let i = c.self.invariant in
    let running = sym i.shows.ended ∙ running_when v.ended
    (sym c.is_some.ensures ∙ c.if-is_some.false) in
    let parts = parts_of (process_of v.machine v.host v.steps v.answers v.requests v.ended) i.guest
    i.process i.shows in
    let made = c.in_err-self-inside.ensures.answers i.guest i.process parts running in
    let same = is_kept v.machine c.answer_call.new.machine v.host c.answer_call.new.host v.steps
    v.answers v.requests v.ended c.args.answer.now i.guest i.process c.in_err-self-inside.field-0.0
    made in
    subst IsProcess (sym same) i

pub returns-in_err-self-inside-clause-gives : goal.returns-in_err-self-inside-clause-gives
returns-in_err-self-inside-clause-gives c = λ guest p shows.
    let v = c.self.inside in
    let S : ProcessValue → Type 0 = λ z. ShowsProcess z guest p in
    let old : ProcessValue = process_of v.machine v.host v.steps v.answers v.requests v.ended in
    let here : ShowsProcess old guest p = subst S (sym c.self.view_is) shows in
    let running = sym here.ended
    ∙ running_when v.ended (sym c.is_some.ensures ∙ c.if-is_some.false) in
    let none_waits : waiting_in old ≡ [] = sym c.waiting_lines.ensures.lines
    ∙ empty_when _ (sym c.is_empty.ensures ∙ c.if-not-is_empty.false) in
    let q = err_from_is_err_and c.from_residual.result c.from_residual.ensures.1 in
    let made = c.in_err-self-inside.ensures.answers guest p (parts_of old guest p here) running in
    let now : ProcessValue =
    process_of c.answer_call.new.machine c.answer_call.new.host v.steps v.answers v.requests
    v.ended in
    let P : ProcessValue → Type 0 =
    λ z. GivesFor z now guest p c.args.answer.now (Err c.in_err-self-inside.field-0.0) in
    rw (q.1, q.2)
    (subst P c.self.view_is
    (not_given v.machine c.answer_call.new.machine v.host c.answer_call.new.host v.steps v.answers
    v.requests v.ended c.args.answer.now guest p c.in_err-self-inside.field-0.0 made none_waits
    running))

pub invariant_of-self-2 : goal.invariant_of-self-2
invariant_of-self-2 c =
    let v = c.self.inside in
    let i = c.self.invariant in
    let running = sym i.shows.ended ∙ running_when v.ended
    (sym c.is_some.ensures ∙ c.if-is_some.false) in
    let parts = parts_of (process_of v.machine v.host v.steps v.answers v.requests v.ended) i.guest
    i.process i.shows in
    let made = c.in_ok-self-inside.ensures.answers i.guest i.process parts running in
    let few = i.few_steps in
    let few_steps = below_when (v.steps + 1) (2 ^ 63) (omega (arith, few)) c.if-self.false in
    is_process_given v.machine c.answer_call.new.machine v.host c.answer_call.new.host v.steps
    v.answers v.requests v.ended c.args.answer.now i.guest i.process
    c.in_ok-self-inside.field-0 i.shows running c.count_requests.result c.count_requests.ensures
    made few_steps i.few_answers i.few_requests c.answer_call.ensures.few

pub returns-clause-gives : goal.returns-clause-gives
returns-clause-gives c = λ guest p shows.
    let v = c.self.inside in
    let S : ProcessValue → Type 0 = λ z. ShowsProcess z guest p in
    let old : ProcessValue = process_of v.machine v.host v.steps v.answers v.requests v.ended in
    let here : ShowsProcess old guest p = subst S (sym c.self.view_is) shows in
    let running = sym here.ended
    ∙ running_when v.ended (sym c.is_some.ensures ∙ c.if-is_some.false) in
    let none_waits : waiting_in old ≡ [] = sym c.waiting_lines.ensures.lines
    ∙ empty_when _ (sym c.is_empty.ensures ∙ c.if-not-is_empty.false) in
    let made = c.in_ok-self-inside.ensures.answers guest p (parts_of old guest p here) running in (
      sym (ap (λ (z : ProcessValue). waiting_in z) c.self.view_is) ∙ none_waits,
      takes_answer v.machine c.answer_call.new.machine v.host c.answer_call.new.host v.steps
          v.answers v.requests v.ended c.args.answer.now guest p c.in_ok-self-inside.field-0 here
          running
          c.count_requests.result c.count_requests.ensures made,
    )
