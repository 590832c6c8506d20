use Rattle.std.proofs.Common.{sym, ◌∙◌, subst}
use Rattle.std.specs.Prelude.{Ok, vec_len}
use Rattle.std.proofs.lemmas.Bool.{eqb-true}
use Rattle.std.proofs.lemmas.Result.{err_from_is_err_and}
use Rattle.wasi_abi.specs.declared.answer.Question.TheVariants.{Request}
use Rattle.wasi_abi.specs.rules.Answers.{Fits}
use Rattle.wasi_calls.specs.rules.Held.{held_host_of}
use Rattle.wasi_calls.proofs.FileCallRules.{no_items}
use Rattle.wasi_calls.proofs.InputCallRules.{asks_again, is_supplied, takes_line}
use Rattle.wasi_calls.proofs.host.WasiState.supply.Goals as goal

pub returns-then-not-fits-clause-stopped : goal.returns-then-not-fits-clause-stopped
returns-then-not-fits-clause-stopped c =
    let s = c.self.inside in
    let h = (held_host_of s.config s.version s.tree s.descriptors.items s.unread.items
    s.input_ended s.last_monotonic s.streams).host in
    let len = eqb-true (vec_len s.unread) 0 (sym c.is_empty.ensures ∙ c.if-not-is_empty.false) in
    let none = no_items s.unread.items (sym s.unread.ok.0 ∙ len) in
    rw (← c.self.view_is, c.in-Some.is)
    (asks_again h c.in-Some.answer.now none c.if-self.false
    (λ f. absurd (let t = c.if-not-fits.ensures.1
    (subst (λ n. Fits n Request c.in-Some.answer.now) (sym c.text_limit.ensures) f) in cc)))

pub returns-in_err-take_answer-clause-stopped : goal.returns-in_err-take_answer-clause-stopped
returns-in_err-take_answer-clause-stopped c =
    let s = c.self.inside in
    let h = (held_host_of s.config s.version s.tree s.descriptors.items s.unread.items
    s.input_ended s.last_monotonic s.streams).host in
    let len = eqb-true (vec_len s.unread) 0 (sym c.is_empty.ensures ∙ c.if-not-is_empty.false) in
    let none = no_items s.unread.items (sym s.unread.ok.0 ∙ len) in
    let p = err_from_is_err_and c.from_residual.result c.from_residual.ensures.1 in
    rw (p.1, p.2, ← c.self.view_is, c.in-Some.is)
    (is_supplied h c.in-Some.answer.now none c.if-self.false
    (subst (λ n. Fits n Request c.in-Some.answer.now) c.text_limit.ensures
    (c.fits.ensures.0 c.if-not-fits.false)))

pub returns-clause-done : goal.returns-clause-done
returns-clause-done c =
    let s = c.self.inside in
    let h = (held_host_of s.config s.version s.tree s.descriptors.items s.unread.items
    s.input_ended s.last_monotonic s.streams).host in
    let len = eqb-true (vec_len s.unread) 0 (sym c.is_empty.ensures ∙ c.if-not-is_empty.false) in
    let none = no_items s.unread.items (sym s.unread.ok.0 ∙ len) in
    rw (← c.self.view_is, c.in-Some.is)
    (takes_line h c.in-Some.answer.now none c.if-self.false (Ok c.take_answer.new.self.host)
    (subst (λ n. Fits n Request c.in-Some.answer.now) c.text_limit.ensures
    (c.fits.ensures.0 c.if-not-fits.false))
    (rw (← c.self.view_is) at c.in_ok-take_answer.ensures.taken))
