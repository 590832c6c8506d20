use Rattle.wasi_calls.specs.rules.Held.{held_host_of}
use Rattle.wasi_calls.proofs.InputCallRules.{takes_answer, asks_for_another}
use Rattle.wasi_calls.proofs.host.WasiState.fitting_answer.Goals as goal

pub returns-then-not-fits-clause-asks : goal.returns-then-not-fits-clause-asks
returns-then-not-fits-clause-asks c =
    let s = c.self.inside in
    let h = (held_host_of s.config s.version s.tree s.descriptors.items s.unread.items
    s.input_ended s.last_monotonic s.streams).host in
    rw (← c.self.view_is, c.in-Some.is)
    (asks_for_another h c.args.question c.in-Some.answer.now
    (λ f. absurd (let t = (rw c.text_limit.ensures at c.if-not-fits.ensures).1 f in cc)))

pub returns-clause-given : goal.returns-clause-given
returns-clause-given c =
    let s = c.self.inside in
    let h = (held_host_of s.config s.version s.tree s.descriptors.items s.unread.items
    s.input_ended s.last_monotonic s.streams).host in
    rw (← c.self.view_is, c.in-Some.is)
    (takes_answer h c.args.question c.in-Some.answer.now ((rw c.text_limit.ensures at
    c.fits.ensures).0 c.if-not-fits.false))
