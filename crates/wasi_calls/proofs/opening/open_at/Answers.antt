use Rattle.std.proofs.Common.{ℕ, sym, subst, ◌∙◌}
use Rattle.std.specs.Prelude.{Option, IfErr}
use Rattle.wasi_calls_rules.specs.Entries.{opened_at}
use Rattle.wasi_calls.specs.Openings.{checked_mode}
use Rattle.wasi_calls.specs.Places.{walk_end_of}
use Rattle.wasi_calls.specs.Steps.{StopsStep}
use Rattle.wasi_calls.proofs.opening.open_at.Goals as goal

pub returns-in-None-clause-stopped : goal.returns-in-None-clause-stopped
returns-in-None-clause-stopped c = λ ret m.
    subst (λ (o : Option ℕ). IfErr c.open_new.result (λ why. StopsStep why
    (opened_at o (walk_end_of c.args.place) (checked_mode c.args.mode) ret m c.args.host.now.host)))
    (sym c.in-None.is ∙ c.node_there.ensures.node) (c.open_new.ensures.stopped ret m)

pub returns-in-Some-clause-stopped : goal.returns-in-Some-clause-stopped
returns-in-Some-clause-stopped c = λ ret m.
    subst (λ (o : Option ℕ). IfErr c.open_there.result (λ why. StopsStep why
    (opened_at o (walk_end_of c.args.place) (checked_mode c.args.mode) ret m c.args.host.now.host)))
    (sym c.in-Some.is ∙ c.node_there.ensures.node) (c.open_there.ensures.stopped ret m)
