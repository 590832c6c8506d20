use Rattle.std.proofs.Common.{ℕ, ◌+◌, ◌∙◌, ap, is_some, sym}
use Rattle.disk_commands.proofs.AwaitedLemmas.{awaited_said, not_ended}
use Rattle.disk_commands.proofs.on_disk.serving.print_awaited.Goals as goal

pub returns-clause-printed : goal.returns-clause-printed
returns-clause-printed g c =
    awaited_said c.writeln.result (is_some c.args.worker.now.process.ended)
    c.args.worker.now.process.requests c.following.result c.args.err.now c.writeln.new.self
    (not_ended _ c.reached_end.result _
    (c.reached_end.ensures.value ∙ ap (λ p. p.ended) c.process-process.ensures)
    (sym c.is_some.ensures ∙ c.if-is_some.false))
    (c.following.ensures ∙ ap (λ (n : ℕ). n + 1)
    (c.requests.ensures.value ∙ ap (λ p. p.requests) c.process-process.ensures))
    c.writeln.ensures.bytes c.writeln.ensures.steady
