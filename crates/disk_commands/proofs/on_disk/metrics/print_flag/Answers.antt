use Rattle.std.proofs.Common.{◌∙◌, ℕ, codes, subst, sym}
use Rattle.std.specs.Prelude.{OnOk}
use Rattle.command_words.specs.rules.Printers.{IsPrinted}
use Rattle.disk_commands.specs.rules.Metrics.{metric_sample, state_place}
use Rattle.disk_commands.proofs.MetricsLemmas.{flag_off, flag_on}
use Rattle.disk_commands.proofs.on_disk.metrics.print_flag.Goals as goal

pub returns-then-state_place-place-clause-printed :
    goal.returns-then-state_place-place-clause-printed
returns-then-state_place-place-clause-printed g c =
    subst (λ (n : ℕ). OnOk c.print_sample.result (IsPrinted c.args.out.now c.print_sample.new.out
    (metric_sample (codes "wasmhost_state") c.args.label.now c.args.close.now n)))
    (flag_on (state_place c.args.state) c.args.place
    (sym c.state_place.ensures ∙ c.if-state_place-place.true)) c.print_sample.ensures.printed

pub returns-clause-printed : goal.returns-clause-printed
returns-clause-printed g c =
    subst (λ (n : ℕ). OnOk c.print_sample-2.result
    (IsPrinted c.args.out.now c.print_sample-2.new.out
    (metric_sample (codes "wasmhost_state") c.args.label.now c.args.close.now n)))
    (flag_off (state_place c.args.state) c.args.place
    (λ same. c.if-state_place-place.false (c.state_place.ensures ∙ same)))
    c.print_sample-2.ensures.printed
