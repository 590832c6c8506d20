use Rattle.std.proofs.Common.{Bool, subst, sym, true≢false, ◌∙◌}
use Rattle.std.specs.Prelude.{OnOk}
use Rattle.command_words.specs.rules.Checks.{EndsAsAsked}
use Rattle.command_words.proofs.check.print_refusal_as_asked.Goals as goal

pub returns-then-lists_all-clause-limit : goal.returns-then-lists_all-clause-limit
returns-then-lists_all-clause-limit g c = λ no passed is.
    absurd (true≢false (sym c.if-lists_all.true ∙ no))

pub returns-then-lists_all-clause-more : goal.returns-then-lists_all-clause-more
returns-then-lists_all-clause-more g c =
    subst (λ (b : Bool). OnOk c.print_listed_refusal.result
    (EndsAsAsked b c.args.wasm.now c.args.fault c.print_listed_refusal.new.out))
    (sym c.if-lists_all.true) c.print_listed_refusal.ensures.more

pub returns-else-lists_all-clause-more : goal.returns-else-lists_all-clause-more
returns-else-lists_all-clause-more g c =
    subst (λ (b : Bool). OnOk c.print_refusal.result
    (EndsAsAsked b c.args.wasm.now c.args.fault c.print_refusal.new.out))
    (sym c.if-lists_all.false) c.print_refusal.ensures.more
