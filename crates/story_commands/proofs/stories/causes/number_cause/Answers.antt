use Rattle.std.proofs.Common.{sym, ◌∙◌}
use Rattle.std.proofs.lemmas.Bool.{cond-true, cond-false}
use Rattle.story_commands.proofs.ScriptLemmas.Numbers.{same_digits}
use Rattle.story_commands.proofs.stories.causes.number_cause.Goals as goal

pub returns-then-not-all_digits : goal.returns-then-not-all_digits
returns-then-not-all_digits c =
    sym (cond-false _ _ _ (sym (same_digits c.args.digits.now) ∙ sym c.all_digits.ensures
    ∙ c.if-not-all_digits.true))

pub returns-then-is_empty : goal.returns-then-is_empty
returns-then-is_empty c =
    sym (cond-true _ _ _ (sym (same_digits c.args.digits.now) ∙ sym c.all_digits.ensures
    ∙ c.if-not-all_digits.false) ∙ cond-true _ _ _ (sym c.is_empty.ensures ∙ c.if-is_empty.true))

pub returns : goal.returns
returns c =
    sym (cond-true _ _ _ (sym (same_digits c.args.digits.now) ∙ sym c.all_digits.ensures
    ∙ c.if-not-all_digits.false) ∙ cond-false _ _ _ (sym c.is_empty.ensures ∙ c.if-is_empty.false))
