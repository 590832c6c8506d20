use Rattle.std.proofs.Common.{sym, ap, ◌∙◌, Some, subst, ◌≡◌, ◌++◌}
use Rattle.std.specs.Prelude.{option_copied, option_map}
use Rattle.command_words.proofs.PieceLemmas.{some_shorter}
use Rattle.story_commands.specs.rules.Scripts.{fronts_between}
use Rattle.story_commands.proofs.ScriptLemmas.Fronts.{no_front, last_front, next_front}
use Rattle.story_commands.proofs.stories.keywords.read_fronts.Goals as goal

pub returns-in_default : goal.returns-in_default
returns-in_default c = no_front c.args.separator c.loop-front.fronts c.loop-front.rest.now _ _ _
    c.loop-front.invariant c.split_once.ensures.before c.split_once.ensures.after
    (sym c.read_front.ensures ∙ c.in_default.is)

pub returns-in_default-behind : goal.returns-in_default-behind
returns-in_default-behind c = ap Some c.in_ok-push.ensures.pushed
    ∙ last_front c.args.separator c.loop-front.fronts c.loop-front.rest.now _ _ _
    c.loop-front.invariant c.split_once.ensures.before c.split_once.ensures.after c.in-Some.front
    (sym c.read_front.ensures ∙ c.in-Some.is) (ap option_copied c.in_default-behind.is)

pub loop-front-smaller : goal.loop-front-smaller
loop-front-smaller c = some_shorter c.args.separator c.loop-front.rest.now c.in-Some-behind.next.now
    (sym (ap option_copied c.in-Some-behind.is) ∙ c.split_once.ensures.after)

pub loop-front-preserved : goal.loop-front-preserved
loop-front-preserved c =
    subst (λ l. option_map (λ more. l ++ more) (fronts_between c.args.separator
    c.in-Some-behind.next.now) ≡ fronts_between c.args.separator c.args.text.now)
    (sym c.in_ok-push.ensures.pushed) (next_front c.args.separator c.loop-front.fronts
    c.loop-front.rest.now _ _ _ c.loop-front.invariant c.split_once.ensures.before
    c.split_once.ensures.after c.in-Some.front c.in-Some-behind.next.now
    (sym c.read_front.ensures ∙ c.in-Some.is) (ap option_copied c.in-Some-behind.is))
