use Rattle.std.proofs.Common.{List, ℕ, ◌++◌, codes, Some, ap, ◌∙◌}
use Rattle.std.proofs.lemmas.Str.Pattern.{split_text_parts}
use Rattle.command_words.proofs.telling.around_tip.Goals as goal

pub returns-then-begins_with_digit : goal.returns-then-begins_with_digit
returns-then-begins_with_digit c =
    let begin : List ℕ = codes "\n\n  tip: to pass '-" in
    let before = c.in_ok-before.before in
    let rest = c.in_ok-before.rest in
    let one = split_text_parts begin c.args.text.now (Some (before, rest))
    c.in_ok-before.ensures.cases in
    let two = split_text_parts (codes "\n\n") rest.now (Some (c.in_ok-tip.tip, c.in_ok-tip.behind))
    c.in_ok-tip.ensures.cases in
    (c.in_ok-tip.tip.now, one ∙ ap (λ text. before.now ++ (begin ++ text)) two)
