use Rattle.std.proofs.Common.{◌∷◌, ℕ, List, length, sym, ap, ◌∙◌, refl, arith}
use denote.Ref.{Bor}
use Rattle.command_words.specs.rules.Pieces.{lines_of, split_once}
use Rattle.command_words.proofs.PieceLemmas.{cut_line, rest_shorter, rest_of, rest_now}
use Rattle.command_words.proofs.pieces.cut_line.Goals as goal

pub returns-clause-line : goal.returns-clause-line
returns-clause-line c =
    let rest = ap (λ (b : Bor (List ℕ)). b.now) c.unwrap_or.ensures
    ∙ rest_now c.split_once.result.1 _ refl ∙ ap rest_of c.split_once.ensures.after in
    cut_line c.args.text.now c.requires
    ∙ ap (λ l. l ∷ lines_of (rest_of (split_once 10 c.args.text.now).1))
    (sym c.split_once.ensures.before)
    ∙ ap (λ l. c.split_once.result.0.now ∷ lines_of l) (sym rest)

pub returns-clause-shorter : goal.returns-clause-shorter
returns-clause-shorter c =
    let rest = ap (λ (b : Bor (List ℕ)). length b.now) c.unwrap_or.ensures
    ∙ ap length (rest_now c.split_once.result.1 _ refl ∙ ap rest_of c.split_once.ensures.after)
    in
    let less = rest_shorter 10 c.args.text.now c.requires in
    omega (arith, less, rest)
