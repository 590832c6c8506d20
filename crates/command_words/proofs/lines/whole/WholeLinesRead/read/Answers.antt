use Rattle.std.proofs.Common.{◌≡◌, true, ap, ◌∙◌}
use Rattle.command_words.proofs.LineLemmas.Whole.{unsaid}
use Rattle.command_words.proofs.lines.whole.WholeLinesRead.read.Goals as goal
use Rattle.command_words.proofs.lines.whole.WholeLinesRead.read.Goals.{
  then-self-len+in_ok-read_on,
  else-self-len,
}

pub returns-clause-bytes : goal.returns-clause-bytes
returns-clause-bytes g c =
    let was : c.args.self.now.leaves_rest ≡ true = c.if-not-self.false in
    let between : c.if-self-len.self.leaves_rest ≡ true = elim c.if-self-len.branch [
      | then-self-len+in_ok-read_on w ↦
          ap (λ lines. lines.leaves_rest) w.self-is ∙ w.in_ok-read_on.ensures.leaves ∙ was
      | else-self-len w ↦ ap (λ lines. lines.leaves_rest) w.self-is ∙ was
    ] in
    unsaid c.args.self.now.leaves_rest c.give.new.self.leaves_rest
    (g.R.Read.remaining c.args.self.now.reader) (g.R.Read.remaining c.give.new.self.reader) _ _ _
    was
    (ap (λ lines. lines.leaves_rest) c.give.ensures.moved ∙ between)
