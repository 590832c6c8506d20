use Rattle.std.proofs.Common.{◌≡◌, ℕ, ◌+◌, ◌-◌, List, [], ◌∷◌, ◌++◌, Some, arith, ap, sym, ◌∙◌}
use Rattle.std.proofs.Common.{subst, length}
use Rattle.std.specs.Prelude.{slice_get}
use Rattle.record_replay.specs.declared.line_list.NumberedLine.{NumberedLine}
use Rattle.story_commands.specs.rules.Sweeps.{AreTextsOf}
use Rattle.story_commands.proofs.SweepLemmas.Texts.{line_of, next_text, told_text}
use Rattle.story_commands.proofs.sweeping.texts.put_line.Goals as goal

pub returns-then-line-count : goal.returns-then-line-count
returns-then-line-count c =
    let texts = c.args.texts.now in
    let line = c.args.line.now in
    let next : line.number ≡ length texts + 1 =
    omega (arith, c.if-line-gt0.true, c.if-line-count.true, ap length c.lines.ensures) in
    let put : c.release.new.self ≡ texts ++ line ∷ [] =
    c.in_ok-release.ensures
    ∙ ap (λ (t : List ℕ). texts ++ line_of line.number line.stream t ∷ []) c.as_slice.ensures in
    λ _ lines are. subst (λ (t : List NumberedLine). AreTextsOf t (lines ++ line ∷ [])) (sym put)
    (next_text texts lines line next are)

pub returns : goal.returns
returns c =
    let texts = c.args.texts.now in
    let line = c.args.line.now in
    λ fits lines are. told_text texts lines line
    (subst (λ (t : List NumberedLine). slice_get t (line.number - 1) ≡ Some line)
    c.lines-2.ensures (c.has_text.ensures fits)) are
