use Rattle.std.proofs.Common.{ℕ, List, ◌++◌, codes, inl, refl, subst, sym}
use Rattle.std.specs.Fmt.{decimal}
use Rattle.std.specs.Io.KnownBytes.{Appends}
use Rattle.story_commands.specs.rules.Stories.{line_cause_words}
use Rattle.story_commands.proofs.SweepLemmas.Lists.{four_from_last}
use Rattle.story_commands.proofs.stories.telling.say_faulty_line.Goals as goal

pub returns-in-Ok : goal.returns-in-Ok
returns-in-Ok g c =
    let number = decimal c.args.number in
    inl (
      refl,
      (
        subst (λ (text : List ℕ). Appends c.args.err.now.contents c.writeln.new.self.contents
            (codes "failed script line " ++ text))
            (sym (four_from_last number (codes "\n") (line_cause_words c.args.cause) (codes "\n")))
            (subst (λ (words : List ℕ). Appends c.args.err.now.contents
            c.writeln.new.self.contents (codes "failed script line " ++ (number ++ (codes "\n"
            ++ (words ++ codes "\n"))))) c.words_of-words.ensures c.in-Ok.ensures.bytes),
        c.in-Ok.ensures.steady,
      ),
    )
