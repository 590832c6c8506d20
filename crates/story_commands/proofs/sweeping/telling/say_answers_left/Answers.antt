use Rattle.std.proofs.Common.{ℕ, List, ◌++◌, codes, inl, refl, subst, sym}
use Rattle.std.specs.Fmt.{decimal}
use Rattle.std.specs.Io.KnownBytes.{Appends}
use Rattle.story_commands.proofs.SweepLemmas.Lists.{six_from_last}
use Rattle.story_commands.proofs.sweeping.telling.say_answers_left.Goals as goal

pub returns-in-Ok : goal.returns-in-Ok
returns-in-Ok g c =
    inl (
      refl,
      (
        subst (λ (text : List ℕ). Appends c.args.err.now.contents c.writeln.new.self.contents
            (codes "the script's life " ++ text))
            (sym (six_from_last (decimal c.args.number) (codes " took ") (decimal c.args.taken)
            (codes " of ") (decimal c.args.all)
            (codes " answers: give its slices more steps, or take answers out\n")))
            c.in-Ok.ensures.bytes,
        c.in-Ok.ensures.steady,
      ),
    )
