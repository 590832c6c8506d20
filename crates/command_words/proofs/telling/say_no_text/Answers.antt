use Rattle.std.proofs.Common.{inl, refl, subst, sym, append_assoc, codes, [], ◌∷◌, ◌++◌}
use Rattle.std.specs.Fmt.{decimal}
use Rattle.std.specs.Io.KnownBytes.{Appends}
use Rattle.wasi_abi.specs.rules.Answers.{newline}
use Rattle.command_words.proofs.telling.say_no_text.Goals as goal

pub returns-in-Ok : goal.returns-in-Ok
returns-in-Ok g c =
    inl (
      refl,
      (
        subst (Appends c.args.err.now.contents c.writeln.new.self.contents)
            (sym (append_assoc (codes "error: argument " ++ decimal c.args.number)
            (codes " isn't UTF-8") (newline ∷ []))) c.in-Ok.ensures.bytes,
        c.in-Ok.ensures.steady,
      ),
    )
