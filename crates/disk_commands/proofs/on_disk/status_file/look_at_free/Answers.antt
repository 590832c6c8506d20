use Rattle.std.proofs.Common.{◌∙◌, inl, sym}
use Rattle.std.proofs.lemmas.Bool.{false≢true}
use Rattle.disk_commands.proofs.on_disk.status_file.look_at_free.Goals as goal

pub returns-then-not-is_free-clause-said : goal.returns-then-not-is_free-clause-said
returns-then-not-is_free-clause-said g c =
    inl (
      c.in-Ok.here,
      c.in-Ok.ensures,
      (λ free. absurd (false≢true (sym c.if-not-is_free.true ∙ c.is_free.ensures.1 free))),
      c.say_taken.ensures,
    )
