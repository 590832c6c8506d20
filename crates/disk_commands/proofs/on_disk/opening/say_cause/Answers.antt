use Rattle.disk_commands.specs.rules.Openings.{cause_words}
use Rattle.disk_commands.proofs.OpeningLemmas.{cause_said}
use Rattle.disk_commands.proofs.on_disk.opening.say_cause.Goals as goal

pub returns-in-Ok : goal.returns-in-Ok
returns-in-Ok g c =
    cause_said c.args.path.now c.words_of_cause-words.result.now (cause_words c.args.cause)
    c.args.err.now c.writeln.new.self c.words_of_cause-words.ensures c.in-Ok.ensures.bytes
    c.in-Ok.ensures.steady
