use Rattle.disk_commands.specs.rules.StatusFiles.{found_words}
use Rattle.disk_commands.proofs.OpeningLemmas.{cause_said}
use Rattle.disk_commands.proofs.on_disk.status_file.say_taken.Goals as goal

pub returns-in-Ok : goal.returns-in-Ok
returns-in-Ok g c =
    cause_said c.args.path.now c.words-words.result.now (found_words c.args.here.now)
    c.args.err.now c.writeln.new.self c.words-words.ensures c.in-Ok.ensures.bytes
    c.in-Ok.ensures.steady
