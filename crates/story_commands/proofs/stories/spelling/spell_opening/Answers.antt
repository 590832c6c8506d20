use Rattle.std.proofs.Common.{codes}
use Rattle.std.proofs.lemmas.Result.{on_ok_weaker}
use Rattle.command_words.specs.rules.Texts.{named_number}
use Rattle.command_words.proofs.LineLemmas.Printed.{appends_both, appends_six}
use Rattle.story_commands.specs.rules.Stories.{process_image_text}
use Rattle.story_commands.proofs.stories.spelling.spell_opening.Goals as goal

pub returns-in_ok-spell_number-in-Recovered-4 : goal.returns-in_ok-spell_number-in-Recovered-4
returns-in_ok-spell_number-in-Recovered-4 g c =
    rw c.in-Recovered.is
    (on_ok_weaker c.spell_process_image.result
    (appends_six (g.W.Write.contents c.args.out.now) (g.W.Write.contents c.spell_number.new.out)
    (g.W.Write.contents c.spell_number-in-Recovered.new.out)
    (g.W.Write.contents c.spell_number-in-Recovered-2.new.out)
    (g.W.Write.contents c.spell_number-in-Recovered-3.new.out)
    (g.W.Write.contents c.spell_number-in-Recovered-4.new.out)
    (g.W.Write.contents c.spell_process_image.new.out)
    (named_number (codes "life ") c.args.number)
    (named_number (codes " recovered generation ") c.in-Recovered.generation)
    (named_number (codes " steps ") c.in-Recovered.steps)
    (named_number (codes " answers ") c.in-Recovered.answers)
    (named_number (codes " lines ") c.in-Recovered.lines)
    (process_image_text c.in-Recovered.process_image)
    c.in_ok-spell_number.ensures c.in_ok-spell_number-in-Recovered.ensures
    c.in_ok-spell_number-in-Recovered-2.ensures c.in_ok-spell_number-in-Recovered-3.ensures
    c.in_ok-spell_number-in-Recovered-4.ensures)
    (rw c.as_slice.ensures at c.spell_process_image.ensures))

pub returns-in-Unopened : goal.returns-in-Unopened
returns-in-Unopened g c =
    rw c.in-Unopened.is
    (on_ok_weaker c.write_all-in-Unopened.result
    (appends_both (g.W.Write.contents c.args.out.now) (g.W.Write.contents c.spell_number.new.out)
    (g.W.Write.contents c.write_all-in-Unopened.new.self)
    (named_number (codes "life ") c.args.number) (codes " not opened\n")
    c.in_ok-spell_number.ensures) c.write_all-in-Unopened.ensures.bytes)
