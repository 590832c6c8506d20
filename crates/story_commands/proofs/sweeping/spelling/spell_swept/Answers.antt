use Rattle.std.proofs.Common.{codes}
use Rattle.std.proofs.lemmas.Result.{on_ok_weaker}
use Rattle.story_commands.specs.rules.SweepTexts.{quantity}
use Rattle.story_commands.proofs.SweepLemmas.Digits.{appends_five}
use Rattle.story_commands.proofs.sweeping.spelling.spell_swept.Goals as goal

pub returns : goal.returns
returns g c =
    on_ok_weaker c.write_all-3.result
    (appends_five (g.W.Write.contents c.args.out.now) (g.W.Write.contents c.write_all.new.self)
    (g.W.Write.contents c.spell_count.new.out) (g.W.Write.contents c.write_all-2.new.self)
    (g.W.Write.contents c.spell_count-2.new.out) (g.W.Write.contents c.write_all-3.new.self)
    (codes "swept ") (quantity c.args.cuts (codes "cut")) (codes ": ")
    (quantity c.args.lines (codes "line")) (codes ", each told with one text\n")
    c.in_ok-write_all.ensures.bytes c.in_ok-spell_count.ensures
    c.in_ok-write_all-2.ensures.bytes c.in_ok-spell_count-2.ensures)
    c.write_all-3.ensures.bytes
