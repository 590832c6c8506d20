use Rattle.command_words.proofs.FrontLemmas.{takes_more, takes_none}
use Rattle.command_words.proofs.printer.write_whole.Goals as goal
use Rattle.command_words.proofs.printer.write_whole.Goals.{in-Ok, in-Err+else-ne}

pub loop-preserved : goal.loop-preserved
loop-preserved g c =
    elim c.match-write.branch [
      | in-Ok w ↦ rw w.rest-is (takes_more _ _ _ _ c.loop.invariant _ _ w.in-Ok.ensures.bytes)
      | in-Err+else-ne w ↦
          rw w.rest-is (takes_none _ _ _ _ c.loop.invariant _ w.in-Err.ensures.bytes)
    ]
