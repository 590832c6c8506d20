use Rattle.std.proofs.Common.{arith}
use Rattle.command_words.proofs.LineLemmas.Whole.{no_whole_line, whole_through}
use Rattle.command_words.proofs.lines.later.whole_lines.Goals as goal
use Rattle.command_words.proofs.lines.later.whole_lines.Goals.{
  then-loop-end-test+else-bytes-end-ne10,
  else-loop-end-test,
}

pub returns : goal.returns
returns c =
    let unended = c.loop-end.invariant.1 in
    elim c.loop-end-test.branch [
      | then-loop-end-test+else-bytes-end-ne10 w ↦
          whole_through c.args.bytes.now c.loop-end.end w.loop-end-test.true
          c.loop-end.invariant.0 w.if-bytes-end-ne10.false unended
      | else-loop-end-test w ↦ no_whole_line c.args.bytes.now c.loop-end.end
          (omega (arith, w.loop-end-test.false)) unended
    ]
