use Rattle.std.proofs.Common.{suc, length, sym, ap, ◌∙◌}
use Rattle.machine.proofs.CycleLemmas.Ending.{over_leaves, over_exited, behind_count}
use Rattle.machine.proofs.execution.machine_loop.leave_function.Goals as goal
use Rattle.wasm_validate.proofs.BodyLemmas.LevelViews.{at_top as first_of}

pub leave-requires : goal.leave-requires
leave-requires c =
    let r = c.requires.stands in
    let f = first_of c.args.state.now.frames c.top-frame.result c.top-frame.ensures in
    over_leaves c.args.code.now c.args.state.now r.functions r.program r.configuration r.stands
    c.top-frame.result f.0 f.1 c.requires.ends c.routine_of.ensures

pub returns-clause-exited : goal.returns-clause-exited
returns-clause-exited c = λ functions program d stands.
    let f = first_of c.args.state.now.frames c.top-frame.result c.top-frame.ensures in
    over_exited c.args.code.now c.args.state.now functions program d stands f.1 c.routine_of.ensures
    (c.leave.ensures c.top-frame.result f.0 f.1)

pub returns-clause-less : goal.returns-clause-less
returns-clause-less c =
    let f = first_of c.args.state.now.frames c.top-frame.result c.top-frame.ensures in
    let exited = c.leave.ensures c.top-frame.result f.0 f.1 in (
      ap (λ s. suc (length s.frames)) exited.is ∙ ap suc (behind_count f.0) ∙ sym (ap length f.1),
      ap (λ s. s.later) exited.is,
    )
