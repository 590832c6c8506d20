use Rattle.std.proofs.Common.{◌≤◌, length, map, reverse, ap, ◌∙◌, arith}
use Rattle.std.proofs.lemmas.List.{length-reverse, take_all}
use Rattle.machine.specs.rules.LentFrames.{lent_frame}
use Rattle.disk_commands.specs.FactViews.{fact_value_of}
use Rattle.disk_commands.specs.rules.DiskFacts.{frame_value}
use Rattle.disk_commands.proofs.FactLemmas.{one_got_pushed}
use Rattle.disk_commands.proofs.inspecting.process_facts.frame_values.Goals as goal

pub loop-index-preserved : goal.loop-index-preserved
loop-index-preserved c =
    one_got_pushed frame_value fact_value_of (reverse c.args.machine.now.state.frames)
    c.loop-index.index (lent_frame c.frame-place.result) c.loop-index.values.items
    c.push.new.self.items c.in_ok-frame.frame c.frame-place.ensures c.loop-index.invariant
    c.in_ok-push.ensures.items c.in_ok-frame.ensures

pub returns : goal.returns
returns c =
    let frames = reverse c.args.machine.now.state.frames in
    let long = length-reverse c.args.machine.now.state.frames in
    let count = c.frame_count-count.ensures in
    let past : length frames ≤ c.loop-index.index =
    omega (arith, long, count, c.loop-index-test.false) in
    c.loop-index.invariant ∙ ap (map frame_value) (take_all c.loop-index.index frames past)
