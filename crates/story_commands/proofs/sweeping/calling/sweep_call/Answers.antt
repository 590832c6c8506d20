use Rattle.std.proofs.lemmas.Bool.{not-true}
use Rattle.std.proofs.lemmas.List.{nil_from_length}
use Rattle.story_commands.proofs.SweepLemmas.CutLists.{all_cuts, no_fronts, one_cut}
use Rattle.story_commands.proofs.sweeping.calling.sweep_call.Goals as goal

pub returns-in_default-clause-agree : goal.returns-in_default-clause-agree
returns-in_default-clause-agree c =
    no_fronts c.args.sweep.now c.args.call c.args.fronts.now c.args.so_far.cuts
    (nil_from_length c.args.fronts.now c.in_default.ensures.cases)

pub returns-then-not-now-clause-agree : goal.returns-then-not-now-clause-agree
returns-then-not-now-clause-agree c =
    one_cut c.args.sweep.now c.args.call c.args.fronts.now c.in-Some.others.now
    c.in-Some.first.now c.args.so_far.cuts c.in_ok-now.now.cuts c.in_ok-now.now.newest.in_write
    c.in-Some.ensures.cases.0 (not-true c.in_ok-now.now.newest.in_write c.if-not-now.true)
    c.in_ok-now.ensures.agrees.0 c.in_ok-now.ensures.agrees.1

pub returns-clause-agree : goal.returns-clause-agree
returns-clause-agree c =
    all_cuts c.args.sweep.now c.args.call c.args.fronts.now c.in-Some.others.now
    c.in-Some.first.now c.args.so_far.cuts c.in_ok-now.now.cuts c.in_ok-now.now.newest.in_write
    c.sweep_fronts.result c.in-Some.ensures.cases.0 c.in_ok-now.ensures.agrees.0
    c.in_ok-now.ensures.agrees.1 c.sweep_fronts.ensures.agree
