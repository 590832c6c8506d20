use Rattle.std.proofs.Common.{take}
use Rattle.worker.specs.Going.{GoOnBehind, AddsReports}
use Rattle.worker.proofs.story.live_all.Given as goal

-- the first lives have gone on, and were told
abbrev pub invariant-loop-life : goal.invariant-loop-life
invariant-loop-life l =
    GoOnBehind l.spelled.wasm.now l.spelled.config.now (take l.life-index l.lives) l.fn.found
    l.fn.told l.disk l.told
    × AddsReports (take l.life-index l.lives) l.fn.told l.told
