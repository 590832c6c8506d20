use Rattle.worker.proofs.StartLemmas.{all_go_on, all_told, none_goes_on, none_told, one_goes_on}
use Rattle.worker.proofs.StartLemmas.{one_told}
use Rattle.worker.proofs.story.live_all.Goals as goal

pub loop-life-init : goal.loop-life-init
loop-life-init c = (
  none_goes_on c.args.spelled.wasm.now c.args.spelled.config.now c.args.told.now c.args.found,
  none_told c.args.told.now,
)

pub loop-life-preserved : goal.loop-life-preserved
loop-life-preserved c =
    let lives = c.args.lives.now in
    let i = c.loop-life.life-index in
    let one = c.life-item.result in
    let told = c.loop-life.told in
    let all = c.push.new.self in
    let on = c.in_ok-report.field-0 in (
      one_goes_on c.args.spelled.wasm.now c.args.spelled.config.now lives i one c.args.told.now told
          all on.report c.args.found c.loop-life.disk on.disk c.loop-life-test.true c.life-item.is
          c.loop-life.invariant.0 c.in_ok-report.ensures.lives c.in_ok-report.ensures.run
          c.in-Ok.ensures.pushed,
      one_told lives i one c.args.told.now told all on.report c.loop-life-test.true
          c.loop-life.invariant.1 c.in-Ok.ensures.pushed,
    )

pub returns-clause-gone : goal.returns-clause-gone
returns-clause-gone c =
    all_go_on c.args.spelled.wasm.now c.args.spelled.config.now c.args.lives.now
    c.loop-life.life-index c.args.told.now c.loop-life.told c.args.found c.loop-life.disk
    c.loop-life-test.false c.loop-life.invariant.0

pub returns-clause-more : goal.returns-clause-more
returns-clause-more c =
    all_told c.args.lives.now c.loop-life.life-index c.args.told.now c.loop-life.told
    c.loop-life-test.false c.loop-life.invariant.1
