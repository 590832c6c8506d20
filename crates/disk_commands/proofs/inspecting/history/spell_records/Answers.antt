use Rattle.std.proofs.Common.{◌≡◌, ◌+◌, ◌∙◌, ap, arith}
use Rattle.std.specs.Prelude.{ℕ, Some}
use Rattle.process_rules.specs.Runs.{request_taken}
use Rattle.disk_commands.proofs.HistoryLemmas.{next_record, next_taken}
use Rattle.disk_commands.proofs.inspecting.history.spell_records.Goals as goal

pub loop-entry-preserved : goal.loop-entry-preserved
loop-entry-preserved g c =
    let records = c.args.records.now in
    let i = c.loop-entry.entry-index in
    let one = c.entry-item.result in
    let taken = c.loop-entry.taken in
    let within = c.loop-entry-test.true in
    let counted = c.loop-entry.invariant.0 in
    let so_far = c.loop-entry.invariant.1 in
    let few = c.request_taken.ensures.few in
    let wide = c.from-taken-in-loop-entry.ensures in
    let more : c.from-taken-in-loop-entry.result ≡ request_taken (Some one.answer) =
    wide ∙ c.request_taken.ensures.value in (
      ap (λ (n : ℕ). taken + n) more
          ∙ next_taken records i one within c.entry-item.is c.args.before taken counted,
      omega (arith, so_far, few, wide),
      next_record records i one within c.entry-item.is c.args.before taken
          (g.W.Write.contents c.args.out.now) (g.W.Write.contents c.loop-entry.out)
          (g.W.Write.contents c.spell_record.new.out) counted c.loop-entry.invariant.2
          c.in_ok-spell_record.ensures,
    )
