use Rattle.std.proofs.lemmas.List.{get_or_default}
use Rattle.disk_commands.specs.FactViews.{field_of}
use Rattle.disk_commands.specs.rules.Facts.{Field, spaced}
use Rattle.disk_commands.proofs.FactLemmas.{one_more_spelled}
use Rattle.disk_commands.proofs.inspecting.fact_text.spell_fields.Goals as goal

pub loop-field-preserved : goal.loop-field-preserved
loop-field-preserved g c =
    let fields = c.args.fields.now in
    let index = c.loop-field.field-index in
    let within = c.loop-field-test.true in
    one_more_spelled field_of fields index _ (λ (field : Field). spaced field.1)
    (g.W.Write.contents c.args.out.now) (g.W.Write.contents c.loop-field.out)
    (g.W.Write.contents c.spell_scalar.new.out) within
    (get_or_default fields index _ _ within) c.loop-field.invariant c.in_ok-spell_scalar.ensures
