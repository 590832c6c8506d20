use Rattle.std.proofs.Common.{[], List, get_or, map, ap, ◌∙◌}
use Rattle.std.proofs.lemmas.List.{get_or_default, take_all}
use Rattle.serde_json.specs.Data.{no_members, object}
use Rattle.serde_json.proofs.Views.{view-Object}
use Rattle.disk_commands.specs.declared.inspecting.fact.Field.{Field as LentField}
use Rattle.disk_commands.specs.FactViews.{field_of}
use Rattle.disk_commands.specs.rules.Facts.{field_member, put_all}
use Rattle.disk_commands.proofs.FactLemmas.{field_put, one_more_put}
use Rattle.disk_commands.proofs.inspecting.fact_json.fields_value.Goals as goal

pub loop-field-preserved : goal.loop-field-preserved
loop-field-preserved c =
    let fields = c.args.fields.now in
    let index = c.loop-field.field-index in
    let within = c.loop-field-test.true in
    let before = c.loop-field.members.entries in
    one_more_put field_of fields index _ field_member [] before c.put.new.map.entries within
    (get_or_default fields index _ _ within) c.loop-field.invariant
    (field_put (get_or fields index _) before c.put.new.map.entries c.in_ok-value.value
    c.in_ok-put.ensures.ok c.in_ok-value.ensures)

pub returns : goal.returns
returns c =
    view-Object c.loop-field.members
    ∙ ap object (c.loop-field.invariant
    ∙ ap (λ (fs : List LentField). put_all (map field_member (map field_of fs)) no_members)
    (take_all c.loop-field.field-index c.args.fields.now c.loop-field-test.false))
