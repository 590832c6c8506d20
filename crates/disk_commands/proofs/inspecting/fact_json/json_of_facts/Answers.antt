use Rattle.std.proofs.Common.{◌≡◌, false, ◌++◌, ap, codes, map, ◌∙◌}
use Rattle.serde_json.specs.Data.{object}
use Rattle.serde_json.specs.View.{members_view, view}
use Rattle.serde_json.specs.Written.{compact_text, has_float}
use Rattle.serde_json.specs.declared.value.Value.TheVariants.{Object}
use Rattle.serde_json.proofs.Views.{view-Object}
use Rattle.disk_commands.specs.FactViews.{facts_of}
use Rattle.disk_commands.specs.rules.Facts.{fact_member, facts_data, put_all}
use Rattle.disk_commands.proofs.JsonLemmas.{facts_plain}
use Rattle.disk_commands.proofs.inspecting.fact_json.json_of_facts.Goals as goal

pub returns : goal.returns
returns c =
    let facts = facts_of c.args.facts.now in
    let members = c.put_facts.new.members in
    let seen : view (Object members) ≡ facts_data facts =
    view-Object members
    ∙ ap object (c.in_ok-put_facts.ensures
    ∙ ap (λ es. put_all (map fact_member facts) (members_view es)) c.new-members.ensures.empty) in
    let plain : has_float (view (Object members)) ≡ false =
    ap has_float seen ∙ facts_plain facts in
    c.in_ok-push.ensures.items
    ∙ ap (λ t. t ++ codes "\n") (c.in_ok-text.ensures.text plain ∙ ap compact_text seen)
