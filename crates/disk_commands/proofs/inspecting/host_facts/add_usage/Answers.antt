use Rattle.std.proofs.Common.{◌≡◌, [], ◌∷◌, List, OnOk, codes, map, ap, subst, ◌∙◌}
use Rattle.disk_commands.specs.FactViews.{Adds, field_of}
use Rattle.disk_commands.specs.rules.Facts.{Field, Fields, Number, Single}
use Rattle.disk_commands.proofs.inspecting.host_facts.add_usage.Goals as goal

pub returns : goal.returns
returns c =
    let used : Field = (codes "used", Number c.args.used) in
    let told : map field_of c.in_ok-fields.fields.items
    ≡ used ∷ (codes "limit", Number c.args.limit) ∷ [] =
    ap (map field_of) c.in_ok-fields.ensures.items
    ∙ ap (λ (f : Field). f ∷ field_of c.of_number-2.result ∷ []) c.of_number.ensures
    ∙ ap (λ (f : Field). used ∷ f ∷ []) c.of_number-2.ensures in
    subst (λ (fs : List Field). OnOk c.add.result (Adds c.args.facts.now.items
    c.add.new.facts.items (Single c.args.name.now (Fields fs) ∷ []))) told c.add.ensures
