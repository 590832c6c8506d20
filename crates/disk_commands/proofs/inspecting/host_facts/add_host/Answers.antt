use Rattle.std.proofs.Common.{◌≡◌, ℕ, [], ◌∷◌, List, codes, length, ap, subst, ◌∙◌}
use Rattle.std.specs.Prelude.{Option}
use Rattle.std.proofs.lemmas.Result.{on_ok_weaker}
use Rattle.file_tree.specs.declared.limits.TheConstants.{NODES}
use Rattle.file_tree.specs.rules.Files.{Files, used}
use Rattle.wasi_calls_rules.specs.WasiStates.{Descriptor}
use Rattle.disk_commands.specs.FactViews.{Adds, values_of}
use Rattle.disk_commands.specs.rules.Facts.{Fact, FactValue, Listed, Single}
use Rattle.disk_commands.specs.rules.DiskFacts.{descriptor_values, usage_value}
use Rattle.disk_commands.proofs.FactLemmas.{adds_both}
use Rattle.disk_commands.proofs.inspecting.host_facts.add_host.Goals as goal

pub returns : goal.returns
returns c =
    let h = c.args.host.now.host in
    let from = c.args.facts.now.items in
    let first = c.add_usage.new.facts.items in
    let second = c.add_usage-2.new.facts.items in
    let last = c.add_list.new.facts.items in
    let nodes : ℕ → Fact = λ n. Single (codes "nodes") (usage_value n NODES) in
    let bytes : ℕ → Fact = λ n. Single (codes "bytes") (usage_value n c.args.room) in
    let opened : List FactValue → Fact =
    λ vs. Listed (codes "descriptor") (codes "descriptors") vs in
    let all = descriptor_values h.files 0 h.descriptors in
    let found : values_of c.in_ok-descriptors.descriptors.items ≡ all =
    c.in_ok-descriptors.ensures
    ∙ ap (λ (fs : Files). descriptor_values fs 0 c.descriptors.result.now) c.tree-tree.ensures
    ∙ ap (λ (ds : List (Option Descriptor)). descriptor_values h.files 0 ds)
    c.descriptors.ensures in
    on_ok_weaker c.add_list.result (λ listed.
    adds_both from second last (nodes (length h.files.nodes) ∷ bytes (used h.files) ∷ [])
    (opened all ∷ [])
    (adds_both from first second (nodes (length h.files.nodes) ∷ []) (bytes (used h.files) ∷ [])
    (subst (λ (n : ℕ). Adds from first (nodes n ∷ []))
    (c.len.ensures.count ∙ ap (λ (fs : Files). length fs.nodes) c.tree-tree.ensures)
    c.in_ok-add_usage.ensures)
    (subst (λ (n : ℕ). Adds first second (bytes n ∷ []))
    (c.used_bytes.ensures ∙ ap used c.tree-tree.ensures) c.in_ok-add_usage-2.ensures))
    (subst (λ (vs : List FactValue). Adds second last (opened vs ∷ [])) found listed))
    c.add_list.ensures
