use Rattle.std.proofs.Common.{ℕ, ◌*◌, List, ◌++◌, subst, ◌∙◌}
use Rattle.std.proofs.lemmas.Result.{on_ok_weaker}
use Rattle.file_tree.specs.declared.limits.TheConstants.{UNIT_BYTES}
use Rattle.wasi_calls.specs.rules.Held.{HeldWasiState}
use Rattle.disk_layout.specs.rules.Journal.{Record}
use Rattle.disk_commands.specs.FactViews.{Adds}
use Rattle.disk_commands.specs.rules.DiskFacts.{host_facts, journal_facts, module_facts}
use Rattle.disk_commands.specs.rules.DiskFacts.{process_facts, settings_facts, snapshot_facts}
use Rattle.disk_commands.proofs.FactLemmas.{adds_both}
use Rattle.disk_commands.proofs.inspecting.facts.add_facts.Goals as goal

pub returns : goal.returns
returns c =
    let told = c.args.told.now in
    let wasm = module_facts told.process.host.host.version told.contents.wasm in
    let settings = settings_facts told.contents.config in
    let snapshot = snapshot_facts told.generation told.process_image_bytes in
    let process = process_facts told.process told.question in
    let host = host_facts (told.contents.config.files * UNIT_BYTES) told.process.host.host in
    let from = c.args.facts.now.items in
    let first = c.add_module.new.facts.items in
    let second = c.add_settings.new.facts.items in
    let third = c.add_snapshot.new.facts.items in
    let fourth = c.add_process.new.facts.items in
    let fifth = c.add_host.new.facts.items in
    let last = c.add_journal.new.facts.items in
    on_ok_weaker c.add_journal.result (λ journal.
    adds_both from fifth last (wasm ++ settings ++ snapshot ++ process ++ host)
    (journal_facts told.records.items told.journal_left)
    (adds_both from fourth fifth (wasm ++ settings ++ snapshot ++ process) host
    (adds_both from third fourth (wasm ++ settings ++ snapshot) process
    (adds_both from second third (wasm ++ settings) snapshot
    (adds_both from first second wasm settings
    (subst (λ v. Adds from first (module_facts v told.contents.wasm)) c.version-version.ensures
    (subst (λ (bytes : List ℕ). Adds from first
    (module_facts c.version-version.result bytes)) c.as_slice.ensures
    c.in_ok-add_module.ensures)) c.in_ok-add_settings.ensures) c.in_ok-add_snapshot.ensures)
    c.in_ok-add_process.ensures)
    (subst (λ (n : ℕ). Adds fourth fifth (host_facts (n * UNIT_BYTES) told.process.host.host))
    (c.from-room.ensures ∙ c.files.ensures.value)
    (subst (λ (h : HeldWasiState). Adds fourth fifth
    (host_facts (c.from-room.result * UNIT_BYTES) h.host)) c.host.ensures
    c.in_ok-add_host.ensures)))
    (subst (λ (rs : List Record). Adds fifth last (journal_facts rs told.journal_left))
    c.as_slice-2.ensures.value journal)) c.add_journal.ensures
