use Rattle.std.proofs.Common.{◌+◌, ◌≤◌, sym, subst, arith}
use Rattle.wasi_abi.specs.declared.version.Version.{Version}
use Rattle.wasi_abi.specs.rules.Versions.{widenings}
use Rattle.process.proofs.Legacies.{is_legacy}
use Rattle.process.proofs.process.Process.into_legacy.Goals as goal

pub invariant_of-result : goal.invariant_of-result
invariant_of-result c =
    let v = c.self.inside in
    let next = (rw (← c.self.view_is) at c.requires) in
    let few_answers = subst (λ (w : Version). v.answers ≤ v.steps + widenings w)
    (sym c.version-version.ensures) c.self.invariant.few_answers in
    is_legacy v.host.host.files c.into_tree-tree.result c.version-version.result
    c.lines-lines.result v.steps v.answers v.requests c.last_monotonic-last_monotonic.result
    c.into_tree-tree.ensures c.len-nodes.ensures.shape next few_answers
    c.self.invariant.few_requests c.last_monotonic-last_monotonic.type_inv
    (omega (arith, c.if-steps-ge-NUMBERS_END.false)) c.lines-lines.ensures.few
