use Rattle.std.proofs.Common.{subst, ap, ℕ, Result, IsErr, Err, ◌≡◌, ◌∙◌, ◌==◌, if◌then◌else◌, sym}
use Rattle.std.proofs.Common.{refl}
use denote.Param.Object.{read_made}
use Rattle.wasi_calls_rules.specs.WasiStates.{Line}
use Rattle.record_replay.specs.declared.fault.OutletFault.{OutletFault}
use Rattle.record_replay.specs.rules.Lists.{until_fault}
use Rattle.host_tests.proofs.sources.release_first.OwnLists.{own-1, at-1-1}
use Rattle.host_tests.proofs.sources.release_first.Goals as goal

-- What the box says is read off the outlet that was put into it, which refuses the first line.
pub returns : goal.returns
returns c =
    let e = own-1.entry at-1-1 in
    let r = read_made own-1 e at-1-1 refl (Result (Unit {0}) OutletFault
    → Type 0) (λ j x said. (n : ℕ) × (line : Line) × (z : j.0.Denot)
    × j.1.takes x n line said z) _ _ _ c.into_dyn_box.ensures.1 in
    let k = subst (λ f. f c.release.result) r (_, _, c.release.ensures.0, c.release.ensures.1) in
    let inner : Result (Unit {0}) OutletFault = k.3.said_inside in
    let answered : ℕ → Result (Unit {0}) OutletFault = λ n. if n == 1 then Err (record {})
    else inner in
    let is : c.release.result ≡ answered (until_fault c.in_ok-new.field-0.value) = k.3.said_is in
    let first : until_fault c.in_ok-new.field-0.value ≡ 1 = ap until_fault c.in_ok-new.ensures.ok
    ∙ c.new-refusing.ensures.until_fault in
    subst (λ z. IsErr z) (sym (is ∙ ap answered first)) refl
