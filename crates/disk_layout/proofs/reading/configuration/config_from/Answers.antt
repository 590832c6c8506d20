use Rattle.std.proofs.Common.{◌≡◌, sym, ◌∙◌, subst, refl, arith}
use Rattle.wasi_abi.specs.rules.Configs.{Settings, AreSettingsWithinLimits}
use Rattle.wasi_abi.specs.rules.Layouts.{u32_at}
use Rattle.wasi_abi.proofs.ByteLemmas.{all_bytes}
use Rattle.disk_layout.proofs.ReadingLemmas.ConfigLemmas.{HasTexts, same_settings, no_environment}
use Rattle.disk_layout.proofs.ReadingLemmas.ConfigLemmas.{not_at_the_end, out_of_limits}
use Rattle.disk_layout.proofs.ReadingLemmas.ConfigLemmas.{within_limits}
use Rattle.disk_layout.proofs.reading.configuration.config_from.Goals as goal

pub returns-in_default-2 : goal.returns-in_default-2
returns-in_default-2 c =
    let first = rw c.in-Some.is at c.in_ok-arguments.ensures in
    let none = rw c.in_default-2.is at c.in_ok-environment.ensures in
    no_environment c.args.bytes.now _ _ first none

pub returns-then-rest-ne0 : goal.returns-then-rest-ne0
returns-then-rest-ne0 c =
    let first = rw c.in-Some.is at c.in_ok-arguments.ensures in
    let second = rw c.in-Some-2.is at c.in_ok-environment.ensures in
    let texts : HasTexts c.args.bytes.now c.in-Some.arguments c.in-Some-2.environment
    c.in-Some-2.rest.now = record {
      between = c.in-Some.rest.now;
      arguments_first = first;
      environment_first = second;
    } in
    not_at_the_end c.args.bytes.now _ _ _ texts c.if-rest-ne0.true

pub returns-in-Ok : goal.returns-in-Ok
returns-in-Ok c =
    let bytes = c.args.bytes.now in
    let first = rw c.in-Some.is at c.in_ok-arguments.ensures in
    let second = rw c.in-Some-2.is at c.in_ok-environment.ensures in
    let texts : HasTexts bytes c.in-Some.arguments c.in-Some-2.environment c.in-Some-2.rest.now =
    record { between = c.in-Some.rest.now; arguments_first = first; environment_first = second }
    in
    let pages : c.from-pages.result ≡ u32_at bytes 0 = c.from-pages.ensures ∙ c.u32_from.ensures in
    let files : c.from-files.result ≡ u32_at bytes 4 = c.from-files.ensures ∙ c.u32_from-2.ensures
    in
    let journal : c.from-journal.result ≡ u32_at bytes 8 = c.from-journal.ensures
    ∙ c.u32_from-3.ensures in
    let is = c.in-Ok.ensures.made
    ∙ same_settings _ _ _ _ _ _ c.in-Some.arguments c.in-Some.arguments c.in-Some-2.environment
    c.in-Some-2.environment pages files journal refl refl in
    let limits : AreSettingsWithinLimits c.in-Ok.config =
    subst (λ (x : Settings). AreSettingsWithinLimits x) (sym c.in-Ok.ensures.made)
    (c.in-Ok.ensures.ok.0 refl) in
    within_limits bytes _ _ _ c.in-Ok.config (all_bytes bytes (λ k. omega (
      arith,
      c.type_inv.bytes k,
    ))) c.if-bytes-lt-CONFIG_HEAD_BYTES.false texts c.if-rest-ne0.false is limits

pub returns-in-Err : goal.returns-in-Err
returns-in-Err c =
    let bytes = c.args.bytes.now in
    let first = rw c.in-Some.is at c.in_ok-arguments.ensures in
    let second = rw c.in-Some-2.is at c.in_ok-environment.ensures in
    let texts : HasTexts bytes c.in-Some.arguments c.in-Some-2.environment c.in-Some-2.rest.now =
    record { between = c.in-Some.rest.now; arguments_first = first; environment_first = second }
    in
    let pages : c.from-pages.result ≡ u32_at bytes 0 = c.from-pages.ensures ∙ c.u32_from.ensures in
    let files : c.from-files.result ≡ u32_at bytes 4 = c.from-files.ensures ∙ c.u32_from-2.ensures
    in
    let journal : c.from-journal.result ≡ u32_at bytes 8 = c.from-journal.ensures
    ∙ c.u32_from-3.ensures in
    let is = same_settings _ _ _ _ _ _ c.in-Some.arguments c.in-Some.arguments
    c.in-Some-2.environment c.in-Some-2.environment pages files journal refl refl in
    out_of_limits bytes _ _ _ texts (λ limits.
    let no = c.in-Err.ensures.ok.1 (subst (λ (x : Settings). AreSettingsWithinLimits x)
    (sym is) limits) in cc)
