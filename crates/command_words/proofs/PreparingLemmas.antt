-- Why no creation is prepared.
use Rattle.std.proofs.Common.{◌≡◌, ℕ, List, sym, subst}
use Rattle.std.specs.Prelude.{IfErr, Result, Ok, Err}
use Rattle.wasi_abi.specs.rules.Configs.{Settings, AreSettingsWithinLimits}
use Rattle.command_words.specs.declared.preparing.Prepared.{Prepared}
use Rattle.command_words.specs.declared.preparing.Unprepared.{Unprepared}
use Rattle.command_words.specs.declared.preparing.Unprepared.TheVariants as unprepared
use Rattle.command_words.specs.rules.Preparations.{IsUnaccepted, IsUnprepared}
use Rattle.command_words.specs.Preparations.{prepared_with}

-- a module that isn't accepted, with a configuration within its limits
measured_in_vain : (config : Settings) (bytes : List ℕ) (measured : Result ℕ Unprepared)
    → AreSettingsWithinLimits config → IfErr measured (IsUnaccepted config.pages bytes)
    → IfErr (prepared_with config measured) (IsUnprepared config bytes)
measured_in_vain config bytes (Ok sectors) within is = tt
measured_in_vain config bytes (Err (unprepared.Range bound)) within is = absurd is
measured_in_vain config bytes (Err (unprepared.Text unnamed)) within is = absurd is
measured_in_vain config bytes (Err (unprepared.Module why)) within is = (within, is)
measured_in_vain config bytes (Err unprepared.Memory) within is = tt

pub prepared_in_vain : (config given : Settings) (bytes : List ℕ) (measured : Result ℕ Unprepared)
    (result : Result Prepared Unprepared) → config ≡ given → result ≡ prepared_with config measured
    → AreSettingsWithinLimits config → IfErr measured (IsUnaccepted config.pages bytes)
    → IfErr result (IsUnprepared given bytes)
prepared_in_vain config given bytes measured result same is within refused =
    subst (λ r. IfErr r (IsUnprepared given bytes)) (sym is)
    (subst (λ z. IfErr (prepared_with config measured) (IsUnprepared z bytes)) same
    (measured_in_vain config bytes measured within refused))
