-- What is in the way of version 2, and what it says.
use Rattle.std.proofs.Common.{◌≡◌, ℕ, refl, sym, subst}
use Rattle.worker.specs.declared.fault.WorkFault.TheVariants.{Upgrade}
use Rattle.worker.specs.declared.running_worker.RunningWorker.{RunningWorker}
use Rattle.worker.specs.declared.upgrade_fault.UpgradeFault.{UpgradeFault}
use Rattle.worker.specs.declared.upgrade_fault.UpgradeFault.TheVariants as upgrade
use Rattle.worker.specs.rules.DurableValues.{DurableValue, durable_of}
use Rattle.worker.specs.rules.Upgrades.{IsTooSmall, IsNotCaughtUp, IsInTheWay, HasUpgradeCause}
use Rattle.worker.specs.Upgrading.{MayUpgrade, IsUpgradeRefused}
use Rattle.sector_disk.specs.rules.Medium.{Medium}

-- of a worker whose parts are these
module _ (w : RunningWorker) (old : DurableValue) (replayed : ℕ)
    (is_old : durable_of w replayed ≡ old) where
  -- it is refused
  module _ (fault : UpgradeFault) (refused : IsUpgradeRefused w fault) where
    too_small_said : IsTooSmall old → fault ≡ upgrade.JournalTooSmall
    too_small_said small = by fault refused
      where
        by : (fault : UpgradeFault) → IsUpgradeRefused w fault → fault ≡ upgrade.JournalTooSmall
        by upgrade.JournalTooSmall refused = refl
        by upgrade.NotCaughtUp refused =
            absurd (subst (λ (z : DurableValue). IsTooSmall z) (sym is_old) small refused.0)

    not_caught_up_said : IsNotCaughtUp old → fault ≡ upgrade.NotCaughtUp
    not_caught_up_said behind = by fault refused
      where
        by : (fault : UpgradeFault) → IsUpgradeRefused w fault → fault ≡ upgrade.NotCaughtUp
        by upgrade.JournalTooSmall refused =
            let there : IsNotCaughtUp (durable_of w replayed) =
            subst (λ (z : DurableValue). IsNotCaughtUp z) (sym is_old) behind in
            absurd (refused there.takes)
        by upgrade.NotCaughtUp refused = refl

    pub is_said : (why : UpgradeFault) → IsInTheWay why old → fault ≡ why
    is_said upgrade.JournalTooSmall is = too_small_said is
    is_said upgrade.NotCaughtUp is = not_caught_up_said is

    pub refusal_cause : (disk disk' : Medium) → HasUpgradeCause old disk disk' (Upgrade fault)
    refusal_cause disk disk' = subst (λ (z : DurableValue).
        HasUpgradeCause z disk disk' (Upgrade fault)) is_old (by fault refused)
      where
        by : (fault : UpgradeFault) → IsUpgradeRefused w fault
            → HasUpgradeCause (durable_of w replayed) disk disk' (Upgrade fault)
        by upgrade.JournalTooSmall refused = refused
        by upgrade.NotCaughtUp refused =
            record { takes = refused.0; version = refused.1; behind = refused.2 }

  -- it isn't
  module _ (may : MayUpgrade w) where
    never_small : IsTooSmall old → ⊥
    never_small small =
        subst (λ (z : DurableValue). IsTooSmall z) (sym is_old) small may.takes

    never_behind : IsNotCaughtUp old → ⊥
    never_behind behind =
        let there : IsNotCaughtUp (durable_of w replayed) =
        subst (λ (z : DurableValue). IsNotCaughtUp z) (sym is_old) behind in
        let says = may.abreast there.version in
        let no = there.behind in
        absurd (cc)

    pub nothing_is : (why : UpgradeFault) → IsInTheWay why old → ⊥
    nothing_is upgrade.JournalTooSmall is = never_small is
    nothing_is upgrade.NotCaughtUp is = never_behind is
