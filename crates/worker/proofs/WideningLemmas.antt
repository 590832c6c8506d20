-- A process in version 2.
use Rattle.std.proofs.Common.{◌≡◌, ◌⊎◌, [], refl, sym, ap, ◌∙◌, subst, inl, inr, ⊎_elim}
use Rattle.wasm_syntax.specs.declared.module.Module.{Module}
use Rattle.wasi_abi.specs.declared.version.Version.{Version}
use Rattle.wasi_abi.specs.declared.version.Version.TheVariants.{One, Two}
use Rattle.wasi_calls_rules.specs.WasiStates.{WasiState}
use Rattle.process_rules.specs.Processes.{ProcessState, Guest}
use Rattle.process_rules.specs.Runs.{widened}
use Rattle.process.specs.rules.Values.{ProcessValue, ShowsProcess, IsProcess, waiting_in}
use Rattle.process.proofs.Widening.{value_widened, shows_widened, is_widened}
use Rattle.worker.specs.rules.Upgrades.{in_version_two, upgraded}

pub one_or_two : (version : Version) → (version ≡ One) ⊎ (version ≡ Two)
one_or_two One = inl refl
one_or_two Two = inr refl

module _ (v : ProcessValue) where
  pub upgraded_one : v.host.host.version ≡ One → upgraded v ≡ value_widened v
  upgraded_one narrow = ap (λ z. in_version_two z v) narrow

  pub upgraded_two : v.host.host.version ≡ Two → upgraded v ≡ v
  upgraded_two wide = ap (λ z. in_version_two z v) wide

  -- what holds of it in either version holds of it in version 2
  pub by_versions : (P : ProcessValue → Type 0)
      → (v.host.host.version ≡ One → P (value_widened v))
      → (v.host.host.version ≡ Two → P v) → P (upgraded v)
  by_versions P one two = ⊎_elim
      (λ (narrow : v.host.host.version ≡ One).
      subst P (sym (upgraded_one narrow)) (one narrow))
      (λ (wide : v.host.host.version ≡ Two). subst P (sym (upgraded_two wide)) (two wide))
      (one_or_two v.host.host.version)

  pub is_upgraded : IsProcess v → IsProcess (upgraded v)
  is_upgraded is = by_versions IsProcess (λ narrow. is_widened v narrow is) (λ wide. is)

  pub upgraded_version : (upgraded v).host.host.version ≡ Two
  upgraded_version =
      by_versions (λ (z : ProcessValue). z.host.host.version ≡ Two) (λ narrow. refl) (λ wide. wide)

  pub none_waits_upgraded : waiting_in v ≡ [] → waiting_in (upgraded v) ≡ []
  none_waits_upgraded none =
      by_versions (λ (z : ProcessValue). waiting_in z ≡ []) (λ narrow. none) (λ wide. none)

  pub module_upgraded : (m : Module) → v.machine.guest ≡ m → (upgraded v).machine.guest ≡ m
  module_upgraded m same =
      by_versions (λ (z : ProcessValue). z.machine.guest ≡ m) (λ narrow. same) (λ wide. same)

  -- it shows what it showed, widened
  pub shows_upgraded : v.host.host.version ≡ One → (guest : Guest) (p : ProcessState)
      → ShowsProcess v guest p → ShowsProcess (upgraded v) guest (widened p)
  shows_upgraded narrow guest p shows =
      subst (λ (z : ProcessValue). ShowsProcess z guest (widened p)) (sym (upgraded_one narrow))
      (shows_widened v guest p shows)

-- ---- as it is done

-- ---- versions of what is shown

pub shown_version : (v : ProcessValue) (guest : Guest) (p : ProcessState) → ShowsProcess v guest p
    → p.host.version ≡ v.host.host.version
shown_version v guest p shows =
    let host = shows.host in ap (λ (h : WasiState). h.version) host.is

pub shown_in_one : (v : ProcessValue) (guest : Guest) (p : ProcessState) → ShowsProcess v guest p
    → p.host.version ≡ One → v.host.host.version ≡ One
shown_in_one v guest p shows narrow = sym (shown_version v guest p shows) ∙ narrow
