-- When a module is accepted: it is spelled by its bytes within the limits, it is valid, and it can
-- be linked.
use Rattle.std.specs.Prelude.{ℕ, List}
use Rattle.wasm_syntax.specs.declared.module.Module.{Module}
use Rattle.wasm_syntax.specs.rules.Modules.{IsModule}
use Rattle.wasm_syntax.specs.rules.Limits.{IsWithinLimits}
use Rattle.wasm_rules.specs.Validity.{IsValid}
use Rattle.wasm_rules.specs.Linking.{Offer, IsLinkable}

-- these bytes are accepted as this module, with so many pages
pub record IsAccepted (offer : Offer) (pages : ℕ) (bytes : List ℕ) (m : Module) : Type 0 where
  pub spelled : IsModule bytes m
  pub limits : IsWithinLimits bytes m
  pub valid : IsValid m
  pub linkable : IsLinkable offer pages m
