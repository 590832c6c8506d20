-- What each step refuses is no accepted module.
use Rattle.std.proofs.Common.{ℕ, List, sym, ◌∙◌, subst}
use Rattle.wasm_syntax.proofs.Grammar.Exact.{some_is}
use Rattle.wasm_syntax.proofs.Grammar.Whole.{module_complete}
use Rattle.wasm_syntax.specs.declared.module.Module.{Module}
use Rattle.wasm_syntax.specs.rules.Modules.{IsModule}
use Rattle.wasm_syntax.specs.laws.Laws.{BytesSpellAtMostOneModule}
use Rattle.wasm_rules.specs.Validity.{IsValid}
use Rattle.wasm_rules.specs.Linking.{IsLinkable}
use Rattle.wasm_decode.specs.declared.fault.DecodeFault.TheVariants as decode
use Rattle.wasm_validate.specs.declared.parts.fault.ValidFault.{ValidFault}
use Rattle.wasm_validate.specs.declared.parts.fault.ValidFault.TheVariants as valid
use Rattle.wasm_validate.specs.rules.Answers.{Denies as DeniesValid}
use Rattle.machine.specs.declared.instance.fault.LinkFault.{LinkFault}
use Rattle.machine.specs.declared.instance.fault.LinkFault.TheVariants as link
use Rattle.machine.specs.rules.Refusals.{LinkDenies as DeniesLink}
use Rattle.machine.specs.rules.Offers.{offer}
use Rattle.machine.specs.declared.from_bytes.fault.ModuleFault.TheVariants.{Decode, Valid, Link}
use Rattle.machine.specs.declared.from_bytes.fault.ModuleFault.{ModuleFault}
use Rattle.machine.specs.rules.Acceptance.{ModuleFaultDenies, HasNoAcceptedModule}
use Rattle.machine.specs.rules.Acceptance.{HasNoValidModule, IsReported, IsReportedOfReading}

one : BytesSpellAtMostOneModule
one bytes m n is_m is_n =
    some_is m n (sym (module_complete bytes m is_m) ∙ module_complete bytes n is_n)

module _ {bytes : List ℕ} where
  pub not_valid : {m : Module} → IsModule bytes m → (e : ValidFault) → DeniesValid e (IsValid m)
      → ModuleFaultDenies (Valid e) (HasNoValidModule bytes)
  not_valid spelled valid.Memory h = tt
  not_valid {m} spelled valid.Typing h =
      λ n a. h (subst IsValid (one bytes n m a.spelled spelled) a.valid)
  not_valid {m} spelled valid.Index h =
      λ n a. h (subst IsValid (one bytes n m a.spelled spelled) a.valid)
  not_valid {m} spelled valid.Limits h =
      λ n a. h (subst IsValid (one bytes n m a.spelled spelled) a.valid)
  not_valid {m} spelled valid.DuplicateExport h =
      λ n a. h (subst IsValid (one bytes n m a.spelled spelled) a.valid)

module _ (pages : ℕ) (bytes : List ℕ) where
  -- an accepted module is valid
  none_accepted : HasNoValidModule bytes → HasNoAcceptedModule pages bytes
  none_accepted none m a =
      none m (record { spelled = a.spelled; limits = a.limits; valid = a.valid })

  pub denied : (e : ModuleFault) → ModuleFaultDenies e (HasNoValidModule bytes)
      → ModuleFaultDenies e (HasNoAcceptedModule pages bytes)
  denied (Decode decode.Memory) h = tt
  denied (Decode (decode.Malformed at)) h = none_accepted h
  denied (Decode (decode.Float at)) h = none_accepted h
  denied (Decode (decode.Limit passed)) h = none_accepted h
  denied (Valid valid.Memory) h = tt
  denied (Valid valid.Typing) h = none_accepted h
  denied (Valid valid.Index) h = none_accepted h
  denied (Valid valid.Limits) h = none_accepted h
  denied (Valid valid.DuplicateExport) h = none_accepted h
  denied (Link link.Memory) h = tt
  denied (Link link.NoStart) h = none_accepted h
  denied (Link link.NoMemory) h = none_accepted h
  denied (Link link.UnknownImport) h = none_accepted h
  denied (Link link.ImportType) h = none_accepted h
  denied (Link link.InitRange) h = none_accepted h
  denied (Link link.TooManyPages) h = none_accepted h

  -- what refuses to read the module refuses it
  pub told : (e : ModuleFault) → IsReportedOfReading bytes e → IsReported pages bytes e
  told (Decode fault) h = h
  told (Valid fault) h = h
  told (Link fault) h = absurd h

  module _ (m : Module) (spelled : IsModule bytes m) where
    pub not_linkable : (e : LinkFault) → DeniesLink (IsLinkable offer pages m) e
        → ModuleFaultDenies (Link e) (HasNoAcceptedModule pages bytes)
    not_linkable link.Memory h = tt
    not_linkable link.NoStart h =
        λ n a. h (subst (λ z. IsLinkable offer pages z)
        (one bytes n m a.spelled spelled) a.linkable)
    not_linkable link.NoMemory h =
        λ n a. h (subst (λ z. IsLinkable offer pages z)
        (one bytes n m a.spelled spelled) a.linkable)
    not_linkable link.UnknownImport h =
        λ n a. h (subst (λ z. IsLinkable offer pages z)
        (one bytes n m a.spelled spelled) a.linkable)
    not_linkable link.ImportType h =
        λ n a. h (subst (λ z. IsLinkable offer pages z)
        (one bytes n m a.spelled spelled) a.linkable)
    not_linkable link.InitRange h =
        λ n a. h (subst (λ z. IsLinkable offer pages z)
        (one bytes n m a.spelled spelled) a.linkable)
    not_linkable link.TooManyPages h =
        λ n a. h (subst (λ z. IsLinkable offer pages z)
        (one bytes n m a.spelled spelled) a.linkable)
