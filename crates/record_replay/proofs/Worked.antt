-- What a worker says of its making, and of what its process has done.
use Rattle.std.proofs.Common.{◌≡◌, ℕ, List, Bool, true, false, refl, subst}
use Rattle.wasm_syntax.specs.declared.module.Module.{Module}
use Rattle.wasm_rules.specs.Linking.{IsLinkable}
use Rattle.machine.specs.declared.instance.fault.LinkFault.{LinkFault}
use Rattle.machine.specs.rules.Offers.{offer}
use Rattle.machine.specs.rules.Refusals.{IsRefused as IsUnlinked, LinkDenies as DeniesLink}
use Rattle.record_replay.specs.rules.Calls.{Giving, Taking, Ports}
use Rattle.machine.specs.declared.from_bytes.fault.ModuleFault.{ModuleFault}
use Rattle.machine.specs.declared.from_bytes.fault.ModuleFault.TheVariants.{Link}
use Rattle.machine.specs.rules.Acceptance.{IsRead, IsReported, IsReportedOfReading}
use Rattle.machine.specs.rules.Acceptance.{ModuleFaultDenies}
use Rattle.machine.specs.rules.Acceptance.{HasNoValidModule, HasNoAcceptedModule, is_want}
use Rattle.machine.proofs.Refused.{denied, told, not_linkable}
use Rattle.machine.proofs.Wants.{no_want}
use Rattle.record_replay.specs.declared.slices.now.Now.{Now}
use Rattle.record_replay.specs.rules.Workers.{WorkerValue}
use Rattle.record_replay.specs.rules.Slices.{Slices}
use Rattle.record_replay.specs.rules.Faults.{IsRefusedByWorker}
use Rattle.record_replay.specs.rules.Refusals.{refusal_by, refusal_of}

-- ---- refusals

refused_as : (pages : ℕ) (bytes : List ℕ) (e : ModuleFault) (b : Bool) → is_want e ≡ b
    → IsReported pages bytes e → ModuleFaultDenies e (HasNoAcceptedModule pages bytes)
    → IsRefusedByWorker pages bytes (refusal_by b e)
refused_as pages bytes e true is h none = tt
refused_as pages bytes e false is h none =
    (is, h, no_want e (HasNoAcceptedModule pages bytes) is none)

pub unread : (pages : ℕ) (bytes : List ℕ) (e : ModuleFault) → IsReportedOfReading bytes e
    → ModuleFaultDenies e (HasNoValidModule bytes) → IsRefusedByWorker pages bytes (refusal_of e)
unread pages bytes e h none =
    refused_as pages bytes e (is_want e) refl (told pages bytes e h) (denied pages bytes e none)

pub unlinked : (pages : ℕ) (bytes : List ℕ) (m : Module) (e : LinkFault) → IsRead bytes m
    → IsUnlinked pages m e → DeniesLink (IsLinkable offer pages m) e
    → IsRefusedByWorker pages bytes (refusal_of (Link e))
unlinked pages bytes m e read h none =
    refused_as pages bytes (Link e) (is_want (Link e)) refl (
      m,
      read.spelled,
      read.limits,
      read.valid,
      h,
    ) (not_linkable pages bytes m read.spelled e none)

-- ---- slices

pub slices_of : {S O : Type 0} (gives : Giving S) (takes : Taking O) (v w old new : WorkerValue)
    (fuel : ℕ) (why : Now) (before after : Ports S O) → v ≡ old → w ≡ new
    → Slices gives takes v fuel why w before after → Slices gives takes old fuel why new before
    after
slices_of gives takes v w old new fuel why before after same_old same_new h =
    subst (λ z. Slices gives takes z fuel why new before after) same_old
    (subst (λ z. Slices gives takes v fuel why z before after) same_new h)
