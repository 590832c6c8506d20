-- What a fault says other than out of memory.
use Rattle.std.proofs.Common.{◌≡◌, false}
use Rattle.wasm_decode.specs.declared.fault.DecodeFault.TheVariants as decode
use Rattle.wasm_validate.specs.declared.parts.fault.ValidFault.TheVariants as valid
use Rattle.machine.specs.declared.instance.fault.LinkFault.TheVariants as link
use Rattle.machine.specs.declared.from_bytes.fault.ModuleFault.{ModuleFault}
use Rattle.machine.specs.declared.from_bytes.fault.ModuleFault.TheVariants.{Decode, Valid, Link}
use Rattle.machine.specs.rules.Acceptance.{ModuleFaultDenies, is_want}

pub no_want : (e : ModuleFault) (P : Type 0) → is_want e ≡ false → ModuleFaultDenies e P → P
no_want (Decode decode.Memory) P w h = absurd (cc)
no_want (Decode (decode.Malformed at)) P w h = h
no_want (Decode (decode.Float at)) P w h = h
no_want (Decode (decode.Limit passed)) P w h = h
no_want (Valid valid.Memory) P w h = absurd (cc)
no_want (Valid valid.Typing) P w h = h
no_want (Valid valid.Index) P w h = h
no_want (Valid valid.Limits) P w h = h
no_want (Valid valid.DuplicateExport) P w h = h
no_want (Link link.Memory) P w h = absurd (cc)
no_want (Link link.NoStart) P w h = h
no_want (Link link.NoMemory) P w h = h
no_want (Link link.UnknownImport) P w h = h
no_want (Link link.ImportType) P w h = h
no_want (Link link.InitRange) P w h = h
no_want (Link link.TooManyPages) P w h = h
