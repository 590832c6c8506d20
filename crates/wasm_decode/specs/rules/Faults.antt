-- Faults, as callers see them.
use Rattle.std.specs.Prelude.{ℕ, Option, Some, None}
use Rattle.wasm_decode.specs.declared.items.fault.ReadRefusal.TheVariants as refusal
use Rattle.wasm_decode.specs.declared.items.limit.PassedLimit.{PassedLimit}
use Rattle.wasm_decode.specs.declared.items.fault.ItemFault.{ItemFault}
use Rattle.wasm_decode.specs.declared.items.fault.ItemFault.TheVariants as read
use Rattle.wasm_decode.specs.declared.fault.DecodeFault.{DecodeFault}
use Rattle.wasm_decode.specs.declared.fault.DecodeFault.TheVariants as fault

-- the offset of the item at fault, for the two faults that have one
abbrev pub place_of : DecodeFault → Option ℕ
place_of (fault.Malformed at) = Some at
place_of (fault.Float at) = Some at
place_of (fault.Limit passed) = None
place_of fault.Memory = None

-- the limit that is passed, and where, for the one fault that says so
abbrev pub passed_of : DecodeFault → Option PassedLimit
passed_of (fault.Limit passed) = Some passed
passed_of (fault.Malformed at) = None
passed_of (fault.Float at) = None
passed_of fault.Memory = None

-- what callers are told of a reader's fault
abbrev pub decode_fault : ItemFault → DecodeFault
decode_fault (read.Refused (refusal.Malformed at)) = fault.Malformed at
decode_fault (read.Refused (refusal.Float at)) = fault.Float at
decode_fault (read.Refused (refusal.Limit passed)) = fault.Limit passed
decode_fault read.Memory = fault.Memory
