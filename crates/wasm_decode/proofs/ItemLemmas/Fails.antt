-- A refusal handed on.
use Rattle.std.proofs.Common.{◌≡◌, Option, None}
use Rattle.wasm_decode.specs.declared.items.fault.ItemFault.{ItemFault}
use Rattle.wasm_decode.specs.declared.items.fault.ItemFault.TheVariants.{Refused, Memory}
use Rattle.wasm_decode.specs.Items.Answers.{FailsToRead}

pub fails_as : {X Y : Type 0} (e : ItemFault) (read : Option X) (total : Option Y)
    → (read ≡ None → total ≡ None) → FailsToRead e read → FailsToRead e total
fails_as Memory read total h f = tt
fails_as (Refused r) read total h f = h f
