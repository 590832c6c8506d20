-- A version has a number of its own, and lengths with room in their bytes.
use Rattle.std.proofs.Common.{◌≡◌, ◌<◌, ◌^◌, refl, lit<, arith}
use Rattle.wasi_abi.specs.declared.version.Version.{Version}
use Rattle.wasi_abi.specs.declared.version.Version.TheVariants.{One, Two}
use Rattle.wasi_abi.specs.rules.Versions.{version_number, text_limit, length_bytes}

pub own_number : (v w : Version) → version_number v ≡ version_number w → v ≡ w
own_number One One e = refl
own_number One Two e = absurd (omega (arith, e))
own_number Two One e = absurd (omega (arith, e))
own_number Two Two e = refl

pub lengths_fit : (v : Version) → text_limit v < 256 ^ length_bytes v
lengths_fit One = lit< tt
lengths_fit Two = lit< tt
