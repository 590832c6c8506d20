-- Bytes that the code has are bytes of the definitions.
use Rattle.std.proofs.Common.{ℕ, suc, ◌<◌, List, [], ◌∷◌, get_or}
use Rattle.wasi_abi.specs.rules.Answers.{AreBytes}

pub all_bytes : (bytes : List ℕ) → ((k : ℕ) → get_or bytes k 0 < 256) → AreBytes bytes
all_bytes [] each = tt
all_bytes (b ∷ bytes) each = (each 0, all_bytes bytes (λ k. each (suc k)))
