-- Bytes in chunks of one size.
use Rattle.std.specs.Prelude.{◌≡◌, ℕ, zero, suc, ◌*◌, ◌-◌, List, [], ◌∷◌, length, drop, replicate}
use Rattle.std.specs.List.{AllByRecursion, concat}
use Rattle.file_tree.specs.declared.limits.TheConstants.{CHUNK_BYTES}
use Rattle.file_tree.specs.rules.Chunks.{chunks_for}

-- bytes in the place of others, as far as there are any
abbrev pub overlaid : List ℕ → ℕ → List ℕ → List ℕ
overlaid [] from bytes = []
overlaid (x ∷ xs) zero [] = x ∷ xs
overlaid (x ∷ xs) zero (b ∷ bytes) = b ∷ overlaid xs zero bytes
overlaid (x ∷ xs) (suc from) bytes = x ∷ overlaid xs from bytes

-- each chunk has all its bytes
abbrev pub AreFull : List (List ℕ) → Type 0
AreFull chunks = AllByRecursion (λ (c : List ℕ). length c ≡ CHUNK_BYTES) chunks

-- chunks of a file of this size: no more than it takes, and zeros after its bytes
pub record AreChunks (chunks : List (List ℕ)) (size : ℕ) : Type 0 where
  pub full : AreFull chunks
  pub count : length chunks ≡ chunks_for size
  pub zeros : drop size (concat chunks) ≡ replicate (length chunks * CHUNK_BYTES - size) 0
