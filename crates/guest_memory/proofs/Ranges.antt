-- Ranges of a memory that are written.
use Rattle.std.proofs.Common.{◌≡◌, ℕ, ◌+◌, ◌≤◌, List, ◌++◌, length, take, drop, arith, sym, ap, ◌∙◌}
use Rattle.std.proofs.Common.{replicate, append_assoc, length-append, length-take, length-drop}
use Rattle.std.proofs.lemmas.List.{take_all, take_at, length-replicate, replicate-append-replicate}
use Rattle.guest_memory.specs.rules.Bytes.{part, with_part}
use Rattle.guest_memory.specs.rules.Memories.{LinearMemory, with_bytes, with_lent}

-- there are as many bytes in a range as it is long
pub length-part : (memory : List ℕ) (from len : ℕ) → from + len ≤ length memory
    → length (part memory from len) ≡ len
length-part memory from len h =
    omega (arith, length-take len (drop from memory), length-drop from memory)

-- a memory is as long as before, where bytes are put into it for which there is room
pub length-with_part : (memory : List ℕ) (from : ℕ) (bytes : List ℕ)
    → from + length bytes ≤ length memory
    → length (with_part memory from bytes) ≡ length memory
length-with_part memory from bytes h =
    omega (
      arith,
      length-append (take from memory) (bytes ++ drop (from + length bytes) memory),
      length-append bytes (drop (from + length bytes) memory),
      length-take from memory,
      length-drop (from + length bytes) memory,
    )

-- what has come back is what was written, where there was room for it
pub with_lent-with_bytes : (from : ℕ) (bytes : List ℕ) (m : LinearMemory)
    → from + length bytes ≤ length m.bytes
    → with_lent from bytes m ≡ with_bytes from bytes m
with_lent-with_bytes from bytes m h =
    let long : length (with_part m.bytes from bytes) ≡ length m.bytes =
    length-with_part m.bytes from bytes h in
    let same : take (length m.bytes) (with_part m.bytes from bytes) ≡ with_part m.bytes from bytes =
    take_all (length m.bytes) (with_part m.bytes from bytes) (omega arith) in
    λ i. record { bytes = same i; limit = m.limit }

-- a list that begins with so many of one number, once more of them are behind
pub filled_on : (xs ys post : List ℕ) (done part b : ℕ) → take done xs ≡ replicate done b
    → ys ≡ replicate part b
    → take (done + part) (take done xs ++ (ys ++ post)) ≡ replicate (done + part) b
filled_on xs ys post done part b h k =
    ap (λ z. take (done + part) (z ++ (ys ++ post))) h
    ∙ ap (λ z. take (done + part) (replicate done b ++ (z ++ post))) k
    ∙ ap (take (done + part)) (sym (append_assoc (replicate done b) (replicate part b) post)
    ∙ ap (λ z. z ++ post) (replicate-append-replicate done part b))
    ∙ take_at (replicate (done + part) b) post (done + part) (length-replicate (done + part) b)
