-- The bytes of a head.
use Rattle.std.proofs.Common.{◌≡◌, ℕ, zero, suc, ◌+◌, List, ◌++◌, length, refl, w32}
use Rattle.std.proofs.Common.{slice_index, ◌∙◌, arith, length-append}
use Rattle.std.specs.List.{AllByRecursion}
use Rattle.std.specs.Int.{to_be_bytes}
use Rattle.sha2.specs.Sha256.{sha256, digest_bytes, final_hash, initial_hash_256}
use Rattle.guest_memory.specs.rules.Bytes.{IsByte}
use Rattle.wasi_abi.specs.rules.Layouts.{u32_bytes, u64_bytes, padding}
use Rattle.disk_layout.specs.declared.head.Head.{Head}
use Rattle.disk_layout.specs.rules.Sectors.{head_bytes}
use Rattle.disk_layout.proofs.StampLemmas.{all_append}
use Rattle.guest_memory.proofs.Lists.{bytes_are as all_bytes_of}
use Rattle.disk_layout.specs.declared.head.TheConstants.{HEAD_MARK}

all_padding : (n : ℕ) → AllByRecursion IsByte (padding n)
all_padding zero = tt
all_padding (suc n) = (omega arith, all_padding n)

all_word : (x : ℕ) → AllByRecursion IsByte (to_be_bytes w32 x)
all_word x = (omega arith, (omega arith, (omega arith, (omega arith, tt))))

all_digest_bytes : (h : List ℕ) (n : ℕ) → AllByRecursion IsByte (digest_bytes h n)
unfolding digest_bytes
all_digest_bytes h zero = tt
all_digest_bytes h (suc n) =
    all_append (digest_bytes h n) (to_be_bytes w32 (slice_index h n)) (all_digest_bytes h n)
    (all_word (slice_index h n))

pub all_digest : (m : List ℕ) → AllByRecursion IsByte (sha256 m)
unfolding sha256
all_digest m = all_digest_bytes (final_hash initial_hash_256 m) 8

all_mark : AllByRecursion IsByte HEAD_MARK
all_mark = (
  omega arith,
  (
    omega arith,
    (omega arith, (omega arith, (omega arith, (omega arith, (omega arith, (omega arith, tt)))))),
  ),
)

pub all_head : (h : Head) → AllByRecursion IsByte h.digest → AllByRecursion IsByte (head_bytes h)
all_head h digest =
    let stamp = u64_bytes h.generation ++ u64_bytes 1 in
    let zeros = padding 440 ++ stamp in
    all_append HEAD_MARK (u32_bytes h.version
    ++ (padding 4 ++ (u64_bytes h.length_in_bytes ++ (h.digest ++ zeros)))) all_mark
    (all_append (u32_bytes h.version) (padding 4 ++ (u64_bytes h.length_in_bytes
    ++ (h.digest ++ zeros))) (all_bytes_of 4 h.version)
    (all_append (padding 4) (u64_bytes h.length_in_bytes ++ (h.digest ++ zeros)) (all_padding 4)
    (all_append (u64_bytes h.length_in_bytes) (h.digest ++ zeros) (all_bytes_of 8 h.length_in_bytes)
    (all_append h.digest zeros digest (all_append (padding 440) stamp (all_padding 440)
    (all_append (u64_bytes h.generation) (u64_bytes 1) (all_bytes_of 8 h.generation)
    (all_bytes_of 8 1)))))))

pub length-head : (h : Head) → length h.digest ≡ 32 → length (head_bytes h) ≡ 512
length-head h digest =
    let stamp = u64_bytes h.generation ++ u64_bytes 1 in
    let zeros = padding 440 ++ stamp in
    let last : length (h.digest ++ zeros) ≡ 488 = length-append h.digest zeros
    ∙ (let n : length zeros ≡ 456 = refl in omega (arith, n, digest)) in
    let first : length (head_bytes h) ≡ 24 + length (h.digest ++ zeros) =
    length-append (HEAD_MARK ++ (u32_bytes h.version ++ (padding 4 ++ u64_bytes h.length_in_bytes)))
    (h.digest ++ zeros) in
    omega (arith, first, last)
