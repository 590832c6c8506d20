-- Numbers that are written at a place of a list, and read again.
use Rattle.std.proofs.Common.{◌≡◌, ℕ, zero, suc, ◌+◌, ◌-◌, ◌/◌, ◌%◌, ◌^◌, ◌≤◌, List, [], ◌++◌}
use Rattle.std.proofs.Common.{length, take, drop, slice_index, refl, sym, ap, ◌∙◌, arith}
use Rattle.std.proofs.Common.{length-drop}
use Rattle.std.proofs.Math.Nat.{div-div-eq-div-mul, div-one, pow-suc}
use Rattle.std.proofs.lemmas.List.{append-nil, drop_all, take_all, drop-drop}
use Rattle.std.specs.Int.{byte_at, bytes_low_first}
use borrow.Rule.Slice.PartMut.{put_mid}
use Rattle.guest_memory.specs.rules.Bytes.{bytes_of, with_part}
use Rattle.guest_memory.proofs.ByteLemmas.{length-bytes_of, number_of-bytes_of}
use Rattle.wasi_abi.specs.declared.layout.Fdstat.{Fdstat}
use Rattle.wasi_abi.specs.declared.layout.Filestat.{Filestat}
use Rattle.wasi_abi.specs.declared.layout.Dirent.{Dirent}
use Rattle.wasi_abi.specs.rules.Layouts.{u16_at, u32_at, u64_at, fdstat_layout, FdstatFits}
use Rattle.wasi_abi.specs.rules.Layouts.{filestat_layout, FilestatFits, dirent_layout, DirentFits}

pub byte_at-pow : (i x : ℕ) → byte_at i x ≡ x / 256 ^ i % 256
byte_at-pow zero x = ap (λ y. y % 256) (sym (div-one x))
byte_at-pow (suc i) x = refl

-- both spellings of a number's bytes are one
pub bytes_low_first-bytes_of : (i n x : ℕ) → bytes_low_first i n x ≡ bytes_of n (x / 256 ^ i)
bytes_low_first-bytes_of i zero x = refl
bytes_low_first-bytes_of i (suc n) x =
    let here = byte_at-pow i x in
    let shifted : x / 256 ^ suc i ≡ x / 256 ^ i / 256 = ap (λ y. x / y) (pow-suc 256 i)
    ∙ sym (div-div-eq-div-mul x (256 ^ i) 256) in
    let rest = bytes_low_first-bytes_of (suc i) n x ∙ ap (λ y. bytes_of n y) shifted in
    cc

pub put_mid-with_part : (at n x : ℕ) (old new : List ℕ) → at + n ≤ length old
    → new ≡ bytes_low_first 0 n x ++ drop n (take (length old - at) (drop at old))
    → put_mid at (length old - at) old new ≡ with_part old at (bytes_of n x)
put_mid-with_part at n x old new room is =
    let rest : take (length old - at) (drop at old) ≡ drop at old =
    take_all (length old - at) (drop at old) (omega (arith, length-drop at old)) in
    let none : drop (length old - at) (drop at old) ≡ [] =
    drop_all (length old - at) (drop at old) (omega (arith, length-drop at old)) in
    let bytes : bytes_low_first 0 n x ≡ bytes_of n x = bytes_low_first-bytes_of 0 n x
    ∙ ap (λ y. bytes_of n y) (div-one x) in
    let behind : drop n (take (length old - at) (drop at old)) ≡ drop (at + n) old =
    ap (λ y. drop n y) rest ∙ drop-drop n at old in
    let front : new ++ drop (length old - at) (drop at old) ≡ new = ap (λ y. new ++ y) none
    ∙ append-nil new in
    let whole : new ≡ bytes_of n x ++ drop (at + n) old =
    is ∙ (ap (λ y. y ++ drop n (take (length old - at) (drop at old))) bytes
    ∙ ap (λ y. bytes_of n x ++ y) behind) in
    let count : bytes_of n x ++ drop (at + length (bytes_of n x)) old ≡ bytes_of n x
    ++ drop (at + n) old = ap (λ y. bytes_of n x ++ drop (at + y) old) (length-bytes_of n x) in
    ap (λ y. take at old ++ y) (front ∙ (whole ∙ sym count))

-- ---- what is read of a layout is what was laid out

pub fdstat_again : (s : Fdstat) (bytes : List ℕ) (flags base inheriting : ℕ) → FdstatFits s
    → bytes ≡ fdstat_layout s
    → flags ≡ u16_at bytes 2 → base ≡ u64_at bytes 8 → inheriting ≡ u64_at bytes 16
    → let read : Fdstat = record {
      file_type = slice_index bytes 0;
      flags = flags;
      base = record { 0 = base };
      inheriting = record { 0 = inheriting };
    } in read ≡ s
fdstat_again s bytes flags base inheriting fits is f b i =
    let t : slice_index bytes 0 ≡ s.file_type = ap (λ y. slice_index y 0) is in
    let f' : flags ≡ s.flags =
    f ∙ (ap (λ y. u16_at y 2) is ∙ number_of-bytes_of 2 s.flags fits.flags) in
    let b' : base ≡ s.base.0 =
    b ∙ (ap (λ y. u64_at y 8) is ∙ number_of-bytes_of 8 s.base.0 fits.base) in
    let i' : inheriting ≡ s.inheriting.0 =
    i ∙ (ap (λ y. u64_at y 16) is ∙ number_of-bytes_of 8 s.inheriting.0 fits.inheriting) in
    λ j. record {
      file_type = t j;
      flags = f' j;
      base = record { 0 = b' j };
      inheriting = record { 0 = i' j };
    }

pub filestat_again : (s : Filestat) (bytes : List ℕ) (node links size : ℕ) → FilestatFits s
    → bytes ≡ filestat_layout s
    → node ≡ u64_at bytes 8 → links ≡ u64_at bytes 24 → size ≡ u64_at bytes 32
    → let read : Filestat = record {
      node = node;
      file_type = slice_index bytes 16;
      links = links;
      size = size;
    } in read ≡ s
filestat_again s bytes node links size fits is n l z =
    let t : slice_index bytes 16 ≡ s.file_type = ap (λ y. slice_index y 16) is in
    let n' : node ≡ s.node = n ∙ (ap (λ y. u64_at y 8) is ∙ number_of-bytes_of 8 s.node fits.node)
    in
    let l' : links ≡ s.links =
    l ∙ (ap (λ y. u64_at y 24) is ∙ number_of-bytes_of 8 s.links fits.links) in
    let z' : size ≡ s.size = z ∙ (ap (λ y. u64_at y 32) is ∙ number_of-bytes_of 8 s.size fits.size)
    in
    λ j. record { node = n' j; file_type = t j; links = l' j; size = z' j }

pub dirent_again : (s : Dirent) (bytes : List ℕ) (next node name_length : ℕ) → DirentFits s
    → bytes ≡ dirent_layout s
    → next ≡ u64_at bytes 0 → node ≡ u64_at bytes 8 → name_length ≡ u32_at bytes 16
    → let read : Dirent = record {
      next = next;
      node = node;
      name_length = name_length;
      file_type = slice_index bytes 20;
    } in read ≡ s
dirent_again s bytes next node name_length fits is x n l =
    let t : slice_index bytes 20 ≡ s.file_type = ap (λ y. slice_index y 20) is in
    let x' : next ≡ s.next = x ∙ (ap (λ y. u64_at y 0) is ∙ number_of-bytes_of 8 s.next fits.next)
    in
    let n' : node ≡ s.node = n ∙ (ap (λ y. u64_at y 8) is ∙ number_of-bytes_of 8 s.node fits.node)
    in
    let l' : name_length ≡ s.name_length =
    l ∙ (ap (λ y. u32_at y 16) is ∙ number_of-bytes_of 4 s.name_length fits.name_length) in
    λ j. record { next = x' j; node = n' j; name_length = l' j; file_type = t j }
