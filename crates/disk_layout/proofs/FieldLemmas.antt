-- Numbers and bytes that are written at a place of a sector.
use Rattle.std.proofs.Common.{◌≡◌, ℕ, ◌+◌, ◌^◌, ◌<◌, List, [], ◌++◌, length, take, drop, replicate}
use Rattle.std.proofs.Common.{refl, sym, ap, ◌∙◌, arith, length-drop, length-append, append_assoc}
use Rattle.std.proofs.Math.Seq.{take-append-add, drop-append-add}
use Rattle.std.proofs.lemmas.List.{drop_all, length-take-le, take_at, drop_at}
use Rattle.guest_memory.specs.rules.Bytes.{with_part, part, number_of}
use Rattle.guest_memory.proofs.ByteLemmas.{number_of-bytes_of}
use Rattle.wasi_abi.specs.rules.Layouts.{u32_bytes, u64_bytes, padding}
use Rattle.disk_layout.specs.rules.Places.{Geometry}
use Rattle.disk_layout.specs.rules.Sectors.{Stamp, stamp_of, stamp_bytes, Head, head_of, head_bytes}
use Rattle.disk_layout.specs.rules.Sectors.{Super, super_of, super_bytes, IsMarked}
use Rattle.disk_layout.specs.laws.Laws.{HeadFits, SuperFits}
use Rattle.disk_layout.specs.declared.superblock.TheConstants.{SUPER_MARK, SUPER_END_MARK}
use Rattle.disk_layout.specs.declared.head.TheConstants.{HEAD_MARK}

pub drop_over : (d rest : List ℕ) (n k : ℕ) → length d ≡ n → drop (n + k) (d ++ rest) ≡ drop k rest
drop_over d rest n k e = ap (λ m. drop (m + k) (d ++ rest)) (sym e) ∙ drop-append-add d rest k

-- the stamp after the first 496 bytes
pub stamp_laid : (generation place : ℕ) (old mid new : List ℕ) → length old ≡ 512
    → mid ≡ with_part old 496 (u64_bytes generation) → new ≡ with_part mid 504 (u64_bytes place)
    → new ≡ take 496 old ++ (u64_bytes generation ++ u64_bytes place)
stamp_laid generation place old mid new full one two =
    let front : length (take 496 old) ≡ 496 = length-take-le 496 old (omega arith) in
    let behind : drop 512 mid ≡ [] =
    drop_all 512 mid (omega (
      arith,
      ap length one
          ∙ length-append (take 496 old) (u64_bytes generation ++ drop 504 old),
      front,
      length-drop 504 old,
    )) in
    let before : take 504 mid ≡ take 496 old ++ u64_bytes generation =
    ap (λ l. take 504 l) one
    ∙ ap (λ (n : ℕ). take (n + 8) (take 496 old ++ (u64_bytes generation ++ drop 504 old)))
    (sym front)
    ∙ take-append-add (take 496 old) (u64_bytes generation ++ drop 504 old) 8 in
    two ∙ ap (λ l. l ++ (u64_bytes place ++ drop 512 mid)) before
    ∙ append_assoc (take 496 old) (u64_bytes generation) (u64_bytes place ++ drop 512 mid)
    ∙ ap (λ l. take 496 old ++ (u64_bytes generation ++ (u64_bytes place ++ l))) behind

-- a head's fields over zeros, the digest last
pub head_laid : (version len generation : ℕ) (digest a b c d e f : List ℕ) → length digest ≡ 32
    → a ≡ with_part (replicate 512 0) 0 HEAD_MARK → b ≡ with_part a 8 (u32_bytes version)
    → c ≡ with_part b 16 (u64_bytes len)
    → d ≡ with_part c 496 (u64_bytes generation) → e ≡ with_part d 504 (u64_bytes 1)
    → f ≡ with_part e 24 digest
    → f ≡ head_bytes (record {
      version = version;
      length_in_bytes = len;
      digest = digest;
      generation = generation;
    })
head_laid version len generation digest a b c d e f size a-is b-is c-is d-is e-is f-is =
    let a' = with_part (replicate 512 0) 0 HEAD_MARK in
    let b' = with_part a' 8 (u32_bytes version) in
    let c' = with_part b' 16 (u64_bytes len) in
    let d' = with_part c' 496 (u64_bytes generation) in
    let e' = with_part d' 504 (u64_bytes 1) in
    let e-as : e ≡ e' = e-is ∙ ap (λ l. with_part l 504 (u64_bytes 1)) (d-is
    ∙ ap (λ l. with_part l 496 (u64_bytes generation)) (c-is
    ∙ ap (λ l. with_part l 16 (u64_bytes len)) (b-is
    ∙ ap (λ l. with_part l 8 (u32_bytes version)) a-is))) in
    f-is ∙ ap (λ l. with_part l 24 digest) e-as
    ∙ ap (λ n. take 24 e' ++ (digest ++ drop (24 + n) e')) size

-- a super's fields over zeros, the digest last
pub super_laid : (s : Geometry) (digest a b c d e f g h k : List ℕ) → length digest ≡ 32
    → a ≡ with_part (replicate 512 0) 0 SUPER_MARK → b ≡ with_part a 8 (u32_bytes 1)
    → c ≡ with_part b 12 (u32_bytes s.config)
    → d ≡ with_part c 16 (u32_bytes s.wasm) → e ≡ with_part d 20 (u32_bytes s.module_sectors)
    → f ≡ with_part e 24 (u32_bytes s.area_sectors)
    → g ≡ with_part f 28 (u32_bytes s.journal_sectors)
    → h ≡ with_part g 504 SUPER_END_MARK → k ≡ with_part h 32 digest → k ≡ super_bytes s digest
super_laid s digest a b c d e f g h k size a-is b-is c-is d-is e-is f-is g-is h-is k-is =
    let a' = with_part (replicate 512 0) 0 SUPER_MARK in
    let b' = with_part a' 8 (u32_bytes 1) in
    let c' = with_part b' 12 (u32_bytes s.config) in
    let d' = with_part c' 16 (u32_bytes s.wasm) in
    let e' = with_part d' 20 (u32_bytes s.module_sectors) in
    let f' = with_part e' 24 (u32_bytes s.area_sectors) in
    let g' = with_part f' 28 (u32_bytes s.journal_sectors) in
    let h' = with_part g' 504 SUPER_END_MARK in
    let d-as : d ≡ d' = d-is ∙ ap (λ l. with_part l 16 (u32_bytes s.wasm)) (c-is
    ∙ ap (λ l. with_part l 12 (u32_bytes s.config)) (b-is
    ∙ ap (λ l. with_part l 8 (u32_bytes 1)) a-is)) in
    let g-as : g ≡ g' = g-is ∙ ap (λ l. with_part l 28 (u32_bytes s.journal_sectors)) (f-is
    ∙ ap (λ l. with_part l 24 (u32_bytes s.area_sectors)) (e-is
    ∙ ap (λ l. with_part l 20 (u32_bytes s.module_sectors)) d-as)) in
    k-is ∙ ap (λ l. with_part l 32 digest) (h-is ∙ ap (λ l. with_part l 504 SUPER_END_MARK) g-as)
    ∙ ap (λ n. take 32 h' ++ (digest ++ drop (32 + n) h')) size

-- ---- and read again

pub stamp_again : (s : Stamp) (before : List ℕ) → length before ≡ 496 → s.generation < 2 ^ 64
    → s.place < 2 ^ 64 → stamp_of (before ++ stamp_bytes s) ≡ s
stamp_again s before full g p =
    let one : part (before ++ stamp_bytes s) 496 8 ≡ u64_bytes s.generation =
    ap (λ l. take 8 l) (drop_at before (stamp_bytes s) 496 full) in
    let longer : length (before ++ u64_bytes s.generation) ≡ 504 =
    length-append before (u64_bytes s.generation) ∙ omega (arith, full) in
    let two : part (before ++ stamp_bytes s) 504 8 ≡ u64_bytes s.place =
    ap (λ l. take 8 (drop 504 l))
    (sym (append_assoc before (u64_bytes s.generation) (u64_bytes s.place)))
    ∙ ap (λ l. take 8 l) (drop_at (before
    ++ u64_bytes s.generation) (u64_bytes s.place) 504 longer) in
    let g' : number_of (part (before ++ stamp_bytes s) 496 8) ≡ s.generation =
    ap number_of one ∙ number_of-bytes_of 8 s.generation g in
    let p' : number_of (part (before ++ stamp_bytes s) 504 8) ≡ s.place =
    ap number_of two ∙ number_of-bytes_of 8 s.place p in
    λ j. record { generation = g' j; place = p' j }

pub head_again : (h : Head) → HeadFits h → head_of (head_bytes h) ≡ h
head_again h fits =
    let rest = padding 440 ++ stamp_bytes (record { generation = h.generation; place = 1 }) in
    let d' : part (head_bytes h) 24 32 ≡ h.digest = take_at h.digest rest 32 fits.digest in
    let at : drop 496 (head_bytes h) ≡ stamp_bytes (record {
      generation = h.generation;
      place = 1;
    }) = drop_over h.digest rest 32 440 fits.digest in
    let v' : number_of (part (head_bytes h) 8 4) ≡ h.version =
    number_of-bytes_of 4 h.version fits.version in
    let l' : number_of (part (head_bytes h) 16 8) ≡ h.length_in_bytes =
    number_of-bytes_of 8 h.length_in_bytes fits.len in
    let g' : number_of (part (head_bytes h) 496 8) ≡ h.generation =
    ap (λ l. number_of (take 8 l)) at ∙ number_of-bytes_of 8 h.generation fits.generation in
    λ j. record { version = v' j; length_in_bytes = l' j; digest = d' j; generation = g' j }

pub marks_again : (s : Super) → SuperFits s → IsMarked (super_bytes s.geometry s.digest)
marks_again s fits =
    record {
      first = refl;
      last = ap (λ l. take 8 l) (drop_over s.digest (padding 440
          ++ SUPER_END_MARK) 32 440 fits.digest);
    }

pub super_again : (s : Super) → SuperFits s → super_of (super_bytes s.geometry s.digest) ≡ s
super_again s fits =
    let c' = number_of-bytes_of 4 s.geometry.config fits.config in
    let w' = number_of-bytes_of 4 s.geometry.wasm fits.wasm in
    let m' = number_of-bytes_of 4 s.geometry.module_sectors fits.module_sectors in
    let a' = number_of-bytes_of 4 s.geometry.area_sectors fits.area_sectors in
    let j' = number_of-bytes_of 4 s.geometry.journal_sectors fits.journal_sectors in
    let d' = take_at s.digest (padding 440 ++ SUPER_END_MARK) 32 fits.digest in
    λ i. record {
      geometry = record {
        config = c' i;
        wasm = w' i;
        module_sectors = m' i;
        area_sectors = a' i;
        journal_sectors = j' i;
      };
      digest = d' i;
    }
