-- Bytes of an area that are read.
use Rattle.std.proofs.Common.{◌≡◌, ℕ, zero, suc, ◌+◌, ◌-◌, ◌*◌, ◌<◌, ◌≤◌, List, [], ◌++◌, length}
use Rattle.std.proofs.Common.{take, Result, Ok, Err, sym, ap, ◌∙◌, subst, ⊎_elim, arith}
use Rattle.std.proofs.Common.{append_assoc, length-append}
use Rattle.std.proofs.lemmas.Bool.{cases_lt}
use Rattle.std.proofs.lemmas.List.{length-take, take-append-le}
use Rattle.std.proofs.Math.ListN.{get_or-eq_default}
use Rattle.std.specs.Result.{IsErrAnd}
use Rattle.sha2.specs.Sha256.{sha256}
use Rattle.sector_disk.specs.rules.DiskImage.{DiskImage, sector_at, IsDiskImage}
use Rattle.disk_layout.specs.declared.geometry.Geometry.{Geometry}
use Rattle.disk_layout.specs.declared.head.Head.{Head}
use Rattle.disk_layout.specs.rules.Places.{area_place}
use Rattle.disk_layout.specs.rules.Sectors.{bytes_from, IsNewest, HoldsProcessImage}
use Rattle.snapshot.specs.rules.Newest.{NamesBytes, ReadsProcessImage, FindsNewest}
use Rattle.snapshot.specs.declared.fault.SnapshotFault.{SnapshotFault}
use Rattle.snapshot.specs.declared.fault.SnapshotFault.TheVariants.{TooBig, Damaged, Disk, Memory}
use Rattle.snapshot.specs.declared.fault.SnapshotFault.TheVariants.{Failed}

pub bytes_joined : (image : DiskImage) (place n m : ℕ)
    → bytes_from image place (n + m) ≡ bytes_from image place n ++ bytes_from image (place + n) m
bytes_joined image place zero m =
    ap (λ (k : ℕ). bytes_from image place k) (let e : 0 + m ≡ m = omega arith in e)
    ∙ ap (λ (k : ℕ). bytes_from image k m) (let e : place ≡ place + 0 = omega arith in e)
bytes_joined image place (suc n) m =
    ap (λ (k : ℕ). bytes_from image place k) (let e : suc n + m ≡ suc (n + m) = omega arith in e)
    ∙ ap (λ (l : List ℕ). sector_at image place ++ l) (bytes_joined image (place + 1) n m)
    ∙ sym (append_assoc (sector_at image place) (bytes_from image (place + 1) n)
    (bytes_from image (place + 1 + n) m))
    ∙ ap (λ (k : ℕ). (sector_at image place ++ bytes_from image (place + 1) n)
    ++ bytes_from image k m) (let e : place + 1 + n ≡ place + suc n = omega arith in e)

-- a front is the same of more sectors
pub front_of_more : (image : DiskImage) (place n count len : ℕ) → n ≤ count
    → len ≤ length (bytes_from image place n)
    → take len (bytes_from image place n) ≡ take len (bytes_from image place count)
front_of_more image place n count len le long =
    sym (take-append-le len (bytes_from image place n) (bytes_from image (place + n) (count
    - n)) long)
    ∙ ap (λ (l : List ℕ). take len l) (sym (bytes_joined image place n (count - n)))
    ∙ ap (λ (k : ℕ). take len (bytes_from image place k)) (let e : n + (count - n)
    ≡ count = omega arith in e)

sector_at_most : (sectors : ℕ) (image : DiskImage) → IsDiskImage sectors image → (k : ℕ)
    → length (sector_at image k) ≤ 512
sector_at_most sectors image is k =
    ⊎_elim
    (λ (lt : k < sectors). let full = is.full k lt in omega (arith, full))
    (λ (ge : sectors ≤ k). let none = ap (λ (l : List ℕ). length l)
    (get_or-eq_default image [] {n = k} (let c = is.count in omega (arith, c))) in
    omega (arith, none))
    (cases_lt k sectors)

pub bytes_at_most : (sectors : ℕ) (image : DiskImage) → IsDiskImage sectors image
    → (place count : ℕ) → length (bytes_from image place count) ≤ 512 * count
bytes_at_most sectors image is place zero = omega arith
bytes_at_most sectors image is place (suc count) =
    omega (
      arith,
      length-append (sector_at image place) (bytes_from image (place + 1) count),
      sector_at_most sectors image is place,
      bytes_at_most sectors image is (place + 1) count,
    )

-- a front that is as long as its list is no longer than what it is taken of
pub front_within : (bytes all : List ℕ) → take (length bytes) all ≡ bytes
    → length bytes ≤ length all
front_within bytes all e =
    let l = sym (length-take (length bytes) all) ∙ ap (λ (x : List ℕ). length x) e in
    omega (arith, l)

-- ---- what a head names

pub names_within : (sectors : ℕ) (geometry : Geometry) (image : DiskImage) (h : Head)
    (bytes : List ℕ) → IsDiskImage sectors image → NamesBytes geometry image h bytes
    → h.length_in_bytes ≤ 512 * geometry.area_sectors
names_within sectors geometry image h bytes is names =
    let w = front_within bytes
    (bytes_from image (area_place geometry h.generation) geometry.area_sectors) names.area in
    let m = bytes_at_most sectors image is (area_place geometry h.generation) geometry.area_sectors
    in
    omega (arith, w, m, names.len)

pub is_named : (geometry : Geometry) (image : DiskImage) (h : Head) (found : List ℕ)
    → length found ≡ h.length_in_bytes
    → found ≡ take h.length_in_bytes
    (bytes_from image (area_place geometry h.generation) geometry.area_sectors)
    → h.digest ≡ sha256 found → NamesBytes geometry image h found
is_named geometry image h found len is digest = record {
  len = sym len;
  digest = digest;
  area = ap (λ (n : ℕ).
      take n (bytes_from image (area_place geometry h.generation) geometry.area_sectors)) len
      ∙ sym is;
}

-- the newest head and what it names
pub named_holds : (geometry : Geometry) (image : DiskImage) (h : Head) (bytes : List ℕ)
    → IsNewest image h.generation h → NamesBytes geometry image h bytes
    → HoldsProcessImage geometry image h.generation h.version bytes
named_holds geometry image h bytes newest names =
    let len = names.len in
    let digest = names.digest in
    let is : h ≡ record {
      version = h.version;
      length_in_bytes = length bytes;
      digest = sha256 bytes;
      generation = h.generation;
    } = λ j. record {
      version = h.version;
      length_in_bytes = len j;
      digest = digest j;
      generation = h.generation;
    } in
    record {
      newest = subst (λ (k : Head). IsNewest image h.generation k) is newest;
      area = names.area;
    }

pub fault_found : (geometry : Geometry) (image : DiskImage) (h : Head) (fault : SnapshotFault)
    → IsNewest image h.generation h → ReadsProcessImage geometry image h (Err fault)
    → FindsNewest geometry image (Err fault)
fault_found geometry image h TooBig newest reads = reads
fault_found geometry image h Damaged newest reads = record {
  generation = h.generation;
  head = h;
  newest = newest;
  other = reads;
}
fault_found geometry image h (Disk fault) newest reads = tt
fault_found geometry image h Memory newest reads = tt
fault_found geometry image h Failed newest reads = tt

-- an error that is handed on
pub is_fault : {T : Type 0} (r : Result T SnapshotFault) (fault : SnapshotFault)
    → IsErrAnd r (λ e. e ≡ fault) → r ≡ Err fault
is_fault (Ok x) fault is = absurd is
is_fault (Err e) fault is = ap (λ (f : SnapshotFault). Err f) is
