-- Reads one after another, and what they give.
use Rattle.std.proofs.Common.{◌≡◌, ℕ, zero, suc, ◌+◌, ◌-◌, ◌≤◌, List, [], ◌∷◌, ◌++◌}
use Rattle.std.proofs.Common.{length, take, drop, Result, Ok, Err, refl, sym, ap, ◌∙◌, subst}
use Rattle.std.proofs.Common.{arith, append_assoc, length-append}
use Rattle.std.proofs.lemmas.List.{append-nil}
use Rattle.sector_disk.specs.rules.DiskImage.{DiskImage, sector_at}
use Rattle.sector_disk.specs.rules.Medium.{Medium, Reads}
use Rattle.sector_disk.specs.declared.fault.DiskFault.{DiskFault}
use Rattle.sector_disk.proofs.CountLemmas.{counts_same, counts_then}
use Rattle.sector_disk.proofs.Moments.{started, goes_on, leaves_only, stays_on, stays_crashed}
use Rattle.sha2.specs.Sha256.{sha256}
use Rattle.disk_layout.specs.declared.fault.LayoutFault.{LayoutFault}
use Rattle.disk_layout.specs.declared.fault.LayoutFault.TheVariants.{Damaged, Memory}
use Rattle.disk_layout.specs.declared.damage.Damage.TheVariants as damage
use Rattle.disk_layout.specs.declared.stored.Stored.{Stored}
use Rattle.disk_layout.specs.rules.Places.{Geometry}
use Rattle.disk_layout.specs.rules.Sectors.{Super, bytes_from}
use Rattle.disk_layout.specs.rules.Stored.{OnlyReads, IsConsistent, Checks}
use Rattle.disk_layout.specs.Stored.{SplitsContents}
use Rattle.disk_layout.specs.rules.Stored.{FindsStored, HasOtherDigest}
use Rattle.disk_layout.specs.declared.geometry.TheConstants.{MODULE_PLACE}

pub no_reads : (m : Medium) → OnlyReads m m
no_reads m = record {
  stays = record {
    crash_pairs = λ shown image both. both;
    since = λ t shown image le both. both;
    unsynced = omega arith;
  };
  leaves = leaves_only m m m.crash_images (started m m.crash_images) (λ image crashed. crashed);
  unsynced = refl;
  counts = counts_same m m.unsynced;
  calls = refl;
}

-- one read more
pub read_more : {T : Type 0} (old mid new : Medium) (k : ℕ) (into : List ℕ)
    (result : Result T DiskFault) → OnlyReads old mid → Reads k into result mid new
    → OnlyReads old new
read_more old mid new k into result reads read =
    let so_far = reads.leaves in
    let later = so_far.passes.later in
    record {
      stays = stays_on old mid new later reads.stays read.stays;
      leaves = leaves_only old new old.crash_images (goes_on old mid new _ _
          so_far.passes read.passes (λ image crashed. stays_crashed old mid reads.stays image
          (stays_crashed mid new read.stays image crashed))) (λ image crashed. crashed);
      unsynced = read.unsynced ∙ reads.unsynced;
      counts = counts_then old.unsynced mid.unsynced old.unsynced old mid new (omega arith)
          (omega (arith, reads.unsynced)) later reads.counts read.counts;
      calls = read.calls ∙ reads.calls;
    }

pub reads_then : (old mid new : Medium) → OnlyReads old mid → OnlyReads mid new → OnlyReads old new
reads_then old mid new one two =
    let before = one.leaves in
    let after = two.leaves in
    record {
      stays = stays_on old mid new before.passes.later one.stays two.stays;
      leaves = leaves_only old new old.crash_images (goes_on old mid new _ _
          before.passes after.passes (stays_crashed old mid one.stays)) (λ image crashed. crashed);
      unsynced = two.unsynced ∙ one.unsynced;
      counts = counts_then old.unsynced mid.unsynced old.unsynced old mid new (omega arith)
          (omega (arith, one.unsynced)) before.passes.later one.counts two.counts;
      calls = two.calls ∙ one.calls;
    }

-- one sector more
pub bytes_from-more : (image : DiskImage) (at n : ℕ)
    → bytes_from image at (n + 1) ≡ bytes_from image at n ++ sector_at image (at + n)
bytes_from-more image at n = ap (λ k. bytes_from image at k) (let e : n + 1 ≡ suc n = omega arith in
    e) ∙ by_count image at n
  where
    by_count : (image : DiskImage) (at n : ℕ) → bytes_from image at (suc n) ≡ bytes_from image at n
        ++ sector_at image (at + n)
    by_count image at zero = append-nil (sector_at image at)
        ∙ ap (λ k. sector_at image k) (let e : at ≡ at + 0 = omega arith in e)
    by_count image at (suc n) =
        ap (λ l. sector_at image at ++ l) (by_count image (at + 1) n)
        ∙ sym (append_assoc (sector_at image at) (bytes_from image (at + 1) n)
        (sector_at image (at + 1 + n)))
        ∙ ap (λ k. (sector_at image at ++ bytes_from image (at + 1) n)
        ++ sector_at image k) (let e : at + 1 + n ≡ at + suc n = omega arith in e)

take_none : (n : ℕ) → take n (let none : List ℕ = [] in none) ≡ []
take_none zero = refl
take_none (suc n) = refl

-- two parts that lie one after the other
pub parts_joined : (a b : ℕ) (bytes : List ℕ)
    → take a bytes ++ take b (drop a bytes) ≡ take (a + b) bytes
parts_joined zero b bytes = ap (λ n. take n bytes) (let e : b ≡ 0 + b = omega arith in e)
parts_joined (suc a) b [] = take_none b ∙ sym (take_none (suc a + b))
parts_joined (suc a) b (x ∷ bytes) = ap (λ l. x ∷ l) (parts_joined a b bytes)
    ∙ ap (λ n. take n (x ∷ bytes)) (let e : suc (a + b) ≡ suc a + b = omega arith in e)

-- the two parts as they are lent
pub parts_lent : (a b : ℕ) (bytes : List ℕ)
    → take a bytes ++ take ((a + b) - a) (drop a bytes) ≡ take (a + b) bytes
parts_lent a b bytes =
    ap (λ n. take a bytes ++ take n (drop a bytes)) (let e : (a + b) - a ≡ b = omega arith in e)
    ∙ parts_joined a b bytes

-- what is split off is what is found
pub finds_split : (sectors : ℕ) (image : DiskImage) (c : Super) (bytes : List ℕ)
    (result : Result Stored LayoutFault) → Checks sectors (sector_at image 0) (Ok c)
    → bytes ≡ bytes_from image MODULE_PLACE c.geometry.module_sectors
    → SplitsContents c bytes result
    → FindsStored sectors image result
finds_split sectors image c bytes (Ok s) check is splits =
    let same : s.geometry ≡ c.geometry = splits.0 in
    let count : length (s.config ++ s.wasm) ≡ c.geometry.config + c.geometry.wasm =
    length-append s.config s.wasm ∙ (let a = splits.1 in let b = splits.2 in omega arith) in
    record {
      known = check.0;
      geometry = same ∙ ap (λ (x : Super). x.geometry) check.1;
      consistent = subst (λ (x : Geometry). IsConsistent x) (sym same) check.2;
      room = subst (λ (x : Geometry). MODULE_PLACE + x.module_sectors ≤ sectors) (sym same) check.3;
      config = splits.1 ∙ ap (λ (x : Geometry). x.config) (sym same);
      wasm = splits.2 ∙ ap (λ (x : Geometry). x.wasm) (sym same);
      contents = ap (λ (x : Geometry).
          take (length (s.config ++ s.wasm)) (bytes_from image MODULE_PLACE x.module_sectors)) same
          ∙ ap (λ (n : ℕ). take n (bytes_from image MODULE_PLACE c.geometry.module_sectors)) count
          ∙ ap (λ (l : List ℕ). take (c.geometry.config + c.geometry.wasm) l) (sym is)
          ∙ sym splits.3;
      digest = ap (λ (x : Super). x.digest) (sym check.1) ∙ splits.4;
    }
finds_split sectors image c bytes (Err (Damaged damage.ContentsDigest)) check is splits =
    let P : Super → Type 0 = λ x. HasOtherDigest sectors image x in
    subst P check.1 (record {
      says = check;
      digest = λ e. splits (e
          ∙ ap (λ (l : List ℕ). sha256 (take (c.geometry.config + c.geometry.wasm) l)) (sym is));
    })
finds_split sectors image c bytes (Err Memory) check is splits = tt
finds_split sectors image c bytes _ check is splits = absurd splits
