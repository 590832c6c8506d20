-- An image shows one newest snapshot at most.
use Rattle.std.proofs.Common.{◌≡◌, ℕ, ◌+◌, ◌-◌, List, length, take, IsErr, refl, sym, ap, ◌∙◌}
use Rattle.std.proofs.Common.{subst, inl, inr, arith}
use Rattle.sector_disk.specs.rules.DiskImage.{DiskImage, sector_at}
use Rattle.disk_layout.specs.declared.geometry.Geometry.{Geometry}
use Rattle.disk_layout.specs.declared.head.Head.{Head}
use Rattle.sha2.specs.Sha256.{sha256}
use Rattle.disk_layout.specs.rules.Places.{head_place, area_place}
use Rattle.disk_layout.specs.rules.Sectors.{bytes_from, head_of, IsNewest, HoldsProcessImage}
use Rattle.snapshot.specs.rules.Newest.{IsDamaged}
use Rattle.snapshot.specs.laws.Laws.{DiskImageShowsOne, CanBeginAgain, FailsForGood}
use Rattle.snapshot.proofs.AreaLemmas.{none_at, one_newest}

one_head : (x : DiskImage) (a b : ℕ) (h k : Head) → IsNewest x a h → IsNewest x b k → h ≡ k
one_head x a b h k one two =
    one.is ∙ ap (λ (n : ℕ). head_of (sector_at x (head_place n))) (one_newest x a b h k one two)
    ∙ sym two.is

same_process_image : (geometry : Geometry) (x : DiskImage) (g h v w : ℕ) (a b : List ℕ)
    → HoldsProcessImage geometry x g v a → HoldsProcessImage geometry x h w b → (g ≡ h)
    × (v ≡ w) × (a ≡ b)
same_process_image geometry x g h v w a b one two =
    let same = one_newest x g h _ _ one.newest two.newest in
    let head = one_head x g h _ _ one.newest two.newest in
    let len : length a ≡ length b = ap (λ (k : Head). k.length_in_bytes) head in (
      same,
      ap (λ (k : Head). k.version) head,
      sym one.area
          ∙ ap (λ (n : ℕ). take n (bytes_from x (area_place geometry g) geometry.area_sectors)) len
          ∙ ap (λ (n : ℕ).
          take (length b) (bytes_from x (area_place geometry n) geometry.area_sectors)) same
          ∙ two.area,
    )

not_damaged : (geometry : Geometry) (x : DiskImage) (g v : ℕ) (a : List ℕ)
    → HoldsProcessImage geometry x g v a → IsDamaged geometry x → ⊥
not_damaged geometry x g v a one d =
    let head = one_head x d.generation g d.head _ d.newest one.newest in
    d.other a (record {
      len = ap (λ (k : Head). k.length_in_bytes) head;
      digest = ap (λ (k : Head). k.digest) head;
      area = ap (λ (k : Head).
          take (length a) (bytes_from x (area_place geometry k.generation) geometry.area_sectors))
          head ∙ one.area;
    })

pub shows_one : DiskImageShowsOne
shows_one = record {
  same = same_process_image;
  some = λ geometry x g v a one none. let n = one.newest in none_at x none g n.complete;
  whole = not_damaged;
  headed = λ geometry x d none. let n = d.newest in none_at x none d.generation n.complete;
}

-- ---- after a commit that was cut short

pub can_begin_again : CanBeginAgain
can_begin_again = record {
  first = λ geometry old new none earlier keeps. record {
    before = inl (refl, keeps.none none);
    none_later = let h = keeps.heads in omega (arith, earlier, h);
  };
  later = λ geometry g version bytes old new holds earlier keeps.
      let held = keeps.process_image g version bytes holds in
      let head : Head = record {
        version = version;
        length_in_bytes = length bytes;
        digest = sha256 bytes;
        generation = g;
      } in
      let same : g ≡ g + 1 - 1 = omega arith in
      record {
        before = inr (head, subst (λ n. IsNewest new n head) same held.newest);
        none_later = let h = keeps.heads in omega (arith, earlier, h);
      };
}

-- ---- after an error

pub fails_for_good : FailsForGood
fails_for_good first second a b c one failed two =
    let was = one.failed in
    let refused = two.refused in
    let now = two.failed in
    let answer = refused.1 (was.1 failed) in
    (answer, now.1 (subst (λ r. IsErr r) (sym answer) refl))
