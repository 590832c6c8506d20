-- Sectors that are spared, one call after another.
use Rattle.std.proofs.Common.{◌≡◌, ℕ, ◌+◌, ◌<◌, ◌≤◌, max, List, [], length, refl, sym, ap, ◌∙◌}
use Rattle.std.proofs.Common.{subst, arith}
use Rattle.std.proofs.lemmas.List.{set-get_or}
use Rattle.sector_disk.specs.rules.DiskImage.{DiskImage, sector_at, with_sector, IsTorn, IsWritten}
use Rattle.sector_disk.specs.rules.Medium.{Medium, Follows, BothFollow, CountsUpTo, Holds}
use Rattle.sector_disk.specs.laws.Fronts.{sector-with_sector, sector-with_other}
use Rattle.sector_disk.proofs.Moments.{shows_follow, shows_crashed}
use Rattle.sector_disk.proofs.CountLemmas.{counts_same, counts_then, unsynced_within}
use Rattle.snapshot.specs.Writing.{GaveSectors, SparesSectors, SparesAllButHead}

-- no call
pub spares_none : (place n : ℕ) (m : Medium) → SparesSectors place n n m m
spares_none place n m = record {
  spared = λ image shows gave. (counts_same m m.unsynced, shows);
  behind = λ image shows. (image, shows, λ k le. refl);
}

-- a sector that is stored
pub spares_one : (place n : ℕ) (bytes : List ℕ) (old new : Medium) → place + n < old.sectors
    → BothFollow (IsWritten (place + n) bytes) (IsTorn (place + n) bytes) old new
    → ((image : DiskImage) → new.shows image → Holds old (place + n) bytes
    → CountsUpTo old.unsynced old new) → SparesSectors place n (n + 1) old new
spares_one place n bytes old new inside whole told = record {
  spared = λ image shows gave.
      let was = shows_follow old new _ _ whole image shows in
      let full = old.is_disk_image was.0 (shows_crashed old was.0 was.1) in
      let long : place + n < length was.0 = omega (arith, full.count, inside) in
      let here : sector_at image (place + n) ≡ bytes =
      ap (λ (i : DiskImage). sector_at i (place + n)) was.2
      ∙ sector-with_sector was.0 (place + n) bytes long in
      let holds : Holds old (place + n) bytes =
      λ x given. gave n (omega arith) (omega arith) x given ∙ here in
      let same : image ≡ was.0 =
      was.2 ∙ ap (λ (l : List ℕ). with_sector was.0 (place + n) l) (sym (holds was.0 was.1))
      ∙ set-get_or was.0 (place + n) (let none : List ℕ = [] in none) in
      (told image shows holds, subst (λ (i : DiskImage). old.shows i) (sym same) was.1);
  behind = λ image shows.
      let was = shows_follow old new _ _ whole image shows in (
        was.0,
        was.1,
        λ k le. ap (λ (i : DiskImage). sector_at i (place + k)) was.2
            ∙ sector-with_other was.0 (place + k) (place + n) bytes (λ (e : place + k ≡ place + n).
            omega (arith, e, le)),
      );
}

-- one run of calls, and then another
pub spares_then : (place a b c : ℕ) (old mid new : Medium) → a ≤ b → b ≤ c → old.moment ≤ mid.moment
    → SparesSectors place a b old mid → SparesSectors place b c mid new
    → SparesSectors place a c old new
spares_then place a b c old mid new ab bc later one two = record {
  spared = λ image shows gave.
      let between : GaveSectors mid image place b c =
      λ k from below. λ x given. let was = one.behind x given in
      was.2 k from ∙ gave k (omega (arith, ab, from)) below was.0 was.1 in
      let last = two.spared image shows between in
      let first = one.spared image last.1 (λ k from below. gave k from (omega (arith, below, bc)))
      in
      let few = unsynced_within old.unsynced old mid (omega arith) later first.0 in (
        counts_then old.unsynced mid.unsynced old.unsynced old mid new
            (omega arith) few later first.0 last.0,
        first.1,
      );
  behind = λ image shows.
      let last = two.behind image shows in
      let first = one.behind last.0 last.1 in
      (first.0, first.1, λ k le. last.2 k le ∙ first.2 k (omega (arith, le, bc)));
}

-- a head that is written before the area
pub spares_head : (place a b k : ℕ) (bytes : List ℕ) (old mid new : Medium) → k < place
    → old.moment ≤ mid.moment → SparesSectors place a b old mid
    → Follows (IsWritten k bytes) mid.shows new.crash_images
    → CountsUpTo (max mid.unsynced 1) mid new → SparesAllButHead place a b old new
spares_head place a b k bytes old mid new before later one written two = record {
  spared = λ image shows gave.
      let was = written image (shows_crashed new image shows) in
      let same : (j : ℕ) → sector_at image (place + j) ≡ sector_at was.0 (place + j) =
      λ j. ap (λ (i : DiskImage). sector_at i (place + j)) was.2
      ∙ sector-with_other was.0 (place + j) k bytes (λ (e : place + j ≡ k). omega (
        arith,
        e,
        before,
      )) in
      let first = one.spared was.0 was.1 (λ j from below. λ x given. gave j from below x given
      ∙ same j) in
      let few = unsynced_within old.unsynced old mid (omega arith) later first.0 in (
        counts_then old.unsynced (max mid.unsynced 1) (max old.unsynced 1) old mid new (omega arith)
            (omega (arith, few)) later first.0 two,
        (was.0, first.1, same),
      );
}

pub spares_all_but_head : (place a b c : ℕ) (old mid new : Medium) → a ≤ b → b ≤ c
    → old.moment ≤ mid.moment → SparesSectors place a b old mid → SparesAllButHead place b c mid new
    → SparesAllButHead place a c old new
spares_all_but_head place a b c old mid new ab bc later one two = record {
  spared = λ image shows gave.
      let between : GaveSectors mid image place b c =
      λ k from below. λ x given. let was = one.behind x given in
      was.2 k from ∙ gave k (omega (arith, ab, from)) below was.0 was.1 in
      let last = two.spared image shows between in
      let same = last.1.2 in
      let first = one.spared last.1.0 last.1.1 (λ k from below. λ x given.
      gave k from (omega (arith, below, bc)) x given ∙ same k) in
      let few = unsynced_within old.unsynced old mid (omega arith) later first.0 in (
        counts_then old.unsynced (max mid.unsynced 1) (max old.unsynced 1) old mid new (omega arith)
            (omega (arith, few)) later first.0 last.0,
        (last.1.0, first.1, same),
      );
}
