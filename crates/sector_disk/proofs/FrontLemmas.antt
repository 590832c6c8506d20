-- A front that is left by writing it over what reads give.
use Rattle.std.proofs.Common.{◌≡◌, ◌≤◌, ◌<◌, ℕ, List, [], ◌∷◌, true, false, IsTrue, Result, Ok, Err}
use Rattle.std.proofs.Common.{is_ok, ◌⊎◌, length, refl, sym, ap, ◌∙◌, subst, ⊎_elim, arith}
use Rattle.std.proofs.lemmas.List.{get_or_past}
use Rattle.std.proofs.lemmas.Bool.{cases_lt}
use Rattle.sector_disk.specs.rules.DiskImage.{DiskImage, sector_at, with_sector, with_front}
use Rattle.sector_disk.specs.rules.DiskImage.{front_over}
use Rattle.sector_disk.specs.rules.DiskImage.{IsTorn, IsTornWithin, IsFront, IsDiskImage}
use Rattle.sector_disk.specs.rules.Medium.{Medium, Stays, Holds, Tears, TakesWrite, Writes}
use Rattle.sector_disk.specs.rules.Medium.{BothFollow, spare}
use Rattle.sector_disk.specs.laws.Fronts.{shorter, longer, front_self, with_front_twice}
use Rattle.sector_disk.specs.declared.disk_call.DiskCall.TheVariants.{WriteOf}
use Rattle.sector_disk.specs.declared.fault.DiskFault.{DiskFault}
use Rattle.sector_disk.proofs.Moments.{shows_crashed}

-- a write that fails has a cause
pub taken_of : (result : Result (Unit {0}) DiskFault) (k : ℕ) (bytes : List ℕ) (old new : Medium)
    → Writes k bytes result old new → k < old.sectors → 0 < spare old → new.faults ≡ old.faults
    → IsTrue (is_ok result)
taken_of (Ok x) k bytes old new writes lt room same = refl
taken_of (Err e) k bytes old new writes lt room same =
    let cause = writes.cause in
    ⊎_elim
    (λ (named : (old.sectors ≤ k) ⊎ (spare old ≡ 0)). ⊎_elim (λ (out : old.sectors ≤ k).
    absurd (omega arith)) (λ (full : spare old ≡ 0). absurd (omega arith)) named)
    (λ (more : old.faults < new.faults). absurd (omega arith))
    (cause.fault refl)

pub takes_of : (result : Result (Unit {0}) DiskFault) (k : ℕ) (bytes : List ℕ) (old new : Medium)
    → Writes k bytes result old new → IsTrue (is_ok result) → TakesWrite k bytes old new
takes_of (Ok x) k bytes old new writes ok = writes.whole
takes_of (Err e) k bytes old new writes ok = absurd (let no : false ≡ true = ok in cc)

pub made_of : (result : Result (Unit {0}) DiskFault) (k : ℕ) (bytes : List ℕ) (old new : Medium)
    → Writes k bytes result old new → IsTrue (is_ok result) → new.calls ≡ WriteOf k ∷ old.calls
made_of (Ok x) k bytes old new writes ok = writes.calls.all
made_of (Err e) k bytes old new writes ok = absurd (let no : false ≡ true = ok in cc)

-- Some prefix of the merged bytes over an outcome is some prefix of the bytes over an outcome that
-- keeps more of what reads give.
module _ (old mid new : Medium) (k f : ℕ) (b r : List ℕ) (le : f ≤ 512) (full-b : length b
    ≡ 512) (full-r : length r ≡ 512) (stays : Stays old mid) (holds : Holds mid k r) where
  within : (shown : DiskImage) → mid.shows shown → IsDiskImage mid.sectors shown → k < mid.sectors
  within shown shows is =
      ⊎_elim (λ (lt : k < mid.sectors). lt)
      (λ (out : mid.sectors ≤ k).
      let empty : sector_at shown k ≡ [] =
      get_or_past shown k [] (let o : length shown ≤ k = omega (arith, is.count) in o) in
      let no : 512 ≡ 0 = sym full-r ∙ ap length (sym (holds shown shows) ∙ empty) in
      absurd (omega arith))
      (cases_lt k mid.sectors)

  of_crash : (s y x : DiskImage) → mid.crash_pairs s y → IsTorn k (front_over f b r) y x
      → (before : DiskImage) × mid.crash_pairs s before × IsTornWithin f k b before x
  of_crash s y x pair torn =
      let both = mid.of_pair s y pair in
      let is-r : sector_at s k ≡ r = holds s both.0 in
      let lt = within s both.0 (mid.is_disk_image s (shows_crashed mid s both.0)) in
      let in-y : k < length y = let is = mid.is_disk_image y both.1 in omega (arith, is.count) in
      ⊎_elim
      (λ (big : f < torn.front). (
        with_front y k torn.front r,
        subst (λ (x : List ℕ). mid.crash_pairs s (with_front y k torn.front x)) is-r
            (mid.may_keep s y pair k torn.front torn.within),
        record {
          front = f;
          within = omega arith;
          is = torn.is
              ∙ ap (λ (l : List ℕ). with_sector y k l) (longer torn.front f b r (sector_at y k)
              (omega arith) (omega (arith, torn.within)) (omega (arith, torn.within)))
              ∙ sym (with_front_twice y k torn.front f b r in-y);
        },
      ))
      (λ (small : torn.front ≤ f). (
        y,
        pair,
        record {
          front = torn.front;
          within = small;
          is = torn.is
              ∙ ap (λ (l : List ℕ). with_sector y k l)
              (shorter torn.front f b r (sector_at y k) small
              (omega arith));
        },
      ))
      (cases_lt f torn.front)

  of_shown : (s x : DiskImage) → mid.shows s → IsTorn k (front_over f b r) s x
      → IsTornWithin f k b s x
  of_shown s x shows torn =
      let is-r : sector_at s k ≡ r = holds s shows in
      ⊎_elim
      (λ (big : f < torn.front). record {
        front = f;
        within = omega arith;
        is = torn.is
            ∙ ap (λ (l : List ℕ). with_sector s k l) (longer torn.front f b r (sector_at s k)
            (omega arith) (omega (arith, torn.within)) (omega (arith, torn.within))
            ∙ ap (λ (x : List ℕ). front_over f b (front_over torn.front r x)) is-r
            ∙ ap (λ (x : List ℕ). front_over f b x) (front_self torn.front r ∙ sym is-r));
      })
      (λ (small : torn.front ≤ f). record {
        front = torn.front;
        within = small;
        is = torn.is
            ∙ ap (λ (l : List ℕ). with_sector s k l) (shorter torn.front f b r (sector_at s k) small
            (omega arith));
      })
      (cases_lt f torn.front)

  pub merged_tears : Tears k (front_over f b r) mid new
      → BothFollow (IsTornWithin f k b) (IsTornWithin f k b) old new
  merged_tears tears shown image now =
      let was = tears.both shown image now in
      let before = mid.of_pair was.0 was.1 was.2 in
      let crashed = of_crash was.0 was.1 image was.2 was.4 in (
        was.0,
        crashed.0,
        stays.crash_pairs was.0 crashed.0 crashed.1,
        of_shown was.0 shown before.0
            was.3,
        crashed.2,
      )

  pub merged_takes : TakesWrite k (front_over f b r) mid new
      → BothFollow (IsFront f k b) (IsTornWithin f k b) old new
  merged_takes takes shown image now =
      let was = takes.both shown image now in
      let before = mid.of_pair was.0 was.1 was.2 in
      let crashed = of_crash was.0 was.1 image was.2 was.4 in (
        was.0,
        crashed.0,
        stays.crash_pairs was.0 crashed.0 crashed.1,
        was.3
            ∙ ap (λ (l : List ℕ). with_sector was.0 k (front_over f b l))
            (sym (holds was.0 before.0)),
        crashed.2,
      )
