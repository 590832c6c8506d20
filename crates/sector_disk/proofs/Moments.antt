-- How calls of a disk follow one another.
use Rattle.std.proofs.Common.{◌≤◌, ◌∙◌, refl, sym, subst, ℕ, List, [], inl, inr, ⊎_elim, arith}
use Rattle.std.proofs.lemmas.List.{set-get_or}
use Rattle.sector_disk.specs.rules.DiskImage.{DiskImage, IsDiskImage, IsTornWithin}
use Rattle.sector_disk.specs.rules.Medium.{Medium, Passes, LeavesOnly, Follows, BothFollow, Stays}
use Rattle.sector_disk.specs.rules.Medium.{IsAllSynced}

-- before the first call
pub started : (m : Medium) (P : DiskImage → Type 0) → Passes m m P
started m P = record {
  sectors = refl;
  fault_plan = refl;
  room = refl;
  faults = omega arith;
  later = omega arith;
  nothing_else = λ t image le crashed. inl crashed;
}

-- what passed, and then what passes
pub goes_on : (old mid new : Medium) (P Q : DiskImage → Type 0) → Passes old mid P
    → Passes mid new Q → ((image : DiskImage) → Q image → P image) → Passes old new P
goes_on old mid new P Q so_far more here = record {
  sectors = more.sectors ∙ so_far.sectors;
  fault_plan = more.fault_plan ∙ so_far.fault_plan;
  room = more.room ∙ so_far.room;
  faults = omega (arith, so_far.faults, more.faults);
  later = omega (arith, so_far.later, more.later);
  nothing_else = λ t image le crashed.
      ⊎_elim (λ past. so_far.nothing_else t image le past) (λ now. inr (here image now))
      (more.nothing_else t image (omega (arith, so_far.later)) crashed);
}

-- the same of a weaker fact
pub weaker : (old new : Medium) (P Q : DiskImage → Type 0) → Passes old new P
    → ((image : DiskImage) → P image → Q image) → Passes old new Q
weaker old new P Q passes here = goes_on old old new Q P (started old Q) passes here

-- a cut at any moment, the first one included
pub leaves_only : (old new : Medium) (P : DiskImage → Type 0) → Passes old new P
    → ((image : DiskImage) → old.crash_images image → P image) → LeavesOnly old new P
leaves_only old new P passes here = record {
  passes = passes;
  each = λ image crashed. ⊎_elim (λ past. here image (old.only_now image past)) (λ now. now)
      (passes.nothing_else old.moment image (omega arith) crashed);
}

-- what a step does to what reads give alone, and to what a cut may leave alone
pub shows_crashed : (m : Medium) (image : DiskImage) → m.shows image → m.crash_images image
shows_crashed m image shows = let both = m.of_shows image shows in
    let same = m.of_pair image image (m.may_stay image both.0 both.1) in same.1

pub stays_shows : (old new : Medium) → Stays old new → (image : DiskImage) → new.shows image
    → old.shows image
stays_shows old new stays image shows = let both = new.of_shows image shows in
    let was = old.of_pair image both.0 (stays.crash_pairs image both.0 both.1) in was.0

pub stays_crashed : (old new : Medium) → Stays old new → (image : DiskImage)
    → new.crash_images image → old.crash_images image
stays_crashed old new stays image crashed = let both = new.of_crash image crashed in
    let was = old.of_pair both.0 image (stays.crash_pairs both.0 image both.1) in was.1

pub shows_follow : (old new : Medium) (one other : DiskImage → DiskImage → Type 0)
    → BothFollow one other old new → Follows one old.shows new.shows
shows_follow old new one other steps image shows =
    let both = new.of_shows image shows in
    let was = steps image both.0 both.1 in
    let before = old.of_pair was.0 was.1 was.2 in
    (was.0, before.0, was.3)

pub crashed_follow : (old new : Medium) (one other : DiskImage → DiskImage → Type 0)
    → BothFollow one other old new → Follows other old.crash_images new.crash_images
crashed_follow old new one other steps image crashed =
    let both = new.of_crash image crashed in
    let was = steps both.0 image both.1 in
    let before = old.of_pair was.0 was.1 was.2 in
    (was.1, before.1, was.4)

-- two steps in a row
pub both_then : (old mid new : Medium) (one_shown one_crashed two_shown two_crashed both_shown
    both_crashed : DiskImage → DiskImage → Type 0)
    → ((a b c : DiskImage) → IsDiskImage mid.sectors b → one_shown a b → two_shown b c
    → both_shown a c) → ((a b c : DiskImage) → IsDiskImage mid.sectors b → one_crashed a b
    → two_crashed b c → both_crashed a c) → BothFollow one_shown one_crashed old mid
    → BothFollow two_shown two_crashed mid new → BothFollow both_shown both_crashed old new
both_then old mid new one_shown one_crashed two_shown two_crashed both_shown
    both_crashed shown_steps crashed_steps one two shown image now =
    let later = two shown image now in
    let earlier = one later.0 later.1 later.2 in
    let are = mid.of_pair later.0 later.1 later.2 in (
      earlier.0,
      earlier.1,
      earlier.2,
      shown_steps earlier.0 later.0 shown (mid.is_disk_image later.0
          (shows_crashed mid later.0 are.0))
          earlier.3 later.3,
      crashed_steps earlier.1 later.1 image (mid.is_disk_image later.1 are.1) earlier.4 later.4,
    )

pub synced_only : (m : Medium) → IsAllSynced m → (image : DiskImage) → m.crash_images image
    → m.shows image
synced_only m all_synced image crashed =
    let both = m.of_crash image crashed in
    let was = m.of_pair both.0 image both.1 in
    subst (λ (i : DiskImage). m.shows i) (sym (all_synced.same both.0 image both.1)) was.0

-- a call that stays keeps a synced disk synced
pub synced_stays : (old new : Medium) → Stays old new → IsAllSynced old → IsAllSynced new
synced_stays old new stays all_synced = record {
  same = λ shown image both. all_synced.same shown image (stays.crash_pairs shown image both);
  unsynced = let s = stays.unsynced in let t = all_synced.unsynced in omega arith;
}

-- no write is one of which no byte was left
pub torn_none : (most k : ℕ) (bytes : List ℕ) (image : DiskImage)
    → IsTornWithin most k bytes image image
torn_none most k bytes image = record {
  front = 0;
  within = omega arith;
  is = sym (set-get_or image k []);
}

pub no_write : (old new : Medium) (most k : ℕ) (bytes : List ℕ) → Stays old new
    → BothFollow (IsTornWithin most k bytes) (IsTornWithin most k bytes) old new
no_write old new most k bytes stays =
    λ shown image both. (
      shown,
      image,
      stays.crash_pairs shown image both,
      torn_none most k bytes shown,
      torn_none most k bytes image,
    )

-- a call that stays leaves nothing that a cut couldn't have left before it
pub stays_passes : (old new : Medium) → Stays old new → Passes old new new.crash_images
    → Passes old new old.crash_images
stays_passes old new stays passes =
    goes_on old old new _ _ (started old old.crash_images) passes (stays_crashed old new stays)

pub stays_leaves_only : (old new : Medium) → Stays old new → Passes old new new.crash_images
    → LeavesOnly old new old.crash_images
stays_leaves_only old new stays passes =
    leaves_only old new old.crash_images (stays_passes old new stays passes)
    (λ image crashed. crashed)

pub stays_on : (old mid new : Medium) → old.moment ≤ mid.moment → Stays old mid → Stays mid new
    → Stays old new
stays_on old mid new later one two = record {
  crash_pairs = λ shown image both. one.crash_pairs shown image (two.crash_pairs shown image both);
  since = λ t shown image le both.
      one.since t shown image le (two.since t shown image (omega arith) both);
  unsynced = let a = one.unsynced in let b = two.unsynced in omega arith;
}

-- a step, and then a call that stays
pub follows_stays : (old mid new : Medium) (step : DiskImage → DiskImage → Type 0) → Stays mid new
    → Follows step old.shows mid.shows → Follows step old.shows new.shows
follows_stays old mid new step stays follow image shows =
    follow image (stays_shows mid new stays image shows)

-- a step, and then a good sync
pub synced_follows : (old mid new : Medium) (step : DiskImage → DiskImage → Type 0)
    → IsAllSynced new → Stays mid new → Follows step old.shows mid.shows
    → Follows step old.shows new.crash_images
synced_follows old mid new step all_synced stays follow image crashed =
    follows_stays old mid new step stays follow image (synced_only new all_synced image crashed)

-- so it is after a sync that follows
pub leaves_synced : (old mid new : Medium) (P : DiskImage → Type 0) → LeavesOnly old mid P
    → Stays mid new → Passes mid new new.crash_images → LeavesOnly old new P
leaves_synced old mid new P leaves stays passes =
    let before = leaves.passes in
    let here : (image : DiskImage) → new.crash_images image → P image =
    λ image crashed. leaves.each image (mid.counts_now old.moment image before.later
    (stays_crashed mid new stays image crashed)) in
    record {
      each = λ image since. ⊎_elim (λ past. leaves.each image past) (λ now. here image now)
          (passes.nothing_else old.moment image before.later since);
      passes = goes_on old mid new P new.crash_images before passes here;
    }

-- the same of all that a cut leaves
pub leaves_weaker : (old new : Medium) (P Q : DiskImage → Type 0) → LeavesOnly old new P
    → ((image : DiskImage) → P image → Q image) → LeavesOnly old new Q
leaves_weaker old new P Q leaves here =
    record {
      each = λ image since. here image (leaves.each image since);
      passes = weaker old new P Q leaves.passes here;
    }
