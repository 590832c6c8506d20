-- A disk in a file, as the contracts see it: a disk that obeys the model and gave these answers.
use Rattle.std.specs.Prelude.{◌<◌, ◌^◌, ℕ, [], length}
use Rattle.sector_disk.specs.rules.DiskImage.{DiskImage, IsDiskImage}
use Rattle.sector_disk.specs.rules.Medium.{Medium}
use Rattle.sector_disk.specs.rules.Answered.{AnsweredCalls, Explains, ExplainsSince, faults_of}
use Rattle.sector_disk.specs.rules.Answered.{unsynced_of, file_calls}
use Rattle.sector_disk.specs.rules.Counts.{AnsweredCount}
use Rattle.sector_disk.specs.laws.Answered.{disk_images, stays, keeps_more_of, since_now}
use Rattle.sector_disk.specs.laws.Answered.{since_only, since_shows}
use Rattle.sector_disk.specs.laws.Counts.{answered_now, answered_only}
use Rattle.sector_disk.specs.laws.File.{count_fits}
use Rattle.sector_disk.specs.declared.file.FileDisk.{FileDisk}

-- A disk of so many sectors, on which this was at first, and which then gave these answers. Only a
-- failure keeps a file from taking a write, so its room is a number that nobody reaches.
abbrev pub answered_medium : (sectors : ℕ) → sectors < 2 ^ 64 → (first : DiskImage)
    → IsDiskImage sectors first → AnsweredCalls → Medium
answered_medium n fits first whole answers = record {
  sectors = n;
  fault_plan = [];
  shows = λ image. (crashed : DiskImage) × Explains first answers image crashed;
  crash_images = λ image. (shown : DiskImage) × Explains first answers shown image;
  crash_pairs = λ shown image. Explains first answers shown image;
  moment = length answers;
  crash_images_since = λ t image. (shown : DiskImage) × ExplainsSince first t answers image shown;
  crash_pairs_since = λ t shown image. ExplainsSince first t answers image shown;
  faults = faults_of answers;
  unsynced = unsynced_of answers;
  room = 2 ^ 64;
  unsynced_since = λ t count. AnsweredCount t answers count;
  calls = file_calls answers;
  counted = 0;
  fits = fits;
  of_shows = λ image both. both;
  of_crash = λ image both. both;
  of_pair = λ shown image both. ((image, both), (shown, both));
  of_since = λ t image since. since;
  of_pair_since = λ t shown image since. (
    since_shows first t answers image shown since,
    (shown, since),
  );
  counts_now = λ t image le crashed. (
    crashed.0,
    since_now first t answers image crashed.0
        le crashed.1,
  );
  only_now = λ image since. (since.0, since_only first answers image since.0 since.1);
  only_pair = λ shown image since. since_only first answers image shown since;
  count_now = λ t le. answered_now t answers le;
  only_count = λ count since. answered_only answers count since;
  may_stay = λ shown image both. stays n first whole answers shown image both;
  may_keep = λ shown image both k front le.
      keeps_more_of n first whole answers shown image both k front le;
  is_disk_image = λ image crashed. let both = disk_images n first whole answers crashed.0 image
      crashed.1 in both.1;
}

module _ {F : Type 0} where
  -- its calls with their answers since it was opened, the newest first
  abbrev pub answers_of : FileDisk F → AnsweredCalls
  answers_of d = d.past.log.items

  -- the file, which nothing but the disk has
  abbrev pub file_of : FileDisk F → F
  file_of d = d.file

  -- what was on it as it was opened
  abbrev pub first_of : FileDisk F → DiskImage
  first_of d = d.first.image

  -- a disk in a file, by what was on it at first and by its log
  abbrev pub file_medium : FileDisk F → Medium
  file_medium d = answered_medium d.count (count_fits d) (first_of d) d.whole (answers_of d)
