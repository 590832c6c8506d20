-- Worked examples of journals.
use Rattle.std.proofs.Common.{◌≡◌, ℕ, zero, suc, ◌+◌, ◌<◌, ◌≤◌, Bool, true, false, ltb, List, []}
use Rattle.std.proofs.Common.{◌∷◌, length, take, drop, get_or, if◌then◌else◌, lit<, lit≤, refl, sym}
use Rattle.std.proofs.Common.{ap, subst, arith}
use Rattle.std.proofs.lemmas.Bool.{ltb-true, false≢true}
use Rattle.std.specs.List.{AllByRecursion}
use Rattle.guest_memory.specs.rules.Bytes.{IsByte}
use Rattle.wasi_abi.specs.declared.version.Version.{Version}
use Rattle.wasi_abi.specs.declared.version.Version.TheVariants.{One, Two}
use Rattle.sector_disk.specs.rules.DiskImage.{DiskImage, sector_at}
use Rattle.sector_disk.proofs.ExampleLemmas.{below_two, peel, differ}
use Rattle.disk_layout.specs.rules.Journal.{Record, record_bytes, is_of}
use Rattle.disk_layout.specs.rules.Sectors.{shown_generation}
use Rattle.disk_layout.specs.Scanned.{records_at}
use Rattle.disk_layout.specs.laws.Examples.{hello_record}
use Rattle.disk_layout.specs.laws.RecordExamples.{bare, end_record, spread, two_records}
use Rattle.disk_layout.specs.laws.RecordExamples.{two_wide_records, misread_hello}
use Rattle.journal.specs.rules.Steps.{JournalHolds, SpellsRecords, SameOthers, ShowsNoneAfter}
use Rattle.journal.specs.laws.Examples.{FittingExamples, HoldingExamples, BarrierExamples}
use Rattle.journal.specs.laws.Examples.{JournalHoldsExamples, LaterExamples, hello_and_end}
use Rattle.journal.specs.laws.Examples.{before_one_of, behind_hello, only_hello, whole_end}
use Rattle.journal.specs.laws.Examples.{torn_end, with_end}
use Rattle.journal.proofs.HeldLemmas.{payloads_of, records_held, holds_one_list}
use Rattle.journal.proofs.SpelledLemmas.{records_spelled}

abbrev bit_of : Bool → ℕ
bit_of b = if b then 1 else 0

-- ---- numbers below a small one, and from one on

below_three : (P : ℕ → Type 0) → P 0 → P 1 → P 2 → (k : ℕ) → k < 3 → P k
below_three P p q r zero less = p
below_three P p q r (suc k) less = below_two (λ i. P (suc i)) q r k (omega (arith, less))

below_four : (P : ℕ → Type 0) → P 0 → P 1 → P 2 → P 3 → (k : ℕ) → k < 4 → P k
below_four P p q r s zero less = p
below_four P p q r s (suc k) less = below_three (λ i. P (suc i)) q r s k (omega (arith, less))

from_three : (P : ℕ → Type 0) (n : ℕ) → ((k : ℕ) → n ≤ k → P (suc (suc (suc k)))) → (k : ℕ)
    → 3 + n ≤ k → P k
from_three P n more k le = peel P (2 + n) (λ a h.
    peel (λ i. P (suc i)) (1 + n) (λ b g.
    peel (λ i. P (suc (suc i))) n more b (omega (arith, g))) a (omega (arith, h)))
    k (omega (arith, le))

from_six : (P : ℕ → Type 0) → ((k : ℕ) → P (suc (suc (suc (suc (suc (suc k))))))) → (k : ℕ)
    → 6 ≤ k → P k
from_six P more = from_three P 3
    (from_three (λ i. P (suc (suc (suc i)))) 0 (λ k le. more k))

only_two : (P : ℕ → Type 0) → P 2 → (k : ℕ) → 2 ≤ k → k < 3 → P k
only_two P p k le less = subst P (let e : 2 ≡ k = omega (arith, le, less) in e) p

-- ---- what fits

pub fitting_examples : FittingExamples
fitting_examples = record {
  last_step = record { step = omega arith; payload = omega arith; clock = tt };
  no_step = λ f. (let h = f.step in omega (arith, h));
  last_time = record { step = omega arith; payload = omega arith; clock = omega arith };
  no_time = λ f. (let h = f.clock in omega (arith, h));
  no_count = λ f. (let h = f.clock in omega (arith, h));
  longest = λ text long. record { step = omega arith; payload = omega (arith, long); clock = tt };
  too_long = λ text long f. (let h = f.payload in omega (arith, h, long));
  too_many_bytes = λ bytes long f. (let h = f.payload in omega (arith, h, long));
  longest_in_two = λ text long.
      record { step = omega arith; payload = omega (arith, long); clock = tt };
  too_long_in_two = λ text long f. (let h = f.payload in omega (arith, h, long));
}

-- ---- what is stored

abbrev stamped : ℕ → DiskImage → ℕ → Type 0
stamped g image k = is_of g (1 + k) (sector_at image (3 + k)) ≡ true

pub holding_examples : HoldingExamples
holding_examples = record {
  in_two_sectors = record {
    holds_bytes = record {
      within = omega arith;
      written = below_two (stamped 5 (spread 12 two_records)) refl refl;
      joined = refl;
    };
    clean = only_two (λ k. shown_generation (1 + k) (sector_at (spread 12 two_records) (3 + k)) < 5)
        (lit< tt);
  };
  in_fewer_sectors = λ s.
      (let h : 5 < 5 = s.clean 1 (omega arith) (omega arith) in omega (arith, h));
  in_more_sectors = λ s.
      differ 0 1 (ap bit_of (s.holds_bytes.written 2 (omega arith))) (omega arith);
  of_another_generation = λ s.
      differ 0 1 (ap bit_of (s.holds_bytes.written 0 (omega arith))) (omega arith);
  before_one_of_earlier = record {
    holds_bytes = record {
      within = omega arith;
      written = below_two (stamped 5 (before_one_of 4)) refl refl;
      joined = refl;
    };
    clean = only_two (λ k. shown_generation (1 + k) (sector_at (before_one_of 4) (3 + k)) < 5)
        (lit< tt);
  };
  before_a_later_one = λ s.
      (let h : 6 < 5 = s.clean 2 (omega arith) (omega arith) in omega (arith, h));
  beyond_the_journal = λ s. (let h : 2 ≤ 1 = s.holds_bytes.within in omega (arith, h));
  other_records = λ s. differ 16 27 (sym (ap length s.holds_bytes.joined)) (omega arith);
  in_two = record {
    holds_bytes = record {
      within = omega arith;
      written = below_two (stamped 5 (spread 12 two_wide_records)) refl refl;
      joined = refl;
    };
    clean = only_two (λ k. shown_generation (1 + k) (sector_at (spread 12 two_wide_records) (3 + k))
        < 5) (lit< tt);
  };
  of_the_other_version = λ s. differ 27 31 (ap length s.holds_bytes.joined) (omega arith);
}

-- ---- what a journal holds

-- bytes, told by a test
abbrev all_below : List ℕ → Bool
all_below [] = true
all_below (b ∷ bytes) = if ltb b 256 then all_below bytes else false

are_bytes : (bytes : List ℕ) → all_below bytes ≡ true → AllByRecursion IsByte bytes
are_bytes [] e = tt
are_bytes (b ∷ bytes) e = by (ltb b 256) refl e (λ rest. are_bytes bytes rest)
  where
    by : (test : Bool) → ltb b 256 ≡ test
        → (if test then all_below bytes else false) ≡ true
        → (all_below bytes ≡ true → AllByRecursion IsByte bytes)
        → (b < 256) × AllByRecursion IsByte bytes
    by true here e more = (ltb-true b 256 here, more e)
    by false here e more = absurd (false≢true e)

-- what a scan reads of these bytes
scanned : (v : Version) (g : ℕ) (image : DiskImage) (bytes : List ℕ) (records : List Record)
    → payloads_of bare g image ≡ bytes → all_below bytes ≡ true
    → records ≡ records_at v (length bytes) bytes → JournalHolds bare v g records image
scanned v g image bytes records are all read =
    records_held bare v g image records bytes are
    (subst (λ (l : List Record). SpellsRecords v l bytes) (sym read)
    (records_spelled v (length bytes) bytes (omega arith) (are_bytes bytes all)))

both_held : JournalHolds bare One 5 (hello_record ∷ end_record ∷ []) (spread 12 two_records)
both_held = scanned One 5 (spread 12 two_records) two_records (hello_record ∷ end_record ∷ [])
    refl refl refl

hello_held : (g : ℕ) → payloads_of bare 5 (hello_and_end g) ≡ record_bytes One hello_record
    → JournalHolds bare One 5 (hello_record ∷ []) (hello_and_end g)
hello_held g are = scanned One 5 (hello_and_end g) (record_bytes One hello_record)
    (hello_record ∷ []) are refl refl

-- two lists differ in length
one_or_two : (image : DiskImage) → JournalHolds bare One 5 (hello_record ∷ []) image
    → JournalHolds bare One 5 (hello_record ∷ end_record ∷ []) image → ⊥
one_or_two image one two =
    differ 1 2 (ap length (holds_one_list bare One 5 (hello_record ∷ [])
    (hello_record ∷ end_record ∷ []) image one two)) (omega arith)

pub journal_holds_examples : JournalHoldsExamples
journal_holds_examples = record {
  in_two_sectors = both_held;
  one_short = λ held. one_or_two (spread 12 two_records) held both_held;
  up_to_a_cut = scanned One 5 (spread 12 (take 26 two_records)) (take 26 two_records)
      (hello_record ∷ []) refl refl refl;
  up_to_a_sixth_kind = scanned One 5 (spread 12 (6 ∷ drop 1 two_records))
      (6 ∷ drop 1 two_records) [] refl refl refl;
  of_another_generation = scanned One 4 (spread 12 two_records) [] [] refl refl refl;
  up_to_an_earlier_one = hello_held 4 refl;
  up_to_a_later_one = hello_held 6 refl;
  over_an_earlier_one = λ held. one_or_two (hello_and_end 4) (hello_held 4 refl) held;
  in_two = scanned Two 5 (spread 12 two_wide_records) two_wide_records
      (hello_record ∷ end_record ∷ []) refl refl refl;
  in_the_wrong_version = scanned One 5 (spread 12 two_wide_records) two_wide_records
      (misread_hello ∷ []) refl refl refl;
}

-- ---- what a barrier may leave

abbrev same_at : DiskImage → ℕ → Type 0
same_at new k = sector_at new k ≡ sector_at only_hello k

-- only the journal's second and third sectors differ
others_same : (second third : List ℕ) → SameOthers bare 1 only_hello (behind_hello second third)
others_same second third = record {
  count = refl;
  below = below_four (same_at (behind_hello second third)) refl refl refl refl;
  above = from_six (same_at (behind_hello second third)) (λ k. refl);
}

none_after : (image : DiskImage) → shown_generation 1 (sector_at image 3) ≤ 5
    → shown_generation 2 (sector_at image 4) ≤ 5 → shown_generation 3 (sector_at image 5) ≤ 5
    → ShowsNoneAfter bare 5 image
none_after image first second third =
    below_three (λ k. shown_generation (1 + k) (sector_at image (3 + k)) ≤ 5) first second third

still_hello : (second : List ℕ)
    → payloads_of bare 5 (behind_hello second []) ≡ record_bytes One hello_record
    → JournalHolds bare One 5 (hello_record ∷ []) (behind_hello second [])
still_hello second are = scanned One 5 (behind_hello second []) (record_bytes One hello_record)
    (hello_record ∷ []) are refl refl

abbrev lost_disk : DiskImage
lost_disk = [] ∷ [] ∷ [] ∷ [] ∷ [] ∷ [] ∷ (9 ∷ []) ∷ []

pub barrier_examples : BarrierExamples
barrier_examples = record {
  appended = record {
    count = 1;
    within = omega arith;
    in_journal = scanned One 5 with_end two_records (hello_record ∷ end_record ∷ []) refl refl refl;
    none_later = none_after with_end (lit≤ tt) (lit≤ tt) (lit≤ tt);
    others = others_same whole_end [];
  };
  nothing_yet = record {
    count = 0;
    within = omega arith;
    in_journal = still_hello [] refl;
    none_later = none_after only_hello (lit≤ tt) (lit≤ tt) (lit≤ tt);
    others = others_same [] [];
  };
  torn = record {
    count = 0;
    within = omega arith;
    in_journal = still_hello torn_end refl;
    none_later = none_after (behind_hello torn_end []) (lit≤ tt) (lit≤ tt) (lit≤ tt);
    others = others_same torn_end [];
  };
  lost = λ a. differ 0 1 (ap (λ l. min_one (length l)) (holds_one_list bare One 5 []
      (hello_record ∷ take a.count (end_record ∷ [])) lost_disk
      (scanned One 5 lost_disk [] [] refl refl refl) a.in_journal)) (omega arith);
  shows_a_later_one = λ a. (let h : 6 ≤ 5 = a.none_later 2 (omega arith) in omega (arith, h));
  super_changed = λ a. (let o = a.others in
      differ 0 7 (sym (ap (λ l. get_or l 0 0) (o.below 0 (omega arith)))) (omega arith));
  changed_behind = λ a. (let o = a.others in
      differ 8 9 (ap (λ l. get_or l 0 0) (o.above 6 (omega arith))) (omega arith));
  longer = λ a. (let o = a.others in differ 7 8 (sym o.count) (omega arith));
  used_changed = λ o. differ 8 16 (ap (λ l. get_or l 0 0) (o.below 3 (omega arith))) (omega arith);
}
  where
    min_one : ℕ → ℕ
    min_one zero = 0
    min_one (suc n) = 1

-- ---- a later generation

pub later_examples : LaterExamples
later_examples = record {
  than_earlier = record { some = lit< tt; later = lit< tt };
  than_its_own = λ s. (let h : 5 < 5 = s.later in omega (arith, h));
  without_records = record { some = lit< tt; later = lit< tt };
  of_another_place = λ s. (let h : 4 < 0 = s.later in omega (arith, h));
  in_the_second_sector = λ s. (let h : 5 < 5 = s.later in omega (arith, h));
  without_a_journal = λ s. (let h : 0 < 0 = s.some in omega (arith, h));
}
