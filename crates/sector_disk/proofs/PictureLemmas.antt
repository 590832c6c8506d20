-- What is read of a disk that another host may write.
use Rattle.std.proofs.Common.{◌≡◌, ◌∙◌, ◌<◌, ◌≤◌, ◌+◌, ℕ, zero, suc, List, [], ◌∷◌, ◌++◌}
use Rattle.std.proofs.Common.{length, length-append, refl, sym, ap, subst, arith, Bool, true}
use Rattle.std.proofs.Common.{false, Err, inl, inr, ◌≢◌, take}
use Rattle.std.proofs.lemmas.List.{append_assoc, length-take-le}
use Rattle.sector_disk.specs.rules.Answered.{AnsweredCalls, ReadLogged, faults_of, is_given_up}
use Rattle.sector_disk.specs.rules.Answered.{after_failure}
use Rattle.sector_disk.specs.rules.DiskImage.{DiskImage, IsDiskImage, sector_at}
use Rattle.sector_disk.specs.rules.Pictures.{FailsToSee, IsOfRead, WasRead, reads_of}
use Rattle.std.specs.List.{AllByRecursion}
use Rattle.sector_disk.specs.declared.file_call.FileCall.{FileCall}
use Rattle.sector_disk.specs.Pictures.{GivesAgain}
use Rattle.sector_disk.specs.declared.fault.DiskFault.{DiskFault}
use Rattle.sector_disk.specs.declared.fault.DiskFault.TheVariants.{Cut, Io, Memory, Range}
use Rattle.sector_disk.specs.declared.file_call.FileCall.TheVariants.{Failed, Read}
use Rattle.sector_disk.specs.declared.file_call.Failure.TheVariants.{OfRead, Refused}
use Rattle.sector_disk.specs.declared.file_call.TheConstants.{NO_BYTES}
use Rattle.sector_disk.specs.declared.sector.TheConstants.{SECTOR_SIZE}

-- no read is a fault
pub reads_are_good : (count : ℕ) (image : DiskImage) (old : AnsweredCalls)
    → faults_of (reads_of count image ++ old) ≡ faults_of old
reads_are_good zero image old = refl
reads_are_good (suc count) image old = omega (arith, reads_are_good count image old)

-- a read that fails is one
pub failure_counts : (given_up : Bool) (old : AnsweredCalls) → is_given_up old ≡ given_up
    → faults_of old < faults_of (after_failure (Failed OfRead) NO_BYTES old)
failure_counts true old is = rw is (omega arith)
failure_counts false old is = rw is (omega arith)

-- a read of a sector that is there fails with a fault of the disk itself
pub read_fails : (fault : DiskFault) (k : ℕ) (bytes : List ℕ) (old new : AnsweredCalls)
    → fault ≢ Range → ReadLogged (Err fault) k bytes old new
    → (fault ≡ Io) × (faults_of old < faults_of new)
read_fails Range k bytes old new inside logged = absurd (inside refl)
read_fails Io k bytes old new inside logged = (
  refl,
  subst (λ l. faults_of old < faults_of l) (sym logged)
      (failure_counts (is_given_up old) old refl),
)
read_fails Cut k bytes old new inside logged = absurd logged
read_fails Memory k bytes old new inside logged = absurd logged

-- ---- files that were only read

-- good reads
pub only_read : (count : ℕ) (image : DiskImage) → AllByRecursion (λ (answer : FileCall × List ℕ).
    IsOfRead answer.0) (reads_of count image)
only_read zero image = tt
only_read (suc count) image = (tt, only_read count image)

pub was_read : (count : ℕ) (image : DiskImage) (old new : AnsweredCalls)
    → new ≡ reads_of count image ++ old → WasRead old new
was_read count image old new reads = (reads_of count image, reads, only_read count image)

-- two stretches of reads
both_read : (more less : AnsweredCalls)
    → AllByRecursion (λ (answer : FileCall × List ℕ). IsOfRead answer.0) more
    → AllByRecursion (λ (answer : FileCall × List ℕ). IsOfRead answer.0) less
    → AllByRecursion (λ (answer : FileCall × List ℕ). IsOfRead answer.0) (more ++ less)
both_read [] less all others = others
both_read (answer ∷ more) less all others = (all.0, both_read more less all.1 others)

pub was_read_on : (old mid new : AnsweredCalls) → WasRead old mid → WasRead mid new
    → WasRead old new
was_read_on old mid new (first, were, reads) (more, are, others) = (
  more ++ first,
  are ∙ ap (λ l. more ++ l) were ∙ sym (append_assoc more first old),
  both_read more first others reads,
)

-- a read that fails
one_failed : (given_up : Bool) (old : AnsweredCalls) → is_given_up old ≡ given_up
    → WasRead old (after_failure (Failed OfRead) NO_BYTES old)
one_failed true old is = rw is ((Failed Refused, NO_BYTES) ∷ [], refl, (tt, tt))
one_failed false old is = rw is ((Failed OfRead, NO_BYTES) ∷ [], refl, (tt, tt))

-- ---- reads that fail

-- the same, behind reads that were good
pub fails_behind : (fault : DiskFault) (count : ℕ) (image : DiskImage)
    (bytes : List ℕ) (old mid new : AnsweredCalls) → fault ≢ Range
    → mid ≡ reads_of count image ++ old → ReadLogged (Err fault) count bytes mid new
    → FailsToSee old new fault
fails_behind fault count image bytes old mid new inside were logged =
    let failed = read_fails fault count bytes mid new inside logged in
    let less = failed.1 in
    let same = ap faults_of were ∙ reads_are_good count image old in
    let io : new ≡ after_failure (Failed OfRead) NO_BYTES mid =
    subst (λ f. ReadLogged (Err f) count bytes mid new) failed.0 logged in (
      was_read_on old mid new (was_read count image old mid were)
          (subst (λ l. WasRead mid l) (sym io) (one_failed (is_given_up mid) mid refl)),
      inr (failed.0, omega (arith, less, same)),
    )

-- one sector more at the end changes none before it
sector_stays : (image : DiskImage) (bytes : List ℕ) (k : ℕ) → k < length image
    → sector_at (image ++ bytes ∷ []) k ≡ sector_at image k
sector_stays [] bytes k less = absurd (omega (arith, less))
sector_stays (first ∷ image) bytes zero less = refl
sector_stays (first ∷ image) bytes (suc k) less = sector_stays image bytes k (omega (arith, less))

sector_added : (image : DiskImage) (bytes : List ℕ)
    → sector_at (image ++ bytes ∷ []) (length image) ≡ bytes
sector_added [] bytes = refl
sector_added (first ∷ image) bytes = sector_added image bytes

reads_stay : (count : ℕ) (image : DiskImage) (bytes : List ℕ) → count ≤ length image
    → reads_of count (image ++ bytes ∷ []) ≡ reads_of count image
reads_stay zero image bytes less = refl
reads_stay (suc count) image bytes less =
    ap (λ s. (Read count, s) ∷ reads_of count (image ++ bytes ∷ []))
    (sector_stays image bytes count (omega (arith, less)))
    ∙ ap (λ l. (Read count, sector_at image count) ∷ l)
    (reads_stay count image bytes (omega (arith, less)))

-- the reads of one sector more
reads_longer : (image : DiskImage) (bytes : List ℕ) (old mid new : AnsweredCalls)
    → mid ≡ reads_of (length image) image ++ old → new ≡ (Read (length image), bytes) ∷ mid
    → new ≡ reads_of (suc (length image)) (image ++ bytes ∷ []) ++ old
reads_longer image bytes old mid new were one =
    one ∙ ap (λ l. (Read (length image), bytes) ∷ l) were
    ∙ sym (ap (λ s. (Read (length image), s) ∷ reads_of (length image) (image ++ bytes ∷ []) ++ old)
    (sector_added image bytes)
    ∙ ap (λ l. (Read (length image), bytes) ∷ l ++ old) (reads_stay (length image) image bytes
    (omega arith)))

pub reads_grow : (count : ℕ) (image : DiskImage) (bytes : List ℕ) (old mid new : AnsweredCalls)
    → IsDiskImage count image → mid ≡ reads_of count image ++ old
    → new ≡ (Read count, bytes) ∷ mid
    → new ≡ reads_of (count + 1) (image ++ bytes ∷ []) ++ old
reads_grow count image bytes old mid new is were one =
    let next : suc count ≡ count + 1 = omega arith in
    subst (λ n. new ≡ reads_of n (image ++ bytes ∷ []) ++ old) next
    (subst (λ n. mid ≡ reads_of n image ++ old → new ≡ (Read n, bytes) ∷ mid
    → new ≡ reads_of (suc n) (image ++ bytes ∷ []) ++ old) is.count
    (reads_longer image bytes old mid new) were one)

-- one sector more of the same image
pub reads_on : (count : ℕ) (image : DiskImage) (old mid new : AnsweredCalls)
    → mid ≡ reads_of count image ++ old → new ≡ (Read count, sector_at image count) ∷ mid
    → new ≡ reads_of (count + 1) image ++ old
reads_on count image old mid new were one =
    let next : suc count ≡ count + 1 = omega arith in
    subst (λ n. new ≡ reads_of n image ++ old) next
    (one ∙ ap (λ l. (Read count, sector_at image count) ∷ l) were)

-- ---- the first sectors of an image

sector_taken : (m : ℕ) (image : DiskImage) (k : ℕ) → k < m
    → sector_at (take m image) k ≡ sector_at image k
sector_taken zero image k less = absurd (omega (arith, less))
sector_taken (suc m) [] k less = refl
sector_taken (suc m) (first ∷ image) zero less = refl
sector_taken (suc m) (first ∷ image) (suc k) less =
    sector_taken m image k (omega (arith, less))

reads_taken : (count m : ℕ) (image : DiskImage) → count ≤ m
    → reads_of count (take m image) ≡ reads_of count image
reads_taken zero m image le = refl
reads_taken (suc count) m image le =
    ap (λ s. (Read count, s) ∷ reads_of count (take m image))
    (sector_taken m image count (omega (arith, le)))
    ∙ ap (λ l. (Read count, sector_at image count) ∷ l)
    (reads_taken count m image (omega (arith, le)))

-- a sector among the first ones has changed
pub changes_again : (count m : ℕ) (image : DiskImage) (old mid new : AnsweredCalls)
    → IsDiskImage count image → m ≤ count → mid ≡ reads_of count image ++ old
    → GivesAgain false (take m image) mid new
    → (k : ℕ) × (bytes : List ℕ) × (k < m) × (bytes ≢ sector_at image k)
    × (new ≡ (Read k, bytes) ∷ reads_of k image ++ reads_of count image ++ old)
changes_again count m image old mid new is le were (k, bytes, less, other, reads) =
    let long = length-take-le m image (omega (arith, le, is.count)) in
    let less' : k < m = omega (arith, less, long) in (
      k,
      bytes,
      less',
      λ same. other (same ∙ sym (sector_taken m image k less')),
      reads ∙ ap (λ l. (Read k, bytes) ∷ (l ++ mid)) (reads_taken k m image (omega (arith, less')))
          ∙ ap (λ l. (Read k, bytes) ∷ (reads_of k image ++ l)) were
          ∙ ap (λ l. (Read k, bytes) ∷ l)
          (sym (append_assoc (reads_of k image) (reads_of count image) old)),
    )

-- the first ones gave the same
pub stays_again : (count m : ℕ) (image : DiskImage) (old mid new : AnsweredCalls)
    → IsDiskImage count image → m ≤ count → mid ≡ reads_of count image ++ old
    → GivesAgain true (take m image) mid new
    → new ≡ reads_of m image ++ reads_of count image ++ old
stays_again count m image old mid new is le were reads =
    let long : length (take m image) ≡ m = length-take-le m image (omega (arith, le, is.count)) in
    reads ∙ ap (λ n. reads_of n (take m image) ++ mid) long
    ∙ ap (λ l. l ++ mid) (reads_taken m m image (omega arith))
    ∙ ap (λ l. reads_of m image ++ l) were
    ∙ sym (append_assoc (reads_of m image) (reads_of count image) old)

-- a read fails that comes behind good ones
pub fails_later : (count : ℕ) (image : DiskImage) (old mid new : AnsweredCalls)
    (fault : DiskFault) → mid ≡ reads_of count image ++ old → FailsToSee mid new fault
    → FailsToSee old new fault
fails_later count image old mid new fault were (read, inl is) =
    (was_read_on old mid new (was_read count image old mid were) read, inl is)
fails_later count image old mid new fault were (read, inr (is, less)) =
    let same = ap faults_of were ∙ reads_are_good count image old in (
      was_read_on old mid new (was_read count image old mid were) read,
      inr (is, omega (arith, less, same)),
    )

-- all its sectors are full, with one more
all_full : (image : DiskImage) (bytes : List ℕ)
    → ((k : ℕ) → k < length image → length (sector_at image k) ≡ SECTOR_SIZE)
    → length bytes ≡ SECTOR_SIZE → (k : ℕ) → k < length image + 1
    → length (sector_at (image ++ bytes ∷ []) k) ≡ SECTOR_SIZE
all_full [] bytes full long zero less = long
all_full [] bytes full long (suc k) less = absurd (omega (arith, less))
all_full (first ∷ image) bytes full long zero less = full 0 (omega arith)
all_full (first ∷ image) bytes full long (suc k) less =
    all_full image bytes (λ j lt. full (suc j) (omega (arith, lt))) long k (omega (arith, less))

-- an image with one sector more
pub image_grows : (count : ℕ) (image : DiskImage) (bytes : List ℕ) → IsDiskImage count image
    → length bytes ≡ SECTOR_SIZE → IsDiskImage (count + 1) (image ++ bytes ∷ [])
image_grows count image bytes is long =
    let same = is.count in
    record {
      count = omega (arith, length-append image (bytes ∷ []), same);
      full = λ k less. all_full image bytes (λ j lt. is.full j (omega (arith, lt, same))) long k
          (omega (arith, less, same));
    }
