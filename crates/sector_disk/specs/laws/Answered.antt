-- Laws of what the answers of a file tell.
use Rattle.std.specs.Prelude.{◌≡◌, ◌⊎◌, ◌<◌, ◌≤◌, ◌+◌, ℕ, List, [], ◌∷◌, length, refl}
use Rattle.std.proofs.Common.{sym, ap, subst, ◌∙◌, inl, inr, ⊎_elim, arith}
use Rattle.std.proofs.lemmas.List.{set_past, length-set}
use Rattle.std.proofs.lemmas.Bool.{cases_lt, cases_eq}
use Rattle.sector_disk.specs.rules.DiskImage.{DiskImage, sector_at, with_sector, with_front}
use Rattle.sector_disk.specs.rules.DiskImage.{front_over, IsDiskImage}
use Rattle.sector_disk.specs.laws.Fronts.{disk_image-with_sector, disk_image-with_front}
use Rattle.sector_disk.specs.laws.Fronts.{whole-with_front, sector-with_sector, sector-with_other}
use Rattle.sector_disk.specs.laws.Fronts.{with_front_twice, with_front_comm, with_front_self}
use Rattle.sector_disk.specs.laws.Fronts.{front_hides, front_within, shorter, longer}
use Rattle.sector_disk.specs.laws.Pending.{keeps_step}
use Rattle.sector_disk.specs.rules.Answered.{AnsweredCalls, OneOn, Explains, ShowsOn, ExplainsSince}
use Rattle.sector_disk.specs.declared.file_call.FileCall.{FileCall}
use Rattle.sector_disk.specs.declared.file_call.Failure.{Failure}
use Rattle.sector_disk.specs.declared.file_call.FileCall.TheVariants.{Read, Wrote, Tore, Synced}
use Rattle.sector_disk.specs.declared.file_call.FileCall.TheVariants.{Failed}

-- both are images
disk_image_on : (n : ℕ) (call : FileCall) (bytes : List ℕ) (before : DiskImage → DiskImage → Type 0)
    → ((s l : DiskImage) → before s l → IsDiskImage n s × IsDiskImage n l) → (s l : DiskImage)
    → OneOn call bytes before s l → IsDiskImage n s × IsDiskImage n l
disk_image_on n (Read k) bytes before was s l on = was s l on.0
disk_image_on n (Wrote k) bytes before was s l (s0, l0, f, b, le, full, es, el) =
    let both = was s0 l0 b in (
      subst (λ (i : DiskImage). IsDiskImage n i) (sym es) (disk_image-with_sector n s0 k
          bytes both.0 (λ lt.
          full)),
      subst (λ (i : DiskImage). IsDiskImage n i) (sym el)
          (disk_image-with_front n l0 k f bytes both.1 le (λ lt. full)),
    )
disk_image_on n (Tore k) bytes before was s l (s0, l0, m, f, b, le, less, full, es, el) =
    let both = was s0 l0 b in (
      subst (λ (i : DiskImage). IsDiskImage n i) (sym es) (disk_image-with_front n s0 k m bytes
          both.0 le (λ lt.
          full)),
      subst (λ (i : DiskImage). IsDiskImage n i) (sym el) (disk_image-with_front n l0 k
          f bytes both.1
          (omega arith) (λ lt. full)),
    )
disk_image_on n Synced bytes before was s l (l0, b, e) = let both = was s l0 b in
    (both.0, subst (λ (i : DiskImage). IsDiskImage n i) (sym e) both.0)
disk_image_on n (Failed which) bytes before was s l on = was s l on

pub disk_images : (n : ℕ) (first : DiskImage) (whole : IsDiskImage n first)
    (answers : AnsweredCalls) (s l : DiskImage) → Explains first answers s l
    → IsDiskImage n s × IsDiskImage n l
disk_images n first whole [] s l on = (
  subst (λ (i : DiskImage). IsDiskImage n i) (sym on.0) whole,
  subst (λ (i : DiskImage). IsDiskImage n i) (sym on.1) whole,
)
disk_images n first whole (answer ∷ answers) s l on =
    disk_image_on n answer.0 answer.1 (Explains first answers) (disk_images n first whole answers) s
    l on

-- a cut may leave all that reads give
stay_on : (n : ℕ) (call : FileCall) (bytes : List ℕ) (before : DiskImage → DiskImage → Type 0)
    → ((s l : DiskImage) → before s l → IsDiskImage n s × IsDiskImage n l)
    → ((s l : DiskImage) → before s l → before s s)
    → (s l : DiskImage) → OneOn call bytes before s l → OneOn call bytes before s s
stay_on n (Read k) bytes before is stays s l on = (stays s l on.0, on.1)
stay_on n (Wrote k) bytes before is stays s l (s0, l0, f, b, le, full, es, el) =
    let both = is s0 l0 b in (
      s0,
      s0,
      512,
      stays s0 l0 b,
      omega arith,
      full,
      es,
      es ∙ ⊎_elim
          (λ (lt : k < n). sym (whole-with_front n s0 k bytes both.0 lt full))
          (λ (out : n ≤ k). out_of n s0 k 512 bytes both.0 out)
          (cases_lt k n),
    )
  where
    out_of : (n : ℕ) (image : DiskImage) (k f : ℕ) (bytes : List ℕ) → IsDiskImage n image → n ≤ k
        → with_sector image k bytes ≡ with_front image k f bytes
    out_of n image k f bytes is out =
        let past : length image ≤ k = let c = is.count in omega (arith, c) in
        set_past image k bytes past
        ∙ sym (set_past image k (front_over f bytes (sector_at image k)) past)
stay_on n (Tore k) bytes before is stays s l (s0, l0, m, f, b, le, less, full, es, el) =
    (s0, s0, m, m, stays s0 l0 b, le, omega arith, full, es, es)
stay_on n Synced bytes before is stays s l (l0, b, e) = (l0, b, refl)
stay_on n (Failed which) bytes before is stays s l on = stays s l on

pub stays : (n : ℕ) (first : DiskImage) (whole : IsDiskImage n first)
    (answers : AnsweredCalls) (s l : DiskImage) → Explains first answers s l
    → Explains first answers s s
stays n first whole [] s l on = (on.0, on.0)
stays n first whole (answer ∷ answers) s l on =
    stay_on n answer.0 answer.1 (Explains first answers) (disk_images n first whole answers)
    (stays n first whole answers) s l on

-- a write past the last sector
out_of_range : (n : ℕ) (image : DiskImage) (k f : ℕ) (bytes : List ℕ) → length image ≡ n → n ≤ k
    → with_front image k f bytes ≡ image
out_of_range n image k f bytes size out =
    set_past image k (front_over f bytes (sector_at image k)) (omega arith)

-- what a cut leaves may keep more of what reads give: a write
wrote_more : (n k j f g : ℕ) (bytes : List ℕ) (s0 l0 : DiskImage) → IsDiskImage n s0
    → IsDiskImage n l0 → f ≤ 512 → g ≤ 512 → length bytes ≡ 512
    → (h : ℕ) × (h ≤ 512)
    × (with_front (with_front l0 k g bytes) j f (sector_at (with_sector s0 k bytes) j)
    ≡ with_front (with_front l0 j f (sector_at s0 j)) k h bytes)
wrote_more n k j f g bytes s0 l0 is-s is-l le-f le-g full =
    ⊎_elim
    (λ (lt : k < n). let step = keeps_step n l0 s0 j f g (record {
      sector = k;
      bytes = bytes;
    }) is-l.count is-s (record { within = lt; full = full }) le-f le-g in
    (step.0, step.1, sym step.2))
    (λ (out : n ≤ k).
    let c = is-l.count in let d = is-s.count in
    let s-is : with_sector s0 k bytes ≡ s0 = set_past s0 k bytes (omega arith) in (
      g,
      le-g,
      ap (λ (i : DiskImage). with_front i j f (sector_at (with_sector s0 k bytes) j))
          (out_of_range n l0 k g bytes c out)
          ∙ ap (λ (i : DiskImage). with_front l0 j f (sector_at i j)) s-is
          ∙ sym (out_of_range n (with_front l0 j f (sector_at s0 j)) k g bytes (length-set l0 j _
          ∙ c) out),
    ))
    (cases_lt k n)

-- a write that left a front at most
tore_same : (f g m : ℕ) (b s l : List ℕ) → f ≤ 512 → g ≤ m → m ≤ 512 → length b ≡ 512
    → length s ≡ 512
    → ((h : ℕ) × (h ≤ m) × (front_over f (front_over m b s) (front_over g b l) ≡ front_over h b l))
    ⊎ (front_over f (front_over m b s) (front_over g b l) ≡ front_over m b (front_over f s l))
tore_same f g m b s l le-f le-g le-m full-b full-s =
    ⊎_elim
    (λ (big : m < f). inr (longer f m b s (front_over g b l) (omega arith) (omega arith)
    (omega arith)
    ∙ ap (λ (x : List ℕ). front_over m b x) (front_hides g f s b l (omega arith) (omega arith))))
    (λ (small : f ≤ m). let short = shorter f m b s (front_over g b l) small (omega arith) in
    ⊎_elim
    (λ (lt : f < g). inl (g, le-g, short ∙ front_within f g b l (omega arith) (omega arith)))
    (λ (le : g ≤ f). inl (f, small, short ∙ front_hides g f b b l le (omega arith)))
    (cases_lt f g))
    (cases_lt m f)

tore_more : (n k j f g m : ℕ) (bytes : List ℕ) (s0 l0 : DiskImage) → IsDiskImage n s0
    → IsDiskImage n l0 → f ≤ 512 → g ≤ m → m ≤ 512 → length bytes ≡ 512
    → (before : DiskImage → Type 0) → before l0 → ((j f : ℕ) → f ≤ 512
    → before (with_front l0 j f (sector_at s0 j))) → (l : DiskImage) × (h : ℕ) × before l × (h ≤ m)
    × (with_front (with_front l0 k g bytes) j f (sector_at (with_front s0 k m bytes) j)
    ≡ with_front l k h bytes)
tore_more n k j f g m bytes s0 l0 is-s is-l le-f le-g le-m full before here more =
    ⊎_elim
    (λ (out : n ≤ k).
    let c = is-l.count in let d = is-s.count in (
      with_front l0 j f (sector_at s0 j),
      g,
      more j f le-f,
      le-g,
      ap (λ (i : DiskImage). with_front i j f (sector_at (with_front s0 k m bytes) j))
          (out_of_range n l0 k g bytes c out)
          ∙ ap (λ (i : DiskImage). with_front l0 j f (sector_at i j))
          (out_of_range n s0 k m bytes d out)
          ∙ sym (out_of_range n (with_front l0 j f (sector_at s0 j)) k g bytes (length-set l0 j _
          ∙ c) out),
    ))
    (λ (lt : k < n).
    ⊎_elim
    (λ (e : j ≡ k).
    let Goal : ℕ → Type 0 = λ i. (l : DiskImage) × (h : ℕ) × before l × (h ≤ m)
    × (with_front (with_front l0 k g bytes) i f (sector_at (with_front s0 k m bytes) i)
    ≡ with_front l k h bytes) in
    let in-s : k < length s0 = let d = is-s.count in omega arith in
    let in-l : k < length l0 = let c = is-l.count in omega arith in
    let shown : sector_at (with_front s0 k m bytes) k ≡ front_over m bytes (sector_at s0 k) =
    sector-with_sector s0 k _ in-s in
    let twice : with_front (with_front l0 k g bytes) k f (sector_at (with_front s0 k m bytes) k)
    ≡ with_sector l0 k (front_over f (front_over m bytes (sector_at s0 k))
    (front_over g bytes (sector_at l0 k))) =
    with_front_twice l0 k g f (sector_at (with_front s0 k m bytes) k) bytes in-l
    ∙ ap (λ (x : List ℕ).
    with_sector l0 k (front_over f x (front_over g bytes (sector_at l0 k)))) shown in
    subst Goal (sym e) (⊎_elim
    (λ (one : (h : ℕ) × (h ≤ m) × (front_over f (front_over m bytes (sector_at s0 k))
    (front_over g bytes (sector_at l0 k)) ≡ front_over h bytes (sector_at l0 k))).
    (l0, one.0, here, one.1, twice ∙ ap (λ (x : List ℕ). with_sector l0 k x) one.2))
    (λ (two : front_over f (front_over m bytes (sector_at s0 k))
    (front_over g bytes (sector_at l0 k))
    ≡ front_over m bytes (front_over f (sector_at s0 k) (sector_at l0 k))). (
      with_front l0 k f (sector_at s0 k),
      m,
      more k f le-f,
      omega arith,
      twice
          ∙ ap (λ (x : List ℕ). with_sector l0 k x) two
          ∙ sym (with_front_twice l0 k f m bytes (sector_at s0 k) in-l),
    ))
    (tore_same f g m bytes (sector_at s0 k) (sector_at l0 k) le-f le-g le-m full (is-s.full k lt))))
    (λ (ne : j ≡ k → ⊥). (
      with_front l0 j f (sector_at s0 j),
      g,
      more j f le-f,
      le-g,
      ap (λ (x : List ℕ). with_front (with_front l0 k g bytes) j f x)
          (sector-with_other s0 j k _ ne)
          ∙ sym (with_front_comm l0 j k f g bytes (sector_at s0 j) ne),
    ))
    (cases_eq j k))
    (⊎_elim (λ lt. inr lt) (λ out. inl out) (cases_lt k n))

more_on : (n : ℕ) (call : FileCall) (bytes : List ℕ) (before : DiskImage → DiskImage → Type 0)
    → ((s l : DiskImage) → before s l → IsDiskImage n s × IsDiskImage n l)
    → ((s l : DiskImage) → before s l → (j f : ℕ) → f ≤ 512
    → before s (with_front l j f (sector_at s j)))
    → (s l : DiskImage) → OneOn call bytes before s l → (j f : ℕ) → f ≤ 512
    → OneOn call bytes before s (with_front l j f (sector_at s j))
more_on n (Read k) bytes before is more s l on j f le = (more s l on.0 j f le, on.1)
more_on n (Wrote k) bytes before is more s l (s0, l0, g, b, le-g, full, es, el) j f le =
    let both = is s0 l0 b in
    let step = wrote_more n k j f g bytes s0 l0 both.0 both.1 le le-g full in (
      s0,
      with_front l0 j f (sector_at s0 j),
      step.0,
      more s0 l0 b j f le,
      step.1,
      full,
      es,
      ap (λ (i : DiskImage). with_front i j f (sector_at s j)) el
          ∙ ap (λ (i : DiskImage). with_front (with_front l0 k g bytes) j f (sector_at i j)) es
          ∙ step.2,
    )
more_on n (Tore k) bytes before is more s l (s0, l0, m, g, b, le-m, le-g, full, es, el) j f le =
    let both = is s0 l0 b in
    let step = tore_more n k j f g m bytes s0 l0 both.0 both.1 le le-g le-m full (before s0) b
    (more s0 l0 b) in (
      s0,
      step.0,
      m,
      step.1,
      step.2,
      le-m,
      step.3,
      full,
      es,
      ap (λ (i : DiskImage). with_front i j f (sector_at s j)) el
          ∙ ap (λ (i : DiskImage). with_front (with_front l0 k g bytes) j f (sector_at i j)) es
          ∙ step.4,
    )
more_on n Synced bytes before is more s l (l0, b, e) j f le =
    (l0, b, ap (λ (i : DiskImage). with_front i j f (sector_at s j)) e ∙ with_front_self s j f)
more_on n (Failed which) bytes before is more s l on j f le = more s l on j f le

pub keeps_more_of : (n : ℕ) (first : DiskImage) (whole : IsDiskImage n first)
    (answers : AnsweredCalls) (s l : DiskImage) → Explains first answers s l
    → (j f : ℕ) → f ≤ 512 → Explains first answers s (with_front l j f (sector_at s j))
keeps_more_of n first whole [] s l on j f le = (
  on.0,
  ap (λ (i : DiskImage). with_front i j f (sector_at s j)) on.1
      ∙ ap (λ (i : DiskImage). with_front first j f (sector_at i j)) on.0
      ∙ with_front_self first j f,
)
keeps_more_of n first whole (answer ∷ answers) s l on j f le =
    more_on n answer.0 answer.1 (Explains first answers) (disk_images n first whole answers)
    (keeps_more_of n first whole answers) s l on j f le

-- moments
pub from_shows : (call : FileCall) (bytes : List ℕ) (before : DiskImage → Type 0) (s : DiskImage)
    → ShowsOn call bytes before s → (was : DiskImage) × before was
from_shows (Read k) bytes before s on = (s, on.0)
from_shows (Wrote k) bytes before s on = (on.0, on.1)
from_shows (Tore k) bytes before s on = (on.0, on.2)
from_shows Synced bytes before s on = (s, on)
from_shows (Failed which) bytes before s on = (s, on)

none_since : (first : DiskImage) (t : ℕ) (answers : AnsweredCalls) (crashed s : DiskImage)
    → length answers < t
    → ExplainsSince first t answers crashed s → ⊥
none_since first t [] crashed s lt since = let no-later = since.0 in absurd (omega arith)
none_since first t (answer ∷ answers) crashed s lt since =
    ⊎_elim
    (λ (now : (t ≤ length answers + 1) × Explains first (answer ∷ answers) s crashed). let
    no-later = now.0
    in absurd (omega arith))
    (λ (earlier : ShowsOn answer.0 answer.1 (ExplainsSince first t answers crashed) s).
    let was = from_shows answer.0 answer.1 (ExplainsSince first t answers crashed) s earlier in
    none_since first t answers crashed was.0 (omega arith) was.1)
    since

pub since_now : (first : DiskImage) (t : ℕ) (answers : AnsweredCalls) (crashed s : DiskImage)
    → t ≤ length answers
    → Explains first answers s crashed → ExplainsSince first t answers crashed s
since_now first t [] crashed s le on = (omega arith, on)
since_now first t (answer ∷ answers) crashed s le on = inl (omega arith, on)

pub since_only : (first : DiskImage) (answers : AnsweredCalls) (crashed s : DiskImage)
    → ExplainsSince first (length answers) answers crashed s → Explains first answers s crashed
since_only first [] crashed s since = since.1
since_only first (answer ∷ answers) crashed s since =
    ⊎_elim
    (λ (now : (length (answer ∷ answers) ≤ length answers + 1)
    × Explains first (answer ∷ answers) s crashed). now.1)
    (λ (earlier : ShowsOn answer.0 answer.1
    (ExplainsSince first (length (answer ∷ answers)) answers crashed) s).
    let was = from_shows answer.0 answer.1
    (ExplainsSince first (length (answer ∷ answers)) answers crashed) s earlier in
    absurd (none_since first (length (answer ∷ answers)) answers crashed was.0 (omega arith) was.1))
    since

-- one answer more
pub since_on : (first : DiskImage) (t : ℕ) (answer : FileCall × List ℕ) (answers : AnsweredCalls)
    (crashed s : DiskImage) → ExplainsSince first t (answer ∷ answers) crashed s
    → ((was : DiskImage) × ExplainsSince first t answers crashed was)
    ⊎ ((now : DiskImage) × Explains first (answer ∷ answers) now crashed)
since_on first t answer answers crashed s since =
    ⊎_elim
    (λ (now : (t ≤ length answers + 1) × Explains first (answer ∷ answers) s crashed).
    inr (s, now.1))
    (λ (earlier : ShowsOn answer.0 answer.1 (ExplainsSince first t answers crashed) s).
    inl (from_shows answer.0 answer.1 (ExplainsSince first t answers crashed) s earlier))
    since

-- a whole write is a prefix of all its bytes
pub whole_front : (n : ℕ) (image : DiskImage) (k : ℕ) (bytes : List ℕ) → IsDiskImage n image
    → length bytes ≡ 512 → with_sector image k bytes ≡ with_front image k 512 bytes
whole_front n image k bytes is full =
    ⊎_elim (λ (lt : k < n). sym (whole-with_front n image k bytes is lt full))
    (λ (out : n ≤ k). let c = is.count in set_past image k bytes (omega arith)
    ∙ sym (out_of_range n image k 512 bytes c out))
    (cases_lt k n)

-- what explains a run of moments explains this one
shows_on : (call : FileCall) (bytes : List ℕ) (before : DiskImage → DiskImage
    → Type 0) (was : DiskImage → Type 0) → ((s : DiskImage) → was s → (l : DiskImage) × before s l)
    → (s : DiskImage) → ShowsOn call bytes was s → (l : DiskImage) × OneOn call bytes before s l
shows_on (Read k) bytes before was has s on = let b = has s on.0 in (b.0, (b.1, on.1))
shows_on (Wrote k) bytes before was has s (s0, b, full, e) = let w = has s0 b in
    (with_front w.0 k 0 bytes, (s0, w.0, 0, w.1, omega arith, full, e, refl))
shows_on (Tore k) bytes before was has s (s0, f, b, le, full, e) = let w = has s0 b in
    (with_front w.0 k 0 bytes, (s0, w.0, f, 0, w.1, le, omega arith, full, e, refl))
shows_on Synced bytes before was has s on = let w = has s on in (s, (w.0, w.1, refl))
shows_on (Failed which) bytes before was has s on = has s on

pub since_shows : (first : DiskImage) (t : ℕ) (answers : AnsweredCalls) (crashed s : DiskImage)
    → ExplainsSince first t answers crashed s → (l : DiskImage) × Explains first answers s l
since_shows first t [] crashed s since = (crashed, since.1)
since_shows first t (answer ∷ answers) crashed s since =
    ⊎_elim
    (λ (now : (t ≤ length answers + 1) × Explains first (answer ∷ answers) s crashed).
    (crashed, now.1))
    (λ (earlier : ShowsOn answer.0 answer.1 (ExplainsSince first t answers crashed) s).
    shows_on answer.0 answer.1 (Explains first answers) (ExplainsSince first t answers crashed)
    (since_shows first t answers crashed) s earlier)
    since

-- a read or a sync adds nothing to what a cut may have left
stay_since : (first : DiskImage) (t : ℕ) (call : FileCall) (bytes : List ℕ)
    (answers : AnsweredCalls)
    (crashed s : DiskImage) → t ≤ length answers
    → (OneOn call bytes (Explains first answers) s crashed
    → ExplainsSince first t answers crashed s)
    → (ShowsOn call bytes (ExplainsSince first t answers crashed) s
    → ExplainsSince first t answers crashed s)
    → ExplainsSince first t ((call, bytes) ∷ answers) crashed s
    → ExplainsSince first t answers crashed s
stay_since first t call bytes answers crashed s le now before since =
    ⊎_elim
    (λ (here : (t ≤ length answers + 1) × Explains first ((call, bytes) ∷ answers) s crashed).
    now here.1) before since

pub read_since : (first : DiskImage) (t : ℕ) {k : ℕ} {bytes : List ℕ}
    (moments answers : AnsweredCalls)
    (crashed s : DiskImage) → moments ≡ (Read k, bytes) ∷ answers → t ≤ length answers
    → ExplainsSince first t moments crashed s → ExplainsSince first t answers crashed s
read_since first t {k} {bytes} moments answers crashed s e le since =
    stay_since first t (Read k) bytes answers crashed s le (λ on. since_now first t answers
    crashed s le on.0) (λ on. on.0) (subst (λ (a : AnsweredCalls). ExplainsSince first t a
    crashed s) e since)

pub failed_since : (first : DiskImage) (t : ℕ) {which : Failure} {bytes : List ℕ}
    (moments answers : AnsweredCalls)
    (crashed s : DiskImage) → moments ≡ (Failed which, bytes) ∷ answers → t ≤ length answers
    → ExplainsSince first t moments crashed s → ExplainsSince first t answers crashed s
failed_since first t {which} {bytes} moments answers crashed s e le since =
    stay_since first t (Failed which) bytes answers crashed s le
    (λ on. since_now first t answers crashed s le on)
    (λ on. on) (subst (λ (a : AnsweredCalls). ExplainsSince first t a crashed s) e since)

pub synced_since : (n t : ℕ) (first : DiskImage) (whole : IsDiskImage n first)
    {bytes : List ℕ} (moments answers : AnsweredCalls)
    (crashed s : DiskImage) → moments ≡ (Synced, bytes) ∷ answers → t ≤ length answers
    → ExplainsSince first t moments crashed s → ExplainsSince first t answers crashed s
synced_since n t first whole {bytes} moments answers crashed s e le since =
    stay_since first t Synced bytes answers crashed s le
    (λ on. subst (λ (i : DiskImage). ExplainsSince first t answers i s) (sym on.2)
    (since_now first t answers s s le (stays n first whole answers s on.0 on.1)))
    (λ on. on) (subst (λ (a : AnsweredCalls). ExplainsSince first t a crashed s) e since)
