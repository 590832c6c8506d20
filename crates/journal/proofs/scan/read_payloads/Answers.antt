use Rattle.std.proofs.Common.{◌≡◌, ◌≤◌, ◌<◌, ◌+◌, ◌-◌, ◌++◌, ℕ, List, take, drop, true, false, sym}
use Rattle.std.proofs.Common.{ap, ◌∙◌, subst, ⊎_elim, arith}
use Rattle.std.proofs.lemmas.Bool.{cases_lt, false≢true}
use Rattle.std.proofs.lemmas.List.{append-nil}
use Rattle.sector_disk.specs.rules.DiskImage.{DiskImage, sector_at}
use Rattle.sector_disk.proofs.Moments.{stays_shows}
use Rattle.disk_layout.specs.rules.Journal.{is_of, payload_of_sector}
use Rattle.disk_layout.specs.Scanned.{payloads_from}
use Rattle.disk_layout.proofs.ReadLemmas.{read_more}
use Rattle.journal.proofs.PackedLemmas.{payloads_split, payloads_end, pay_on}
use Rattle.journal.proofs.LaterLemmas.{ends_at_later, first_is_of_it}
use Rattle.journal.proofs.scan.read_payloads.Goals as goal

-- a sector more
payloads_more : (image : DiskImage) (g at k : ℕ)
    → ((i : ℕ) → i < k → is_of g (1 + i) (sector_at image (at + i)) ≡ true)
    → is_of g (1 + k) (sector_at image (at + k)) ≡ true
    → payloads_from image g at 1 (k + 1) ≡ payloads_from image g at 1 k
    ++ payload_of_sector (sector_at image (at + k))
payloads_more image g at k on here =
    payloads_split image g at 1 k 1 on
    ∙ ap (λ l. payloads_from image g at 1 k ++ l) (pay_on image g (at + k) (1 + k) 0 here
    ∙ append-nil (payload_of_sector (sector_at image (at + k))))

on_more : (image : DiskImage) (g at k : ℕ)
    → ((i : ℕ) → i < k → is_of g (1 + i) (sector_at image (at + i)) ≡ true)
    → is_of g (1 + k) (sector_at image (at + k)) ≡ true
    → (i : ℕ) → i < k + 1 → is_of g (1 + i) (sector_at image (at + i)) ≡ true
on_more image g at k on here i lt =
    ⊎_elim (λ (before : i < k). on i before)
    (λ (last : k ≤ i). let e : k ≡ i = omega arith in
    subst (λ (n : ℕ). is_of g (1 + n) (sector_at image (at + n)) ≡ true) e here)
    (cases_lt i k)

pub returns-in-Err-clause-reads : goal.returns-in-Err-clause-reads
returns-in-Err-clause-reads g c =
    read_more (g.D.Disk.medium c.args.disk.now) (g.D.Disk.medium c.loop-k.disk)
    (g.D.Disk.medium c.read.new.self) _ _ c.read.result c.loop-k.invariant.reads c.read.ensures

pub returns-then-not-is_of-clause-reads : goal.returns-then-not-is_of-clause-reads
returns-then-not-is_of-clause-reads g c =
    read_more (g.D.Disk.medium c.args.disk.now) (g.D.Disk.medium c.loop-k.disk)
    (g.D.Disk.medium c.read.new.self) _ _ c.read.result c.loop-k.invariant.reads c.read.ensures

pub returns-in_default-extend_from_slice-clause-reads :
    goal.returns-in_default-extend_from_slice-clause-reads
returns-in_default-extend_from_slice-clause-reads g c =
    read_more (g.D.Disk.medium c.args.disk.now) (g.D.Disk.medium c.loop-k.disk)
    (g.D.Disk.medium c.read.new.self) _ _ c.read.result c.loop-k.invariant.reads c.read.ensures

pub returns-then-not-is_of-clause-payloads : goal.returns-then-not-is_of-clause-payloads
returns-then-not-is_of-clause-payloads g c = λ image shows.
    let mid = g.D.Disk.medium c.loop-k.disk in
    let new = g.D.Disk.medium c.read.new.self in
    let stays = c.read.ensures.stays in
    let before = stays_shows mid new stays image shows in
    let here = c.in_default.ensures.bytes image shows in
    let at = c.loop-k.invariant in
    let off : is_of c.args.generation (1 + c.loop-k.k) (sector_at image (c.journal_place-at.result
    + c.loop-k.k)) ≡ false =
    ap (λ (s : List ℕ). is_of c.args.generation (1 + c.loop-k.k) s) here ∙ sym c.is_of.ensures
    ∙ c.if-not-is_of.true in
    let le : c.loop-k.k ≤ c.args.geometry.now.journal_sectors = let t = c.loop-k-test.true in
    let e = c.from-k-end.ensures in omega arith in
    ap (λ (n : ℕ). payloads_from image c.args.generation n 1 c.args.geometry.now.journal_sectors)
    (sym c.journal_place-at.ensures)
    ∙ payloads_end image c.args.generation c.journal_place-at.result 1 c.loop-k.k
    c.args.geometry.now.journal_sectors le (at.on image before) (λ _. off)
    ∙ at.payloads image before

pub loop-k-preserved : goal.loop-k-preserved
loop-k-preserved g c =
    let old = g.D.Disk.medium c.args.disk.now in
    let mid = g.D.Disk.medium c.loop-k.disk in
    let new = g.D.Disk.medium c.read.new.self in
    let stays = c.read.ensures.stays in
    let at = c.loop-k.invariant in
    let on : (image : DiskImage) → new.shows image
    → is_of c.args.generation (1 + c.loop-k.k) (sector_at image (c.journal_place-at.result
    + c.loop-k.k)) ≡ true =
    λ image shows. ap (λ (s : List ℕ). is_of c.args.generation (1 + c.loop-k.k) s)
    (c.in_default.ensures.bytes image shows) ∙ sym c.is_of.ensures ∙ c.if-not-is_of.false in
    let items : c.extend_from_slice.new.self.items ≡ c.loop-k.bytes.items
    ++ payload_of_sector c.read.new.into =
    c.in-Ok.ensures.items
    ∙ ap (λ (n : ℕ). c.loop-k.bytes.items
    ++ take n (drop 2 c.read.new.into)) (let u = c.used_length-used.ensures in
    let e : 2 + c.used_length-used.result - 2 ≡ c.used_length-used.result = omega arith in
    e ∙ u) in
    record {
      reads = read_more old mid new _ _ c.read.result at.reads c.read.ensures;
      counted = omega (arith, at.counted, c.read.ensures.counted);
      on = λ image shows. let before = stays_shows mid new stays image shows in
          on_more image c.args.generation c.journal_place-at.result c.loop-k.k (at.on image before)
          (on image shows);
      payloads = λ image shows.
          let before = stays_shows mid new stays image shows in
          payloads_more image c.args.generation c.journal_place-at.result c.loop-k.k
          (at.on image before) (on image shows)
          ∙ ap (λ (l : List ℕ). l
          ++ payload_of_sector (sector_at image (c.journal_place-at.result + c.loop-k.k)))
          (at.payloads image before)
          ∙ ap (λ (s : List ℕ). c.loop-k.bytes.items
          ++ payload_of_sector s) (c.in_default.ensures.bytes image shows) ∙ sym items;
    }

-- ---- a later generation

pub returns-then-not-is_of-clause-later : goal.returns-then-not-is_of-clause-later
returns-then-not-is_of-clause-later g c = λ image shows.
    let before = stays_shows (g.D.Disk.medium c.loop-k.disk) (g.D.Disk.medium c.read.new.self)
    c.read.ensures.stays image shows in
    let first = c.is_first_of_later-shows_later in
    let within : c.loop-k.k < c.args.geometry.now.journal_sectors = let t = c.loop-k-test.true in
    let e = c.from-k-end.ensures in omega arith in
    ends_at_later c.args.geometry.now c.args.generation c.journal_place-at.result c.loop-k.k image
    c.journal_place-at.ensures (c.loop-k.invariant.on image before) c.read.new.into
    (c.in_default.ensures.bytes image shows) within first.result first.ensures

pub returns-then-not-is_of-clause-once : goal.returns-then-not-is_of-clause-once
returns-then-not-is_of-clause-once g c = λ yes.
    let means = c.is_first_of_later-shows_later.ensures.0 yes in
    omega (arith, means.0, c.loop-k.invariant.counted, c.read.ensures.counted)

pub returns-in_default-extend_from_slice-clause-memory :
    goal.returns-in_default-extend_from_slice-clause-memory
returns-in_default-extend_from_slice-clause-memory g c = λ _ image shows.
    let before = stays_shows (g.D.Disk.medium c.loop-k.disk) (g.D.Disk.medium c.read.new.self)
    c.read.ensures.stays image shows in
    let at = c.journal_place-at.result in
    let here : is_of c.args.generation (1 + c.loop-k.k) (sector_at image (at + c.loop-k.k)) ≡ true =
    ap (λ (s : List ℕ). is_of c.args.generation (1 + c.loop-k.k) s)
    (c.in_default.ensures.bytes image shows) ∙ sym c.is_of.ensures ∙ c.if-not-is_of.false in
    first_is_of_it c.args.geometry.now c.args.generation at (c.loop-k.k + 1) image
    c.journal_place-at.ensures (on_more image c.args.generation at c.loop-k.k
    (c.loop-k.invariant.on image before) here) (omega arith)

pub returns-clause-later : goal.returns-clause-later
returns-clause-later g c = λ image shows. (
  λ no. absurd (false≢true no),
  λ later.
      let some = later.some in
      let end : c.args.geometry.now.journal_sectors ≤ c.loop-k.k = let t = c.loop-k-test.false in
      let e = c.from-k-end.ensures in omega arith in
      absurd (first_is_of_it c.args.geometry.now c.args.generation c.journal_place-at.result
      c.loop-k.k image c.journal_place-at.ensures (c.loop-k.invariant.on image shows)
      (omega (arith, some, end)) later),
)
