use Rattle.std.proofs.Common.{◌≡◌, ◌≤◌, ◌+◌, ℕ, List, true, false, sym, ap, ◌∙◌, arith}
use Rattle.sector_disk.specs.rules.DiskImage.{DiskImage, sector_at}
use Rattle.sector_disk.proofs.Moments.{stays_shows}
use Rattle.disk_layout.specs.rules.Journal.{is_of}
use Rattle.disk_layout.proofs.ReadLemmas.{read_more}
use Rattle.journal.specs.rules.Filled.{filled_from}
use Rattle.journal.proofs.FilledLemmas.{AreOn, filled_all, filled_up_to, one_more_on}
use Rattle.journal.proofs.filled.count_filled.Goals as goal

pub returns-then-not-is_of-clause-reads : goal.returns-then-not-is_of-clause-reads
returns-then-not-is_of-clause-reads g c =
    read_more (g.D.Disk.medium c.args.disk.now) (g.D.Disk.medium c.loop-k.disk)
    (g.D.Disk.medium c.read.new.self) _ _ c.read.result c.loop-k.invariant.reads c.read.ensures

pub returns-then-not-is_of-clause-counts : goal.returns-then-not-is_of-clause-counts
returns-then-not-is_of-clause-counts g c = λ image shows.
    let stays = c.read.ensures.stays in
    let before = stays_shows (g.D.Disk.medium c.loop-k.disk) (g.D.Disk.medium c.read.new.self)
    stays image shows in
    let k = c.loop-k.k in
    let at = c.journal_place-at.result in
    let off : is_of c.args.generation (1 + k) (sector_at image (at + k)) ≡ false =
    ap (λ (s : List ℕ). is_of c.args.generation (1 + k) s) (c.in_ok-read.ensures.bytes image shows)
    ∙ sym c.is_of.ensures ∙ c.if-not-is_of.true in
    let le : k ≤ c.args.geometry.now.journal_sectors = let t = c.loop-k-test.true in
    let e = c.from-k-end.ensures in omega arith in
    sym (ap (λ (n : ℕ). filled_from image c.args.generation n 1
    c.args.geometry.now.journal_sectors) (sym c.journal_place-at.ensures)
    ∙ filled_up_to image c.args.generation at 1 k c.args.geometry.now.journal_sectors le
    (c.loop-k.invariant.on image before) off)

pub loop-k-preserved : goal.loop-k-preserved
loop-k-preserved g c =
    let old = g.D.Disk.medium c.args.disk.now in
    let mid = g.D.Disk.medium c.loop-k.disk in
    let new = g.D.Disk.medium c.read.new.self in
    let stays = c.read.ensures.stays in
    let at = c.loop-k.invariant in
    let here : (image : DiskImage) → new.shows image
    → is_of c.args.generation (1 + c.loop-k.k) (sector_at image (c.journal_place-at.result
    + c.loop-k.k)) ≡ true =
    λ image shows. ap (λ (s : List ℕ). is_of c.args.generation (1 + c.loop-k.k) s)
    (c.in_ok-read.ensures.bytes image shows) ∙ sym c.is_of.ensures ∙ c.if-not-is_of.false in
    record {
      reads = read_more old mid new _ _ c.read.result at.reads c.read.ensures;
      counted = omega (arith, at.counted, c.read.ensures.counted);
      on = λ image shows. one_more_on image c.args.generation c.journal_place-at.result c.loop-k.k
          (at.on image (stays_shows mid new stays image shows)) (here image shows);
    }

pub returns-clause-counts : goal.returns-clause-counts
returns-clause-counts g c = λ image shows.
    let at = c.journal_place-at.result in
    let sectors = c.args.geometry.now.journal_sectors in
    let end = c.from-k-end.ensures in
    let past = c.loop-k-test.false in
    let on : AreOn image c.args.generation at 1 sectors =
    λ i lt. c.loop-k.invariant.on image shows i (omega (arith, end, past, lt)) in
    c.from.ensures
    ∙ sym (ap (λ (n : ℕ). filled_from image c.args.generation n 1 sectors)
    (sym c.journal_place-at.ensures)
    ∙ filled_all image c.args.generation at 1 sectors on)
