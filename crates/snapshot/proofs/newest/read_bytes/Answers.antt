use Rattle.std.proofs.Common.{◌≡◌, ◌≤◌, ◌++◌, ◌∙◌, length, take, ap, sym, arith, length-append}
use Rattle.disk_layout.specs.rules.Sectors.{bytes_from}
use Rattle.sector_disk.proofs.Moments.{stays_shows}
use Rattle.disk_layout.proofs.ReadLemmas.{read_more, bytes_from-more}
use Rattle.snapshot.proofs.ReadLemmas.{front_of_more}
use Rattle.snapshot.proofs.newest.read_bytes.Goals as goal

pub returns-in_err-read-clause-reads : goal.returns-in_err-read-clause-reads
returns-in_err-read-clause-reads g c =
    read_more (g.D.Disk.medium c.args.disk.now) (g.D.Disk.medium c.loop-i.disk)
    (g.D.Disk.medium c.read.new.self) _ _ c.read.result c.loop-i.invariant.reads c.read.ensures

pub loop-i-preserved : goal.loop-i-preserved
loop-i-preserved g c =
    let old = g.D.Disk.medium c.args.disk.now in
    let mid = g.D.Disk.medium c.loop-i.disk in
    let new = g.D.Disk.medium c.read.new.self in
    let stays = c.read.ensures.stays in
    let items : c.extend_from_slice.new.self.items ≡ c.loop-i.bytes.items ++ c.read.new.into =
    c.in_ok-extend_from_slice.ensures.items in
    record {
      reads = read_more old mid new _ _ c.read.result c.loop-i.invariant.reads c.read.ensures;
      counted = omega (arith, c.loop-i.invariant.counted, c.read.ensures.counted);
      len = ap length items ∙ length-append c.loop-i.bytes.items c.read.new.into
          ∙ (let a = c.loop-i.invariant.len in let b = c.read.array_long in omega arith);
      bytes = λ image shows.
          let before = c.loop-i.invariant.bytes image (stays_shows mid new stays image shows) in
          let here = c.in_ok-read.ensures.bytes image shows in
          items ∙ ap (λ l. l ++ c.read.new.into) before
          ∙ ap (λ l. bytes_from image c.args.at c.loop-i.i ++ l) (sym here)
          ∙ sym (bytes_from-more image c.args.at c.loop-i.i);
    }

pub returns-clause-bytes : goal.returns-clause-bytes
returns-clause-bytes g c = λ count enough image shows.
    let i = c.loop-i.invariant in
    let is = i.bytes image shows in
    let end = c.div_ceil-i-end.ensures in
    let done = c.loop-i-test.false in
    let within = c.loop-i.auto.i-end in
    let long : c.args.len ≤ length (bytes_from image c.args.at c.loop-i.i) = let l = ap length is in
    omega (arith, l, i.len, end, done) in
    let fewer : c.loop-i.i ≤ count = omega (arith, end, within, enough) in
    c.truncate.ensures.items ∙ ap (λ l. take c.args.len l) is
    ∙ front_of_more image c.args.at c.loop-i.i count c.args.len fewer long
