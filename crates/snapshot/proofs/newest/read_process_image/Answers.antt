use Rattle.std.proofs.Common.{◌≤◌, ◌*◌, ◌∙◌, List, ℕ, take, ap, arith, subst, sym}
use Rattle.sha2.specs.Sha256.{sha256}
use Rattle.disk_layout.specs.rules.Sectors.{bytes_from}
use Rattle.sector_disk.proofs.Moments.{shows_crashed}
use Rattle.snapshot.specs.rules.Newest.{NamesBytes}
use Rattle.snapshot.proofs.ReadLemmas.{names_within, is_named}
use Rattle.snapshot.proofs.newest.read_process_image.Goals as goal

pub returns-then-head-room-clause-process_image : goal.returns-then-head-room-clause-process_image
returns-then-head-room-clause-process_image g c = λ image shows bytes names.
    let m = g.D.Disk.medium c.args.disk.now in
    let w = names_within m.sectors c.args.geometry.now image c.args.head.now bytes
    (m.is_disk_image image (shows_crashed m image shows)) names in
    let t = c.if-head-room.true in
    absurd (omega (arith, w, t, c.from.ensures))

pub returns-clause-process_image : goal.returns-clause-process_image
returns-clause-process_image g c = λ image shows.
    let h = c.args.head.now in
    let f = c.if-head-room.false in
    let room : h.length_in_bytes ≤ 512 * c.args.geometry.now.area_sectors =
    omega (arith, f, c.from.ensures) in
    let found = c.in_ok-bytes.ensures.bytes c.args.geometry.now.area_sectors room image shows in
    let at = c.area_place-at.ensures in
    let d = c.is_digest_of.ensures in
    let digest = d.0 c.if-not-is_digest_of.false in
    let value = c.as_slice.ensures.value in
    subst (λ (b : List ℕ). NamesBytes c.args.geometry.now image h b) (sym c.new.ensures)
    (is_named c.args.geometry.now image h c.in_ok-bytes.bytes.items c.in_ok-bytes.ensures.len (found
    ∙ ap (λ (k : ℕ).
    take h.length_in_bytes (bytes_from image k c.args.geometry.now.area_sectors)) at) (digest
    ∙ ap (λ (l : List ℕ). sha256 l) value))

pub returns-in_err-bytes-clause-asks : goal.returns-in_err-bytes-clause-asks
returns-in_err-bytes-clause-asks g c =
    let f = c.if-head-room.false in
    c.read_bytes.ensures.asks c.args.geometry.now.area_sectors (omega (arith, f, c.from.ensures))

pub returns-then-not-is_digest_of-clause-asks : goal.returns-then-not-is_digest_of-clause-asks
returns-then-not-is_digest_of-clause-asks g c =
    let f = c.if-head-room.false in
    c.read_bytes.ensures.asks c.args.geometry.now.area_sectors (omega (arith, f, c.from.ensures))

pub returns-clause-asks : goal.returns-clause-asks
returns-clause-asks g c =
    let f = c.if-head-room.false in
    c.read_bytes.ensures.asks c.args.geometry.now.area_sectors (omega (arith, f, c.from.ensures))
