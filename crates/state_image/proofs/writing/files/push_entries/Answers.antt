use Rattle.std.proofs.Common.{◌<◌, ◌≤◌, length, arith}
use Rattle.wasi_abi.specs.rules.Layouts.{u32_bytes}
use Rattle.file_tree.specs.rules.Files.{entries_of}
use Rattle.state_image.specs.rules.ProcessImage.{entry_bytes}
use Rattle.state_image.proofs.Pushing.{pushes_exit, pushes_of}
use Rattle.state_image.proofs.PushedItems.{item_at, front_more}
use Rattle.state_image.proofs.PushedItems.{pushes_item, pushes_item_exit, pushes_items}
use Rattle.state_image.proofs.writing.files.push_entries.Goals as goal

pub returns-in_err-push_count : goal.returns-in_err-push_count
returns-in_err-push_count g c =
    pushes_exit _ _ c.from_residual.ensures.1
    (pushes_of u32_bytes c.entry_count-count.ensures c.in_err-push_count.ensures)

pub loop-place-init : goal.loop-place-init
loop-place-init g c =
    pushes_of u32_bytes c.entry_count-count.ensures c.in_ok-push_count.ensures

pub push_entry-requires : goal.push_entry-requires
push_entry-requires g c = omega (arith, c.entry_count-count.ensures)

pub returns-in_err-push_entry : goal.returns-in_err-push_entry
returns-in_err-push_entry g c =
    let entries = entries_of c.args.tree.now c.args.directory in
    let inside : c.loop-place.place < length entries = omega (arith, c.entry_count-count.ensures)
    in
    let e = item_at entries c.loop-place.place inside in
    pushes_item_exit (u32_bytes (length entries)) entry_bytes entries c.loop-place.place e.0 _
    (front_more entries _ _ e.1) c.loop-place.invariant
    c.from_residual-in_err-push_entry.ensures.1 (c.in_err-push_entry.ensures e.0 e.1)

pub loop-place-preserved : goal.loop-place-preserved
loop-place-preserved g c =
    let entries = entries_of c.args.tree.now c.args.directory in
    let inside : c.loop-place.place < length entries = omega (arith, c.entry_count-count.ensures)
    in
    let e = item_at entries c.loop-place.place inside in
    pushes_item (u32_bytes (length entries)) entry_bytes entries c.loop-place.place e.0
    (front_more entries _ _ e.1) c.loop-place.invariant (c.in_ok-push_entry.ensures e.0 e.1)

pub returns : goal.returns
returns g c =
    let entries = entries_of c.args.tree.now c.args.directory in
    let all : length entries ≤ c.loop-place.place = omega (arith, c.entry_count-count.ensures) in
    pushes_items (u32_bytes (length entries)) entry_bytes entries c.loop-place.place all
    c.loop-place.invariant
