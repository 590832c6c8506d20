use Rattle.std.proofs.Common.{◌≡◌, ◌≤◌, [], ◌∷◌, length, ap, ◌∙◌, refl, subst, arith}
use Rattle.std.specs.Prelude.{Some, slice_get}
use Rattle.std.specs.List.{flat_map}
use Rattle.std.proofs.lemmas.Option.{slice_get_read}
use Rattle.wasi_abi.specs.rules.Layouts.{u32_bytes}
use Rattle.file_tree.specs.rules.Files.{Files}
use Rattle.state_image.specs.rules.ProcessImage.{open_from, descriptor_bytes}
use Rattle.state_image.proofs.Pushing.{pushes_exit, pushes_of}
use Rattle.state_image.proofs.Opened.{pushes_opened, pushes_opened_exit, pushes_all_opened}
use Rattle.state_image.proofs.writing.descriptors.push_descriptors.Goals as goal

pub returns-in_err-push_count : goal.returns-in_err-push_count
returns-in_err-push_count g c =
    pushes_exit _ _ c.from_residual.ensures.1
    (pushes_of u32_bytes
    (c.count_open.ensures ∙ ap (λ ds. length (open_from 0 ds)) c.descriptors-descriptors.ensures)
    c.in_err-push_count.ensures)

pub loop-number-init : goal.loop-number-init
loop-number-init g c =
    pushes_of u32_bytes
    (c.count_open.ensures ∙ ap (λ ds. length (open_from 0 ds)) c.descriptors-descriptors.ensures)
    c.in_ok-push_count.ensures

pub returns-in_err-push_opened : goal.returns-in_err-push_opened
returns-in_err-push_opened g c =
    let h = c.args.host.now.host in
    let ds = c.descriptors-descriptors.result.now in
    let i = c.loop-number.number in
    let o = c.index-descriptors-number.result in
    let here = slice_get_read ds (length ds) i o refl c.loop-number-test.true
    c.index-descriptors-number.is in
    let is = subst (λ xs. slice_get xs i ≡ Some o) c.descriptors-descriptors.ensures here in
    pushes_opened_exit (u32_bytes (length (open_from 0 h.descriptors))) (descriptor_bytes h.files)
    h.descriptors i o _ is c.loop-number.invariant c.from_residual-in_err-push_opened.ensures.1
    (pushes_of (λ (fs : Files). flat_map (descriptor_bytes fs) (open_from i (o ∷ [])))
    c.tree.ensures c.in_err-push_opened.ensures)

pub loop-number-preserved : goal.loop-number-preserved
loop-number-preserved g c =
    let h = c.args.host.now.host in
    let ds = c.descriptors-descriptors.result.now in
    let i = c.loop-number.number in
    let o = c.index-descriptors-number.result in
    let here = slice_get_read ds (length ds) i o refl c.loop-number-test.true
    c.index-descriptors-number.is in
    let is = subst (λ xs. slice_get xs i ≡ Some o) c.descriptors-descriptors.ensures here in
    pushes_opened (u32_bytes (length (open_from 0 h.descriptors))) (descriptor_bytes h.files)
    h.descriptors i o is c.loop-number.invariant
    (pushes_of (λ (fs : Files). flat_map (descriptor_bytes fs) (open_from i (o ∷ [])))
    c.tree.ensures c.in_ok-push_opened.ensures)

pub returns : goal.returns
returns g c =
    let h = c.args.host.now.host in
    let all : length h.descriptors ≤ c.loop-number.number =
    omega (arith, ap (λ ds. length ds) c.descriptors-descriptors.ensures) in
    pushes_all_opened (u32_bytes (length (open_from 0 h.descriptors))) (descriptor_bytes h.files)
    h.descriptors c.loop-number.number all c.loop-number.invariant
