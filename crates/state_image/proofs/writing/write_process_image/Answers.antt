use Rattle.std.proofs.Common.{ℕ, List, ◌++◌, ap, ◌∙◌}
use Rattle.state_image.specs.rules.ProcessImage.{process_image}
use Rattle.state_image.specs.rules.Saving.{saved_of}
use Rattle.state_image.proofs.Keeping.{kept}
use Rattle.state_image.proofs.writing.write_process_image.Goals as goal

pub returns : goal.returns
returns c =
    let bytes = process_image (saved_of c.args.process.now) in
    let taken = kept _ c.new-sink.result c.write_process_image_to.new.sink bytes
    c.in_ok-write_process_image_to.ensures in
    c.into_bytes.ensures ∙ (taken ∙ ap (λ (front : List ℕ). front ++ bytes) c.new-sink.ensures)
