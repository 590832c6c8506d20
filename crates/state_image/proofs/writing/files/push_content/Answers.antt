use Rattle.std.proofs.Common.{sym, ◌∙◌}
use Rattle.state_image.specs.rules.ProcessImage.{content_bytes}
use Rattle.state_image.proofs.Pushing.{pushes_of}
use Rattle.state_image.proofs.NodesAt.{directory_held, file_held}
use Rattle.state_image.proofs.writing.files.push_content.Goals as goal

pub returns-then-is_directory : goal.returns-then-is_directory
returns-then-is_directory g c = λ n found.
    let fs = c.args.tree.now in
    let k = c.args.number in
    pushes_of (content_bytes fs k)
    (sym (directory_held fs k n found (sym c.is_directory.ensures ∙ c.if-is_directory.true)))
    c.push_directory.ensures

pub returns-else-is_directory : goal.returns-else-is_directory
returns-else-is_directory g c = λ n found.
    let fs = c.args.tree.now in
    let k = c.args.number in
    pushes_of (content_bytes fs k)
    (sym (file_held fs k n found (sym c.is_directory.ensures ∙ c.if-is_directory.false)))
    c.push_file.ensures
