use Rattle.std.proofs.Common.{ℕ, ◌++◌, sym}
use Rattle.wasi_abi.specs.rules.Layouts.{u64_bytes}
use Rattle.state_image.specs.rules.ProcessImage.{content_bytes}
use Rattle.state_image.proofs.Pushing.{pushes_on, pushes_exit, pushes_of}
use Rattle.state_image.proofs.writing.files.push_node.Goals as goal

pub returns-in_err-push_u64 : goal.returns-in_err-push_u64
returns-in_err-push_u64 g c = λ n found same.
    let fs = c.args.tree.now in
    pushes_of (λ (k : ℕ). u64_bytes k ++ content_bytes fs k n.content) (sym same)
    (pushes_exit (content_bytes fs c.args.number n.content) _ c.from_residual.ensures.1
    c.in_err-push_u64.ensures)

pub returns : goal.returns
returns g c = λ n found same.
    let fs = c.args.tree.now in
    pushes_of (λ (k : ℕ). u64_bytes k ++ content_bytes fs k n.content) (sym same)
    (pushes_on c.in_ok-push_u64.ensures (c.push_content.ensures n found))
