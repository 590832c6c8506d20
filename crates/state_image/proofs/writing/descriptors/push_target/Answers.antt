use Rattle.std.proofs.Common.{ℕ, ◌∷◌, sym}
use Rattle.wasi_abi.specs.rules.Layouts.{u64_bytes}
use Rattle.wasi_calls.specs.declared.descriptor.Names.{Names}
use Rattle.wasi_calls.specs.Views.{target_of}
use Rattle.state_image.specs.rules.ProcessImage.{target_bytes}
use Rattle.state_image.proofs.Pushing.{pushes_of}
use Rattle.state_image.proofs.writing.descriptors.push_target.Goals as goal

pub returns-in-Stream : goal.returns-in-Stream
returns-in-Stream g c =
    let fs = c.args.tree.now in
    pushes_of (λ (names : Names). target_bytes fs (target_of names)) (sym c.in-Stream.is)
    c.push_named.ensures

pub returns-in-Node : goal.returns-in-Node
returns-in-Node g c =
    let fs = c.args.tree.now in
    pushes_of (λ (names : Names). target_bytes fs (target_of names)) (sym c.in-Node.is)
    (pushes_of (λ (target_type : ℕ). target_type ∷ u64_bytes c.in-Node.node)
    c.type_number_of.ensures c.push_named-in-Node.ensures)
