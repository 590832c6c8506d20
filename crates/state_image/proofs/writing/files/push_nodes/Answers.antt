use Rattle.std.proofs.Common.{◌≤◌, length, sym, ◌∙◌, arith}
use Rattle.wasi_abi.specs.rules.Layouts.{u32_bytes}
use Rattle.state_image.specs.rules.ProcessImage.{node_bytes}
use Rattle.state_image.proofs.Pushing.{pushes_exit, pushes_of}
use Rattle.state_image.proofs.PushedItems.{front_more, pushes_item, pushes_item_exit, pushes_items}
use Rattle.state_image.proofs.NodesAt.{has_number, numbered, node_found}
use Rattle.state_image.proofs.writing.files.push_nodes.Goals as goal

pub returns-in_err-push_count : goal.returns-in_err-push_count
returns-in_err-push_count g c =
    pushes_exit _ _ c.from_residual.ensures.1
    (pushes_of u32_bytes c.len-count.ensures.count c.in_err-push_count.ensures)

pub loop-place-init : goal.loop-place-init
loop-place-init g c = pushes_of u32_bytes c.len-count.ensures.count c.in_ok-push_count.ensures

pub unwrap-number-requires : goal.unwrap-number-requires
unwrap-number-requires g c =
    has_number c.args.tree.now c.loop-place.place c.number_at.result c.number_at.ensures
    (omega (arith, c.len-count.ensures.count))

pub returns-in_err-push_node : goal.returns-in_err-push_node
returns-in_err-push_node g c =
    let fs = c.args.tree.now in
    let n = numbered fs.nodes c.loop-place.place c.unwrap-number.result
    (sym c.number_at.ensures ∙ c.unwrap-number.ensures) in
    pushes_item_exit (u32_bytes (length fs.nodes)) (node_bytes fs) fs.nodes c.loop-place.place n.0
    _
    (front_more fs.nodes _ _ n.1) c.loop-place.invariant
    c.from_residual-in_err-push_node.ensures.1
    (c.in_err-push_node.ensures n.0 (node_found fs c.len-count.ensures.shape _ _ _ n.1 n.2) n.2)

pub loop-place-preserved : goal.loop-place-preserved
loop-place-preserved g c =
    let fs = c.args.tree.now in
    let n = numbered fs.nodes c.loop-place.place c.unwrap-number.result
    (sym c.number_at.ensures ∙ c.unwrap-number.ensures) in
    pushes_item (u32_bytes (length fs.nodes)) (node_bytes fs) fs.nodes c.loop-place.place n.0
    (front_more fs.nodes _ _ n.1) c.loop-place.invariant
    (c.in_ok-push_node.ensures n.0 (node_found fs c.len-count.ensures.shape _ _ _ n.1 n.2) n.2)

pub returns : goal.returns
returns g c =
    let fs = c.args.tree.now in
    let all : length fs.nodes ≤ c.loop-place.place = omega (arith, c.len-count.ensures.count) in
    pushes_items (u32_bytes (length fs.nodes)) (node_bytes fs) fs.nodes c.loop-place.place all
    c.loop-place.invariant
