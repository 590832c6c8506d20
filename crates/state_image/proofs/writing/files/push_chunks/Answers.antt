use Rattle.std.proofs.Common.{ℕ, ◌+◌, ◌*◌, ◌≤◌, List, length, arith}
use Rattle.file_tree.specs.rules.Files.{bytes_of_node}
use Rattle.state_image.proofs.Pushing.{pushes_of}
use Rattle.state_image.proofs.PushedItems.{pushes_part, pushes_part_exit, pushes_parts}
use Rattle.state_image.proofs.writing.files.push_chunks.Goals as goal

pub returns-in_err-push_bytes : goal.returns-in_err-push_bytes
returns-in_err-push_bytes g c =
    pushes_part_exit (bytes_of_node c.args.tree.now c.args.number) (c.loop-index.index * 4096)
    4096 _
    c.loop-index.invariant c.from_residual.ensures.1
    (pushes_of (λ (bytes : List ℕ). bytes) c.chunk.ensures c.in_err-push_bytes.ensures)

pub loop-index-preserved : goal.loop-index-preserved
loop-index-preserved g c =
    pushes_part (bytes_of_node c.args.tree.now c.args.number) (c.loop-index.index * 4096) 4096
    ((c.loop-index.index + 1) * 4096) (omega arith) c.loop-index.invariant
    (pushes_of (λ (bytes : List ℕ). bytes) c.chunk.ensures c.in_ok-push_bytes.ensures)

pub returns : goal.returns
returns g c =
    let bytes = bytes_of_node c.args.tree.now c.args.number in
    let all : length bytes ≤ c.loop-index.index * 4096 =
    omega (arith, c.chunk_count-index-end.ensures, c.size.ensures) in
    pushes_parts bytes (c.loop-index.index * 4096) all c.loop-index.invariant
