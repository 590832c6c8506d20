use Rattle.std.proofs.Common.{List, ℕ, length, take, drop, ◌++◌, sym, ap, ◌∙◌}
use Rattle.file_tree.specs.Links.{bytes_held_in}
use Rattle.file_tree.proofs.Contents.{node_placed, placed_bytes, nothing_read}
use Rattle.file_tree.proofs.Lookups.{node_nowhere}
use Rattle.file_tree.proofs.lookup.read_held.Goals as goal

pub returns-in-Some-clause-count : goal.returns-in-Some-clause-count
returns-in-Some-clause-count c =
    let ns = c.args.nodes.now in
    let n = node_placed ns c.args.number c.in-Some.place c.in-Some.ensures.there in
    c.read.ensures.count n.0 n.1
    ∙ ap (λ (xs : List ℕ). length (take (length c.args.into.now) (drop c.args.from xs)))
    (placed_bytes ns c.args.number c.in-Some.place c.in-Some.ensures.there)

pub returns-in-Some-clause-copied : goal.returns-in-Some-clause-copied
returns-in-Some-clause-copied c =
    let ns = c.args.nodes.now in
    let n = node_placed ns c.args.number c.in-Some.place c.in-Some.ensures.there in
    c.read.ensures.bytes n.0 n.1
    ∙ ap (λ (xs : List ℕ). take (length c.args.into.now) (drop c.args.from xs)
    ++ drop c.read.result c.args.into.now)
    (placed_bytes ns c.args.number c.in-Some.place c.in-Some.ensures.there)

pub returns-in-None-clause-count : goal.returns-in-None-clause-count
returns-in-None-clause-count c =
    ap (λ (xs : List ℕ). length xs) (nothing_read (length c.args.into.now) c.args.from
    ∙ sym (ap (λ (xs : List ℕ). take (length c.args.into.now) (drop c.args.from xs))
    (ap bytes_held_in (node_nowhere c.args.nodes.now c.args.number c.in-None.ensures.nowhere))))

pub returns-in-None-clause-copied : goal.returns-in-None-clause-copied
returns-in-None-clause-copied c =
    ap (λ (xs : List ℕ). xs ++ c.args.into.now) (nothing_read (length c.args.into.now) c.args.from
    ∙ sym (ap (λ (xs : List ℕ). take (length c.args.into.now) (drop c.args.from xs))
    (ap bytes_held_in (node_nowhere c.args.nodes.now c.args.number c.in-None.ensures.nowhere))))
