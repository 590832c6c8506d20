use Rattle.std.proofs.Common.{ℕ, List, take, drop, ◌++◌, length, sym, ap, ◌∙◌}
use Rattle.file_tree.specs.rules.Files.{Files, bytes_of_node}
use Rattle.file_tree.proofs.Lookups.{bytes_shown}
use Rattle.file_tree.proofs.tree.Tree.read.Goals as goal

pub returns-clause-count : goal.returns-clause-count
returns-clause-count c =
    let same = sym (bytes_shown c.self.inside.nodes c.self.inside.next c.args.number)
    ∙ ap (λ (fs : Files). bytes_of_node fs c.args.number) c.self.view_is in
    c.read_held.ensures.count
    ∙ ap (λ (xs : List ℕ). length (take (length c.args.into.now) (drop c.args.from xs))) same

pub returns-clause-bytes : goal.returns-clause-bytes
returns-clause-bytes c =
    let same = sym (bytes_shown c.self.inside.nodes c.self.inside.next c.args.number)
    ∙ ap (λ (fs : Files). bytes_of_node fs c.args.number) c.self.view_is in
    c.read_held.ensures.copied
    ∙ ap (λ (xs : List ℕ). take (length c.args.into.now) (drop c.args.from xs)
    ++ drop c.read_held.result c.args.into.now) same
