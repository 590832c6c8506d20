use Rattle.std.proofs.Common.{◌≡◌, ◌-◌}
use Rattle.file_tree.specs.Links.{comes_to, hook_of}
use Rattle.file_tree.proofs.children.leads_to.Given as goal

abbrev pub invariant-loop : goal.invariant-loop
invariant-loop l = comes_to (l.most - l.counter) (hook_of l.nodes) l.number l.at
    ≡ comes_to l.most (hook_of l.nodes) l.number l.fn.directory
