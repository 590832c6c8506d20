use Rattle.std.proofs.Common.{sym, ap, arith, ◌∙◌, refl}
use Rattle.file_tree.specs.declared.store.node.Node.{Node}
use Rattle.file_tree.specs.Store.Joined.{new_content}
use Rattle.file_tree.specs.declared.store.node.Hook.TheVariants.{Removed}
use Rattle.file_tree.specs.rules.Files.{Files}
use Rattle.file_tree.proofs.Rises.{is_added, lower_numbers}
use Rattle.file_tree.proofs.tree.Tree.create_removed.Goals as goal

pub push-requires : goal.push-requires
push-requires c =
    record {
      number =
          lower_numbers c.self.inside.nodes c.self.inside.next c.args.number c.self.invariant.0
          (omega (arith, c.requires.next, ap (λ (fs : Files). fs.next) c.self.view_is));
      free = tt;
      empty = c.new_content.ensures.none;
    }

pub invariant_of-self-2 : goal.invariant_of-self-2
invariant_of-self-2 c =
    let n : Node =
    record { number = c.args.number; hook = Removed; content = new_content c.new_content.result } in
    let all =
    is_added c.self.inside.nodes c.self.inside.next c.args.node_type n c.args.self.now
    c.self.view_is c.self.invariant.0
    (omega (arith, c.requires.next, ap (λ (fs : Files). fs.next) c.self.view_is))
    c.requires.room refl c.new_content.ensures.shown in
    rw c.in_ok-push.ensures.pushed
    (all.nodes, c.self.invariant.1 ∙ sym all.used)

pub returns-clause-created : goal.returns-clause-created
returns-clause-created c =
    let n : Node =
    record { number = c.args.number; hook = Removed; content = new_content c.new_content.result } in
    let all =
    is_added c.self.inside.nodes c.self.inside.next c.args.node_type n c.args.self.now
    c.self.view_is c.self.invariant.0
    (omega (arith, c.requires.next, ap (λ (fs : Files). fs.next) c.self.view_is))
    c.requires.room refl c.new_content.ensures.shown in
    rw c.in_ok-push.ensures.pushed all.files_are
