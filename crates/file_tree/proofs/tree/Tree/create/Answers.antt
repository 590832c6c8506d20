use Rattle.std.proofs.Common.{sym, ap, ◌∙◌, refl}
use Rattle.file_tree.specs.declared.store.node.Node.{Node}
use Rattle.file_tree.specs.Store.Joined.{new_content}
use Rattle.file_tree.specs.declared.store.node.Hook.TheVariants.{In}
use Rattle.file_tree.proofs.Grows.{is_made}
use Rattle.file_tree.specs.Links.{child_in}
use Rattle.file_tree.proofs.Lists.{numbers_below}
use Rattle.file_tree.proofs.Moves.{nothing_hangs}
use Rattle.file_tree.proofs.tree.Tree.create.Goals as goal

pub push-requires : goal.push-requires
push-requires c =
    record {
      number = (numbers_below 1 c.self.inside.nodes c.self.inside.next c.self.invariant.0.rising).1;
      free =
          ap (child_in c.self.inside.nodes c.args.directory) c.in_ok-name.ensures
          ∙ nothing_hangs c.self.inside.nodes c.self.inside.next c.args.directory c.args.name.now
          c.args.self.now c.self.view_is c.self.invariant.0 c.requires.free;
      empty = c.new_content.ensures.none;
    }

pub invariant_of-self-2 : goal.invariant_of-self-2
invariant_of-self-2 c =
    let n : Node = record {
      number = c.self.inside.next;
      hook = In c.args.directory c.in_ok-name.name;
      content = new_content c.new_content.result;
    } in
    let made = is_made c.self.inside.nodes c.self.inside.next c.args.directory c.args.name.now
    c.args.node_type n c.args.self.now c.self.view_is c.self.invariant.0 c.requires.free
    c.requires.room refl (ap (λ x. In c.args.directory x) c.in_ok-name.ensures)
    c.new_content.ensures.shown in
    rw c.in_ok-push.ensures.pushed (
      made.nodes,
      c.self.invariant.1 ∙ sym made.used,
    )

pub returns-clause-created : goal.returns-clause-created
returns-clause-created c =
    let n : Node = record {
      number = c.self.inside.next;
      hook = In c.args.directory c.in_ok-name.name;
      content = new_content c.new_content.result;
    } in
    let made = is_made c.self.inside.nodes c.self.inside.next c.args.directory c.args.name.now
    c.args.node_type n c.args.self.now c.self.view_is c.self.invariant.0 c.requires.free
    c.requires.room refl (ap (λ x. In c.args.directory x) c.in_ok-name.ensures)
    c.new_content.ensures.shown in
    rw c.in_ok-push.ensures.pushed made.files_are
