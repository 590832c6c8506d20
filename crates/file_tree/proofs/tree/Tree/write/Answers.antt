use Rattle.std.proofs.Common.{Some, sym, ap, arith, length, ◌∙◌}
use Rattle.file_tree.specs.declared.store.node.Node.{Node}
use Rattle.file_tree.specs.rules.Bytes.{written}
use Rattle.file_tree.specs.rules.Files.{bytes_of_node}
use Rattle.file_tree.proofs.Lookups.{node_at_place}
use Rattle.file_tree.proofs.Sizes.{all_bytes}
use Rattle.file_tree.proofs.Contents.{is_overwritten, bytes_at_place, no_bytes_changed, file_at}
use Rattle.file_tree.proofs.tree.Tree.write.Goals as goal

pub write-requires-clause-file : goal.write-requires-clause-file
write-requires-clause-file c = λ n at.
    let ns = c.self.inside.nodes in
    file_at ns c.self.inside.next c.args.number n c.args.self.now c.self.view_is
    (node_at_place ns c.args.number c.in-Some.place n c.in-Some.ensures.there
    ∙ ap (λ (x : Node). Some x) (sym at)) c.requires.file

pub write-requires-clause-within : goal.write-requires-clause-within
write-requires-clause-within c = λ n at.
    omega (
      arith,
      c.requires.within,
      ap length (bytes_at_place c.self.inside.nodes c.self.inside.next c.args.number c.in-Some.place
          n
          c.args.self.now c.self.view_is c.in-Some.ensures.there at),
    )

pub invariant_of-self : goal.invariant_of-self
invariant_of-self c =
    let all = is_overwritten c.self.inside.nodes c.self.inside.next c.args.number c.in-Some.place
    c.args.from c.args.bytes.now c.args.self.now c.self.view_is c.self.invariant.0
    c.in-Some.ensures.there c.requires.file (all_bytes c.args.bytes.now (λ k. omega (
      arith,
      c.type_inv.bytes k,
    ))) c.requires.within in
    rw c.write.ensures (
      all.nodes,
      c.self.invariant.1 ∙ sym all.used,
    )

pub returns-in-Some : goal.returns-in-Some
returns-in-Some c =
    let all = is_overwritten c.self.inside.nodes c.self.inside.next c.args.number c.in-Some.place
    c.args.from c.args.bytes.now c.args.self.now c.self.view_is c.self.invariant.0
    c.in-Some.ensures.there c.requires.file (all_bytes c.args.bytes.now (λ k. omega (
      arith,
      c.type_inv.bytes k,
    ))) c.requires.within in
    rw c.write.ensures all.files_are

pub returns-in_default : goal.returns-in_default
returns-in_default c =
    no_bytes_changed c.self.inside.nodes c.self.inside.next c.args.number
    (written (bytes_of_node c.args.self.now c.args.number) c.args.from c.args.bytes.now)
    c.args.self.now c.self.view_is c.in_default.ensures.nowhere
