use Rattle.std.proofs.Common.{◌++◌, ◌≡◌, ◌<◌, ◌^◌, List, Some, Vec, Global, map, subst, sym}
use Rattle.file_tree.specs.rules.Files.{Files, IsFiles}
use Rattle.state_image.specs.rules.ProcessImage.{files_bytes}
use Rattle.state_image.specs.declared.restoring.whole_node.WholeNode.{WholeNode}
use Rattle.state_image.specs.restoring.Named.{NamedNode, AreNamedNodes}
use Rattle.state_image.specs.restoring.Parts.{wholes_at}
use Rattle.state_image.specs.restoring.SavedNodes.{lent_whole, IsSavedFiles}
use Rattle.state_image.proofs.RestoreLemmas.Fronts.{files_made, no_number, no_nodes, files_told}
use Rattle.state_image.proofs.RestoreLemmas.Lent.{fault_of}
use Rattle.state_image.proofs.RestoreLemmas.Loops.{none_by, if_ok}
use Rattle.state_image.proofs.restoring.files.restore_files.Goals as goal

-- what is shown of the nodes that are read
abbrev shown_nodes : Vec WholeNode Global → List NamedNode
shown_nodes nodes = map lent_whole nodes.items

pub returns-in_default-clause-refused : goal.returns-in_default-clause-refused
returns-in_default-clause-refused c refused fs rest are next is =
    no_number c.args.reader.now c.in_default.ensures fs rest are next is

pub returns-in_err-nodes-clause-refused : goal.returns-in_err-nodes-clause-refused
returns-in_err-nodes-clause-refused c refused fs rest are next is =
    no_nodes c.args.reader.now c.next_number.new.reader c.in-Some.next c.in-Some.ensures
    (none_by shown_nodes _ c.read_wholes.new.reader
    (wholes_at c.next_number.new.reader) c.in_err-nodes.ensures
    (fault_of c.from_residual.result _ c.from_residual.ensures.1 refused)) fs rest are next is

pub returns-clause-made : goal.returns-clause-made
returns-clause-made c =
    if_ok (λ tree. IsSavedFiles tree c.in-Some.next (map lent_whole c.as_slice.result.now))
    (λ tree. c.args.reader.now ≡ files_bytes tree ++ c.read_wholes.new.reader) c.tree_of.result
    c.tree_of.ensures.made
    (λ tree saved. files_made tree c.in-Some.next (map lent_whole c.in_ok-nodes.nodes.items)
    c.args.reader.now c.next_number.new.reader c.read_wholes.new.reader
    (rw c.rest.ensures at c.are_bytes.ensures) c.in-Some.ensures c.in_ok-nodes.ensures
    (subst (λ xs. AreNamedNodes tree c.in-Some.next (map lent_whole xs)) c.as_slice.ensures.value
    saved.told))

pub returns-clause-files : goal.returns-clause-files
returns-clause-files c =
    if_ok (λ tree. IsSavedFiles tree c.in-Some.next (map lent_whole c.as_slice.result.now)) IsFiles
    c.tree_of.result c.tree_of.ensures.made (λ tree saved. saved.are)

pub returns-clause-next : goal.returns-clause-next
returns-clause-next c =
    if_ok (λ tree. IsSavedFiles tree c.in-Some.next (map lent_whole c.as_slice.result.now))
    (λ (tree : Files). tree.next < 2 ^ 64) c.tree_of.result c.tree_of.ensures.made
    (λ tree saved. saved.within)

pub returns-clause-refused : goal.returns-clause-refused
returns-clause-refused c refused fs rest are next is =
    c.tree_of.ensures.refused refused fs
    (files_told c.args.reader.now c.next_number.new.reader c.read_wholes.new.reader c.in-Some.next
    (map lent_whole c.as_slice.result.now) c.in-Some.ensures
    (subst (λ xs. wholes_at c.next_number.new.reader ≡ Some (
      map lent_whole xs,
      c.read_wholes.new.reader,
    ))
    (sym c.as_slice.ensures.value) c.in_ok-nodes.ensures) fs rest are next is)
