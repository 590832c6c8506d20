use Rattle.std.proofs.Common.{Some, None, sym, subst}
use Rattle.file_tree.specs.Store.Joined.{AreKeptAs}
use Rattle.file_tree.proofs.Lookups.{node_at_place, node_nowhere}
use Rattle.file_tree.proofs.lookup.node_of.Goals as goal

pub returns-in-Some : goal.returns-in-Some
returns-in-Some c =
    subst (AreKeptAs (Some c.get.result.now))
    (sym (node_at_place c.args.nodes.now c.args.number c.in-Some.place c.get.result.now
    c.in-Some.ensures.there)) c.get.ensures

pub returns-in-None : goal.returns-in-None
returns-in-None c =
    subst (AreKeptAs None)
    (sym (node_nowhere c.args.nodes.now c.args.number c.in-None.ensures.nowhere)) tt
