use Rattle.std.proofs.Common.{[], ◌∷◌, ◌++◌, ap}
use Rattle.file_tree.specs.rules.Changes.{path_at}
use Rattle.wasi_calls.specs.rules.Held.{HeldWasiState}
use Rattle.wasi_calls.proofs.Openings.{made_there}
use Rattle.wasi_calls.proofs.opening.open_new.Goals as goal

pub open-requires-clause-is : goal.open-requires-clause-is
open-requires-clause-is c =
    let fs = c.args.host.now.host.files in
    let path = path_at fs c.in-Leaf.directory ++ c.in-Leaf.name.now ∷ [] in
    let there = made_there fs c.create.new.self.host.files path c.in_ok-node.node
    (ap (λ (x : HeldWasiState). x.host.files) c.in_ok-node.ensures.created)
    c.in_ok-node.ensures.number in
    c.new_descriptor.ensures.is c.create.new.self.host.files there c.requires.few
