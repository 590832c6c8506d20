use Rattle.std.proofs.Common.{subst}
use Rattle.file_tree.specs.rules.Files.{IsFiles}
use Rattle.wasi_calls.specs.Places.{walk_end_of}
use Rattle.wasi_calls.specs.rules.Held.{HeldWasiState}
use Rattle.wasi_calls.proofs.Openings.{well_there}
use Rattle.wasi_calls.proofs.host.WasiState.node_there.Goals as goal

pub returns-clause-there : goal.returns-clause-there
returns-clause-there c =
    well_there c.args.self.now.host.files (walk_end_of c.args.place) c.node_at.result
    (subst (λ (x : HeldWasiState). IsFiles x.host.files) c.self.view_is c.self.invariant.files)
    c.requires.well c.node_at.ensures
