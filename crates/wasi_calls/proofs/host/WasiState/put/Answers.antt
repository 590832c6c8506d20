use Rattle.std.proofs.Common.{◌≡◌, ◌∙◌, sym, ap}
use Rattle.std.specs.Prelude.{Ok}
use Rattle.wasi_calls_rules.specs.WasiStates.{Node, Descriptor}
use Rattle.wasi_calls_rules.specs.Checks.{gathered, open_descriptor}
use Rattle.wasi_calls.specs.Moves.{total_len}
use Rattle.wasi_calls.specs.Views.{target_of}
use Rattle.wasi_calls.proofs.Fronts.{length_gathered}
use Rattle.wasi_calls.proofs.FileCallRules.{still_open, target_done}
use Rattle.wasi_calls.proofs.host.WasiState.put.Goals as goal

pub returns-in_ok-write_file-in-Node-clause-done : goal.returns-in_ok-write_file-in-Node-clause-done
returns-in_ok-write_file-in-Node-clause-done c = λ d e.
    let h = c.args.self.now.host in
    let bs = c.args.buffers.now in
    let bytes = gathered c.args.memory.now.bytes bs in
    let own = c.unwrap-descriptor.result.now in
    let is : open_descriptor h c.args.fd ≡ Ok own =
    rw c.unwrap-descriptor.ensures at c.descriptor.ensures.gives in
    let both : Ok own ≡ Ok d = sym is ∙ e in
    let same : own ≡ d = cc in
    let named : d.target ≡ Node c.in-Node.node =
    ap (λ (x : Descriptor). x.target) (sym same) ∙ sym c.names.ensures
    ∙ ap target_of c.in-Node.is in
    let done = c.in_ok-write_file-in-Node.ensures.done in
    let after = c.write_file.new.self.host in
    let open_still : open_descriptor after c.args.fd ≡ Ok d =
    still_open c.in-Node.node c.write_offset-from.result c.args.fd bytes h after done ∙ e in
    target_done c.args.fd c.in-Node.node c.write_offset-from.result (total_len bs) d bytes h after
    c.move_behind.new.self.host named (rw same at c.write_offset-from.ensures)
    (sym (length_gathered c.args.memory.now.bytes bs c.requires.inside)) done
    (c.move_behind.ensures.moved d open_still)
