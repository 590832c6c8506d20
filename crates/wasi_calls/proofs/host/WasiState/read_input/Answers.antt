use Rattle.std.proofs.Common.{◌≡◌, [], refl, sym, ◌∙◌}
use Rattle.wasi_calls.specs.Moves.{total_len}
use Rattle.wasi_calls.proofs.Pieces.{scattered_none}
use Rattle.wasi_calls.proofs.host.WasiState.read_input.Goals as goal

pub returns-then-len-eq0-clause-done : goal.returns-then-len-eq0-clause-done
returns-then-len-eq0-clause-done c =
    let none : total_len c.args.buffers.now ≡ 0 = sym c.len.ensures.value ∙ c.if-len-eq0.true in
    record {
      bytes = [];
      is = rw none refl;
      put = sym (scattered_none c.args.memory.now.bytes c.args.buffers.now);
      count = refl;
    }
