use Rattle.std.proofs.Common.{refl}
use Rattle.std.proofs.lemmas.Result.{err_from_is_err_and}
use Rattle.wasi_calls.proofs.EntriesInPieces.{create_directory_is}
use Rattle.wasi_calls.proofs.paths.entries.create_directory.Goals as goal

pub returns-in_err-place-clause-stopped : goal.returns-in_err-place-clause-stopped
returns-in_err-place-clause-stopped c =
    let p = err_from_is_err_and c.from_residual.result c.from_residual.ensures.1 in
    rw (p.1, p.2, create_directory_is, c.in_err-place.ensures.gives) refl

pub returns-clause-done : goal.returns-clause-done
returns-clause-done c =
    rw (create_directory_is, c.in_ok-place.ensures.gives)
    (c.make_directory.ensures.done c.args.memory.now.bytes)

pub returns-clause-stopped : goal.returns-clause-stopped
returns-clause-stopped c =
    rw (create_directory_is, c.in_ok-place.ensures.gives)
    (c.make_directory.ensures.stopped c.args.memory.now.bytes)
