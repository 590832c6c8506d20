use Rattle.std.proofs.Common.{refl}
use Rattle.std.proofs.lemmas.Result.{err_from_is_err_and}
use Rattle.wasi_calls.proofs.EntriesInPieces.{remove_directory_is}
use Rattle.wasi_calls.proofs.paths.entries.remove_directory.Goals as goal

pub returns-in_err-place-clause-refused : goal.returns-in_err-place-clause-refused
returns-in_err-place-clause-refused c =
    let p = err_from_is_err_and c.from_residual.result c.from_residual.ensures.1 in
    rw (p.1, p.2, remove_directory_is, c.in_err-place.ensures.gives) refl

pub returns-clause-done : goal.returns-clause-done
returns-clause-done c =
    rw (remove_directory_is, c.in_ok-place.ensures.gives)
    (c.remove_directory_at.ensures.done c.args.memory.now.bytes)

pub returns-clause-refused : goal.returns-clause-refused
returns-clause-refused c =
    rw (remove_directory_is, c.in_ok-place.ensures.gives)
    (c.remove_directory_at.ensures.refused c.args.memory.now.bytes)
