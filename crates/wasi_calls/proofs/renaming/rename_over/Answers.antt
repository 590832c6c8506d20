use Rattle.std.proofs.Common.{refl}
use Rattle.wasi_calls.proofs.Renamings.{moves_free, kept_paths, moves_over}
use Rattle.wasi_calls.proofs.renaming.rename_over.Goals as goal

pub rename-requires : goal.rename-requires
rename-requires c =
    moves_free c.args.host.now.host.files c.args.node c.args.directory c.args.name
    c.requires.shape.files (rw c.in-None.is at c.requires.may)

pub rename-requires-in-Some : goal.rename-requires-in-Some
rename-requires-in-Some c =
    rw c.remove.ensures
    (moves_over c.args.host.now.host c.args.node c.args.directory c.in-Some.other c.args.name
    c.requires.shape (rw c.in-Some.is at c.requires.may))

pub returns-in-Some : goal.returns-in-Some
returns-in-Some c =
    let kept = kept_paths c.args.host.now.host c.args.node c.args.directory c.in-Some.other
    c.args.name c.requires.shape (rw c.in-Some.is at c.requires.may) in
    rw (c.rename-in-Some.ensures, c.remove.ensures, c.in-Some.is, kept.0, kept.1) refl
