use Rattle.wasi_abi.specs.rules.Numbers.{fd_datasync_right, fd_sync_right}
use Rattle.wasi_calls_rules.specs.Small.{fd_close, fd_syncs, fd_fdstat_set_flags}
use Rattle.wasi_calls_rules.specs.Small.{fd_filestat_set_size}
use Rattle.wasi_calls_rules.specs.Small.{texts_get, texts_sizes_get, clock_res_get}
use Rattle.wasi_calls.proofs.Told.{checked_told, unchanged_told, stopped_told, memory_told}
use Rattle.wasi_calls.proofs.calls.perform.Goals as goal

pub returns-in-FdClose-clause-told : goal.returns-in-FdClose-clause-told
returns-in-FdClose-clause-told c =
    let e = c.close.ensures in
    let old = c.args.host.now in
    rw (c.in-FdClose.is, c.one.ensures, c.check_outcome-in-FdClose.ensures)
    (checked_told c.close.result c.close.new.host old (λ m. fd_close c.one.result m old.host)
    e.done e.refused e.kept c.args.memory.now.bytes)

pub returns-in-FdDatasync-clause-told : goal.returns-in-FdDatasync-clause-told
returns-in-FdDatasync-clause-told c =
    let e = c.sync.ensures in
    let old = c.args.host.now in
    let fd = c.one-in-FdDatasync.result in
    rw (c.in-FdDatasync.is, c.one-in-FdDatasync.ensures, c.check_outcome-in-FdDatasync.ensures)
    (unchanged_told c.sync.result old (λ m. fd_syncs fd_datasync_right fd m old.host)
    e.done e.refused c.args.memory.now.bytes)

pub returns-in-FdSync-clause-told : goal.returns-in-FdSync-clause-told
returns-in-FdSync-clause-told c =
    let e = c.sync-in-FdSync.ensures in
    let old = c.args.host.now in
    let fd = c.one-in-FdSync.result in
    rw (c.in-FdSync.is, c.one-in-FdSync.ensures, c.check_outcome-in-FdSync.ensures)
    (unchanged_told c.sync-in-FdSync.result old (λ m. fd_syncs fd_sync_right fd m old.host)
    e.done e.refused c.args.memory.now.bytes)

pub returns-in-FdFdstatSetFlags-clause-told : goal.returns-in-FdFdstatSetFlags-clause-told
returns-in-FdFdstatSetFlags-clause-told c =
    let e = c.set_flags.ensures in
    let old = c.args.host.now in
    let two = c.two-fd-in-FdFdstatSetFlags in
    rw (c.in-FdFdstatSetFlags.is, two.ensures, c.check_outcome-in-FdFdstatSetFlags.ensures)
    (checked_told c.set_flags.result c.set_flags.new.host old
    (λ m. fd_fdstat_set_flags two.result.0 two.result.1 m old.host)
    e.done e.refused e.kept c.args.memory.now.bytes)

pub returns-in-FdFilestatSetSize-clause-told : goal.returns-in-FdFilestatSetSize-clause-told
returns-in-FdFilestatSetSize-clause-told c =
    let e = c.set_size.ensures in
    let old = c.args.host.now in
    let two = c.one_and_long-fd in
    rw (c.in-FdFilestatSetSize.is, two.ensures, c.call_outcome-in-FdFilestatSetSize.ensures)
    (stopped_told c.set_size.result c.set_size.new.host old
    (λ m. fd_filestat_set_size two.result.0 two.result.1 m old.host)
    e.done e.stopped e.kept c.args.memory.now.bytes)

pub returns-in-ArgsGet-clause-told : goal.returns-in-ArgsGet-clause-told
returns-in-ArgsGet-clause-told c =
    let e = c.get.ensures in
    let h = c.args.host.now.host in
    let m = c.args.memory.now in
    let two = c.two-array in
    rw (c.in-ArgsGet.is, two.ensures, c.check_outcome.ensures)
    (rw c.arguments.ensures.texts at (memory_told c.get.result c.get.new.memory m h
    (texts_get c.arguments.result.now two.result.0 two.result.1 m.bytes h)
    (e.done h) (e.refused h) e.kept))

pub returns-in-ArgsSizesGet-clause-told : goal.returns-in-ArgsSizesGet-clause-told
returns-in-ArgsSizesGet-clause-told c =
    let e = c.get_sizes.ensures in
    let h = c.args.host.now.host in
    let m = c.args.memory.now in
    let two = c.two-count in
    rw (c.in-ArgsSizesGet.is, two.ensures, c.check_outcome-in-ArgsSizesGet.ensures)
    (rw c.arguments-in-ArgsSizesGet.ensures.texts at
    (memory_told c.get_sizes.result c.get_sizes.new.memory m h
    (texts_sizes_get c.arguments-in-ArgsSizesGet.result.now two.result.0 two.result.1 m.bytes h)
    (e.done h) (e.refused h) e.kept))

pub returns-in-EnvironGet-clause-told : goal.returns-in-EnvironGet-clause-told
returns-in-EnvironGet-clause-told c =
    let e = c.get-in-EnvironGet.ensures in
    let h = c.args.host.now.host in
    let m = c.args.memory.now in
    let two = c.two-array-in-EnvironGet in
    rw (c.in-EnvironGet.is, two.ensures, c.check_outcome-in-EnvironGet.ensures)
    (rw c.environment.ensures.texts at
    (memory_told c.get-in-EnvironGet.result c.get-in-EnvironGet.new.memory m h
    (texts_get c.environment.result.now two.result.0 two.result.1 m.bytes h)
    (e.done h) (e.refused h) e.kept))

pub returns-in-EnvironSizesGet-clause-told : goal.returns-in-EnvironSizesGet-clause-told
returns-in-EnvironSizesGet-clause-told c =
    let e = c.get_sizes-in-EnvironSizesGet.ensures in
    let h = c.args.host.now.host in
    let m = c.args.memory.now in
    let two = c.two-count-in-EnvironSizesGet in
    rw (c.in-EnvironSizesGet.is, two.ensures, c.check_outcome-in-EnvironSizesGet.ensures)
    (rw c.environment-in-EnvironSizesGet.ensures.texts at
    (memory_told c.get_sizes-in-EnvironSizesGet.result c.get_sizes-in-EnvironSizesGet.new.memory
    m h
    (texts_sizes_get c.environment-in-EnvironSizesGet.result.now two.result.0 two.result.1 m.bytes
    h)
    (e.done h) (e.refused h) e.kept))

pub returns-in-ClockResGet-clause-told : goal.returns-in-ClockResGet-clause-told
returns-in-ClockResGet-clause-told c =
    let e = c.get_resolution.ensures in
    let h = c.args.host.now.host in
    let m = c.args.memory.now in
    let two = c.two-clock in
    rw (c.in-ClockResGet.is, two.ensures, c.check_outcome-in-ClockResGet.ensures)
    (memory_told c.get_resolution.result c.get_resolution.new.memory m h
    (clock_res_get two.result.0 two.result.1 m.bytes h)
    (e.done h) (e.refused h) e.kept)
