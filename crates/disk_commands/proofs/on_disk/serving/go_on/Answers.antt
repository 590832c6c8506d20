use Rattle.std.proofs.Common.{◌∙◌, ap, subst}
use Rattle.std.specs.Int.NonZero.{non_zero_u64_get}
use Rattle.wasi_abi.specs.rules.Versions.{text_limit}
use Rattle.wasi_calls.specs.rules.Held.{HeldWasiState}
use Rattle.process.specs.rules.Values.{ProcessValue}
use Rattle.command_words.specs.Lines.Answers.{source_state}
use Rattle.disk_commands.specs.rules.DiskStatuses.{IsReportedOnDisk}
use Rattle.disk_commands.specs.rules.ServedOnDisk.{disk_job}
use Rattle.disk_commands.proofs.OnDiskLemmas.{is_behind, has_gone, has_failed}
use Rattle.disk_commands.proofs.on_disk.serving.go_on.Goals as goal

pub returns-in-Ok-clause-gone : goal.returns-in-Ok-clause-gone
returns-in-Ok-clause-gone g c =
    let behind = c.go_on_behind.ensures in
    has_gone g.D.Disk.medium (λ s. source_state s.outside (text_limit s.requests.version) s.stream
    s.requests.taken s.place (g.R.LineReader.unread s.requests.reader)
    (g.R.LineReader.has_failed s.requests.reader) s.fault) g.O.Outlet.takes
    (disk_job (non_zero_u64_get c.args.pace.fuel) (non_zero_u64_get c.args.pace.every)
    (non_zero_u64_get c.args.pace.batch)
    (g.R.LineReader.unread c.args.source.now.requests.reader) c.args.source.now.outside
    (g.R.LineReader.has_failed c.args.source.now.requests.reader))
    c.args.worker.now c.args.disk.now c.live.new.disk c.go_on_behind.new.self c.live.new.source
    c.args.outlet.now c.live.new.outlet
    (is_behind g.R.LineReader.unread g.R.LineReader.has_failed behind.outside
    (ap text_limit (behind.version ∙ c.version-version.ensures
    ∙ ap (λ (h : HeldWasiState). h.host.version) c.host.ensures
    ∙ ap (λ (p : ProcessValue). p.host.host.version) c.process.ensures))
    (behind.stream ∙ c.generation.ensures)
    (behind.taken ∙ c.requests-taken.ensures.value ∙ ap (λ p. p.requests) c.process-2.ensures)
    behind.place behind.reader behind.unfailed)
    c.in-Ok.now c.in-Ok.ensures.over c.in-Ok.ensures.lives

pub returns-in-Err-clause-gone : goal.returns-in-Err-clause-gone
returns-in-Err-clause-gone g c =
    let behind = c.go_on_behind.ensures in
    has_failed g.D.Disk.medium (λ s. source_state s.outside (text_limit s.requests.version) s.stream
    s.requests.taken s.place (g.R.LineReader.unread s.requests.reader)
    (g.R.LineReader.has_failed s.requests.reader) s.fault) g.O.Outlet.takes
    (disk_job (non_zero_u64_get c.args.pace.fuel) (non_zero_u64_get c.args.pace.every)
    (non_zero_u64_get c.args.pace.batch)
    (g.R.LineReader.unread c.args.source.now.requests.reader) c.args.source.now.outside
    (g.R.LineReader.has_failed c.args.source.now.requests.reader))
    c.args.worker.now c.args.disk.now c.live.new.disk c.go_on_behind.new.self c.live.new.source
    c.args.outlet.now c.live.new.outlet
    (is_behind g.R.LineReader.unread g.R.LineReader.has_failed behind.outside
    (ap text_limit (behind.version ∙ c.version-version.ensures
    ∙ ap (λ (h : HeldWasiState). h.host.version) c.host.ensures
    ∙ ap (λ (p : ProcessValue). p.host.host.version) c.process.ensures))
    (behind.stream ∙ c.generation.ensures)
    (behind.taken ∙ c.requests-taken.ensures.value ∙ ap (λ p. p.requests) c.process-2.ensures)
    behind.place behind.reader behind.unfailed)
    c.in-Err.fault c.call_fault_of.result
    (subst (λ l. IsReportedOnDisk c.in-Err.fault l c.call_fault_of.result) c.fault.ensures
    c.call_fault_of.ensures) c.in-Err.ensures.lives
