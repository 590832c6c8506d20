use Rattle.std.proofs.Common.{ℕ, arith, subst}
use Rattle.command_words.specs.rules.Printers.{IsSaid, printers}
use Rattle.command_words.specs.rules.Reports.{SaysOnOutput}
use Rattle.command_words.specs.declared.status.Status.TheVariants as exit
use Rattle.disk_commands.specs.declared.on_disk.fault.OnDiskFault.{OnDiskFault}
use Rattle.disk_commands.specs.rules.DiskStatuses.{status_on_disk}
use Rattle.disk_commands.specs.rules.SuccessorDisks.{successor_text}
use Rattle.disk_commands.proofs.SucceededLemmas.{refusal_said, successor_said}
use Rattle.disk_commands.proofs.SuccessorLemmas.{unsucceeded_heeded}
use Rattle.disk_commands.proofs.on_disk.successor.succeed_on.Goals as goal

pub sectors_of-requires : goal.sectors_of-requires
sectors_of-requires g c = omega (arith, c.in-Ok.ensures.created.accepted.limits.size)

pub returns-in-Ok : goal.returns-in-Ok
returns-in-Ok g c =
    let left = c.args.handover in
    let made = c.in-Ok.ensures in
    let said = c.say_successor in
    let before = printers c.args.out.now c.args.err.now in
    let after = printers said.new.out said.new.err in
    successor_said g.D.Disk.medium c.args.new.wasm.now c.args.new.prepared.now.config left
    c.args.disk.now c.create_from.new.disk c.args.out.now said.new.out c.args.err.now said.new.err
    said.result made.keeps made.calls made.created
    (subst (λ (n : ℕ). SaysOnOutput (successor_text n left.legacy.requests left.legacy.lines
    left.dropped) exit.Done before after said.result) c.sectors_of.ensures
    (subst (λ (n : ℕ). SaysOnOutput (successor_text c.sectors_of.result n left.legacy.lines
    left.dropped) exit.Done before after said.result) c.requests.ensures
    (subst (λ (n : ℕ). SaysOnOutput (successor_text c.sectors_of.result c.requests.result n
    left.dropped) exit.Done before after said.result)
    c.lines.ensures.value said.ensures)))

pub returns-in-Err : goal.returns-in-Err
returns-in-Err g c =
    let why = c.in-Err.fault in
    let is = c.in-Err.ensures in
    let said = c.say_disk_fault in
    let bytes = c.args.new.wasm.now in
    let config = c.args.new.prepared.now.config in
    refusal_said g.D.Disk.medium bytes config c.args.handover c.args.disk.now
    c.create_from.new.disk why c.args.out.now c.args.err.now said.new.err said.result is.keeps
    is.calls (unsucceeded_heeded bytes config c.args.handover.legacy
    (g.D.Disk.medium c.args.disk.now) (g.D.Disk.medium c.create_from.new.disk) why is.refused
    c.from.result c.from.ensures c.args.out.now c.args.err.now said.result said.new.err
    said.ensures) is.refused is.untouched
    (subst (λ (t : OnDiskFault). IsSaid (status_on_disk t) c.args.err.now said.result said.new.err)
    c.from.ensures said.ensures)
