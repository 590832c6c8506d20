use Rattle.std.proofs.Common.{ap, ◌∙◌}
use Rattle.wasi_calls.specs.rules.Held.{HeldWasiState}
use Rattle.machine.specs.rules.Values.{MachineValue}
use Rattle.state_image.specs.rules.ProcessImage.{machine_bytes, files_bytes}
use Rattle.state_image.specs.rules.ProcessImage.{items_bytes, descriptor_bytes, open_from}
use Rattle.state_image.proofs.Pushing.{pushes_on, pushes_exit, pushes_of}
use Rattle.state_image.proofs.writing.write_process_image_to.Goals as goal

pub returns-in_err-push_mark : goal.returns-in_err-push_mark
returns-in_err-push_mark g c =
    pushes_exit _ _ c.from_residual.ensures.1 c.in_err-push_mark.ensures

pub returns-in_err-push_counts : goal.returns-in_err-push_counts
returns-in_err-push_counts g c =
    pushes_on c.in_ok-push_mark.ensures
    (pushes_exit _ _ c.from_residual-in_err-push_counts.ensures.1
    c.in_err-push_counts.ensures)

pub returns-in_err-push_phase : goal.returns-in_err-push_phase
returns-in_err-push_phase g c =
    pushes_on c.in_ok-push_mark.ensures
    (pushes_on c.in_ok-push_counts.ensures
    (pushes_exit _ _ c.from_residual-in_err-push_phase.ensures.1
    c.in_err-push_phase.ensures))

pub returns-in_err-push_streams : goal.returns-in_err-push_streams
returns-in_err-push_streams g c =
    pushes_on c.in_ok-push_mark.ensures
    (pushes_on c.in_ok-push_counts.ensures
    (pushes_on c.in_ok-push_phase.ensures
    (pushes_exit _ _ c.from_residual-in_err-push_streams.ensures.1
    c.in_err-push_streams.ensures)))

pub returns-in_err-push_machine : goal.returns-in_err-push_machine
returns-in_err-push_machine g c =
    pushes_on c.in_ok-push_mark.ensures
    (pushes_on c.in_ok-push_counts.ensures
    (pushes_on c.in_ok-push_phase.ensures
    (pushes_on c.in_ok-push_streams.ensures
    (pushes_exit _ _ c.from_residual-in_err-push_machine.ensures.1
    (pushes_of (λ (m : MachineValue). machine_bytes m.state) c.machine.ensures
    c.in_err-push_machine.ensures)))))

pub returns-in_err-push_files : goal.returns-in_err-push_files
returns-in_err-push_files g c =
    let files = c.tree.ensures ∙ ap (λ (h : HeldWasiState). h.host.files) c.host.ensures in
    pushes_on c.in_ok-push_mark.ensures
    (pushes_on c.in_ok-push_counts.ensures
    (pushes_on c.in_ok-push_phase.ensures
    (pushes_on c.in_ok-push_streams.ensures
    (pushes_on (pushes_of (λ (m : MachineValue). machine_bytes m.state) c.machine.ensures
    c.in_ok-push_machine.ensures)
    (pushes_exit _ _ c.from_residual-in_err-push_files.ensures.1
    (pushes_of files_bytes files c.in_err-push_files.ensures))))))

pub returns : goal.returns
returns g c =
    let files = c.tree.ensures ∙ ap (λ (h : HeldWasiState). h.host.files) c.host.ensures in
    pushes_on c.in_ok-push_mark.ensures
    (pushes_on c.in_ok-push_counts.ensures
    (pushes_on c.in_ok-push_phase.ensures
    (pushes_on c.in_ok-push_streams.ensures
    (pushes_on (pushes_of (λ (m : MachineValue). machine_bytes m.state) c.machine.ensures
    c.in_ok-push_machine.ensures)
    (pushes_on (pushes_of files_bytes files c.in_ok-push_files.ensures)
    (pushes_of (λ (h : HeldWasiState). items_bytes (descriptor_bytes h.host.files) (open_from 0
    h.host.descriptors)) c.host-2.ensures c.push_descriptors.ensures))))))
