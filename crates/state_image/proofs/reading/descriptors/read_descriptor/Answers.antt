use Rattle.state_image.proofs.FrontReads.{no_raw_number, no_raw_target_type, no_raw_node}
use Rattle.state_image.proofs.FrontReads.{no_raw_offset}
use Rattle.state_image.proofs.FrontReads.{no_raw_flags, no_raw_base, no_raw_inheriting}
use Rattle.state_image.proofs.FrontReads.{after_raw_number, after_raw_target_type, after_raw_node}
use Rattle.state_image.proofs.FrontReads.{after_raw_offset, after_raw_flags, after_raw_base}
use Rattle.state_image.proofs.reading.descriptors.read_descriptor.Goals as goal

pub returns-in_err-number : goal.returns-in_err-number
returns-in_err-number c =
    rw c.from_residual.ensures
    (no_raw_number c.in_err-number.ensures)

pub returns-in_err-target_type : goal.returns-in_err-target_type
returns-in_err-target_type c =
    rw c.from_residual-in_err-target_type.ensures
    (after_raw_number c.in_ok-number.ensures (no_raw_target_type c.in_err-target_type.ensures))

pub returns-in_err-node : goal.returns-in_err-node
returns-in_err-node c =
    rw c.from_residual-in_err-node.ensures
    (after_raw_number c.in_ok-number.ensures (after_raw_target_type c.in_ok-target_type.ensures
    (no_raw_node c.in_err-node.ensures)))

pub returns-in_err-offset : goal.returns-in_err-offset
returns-in_err-offset c =
    rw c.from_residual-in_err-offset.ensures
    (after_raw_number c.in_ok-number.ensures (after_raw_target_type c.in_ok-target_type.ensures
    (after_raw_node c.in_ok-node.ensures (no_raw_offset c.in_err-offset.ensures))))

pub returns-in_err-flags : goal.returns-in_err-flags
returns-in_err-flags c =
    rw c.from_residual-in_err-flags.ensures
    (after_raw_number c.in_ok-number.ensures (after_raw_target_type c.in_ok-target_type.ensures
    (after_raw_node c.in_ok-node.ensures (after_raw_offset c.in_ok-offset.ensures
    (no_raw_flags c.in_err-flags.ensures)))))

pub returns-in_err-base : goal.returns-in_err-base
returns-in_err-base c =
    rw c.from_residual-in_err-base.ensures
    (after_raw_number c.in_ok-number.ensures (after_raw_target_type c.in_ok-target_type.ensures
    (after_raw_node c.in_ok-node.ensures (after_raw_offset c.in_ok-offset.ensures
    (after_raw_flags c.in_ok-flags.ensures (no_raw_base c.in_err-base.ensures))))))

pub returns-in_err-inheriting : goal.returns-in_err-inheriting
returns-in_err-inheriting c =
    rw c.from_residual-in_err-inheriting.ensures
    (after_raw_number c.in_ok-number.ensures (after_raw_target_type c.in_ok-target_type.ensures
    (after_raw_node c.in_ok-node.ensures (after_raw_offset c.in_ok-offset.ensures
    (after_raw_flags c.in_ok-flags.ensures (after_raw_base c.in_ok-base.ensures
    (no_raw_inheriting c.in_err-inheriting.ensures)))))))
