use Rattle.std.proofs.Common.{Err, refl, sym, subst}
use Rattle.machine.specs.rules.Loading.{LoadDenies, ShowsSome}
use Rattle.state_image.specs.restoring.Machines.{IsReadMachine}
use Rattle.state_image.proofs.RestoreLemmas.Lent.{fault_of}
use Rattle.state_image.proofs.RestoreLemmas.Loaded.{unfit_of}
use Rattle.state_image.proofs.RestoreLemmas.MachineRead.{emptied_once, few_slots_in, not_shown}
use Rattle.state_image.proofs.RestoreLemmas.MachineRead.{read_linked, read_emptied}
use Rattle.state_image.proofs.restoring.machine_state.restore_machine.Goals as goal

pub load_parts-requires : goal.load_parts-requires
load_parts-requires c =
    emptied_once c.args.machine c.into_loading-loading.result c.into_loading-loading.ensures.emptied

pub returns-in-Err-clause-refused : goal.returns-in-Err-clause-refused
returns-in-Err-clause-refused c refused v rest read few shows =
    c.in-Err.ensures.refused (fault_of (Err c.in-Err.fault) c.in-Err.fault refl refused) v rest
    (read_emptied c.args.machine c.into_loading-loading.result
    c.into_loading-loading.ensures.emptied c.args.phase c.args.reader.now rest v read) few shows

pub returns-in_err-restored-in-Ok-clause-refused : goal.returns-in_err-restored-in-Ok-clause-refused
returns-in_err-restored-in-Ok-clause-refused c refused v rest read few shows =
    not_shown c.args.phase c.args.machine c.load_parts.new.machine v c.args.reader.now
    c.load_parts.new.reader rest c.into_loading-loading.ensures.valid
    (read_linked c.args.machine c.into_loading-loading.result c.into_loading-loading.ensures.emptied
    c.args.phase c.args.reader.now c.load_parts.new.reader c.load_parts.new.machine
    c.in-Ok.ensures.made) read
    (subst (LoadDenies c.load_parts.new.machine)
    (unfit_of c.from_residual.result _ c.from_residual.ensures.1
    refused) c.in_err-restored-in-Ok.ensures.refused) shows

pub returns-in_ok-restored-in-Ok-clause-made : goal.returns-in_ok-restored-in-Ok-clause-made
returns-in_ok-restored-in-Ok-clause-made c =
    subst (IsReadMachine c.args.machine c.args.phase c.args.reader.now c.load_parts.new.reader)
    (sym c.in_ok-restored-in-Ok.ensures.same)
    (read_linked c.args.machine c.into_loading-loading.result c.into_loading-loading.ensures.emptied
    c.args.phase c.args.reader.now c.load_parts.new.reader c.load_parts.new.machine
    c.in-Ok.ensures.made)

pub returns-in_ok-restored-in-Ok-clause-shows : goal.returns-in_ok-restored-in-Ok-clause-shows
returns-in_ok-restored-in-Ok-clause-shows c =
    subst ShowsSome (sym c.in_ok-restored-in-Ok.ensures.same) c.in_ok-restored-in-Ok.ensures.shows

pub returns-in_ok-restored-in-Ok-clause-slots : goal.returns-in_ok-restored-in-Ok-clause-slots
returns-in_ok-restored-in-Ok-clause-slots c =
    few_slots_in c.slot_count-slots.result c.in_ok-restored-in-Ok.restored.state.frames
    c.slot_count-slots.ensures.count c.slot_count-slots.ensures.bound
