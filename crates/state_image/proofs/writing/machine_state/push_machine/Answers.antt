use Rattle.wasi_abi.specs.rules.Layouts.{u64_bytes}
use Rattle.guest_memory.specs.rules.Memories.{LinearMemory}
use Rattle.state_image.specs.rules.ProcessImage.{items_bytes, memory_bytes}
use Rattle.state_image.proofs.Pushing.{pushes_on, pushes_exit, pushes_of}
use Rattle.state_image.proofs.writing.machine_state.push_machine.Goals as goal

pub returns-in_err-push_words : goal.returns-in_err-push_words
returns-in_err-push_words g c =
    pushes_exit _ _ c.from_residual.ensures.1
    (pushes_of (items_bytes u64_bytes) c.globals.ensures c.in_err-push_words.ensures)

pub returns-in_err-push_frames : goal.returns-in_err-push_frames
returns-in_err-push_frames g c =
    pushes_on (pushes_of (items_bytes u64_bytes) c.globals.ensures c.in_ok-push_words.ensures)
    (pushes_exit _ _ c.from_residual-in_err-push_frames.ensures.1
    c.in_err-push_frames.ensures)

pub returns : goal.returns
returns g c =
    pushes_on (pushes_of (items_bytes u64_bytes) c.globals.ensures c.in_ok-push_words.ensures)
    (pushes_on c.in_ok-push_frames.ensures
    (pushes_of (λ (m : LinearMemory). memory_bytes m.bytes) c.memory.ensures
    c.push_memory.ensures))
