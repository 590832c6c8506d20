use Rattle.std.proofs.Common.{◌≡◌, ℕ, ◌∙◌, ap, sym, subst, Some, List}
use Rattle.guest_memory.specs.rules.Memories.{LinearMemory}
use Rattle.wasm_rules.specs.Instantiation.{filled_memory}
use Rattle.machine.proofs.instance.memory.initial_memory.Goals as goal

pub returns-clause-bytes : goal.returns-clause-bytes
returns-clause-bytes c = λ values filled initial fills.
    let P : List ℕ → Type 0 = λ bs. filled_memory values c.args.segments.now bs ≡ Some filled in
    c.fill_memory.ensures.bytes values filled initial (subst P (c.first_pages.ensures.empty
    ∙ sym (ap (λ (m : LinearMemory). m.bytes) c.in_ok-memory.ensures.made)) fills)
