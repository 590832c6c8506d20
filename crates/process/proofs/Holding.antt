-- A call of the host leaves a machine the memory that it should have.
use Rattle.std.proofs.Common.{◌≡◌, ◌*◌, ◌≤◌, length, sym, ap, ◌∙◌, subst}
use Rattle.wasm_syntax.specs.declared.module.Module.{Module}
use Rattle.guest_memory.specs.rules.Bytes.{page_size}
use Rattle.wasi_calls.specs.rules.Calls.{IsAsLarge}
use Rattle.machine.specs.rules.Values.{MachineValue, HoldsMemory, least_of, memory_of, with_memory}

pub holds_called : (old new : MachineValue) → new ≡ with_memory old (memory_of new)
    → IsAsLarge (memory_of old) (memory_of new) → HoldsMemory old → HoldsMemory new
holds_called old new is large h = record {
  limit = large.limit ∙ h.limit ∙ sym (ap (λ (v : MachineValue). v.most_pages) is);
  least = subst (λ (m : Module). least_of m * page_size ≤ length new.state.memory)
      (sym (ap (λ (v : MachineValue). v.guest) is))
      (subst (λ n. least_of old.guest * page_size ≤ n) (sym large.size) h.least);
}
