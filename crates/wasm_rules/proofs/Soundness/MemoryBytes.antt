-- Bytes stay bytes, and memory keeps its whole pages.
use Rattle.std.proofs.Common.{◌≡◌, ℕ, ◌+◌, ◌*◌, ◌≤◌, List, ◌++◌, length, ◌∙◌, arith, length-append}
use Rattle.std.specs.Prelude.{replicate}
use Rattle.std.specs.List.{AllByRecursion}
use Rattle.std.proofs.lemmas.List.{length-replicate}
use Rattle.guest_memory.specs.rules.Bytes.{IsByte, page_size, with_part}
use Rattle.wasm_rules.specs.Configuration.{Program}
use Rattle.wasm_rules.specs.Typed.{IsTypedMemory}
use Rattle.guest_memory.proofs.Ranges.{length-with_part}
use Rattle.guest_memory.proofs.Lists.{all_both, all_take, all_drop, all_replicate}

-- a part of memory replaced by bytes
pub memory_with_part : (program : Program) (memory : List ℕ) (from : ℕ) (bytes : List ℕ)
    → IsTypedMemory program memory → AllByRecursion IsByte bytes
    → from + length bytes ≤ length memory → IsTypedMemory program (with_part memory from bytes)
memory_with_part program memory from bytes h k inside = record {
  pages = h.pages;
  whole = length-with_part memory from bytes inside ∙ h.whole;
  least = h.least;
  within = h.within;
  bytes = all_both IsByte _ _ (all_take IsByte from memory h.bytes)
      (all_both IsByte _ _ k (all_drop IsByte (from + length bytes) memory h.bytes));
}

-- pages of zeros after it
pub memory_grown : (program : Program) (memory : List ℕ) (n pages : ℕ)
    → IsTypedMemory program memory → length memory ≡ pages * page_size
    → pages + n ≤ program.most_pages → IsTypedMemory program (memory ++ replicate (n * page_size) 0)
memory_grown program memory n pages h e within = record {
  pages = pages + n;
  whole = simp (length-append, length-replicate) (omega (arith, e));
  least = (let least = h.least in let whole = h.whole in omega (arith, e));
  within = within;
  bytes = all_both IsByte _ _ h.bytes (all_replicate IsByte (n * page_size) 0 (omega arith));
}
