use Rattle.std.proofs.Common.{◌≡◌, ℕ, ◌∙◌, ap, sym, subst, Option, Some, List, drop, length, ◌+◌}
use Rattle.std.proofs.Common.{◌≤◌}
use Rattle.std.specs.Prelude.{OnSome}
use Rattle.guest_memory.specs.rules.Bytes.{with_part}
use Rattle.guest_memory.specs.rules.Memories.{LinearMemory, with_bytes}
use Rattle.wasm_rules.specs.Instantiation.{offset_of, filled_memory}
use Rattle.machine.proofs.InstanceLemmas.Filled.{data_next}
use Rattle.machine.proofs.instance.memory.fill_memory.Goals as goal

pub unwrap-requires : goal.unwrap-requires
unwrap-requires c =
    let d = c.segment-item.result in
    let values = c.requires.0 in
    let initial = c.requires.2 in
    let f = data_next values c.args.segments.now c.loop-segment.segment-index d
    c.loop-segment.memory.bytes c.requires.1 c.loop-segment-test.true c.segment-item.is
    (c.loop-segment.invariant.bytes values c.requires.1 initial c.requires.3) in
    let at : offset_of values d.offset ≡ Some c.unwrap-from.result =
    ap (offset_of values) (sym c.as_slice.ensures) ∙ (sym (c.offset.ensures values initial)
    ∙ c.unwrap-from.ensures) in
    let first = f.offset in
    let same : f.from ≡ c.unwrap-from.result = cc in
    let P : ℕ → Type 0 = λ n. n + length d.bytes ≤ length c.loop-segment.memory.bytes in
    let Q : List ℕ → Type 0 =
    λ bs. c.unwrap-from.result + length bs ≤ length c.loop-segment.memory.bytes in
    c.write.ensures.there.1 (subst Q (sym c.as_slice-in-loop-segment.ensures)
    (subst P same f.inside))

pub loop-segment-preserved : goal.loop-segment-preserved
loop-segment-preserved c =
    let d = c.segment-item.result in
    let memory = c.loop-segment.memory in
    let from = c.unwrap-from.result in
    let bytes = c.as_slice-in-loop-segment.result.now in
    let W : Option (Unit {0}) → Type 0 =
    λ o. OnSome o (c.write.new.self ≡ with_bytes from bytes memory) in
    let written : c.write.new.self ≡ with_bytes from bytes memory =
    subst W c.unwrap.ensures c.write.ensures.written in
    record {
      bytes = λ values filled initial fills.
          let f = data_next values c.args.segments.now c.loop-segment.segment-index d memory.bytes
          filled c.loop-segment-test.true c.segment-item.is
          (c.loop-segment.invariant.bytes values filled initial fills) in
          let at : offset_of values d.offset ≡ Some from =
          ap (offset_of values) (sym c.as_slice.ensures)
          ∙ (sym (c.offset.ensures values initial) ∙ c.unwrap-from.ensures) in
          let first = f.offset in
          let same : f.from ≡ from = cc in
          let P : List ℕ → Type 0 =
          λ bs. filled_memory values (drop (c.loop-segment.segment-index
          + 1) c.args.segments.now) bs ≡ Some filled in
          subst P (ap (λ n. with_part memory.bytes n d.bytes) same
          ∙ (ap (with_part memory.bytes from) (sym c.as_slice-in-loop-segment.ensures)
          ∙ sym (ap (λ (m : LinearMemory). m.bytes) written))) f.others;
      limit = ap (λ (m : LinearMemory). m.limit) written ∙ c.loop-segment.invariant.limit;
    }
