use Rattle.machine_slots.proofs.Families.{load_shown, store_shown, binary_shown, select_shown}
use Rattle.machine_slots.proofs.Families.{local_get_shown, local_set_shown, local_tee_shown}
use Rattle.machine_slots.proofs.Families.{global_get_shown, global_set_shown, memory_grow_shown}
use Rattle.machine_slots.proofs.Families.{copy_shown, fill_shown}
use Rattle.machine_slots.proofs.Outcomes.{comes}
use Rattle.machine_slots.proofs.effects.operate.Goals as goal

pub returns-in-Load : goal.returns-in-Load
returns-in-Load c =
    rw (
      c.outcome_of.ensures,
      c.in-Load.is,
    ) (comes _ _ _ c.load.result _ tt
    (λ program store ls vs below callers at r.
    load_shown program store below callers _ _ _ _ _ ls vs _ _ r c.load.ensures))

pub returns-in-Store : goal.returns-in-Store
returns-in-Store c =
    rw (
      c.outcome_of-in-Store.ensures,
      c.in-Store.is,
    ) (comes _ _ _ c.store.result _ tt
    (λ program store ls vs below callers at r.
    store_shown program store below callers _ _ _ _ _ ls vs _ _ _ r c.store.ensures.slots
    c.store.ensures.memory))

pub returns-in-Binary : goal.returns-in-Binary
returns-in-Binary c =
    rw (
      c.outcome_of-in-Binary.ensures,
      c.in-Binary.is,
    ) (comes _ _ _ c.apply_binary.result _ tt
    (λ program store ls vs below callers at r.
    binary_shown program store below callers _ _ _ _ _ ls vs _ _ r c.apply_binary.ensures))

pub returns-in-Select : goal.returns-in-Select
returns-in-Select c =
    rw c.in-Select.is (
      tt,
      λ program store ls vs below callers at r.
          select_shown program store below callers _ _ _ ls vs _ r c.select.ensures,
    )

pub returns-in-LocalGet : goal.returns-in-LocalGet
returns-in-LocalGet c =
    rw c.in-LocalGet.is (
      tt,
      λ program store ls vs below callers at r.
          local_get_shown program store below callers _ _ _ _ ls vs _ at r c.local_get.ensures,
    )

pub returns-in-LocalSet : goal.returns-in-LocalSet
returns-in-LocalSet c =
    rw c.in-LocalSet.is (
      tt,
      λ program store ls vs below callers at r.
          local_set_shown program store below callers _ _ _ _ ls vs _ at r c.local_set.ensures,
    )

pub returns-in-LocalTee : goal.returns-in-LocalTee
returns-in-LocalTee c =
    rw c.in-LocalTee.is (
      tt,
      λ program store ls vs below callers at r.
          local_tee_shown program store below callers _ _ _ _ ls vs _ at r c.local_tee.ensures,
    )

pub returns-in-GlobalGet : goal.returns-in-GlobalGet
returns-in-GlobalGet c =
    rw c.in-GlobalGet.is (
      tt,
      λ program store ls vs below callers at r.
          global_get_shown program store below callers _ _ _ _ ls vs _ r c.global_get.ensures,
    )

pub returns-in-GlobalSet : goal.returns-in-GlobalSet
returns-in-GlobalSet c =
    rw c.in-GlobalSet.is (
      tt,
      λ program store ls vs below callers at r.
          global_set_shown program store below callers _ _ _ _ ls vs _ _ r
          c.global_set.ensures.slots c.global_set.ensures.globals,
    )

pub returns-in-MemoryCopy : goal.returns-in-MemoryCopy
returns-in-MemoryCopy c =
    rw (
      c.outcome_of-in-MemoryCopy.ensures,
      c.in-MemoryCopy.is,
    ) (comes _ _ _ c.memory_copy.result _ tt
    (λ program store ls vs below callers at r.
    copy_shown program store below callers _ _ _ ls vs _ _ _ r c.memory_copy.ensures.slots
    c.memory_copy.ensures.memory))

pub returns-in-MemoryFill : goal.returns-in-MemoryFill
returns-in-MemoryFill c =
    rw (
      c.outcome_of-in-MemoryFill.ensures,
      c.in-MemoryFill.is,
    ) (comes _ _ _ c.memory_fill.result _ tt
    (λ program store ls vs below callers at r.
    fill_shown program store below callers _ _ _ ls vs _ _ _ r c.memory_fill.ensures.slots
    c.memory_fill.ensures.memory))

pub returns-in-MemoryGrow : goal.returns-in-MemoryGrow
returns-in-MemoryGrow c =
    rw c.in-MemoryGrow.is (
      tt,
      λ program store ls vs below callers at r.
          memory_grow_shown program store below callers _ _ _ ls vs _ _ r
          c.memory_grow.ensures.slots c.memory_grow.ensures.memory,
    )
