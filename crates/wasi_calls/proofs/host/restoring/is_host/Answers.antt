use Rattle.std.proofs.Common.{sym, ◌∙◌}
use Rattle.std.proofs.lemmas.Bool.{both_ways}
use Rattle.wasi_calls.specs.rules.Restored.{held_host_from}
use Rattle.wasi_calls.proofs.Restored.{table_of, host_of}
use Rattle.wasi_calls.proofs.host.restoring.is_host.Goals as goal
use Rattle.wasi_calls.proofs.host.restoring.is_host.Goals.{then-fits_room, else-fits_room}
use Rattle.wasi_calls.proofs.host.restoring.is_host.Goals.{then-is_table, else-is_table}

pub returns-then-is_unfinished : goal.returns-then-is_unfinished
returns-then-is_unfinished c = λ version.
    let h = (held_host_from c.args.config.now version c.args.parts.now).host in
    elim c.if-is_table.branch [
      | then-is_table v ↦ elim c.if-fits_room.branch [
        | then-fits_room w ↦ (
          λ second. host_of h c.fits_room.ensures.files
              (c.fits_room.ensures.fits.0 w.if-fits_room.true)
              ((rw w.as_slice-then-fits_room.ensures.value at w.is_table.ensures).0
              (sym w.value-is ∙ v.if-is_table.true))
              (rw c.as_slice.ensures.value at c.are_bytes.ensures) c.has_64_bits.ensures
              ((rw v.as_slice-then-is_table.ensures.value at v.is_unfinished.ensures).0
              (sym v.value-is ∙ c.if-is_unfinished.true))
              ((rw c.as_slice-then-is_unfinished.ensures.value
              at c.is_unfinished-then-is_unfinished.ensures).0 second),
          λ is. (rw c.as_slice-then-is_unfinished.ensures.value
              at c.is_unfinished-then-is_unfinished.ensures).1 is.second,
        )
        | else-fits_room w ↦ absurd (both_ways _ (w.value-is ∙ w.if-fits_room.false)
            v.if-is_table.true)
      ]
      | else-is_table v ↦ absurd (both_ways _ (v.value-is ∙ v.if-is_table.false)
          c.if-is_unfinished.true)
    ]

pub returns-else-is_unfinished : goal.returns-else-is_unfinished
returns-else-is_unfinished c = λ version.
    let h = (held_host_from c.args.config.now version c.args.parts.now).host in (
      λ yes. absurd (both_ways _ c.if-is_unfinished.false yes),
      λ is. elim c.if-is_table.branch [
        | then-is_table v ↦ v.value-is
            ∙ (rw v.as_slice-then-is_table.ensures.value at v.is_unfinished.ensures).1 is.first
        | else-is_table v ↦ elim c.if-fits_room.branch [
          | then-fits_room w ↦ absurd (both_ways _ v.if-is_table.false
              (w.value-is
              ∙ (rw w.as_slice-then-fits_room.ensures.value at w.is_table.ensures).1
              (table_of h is)))
          | else-fits_room w ↦ absurd (both_ways _ w.if-fits_room.false
              (c.fits_room.ensures.fits.1 is.within))
        ]
      ],
    )
