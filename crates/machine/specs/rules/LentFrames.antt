-- What contracts see of a frame that a machine lends.
use Rattle.machine_slots.specs.rules.Places.{ShownFrame}
use Rattle.machine.specs.declared.shown.LentFrame.{LentFrame}

-- with the words that are lent as its slots
abbrev pub lent_frame : LentFrame → ShownFrame
lent_frame p = record { function = p.function; position = p.position; slots = p.slots.now }
