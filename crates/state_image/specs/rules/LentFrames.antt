-- What a frame shows that is lent (this project's own).
use Rattle.machine_slots.specs.rules.Places.{ShownFrame}
use Rattle.state_image.specs.declared.reading.machine_state.ReadFrame.{ReadFrame}

-- the frame that was read
abbrev pub frame_of : ReadFrame → ShownFrame
frame_of f = record { function = f.function; position = f.position; slots = f.slots }
