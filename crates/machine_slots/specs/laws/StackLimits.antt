-- The limits of the machine's stack, as numbers.
use Rattle.std.specs.Prelude.{◌≡◌, ◌+◌}
use Rattle.machine_slots.specs.declared.limits.TheConstants.{FRAMES, HELD_VALUES}
use Rattle.machine_slots.specs.declared.slots.TheConstants.{SLOTS}

pub record StackLimitNumbers : Type 0 where
  pub frames : FRAMES ≡ 512
  -- of all frames
  pub held_values : HELD_VALUES ≡ 65536
  -- beside the held values the running frame has at most an operand for each of 4,096 opcodes
  pub slots : SLOTS ≡ 65536 + 4096
