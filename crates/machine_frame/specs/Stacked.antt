-- Where the slots of a frame end.
use Rattle.std.specs.Prelude.{ℕ, suc, List, length, reverse, Option, Some, None, slice_get}
use Rattle.machine_frame.specs.declared.rules.frame.StackFrame.{StackFrame}

-- the base of the next frame, or where there is none how many words there are
abbrev pub end_of : Option StackFrame → ℕ → ℕ
end_of None count = count
end_of (Some frame) count = frame.base

-- where the words end of the frame with this number, counted from the outermost one
abbrev pub slots_end : List StackFrame → List ℕ → ℕ → ℕ
slots_end frames words i = end_of (slice_get (reverse frames) (suc i)) (length words)
