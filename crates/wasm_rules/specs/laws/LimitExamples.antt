-- Worked examples: calls at the limits of the stack, branches that leave values after, calls
-- through the table, memory that grows up to its limit, and copies and fills up to its end.
use Rattle.std.specs.Prelude.{◌≡◌, ℕ, ◌^◌, ◌-◌, List, [], ◌∷◌, ◌++◌, length, replicate, Some, None}
use Rattle.wasm_syntax.specs.declared.types.ValueType.TheVariants.{I32, I64}
use Rattle.wasm_syntax.specs.declared.value.Value.{Value}
use Rattle.wasm_syntax.specs.declared.value.Trap.TheVariants as trap
use Rattle.wasm_syntax.specs.declared.instruction.Instruction.{Instruction}
use Rattle.wasm_syntax.specs.declared.instruction.Instruction.TheVariants as instr
use Rattle.wasm_syntax.specs.rules.Sequence.{Sequence, Stop, Plain, InLoop}
use Rattle.wasm_syntax.specs.laws.Examples.{no_type}
use Rattle.wasm_rules.specs.Configuration.{Own, Program, Store, Main, Label, LabelOf, Frame}
use Rattle.wasm_rules.specs.Configuration.{FrameOf, Thread, Configuration, Outcome, Goes, Traps}
use Rattle.wasm_rules.specs.Steps.{counted_step}
use Rattle.wasm_rules.specs.laws.Examples.{v, endless, four_bytes, executing, goes_with}

-- this thread, over a memory of four bytes
abbrev pub with_thread : Thread → Configuration
with_thread thread = record { store = four_bytes; thread = thread; later = [] }

-- ---- the stack

-- a frame above these values, at a call of function 0
abbrev pub caller_above : List Value → Frame
caller_above values = FrameOf 0 [] [] values (Plain (instr.Call 0) Stop)

-- so many frames that hold no value
abbrev pub empty_frames : ℕ → Thread
empty_frames n = replicate n (FrameOf 0 [] [] [] Stop)

-- function 0 has 256 locals
abbrev pub spacious : Program
spacious = record endless { functions = Own no_type (replicate 256 I32) Stop ∷ [] }

-- a function's first frame: zeros as locals
abbrev pub first_frame : ℕ → Sequence → Frame
first_frame count body =
    FrameOf 0 (replicate count (v 0)) (LabelOf 0 Stop [] Stop Main ∷ []) [] body

pub record StackExamples : Type 0 where
  -- frame 512 is entered, and frame 513 isn't
  pub last_frame : counted_step endless (with_thread (caller_above [] ∷ empty_frames 510))
      ≡ Goes (with_thread (first_frame 0 (Plain (instr.Call 0) Stop)
      ∷ FrameOf 0 [] [] [] Stop ∷ empty_frames 510))
  pub one_frame_more : counted_step endless (with_thread (caller_above [] ∷ empty_frames 511))
      ≡ Traps trap.StackExhausted
  -- value 65,536 is held, and value 65,537 isn't
  pub last_value : counted_step spacious (with_thread (caller_above (replicate 65280 (v 7)) ∷ []))
      ≡ Goes (with_thread (first_frame 256 Stop ∷ FrameOf 0 [] [] (replicate 65280 (v 7)) Stop
      ∷ []))
  pub one_value_more : counted_step spacious (with_thread (caller_above
      (replicate 65281 (v 7)) ∷ [])) ≡ Traps trap.StackExhausted

-- ---- branches

abbrev pub nop : Sequence
nop = Plain instr.Nop Stop

-- two labels: the inner one keeps no value above 5, and the outer one keeps one above 6
abbrev pub two_labels : List Label
two_labels =
    LabelOf 0 (Plain instr.Drop Stop) (v 5 ∷ []) Stop Main ∷ LabelOf 1 nop (v 6 ∷ []) Stop Main ∷ []

-- this instruction inside of both labels
abbrev pub inside_two : Instruction → List Value → Configuration
inside_two i values = with_thread (FrameOf 0 [] two_labels values (Plain i nop) ∷ [])

-- what a branch to the inner label leads to, one to the outer label, and none
abbrev pub at_inner : Outcome
at_inner =
    Goes (with_thread (FrameOf 0 [] (LabelOf 1 nop (v 6 ∷ []) Stop Main ∷ []) (v 5 ∷ [])
    (Plain instr.Drop Stop) ∷ []))

abbrev pub at_outer : ℕ → Outcome
at_outer kept = Goes (with_thread (FrameOf 0 [] [] (v kept ∷ v 6 ∷ []) nop ∷ []))

abbrev pub going_on : List Value → Outcome
going_on values = Goes (with_thread (FrameOf 0 [] two_labels values nop ∷ []))

pub record BranchExamples : Type 0 where
  -- all values of the blocks that are left are gone, but for those that the label keeps
  pub inner : counted_step endless (inside_two (instr.Br 0) (v 9 ∷ v 8 ∷ [])) ≡ at_inner
  pub outer : counted_step endless (inside_two (instr.Br 1) (v 9 ∷ v 8 ∷ [])) ≡ at_outer 9
  pub taken : counted_step endless (inside_two (instr.BrIf 1) (v 3 ∷ v 9 ∷ v 8 ∷ [])) ≡ at_outer 9
  pub not_taken : counted_step endless (inside_two (instr.BrIf 1) (v 0 ∷ v 9 ∷ v 8 ∷ []))
      ≡ going_on (v 9 ∷ v 8 ∷ [])
  -- the last entry of a table, and the default after it
  pub last_entry : counted_step endless (inside_two (instr.BrTable (0 ∷ 1 ∷ []) 0) (v 1
      ∷ v 9 ∷ v 8 ∷ [])) ≡ at_outer 9
  pub default : counted_step endless (inside_two (instr.BrTable (0 ∷ 0 ∷ []) 1) (v 2
      ∷ v 9 ∷ v 8 ∷ [])) ≡ at_outer 9
  -- a loop begins anew inside of no label of its own, and keeps no value
  pub again : counted_step endless (with_thread (FrameOf 0 []
      (LabelOf 0 (InLoop None nop Stop) (v 5 ∷ []) Stop Main ∷ []) (v 9 ∷ [])
      (Plain (instr.Br 0) Stop) ∷ []))
      ≡ Goes (with_thread (FrameOf 0 [] [] (v 5 ∷ []) (InLoop None nop Stop) ∷ []))

-- ---- calls through the table

-- function 0 is of type 0, and function 1 of type 1, which is another
abbrev pub two_functions : Program
two_functions = record {
  types = no_type ∷ record { parameters = I64 ∷ []; results = [] } ∷ [];
  functions = Own no_type [] nop ∷ Own (record { parameters = I64 ∷ []; results = [] }) [] nop ∷ [];
  least_pages = 0;
  most_pages = 1;
}

-- a table: function 0, nothing, function 1
abbrev pub three_entries : Store
three_entries = record { memory = []; globals = []; table = Some 0 ∷ None ∷ Some 1 ∷ [] }

-- a call of type 0 through this entry
abbrev pub through : ℕ → Outcome
through i = counted_step two_functions (executing three_entries (instr.CallIndirect 0) (v i ∷ []))

pub record TableExamples : Type 0 where
  pub called : through 0
      ≡ Goes (record (executing three_entries instr.Nop []) {
        thread = first_frame 0 nop ∷ FrameOf 0 [] [] [] Stop ∷ [];
      })
  pub empty_entry : through 1 ≡ Traps trap.UninitializedElement
  pub other_type : through 2 ≡ Traps trap.IndirectCallTypeMismatch
  pub outside : through 3 ≡ Traps trap.UndefinedElement

-- ---- memory

-- memory may have two pages
abbrev pub two_pages : Program
two_pages = record endless { most_pages = 2 }

abbrev pub of_bytes : List ℕ → Store
of_bytes memory = record { memory = memory; globals = []; table = [] }

-- what growth by so many pages leads to
abbrev pub grows : List ℕ → ℕ → Outcome
grows memory n = counted_step two_pages (executing (of_bytes memory) instr.MemoryGrow (v n ∷ []))

-- the one page, and after it another
pub record GrowthExamples (page : List ℕ) : Type 0 where
  pub by_none : grows page 0 ≡ goes_with (of_bytes (page ++ [])) (v 1 ∷ [])
  pub by_one : grows page 1 ≡ goes_with (of_bytes (page ++ replicate 65536 0)) (v 1 ∷ [])
  pub by_two : grows page 2 ≡ goes_with (of_bytes page) (v (2 ^ 32 - 1) ∷ [])
  pub by_many : grows page (2 ^ 32 - 1) ≡ goes_with (of_bytes page) (v (2 ^ 32 - 1) ∷ [])
  pub size : counted_step two_pages (executing (of_bytes page) instr.MemorySize [])
      ≡ goes_with (of_bytes page) (v 1 ∷ [])

-- whatever the page holds
abbrev pub MemoryGrows : Type 0
MemoryGrows = (page : List ℕ) → length page ≡ 65536 → GrowthExamples page

-- ---- copies and fills

-- eight bytes, from 1 up to 8
abbrev pub eight_bytes : List ℕ
eight_bytes = 1 ∷ 2 ∷ 3 ∷ 4 ∷ 5 ∷ 6 ∷ 7 ∷ 8 ∷ []

-- what an instruction leads to that takes a destination, a source or a value, and a length
abbrev pub of_three : Instruction → ℕ → ℕ → ℕ → Outcome
of_three i to second n =
    counted_step two_pages (executing (of_bytes eight_bytes) i (v n ∷ v second ∷ v to ∷ []))

abbrev pub leaves_bytes : List ℕ → Outcome
leaves_bytes bytes = goes_with (of_bytes bytes) []

pub record MoveExamples : Type 0 where
  -- a copy gives the bytes that the source had before, upward and downward
  pub upward : of_three instr.MemoryCopy 2 0 6
      ≡ leaves_bytes (1 ∷ 2 ∷ 1 ∷ 2 ∷ 3 ∷ 4 ∷ 5 ∷ 6 ∷ [])
  pub downward : of_three instr.MemoryCopy 0 2 6
      ≡ leaves_bytes (3 ∷ 4 ∷ 5 ∷ 6 ∷ 7 ∷ 8 ∷ 7 ∷ 8 ∷ [])
  pub none_at_the_end : of_three instr.MemoryCopy 8 8 0 ≡ leaves_bytes eight_bytes
  pub none_to_beyond_it : of_three instr.MemoryCopy 9 0 0 ≡ Traps trap.MemoryOutOfBounds
  pub none_from_beyond_it : of_three instr.MemoryCopy 0 9 0 ≡ Traps trap.MemoryOutOfBounds
  pub sum_does_not_wrap : of_three instr.MemoryCopy 4 0 (2 ^ 32 - 1) ≡ Traps trap.MemoryOutOfBounds
  -- a fill puts the low byte of its value
  pub low_byte : of_three instr.MemoryFill 6 0x1ff 2
      ≡ leaves_bytes (1 ∷ 2 ∷ 3 ∷ 4 ∷ 5 ∷ 6 ∷ 255 ∷ 255 ∷ [])
  pub filled_beyond : of_three instr.MemoryFill 6 1 3 ≡ Traps trap.MemoryOutOfBounds
