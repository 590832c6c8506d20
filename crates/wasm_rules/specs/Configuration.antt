-- Configurations (Core Specification 1.0, section 4.2): the program, which nothing changes, its
-- store, and one thread.
use Rattle.std.specs.Prelude.{ℕ, List, Option}
use Rattle.wasm_syntax.specs.declared.types.ValueType.{ValueType}
use Rattle.wasm_syntax.specs.declared.types.FunctionType.{FunctionType}
use Rattle.wasm_syntax.specs.declared.value.Value.{Value}
use Rattle.wasm_syntax.specs.declared.value.Trap.{Trap}
use Rattle.wasm_syntax.specs.rules.Sequence.{Sequence}

-- a function: one of the host's, or one of the module's own with the types of its declared locals
-- and its body (4.2.6)
pub data Callee : Type 0 where
  Imported : (signature : FunctionType) → Callee
  Own : (signature : FunctionType) (declared : List ValueType) (body : Sequence) → Callee

-- What a module's instance looks up (4.2.5): the types, the functions, imported ones first, how
-- many pages memory has at least, and how many it may have. The first is its minimum, and the
-- second its own maximum or the configured limit, whichever is less. No rule reads the minimum:
-- memory begins with it, and only grows.
pub record Program : Type 0 where
  pub types : List FunctionType
  pub functions : List Callee
  pub least_pages : ℕ
  pub most_pages : ℕ

-- the bytes of memory, the values of the globals, and the function that each table entry names, if
-- it names one (4.2.3, 4.2.7 to 4.2.9)
pub record Store : Type 0 where
  pub memory : List ℕ
  pub globals : List Value
  pub table : List (Option ℕ)

-- Which part of its instruction a label is around: the second part of an `if`, or the main one of
-- any. Two parts of one `if` may be equal. The label tells them apart, so that a configuration has
-- one position. No rule reads it.
pub data Part : Type 0 where
  Main : Part
  Second : Part

-- A label (4.2.12): how many values a branch to it keeps, and what is executed after such a branch.
-- Then the values below its block, what follows the block, and which part of its instruction this
-- is.
pub data Label : Type 0 where
  LabelOf : (keeps : ℕ) (target : Sequence) (below : List Value) (after : Sequence) (which : Part)
      → Label

-- A frame (4.2.12): its function, its locals, and the labels around its next instruction, the
-- innermost first. Then the values above the innermost label, the last one first, and the
-- instructions that remain there.
pub data Frame : Type 0 where
  FrameOf : (function : ℕ) (locals : List Value) (labels : List Label) (values : List Value)
      (rest : Sequence) → Frame

-- the frames, that of the running function first. Where none is left, the call of the host has
-- returned
abbrev pub Thread : Type 0
Thread = List Frame

-- a configuration (4.2.13), and the functions that the host calls when the thread has returned:
-- `_start` after the start function
pub record Configuration : Type 0 where
  pub store : Store
  pub thread : Thread
  pub later : List ℕ

-- What the next counted step leads to: a configuration, a trap, or a call of the host's function.
-- That has these arguments, the last one first, and a thread that waits for its results. Or no
-- counted step applies.
pub data Outcome : Type 0 where
  Goes : (next : Configuration) → Outcome
  Traps : (why : Trap) → Outcome
  Asks : (function : ℕ) (arguments : List Value) (waits : Thread) → Outcome
  Stuck : Outcome
