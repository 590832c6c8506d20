-- Checking from the front is typing.
use Rattle.std.specs.Prelude.{◌≡◌, List, [], Some}
use Rattle.wasm_syntax.specs.declared.instruction.Instruction.{Instruction}
use Rattle.wasm_rules.specs.Typing.{Context}
use Rattle.wasm_validate.specs.laws.Checking.{Level, checked}
use Rattle.wasm_validate.specs.laws.Remaining.{Remains}

-- What passes the check and leaves nothing open closes all that was open, typed.
abbrev pub PassesOnlyTyped : Type 0
PassesOnlyTyped = (c : Context) (opcodes : List Instruction) (levels : List Level)
    → checked c opcodes levels ≡ Some [] → Remains c [] levels opcodes

-- What closes all that is open, typed, passes the check and leaves nothing open.
abbrev pub PassesAllTyped : Type 0
PassesAllTyped = (c : Context) (opcodes : List Instruction) (levels : List Level)
    → Remains c [] levels opcodes → checked c opcodes levels ≡ Some []
