use Rattle.std.proofs.Common.{◌≡◌, refl, sym, ap, subst}
use Rattle.wasm_syntax.specs.declared.instruction.Instruction.{Instruction}
use Rattle.wasm_syntax.specs.declared.instruction.Instruction.TheVariants as instr
use Rattle.wasm_rules.specs.Typing.{Context}
use Rattle.wasm_validate.specs.declared.parts.fault.ValidFault.TheVariants.{Typing}
use Rattle.wasm_validate.specs.laws.Checking.{Refused, arrow_of, labels_of}
use Rattle.wasm_validate.specs.laws.FirstFault.{fault_of}
use Rattle.wasm_validate.specs.Body.Answers.{FailsToCheck}
use Rattle.wasm_validate.specs.Body.Transfers.{IsTransfer}
use Rattle.wasm_validate.specs.Body.Tops.{top_applied}
use Rattle.wasm_validate.proofs.body.levels.Levels.transfer.Goals as goal

pub returns-in-Br : goal.returns-in-Br
returns-in-Br c = λ c' scope is_transfer. rw c.in-Br.is (c.branch-self.ensures c')

pub returns-in-BrIf : goal.returns-in-BrIf
returns-in-BrIf c = λ c' scope is_transfer. rw c.in-BrIf.is (c.branch_if.ensures c')

pub returns-in-BrTable : goal.returns-in-BrTable
returns-in-BrTable c = λ c' scope is_transfer. rw c.in-BrTable.is (c.branch_table.ensures c')

pub returns-in_default : goal.returns-in_default
returns-in_default c = λ c' scope is_transfer.
    subst (λ z. FailsToCheck Typing z
    (top_applied (arrow_of c' (labels_of c.args.self.now) c.args.instruction.now) c.args.self.now))
    (sym (told c' c.args.instruction.now refl is_transfer))
    (ap (λ z. top_applied z c.args.self.now) (refused c' c.args.instruction.now refl is_transfer))
  where
    told : (c' : Context) (i : Instruction) → c.args.instruction.now ≡ i → IsTransfer i
        → fault_of c' (labels_of c.args.self.now) i ≡ Typing
    told c' (instr.Br l) e is_transfer = absurd (c.in_default.not-Br l e)
    told c' (instr.BrIf l) e is_transfer = absurd (c.in_default.not-BrIf l e)
    told c' (instr.BrTable ls l) e is_transfer = absurd (c.in_default.not-BrTable ls l e)
    told c' (instr.Call f) e is_transfer = absurd (c.in_default.not-Call f e)
    told c' (instr.CallIndirect t) e is_transfer = absurd (c.in_default.not-CallIndirect t e)
    told c' (instr.LocalGet x) e is_transfer = absurd is_transfer
    told c' (instr.LocalSet x) e is_transfer = absurd is_transfer
    told c' (instr.LocalTee x) e is_transfer = absurd is_transfer
    told c' (instr.GlobalGet x) e is_transfer = absurd is_transfer
    told c' (instr.GlobalSet x) e is_transfer = absurd is_transfer
    told c' (instr.Load o a) e is_transfer = absurd is_transfer
    told c' (instr.Store o a) e is_transfer = absurd is_transfer
    told c' instr.MemorySize e is_transfer = absurd is_transfer
    told c' instr.MemoryGrow e is_transfer = absurd is_transfer
    told c' instr.MemoryCopy e is_transfer = absurd is_transfer
    told c' instr.MemoryFill e is_transfer = absurd is_transfer
    told c' _ e is_transfer = refl

    refused : (c' : Context) (i : Instruction) → c.args.instruction.now ≡ i → IsTransfer i
        → arrow_of c' (labels_of c.args.self.now) i ≡ Refused
    refused c' instr.Unreachable e is_transfer = absurd (c.in_default.not-Unreachable e)
    refused c' instr.Nop e is_transfer = absurd (c.in_default.not-Nop e)
    refused c' (instr.Br l) e is_transfer = absurd (c.in_default.not-Br l e)
    refused c' (instr.BrIf l) e is_transfer = absurd (c.in_default.not-BrIf l e)
    refused c' (instr.BrTable ls l) e is_transfer = absurd (c.in_default.not-BrTable ls l e)
    refused c' instr.Return e is_transfer = absurd (c.in_default.not-Return e)
    refused c' (instr.Call f) e is_transfer = absurd (c.in_default.not-Call f e)
    refused c' (instr.CallIndirect t) e is_transfer = absurd (c.in_default.not-CallIndirect t e)
    refused c' (instr.Block t) e is_transfer = refl
    refused c' (instr.Loop t) e is_transfer = refl
    refused c' (instr.If t) e is_transfer = refl
    refused c' instr.Else e is_transfer = refl
    refused c' instr.End e is_transfer = refl
    refused c' _ e is_transfer = absurd is_transfer
