use Rattle.std.proofs.Common.{◌≡◌, refl}
use Rattle.wasm_syntax.specs.declared.instruction.Instruction.{Instruction}
use Rattle.wasm_syntax.specs.declared.instruction.Instruction.TheVariants as instr
use Rattle.wasm_validate.specs.Body.Transfers.{IsTransfer}
use Rattle.wasm_validate.proofs.body.levels.Levels.operate.Goals as goal

pub returns-in-Const : goal.returns-in-Const
returns-in-Const c = λ c' scope. rw c.in-Const.is (c.constant.ensures c')

pub returns-in-Convert : goal.returns-in-Convert
returns-in-Convert c = λ c' scope. rw c.in-Convert.is (c.convert.ensures c')

pub returns-in_default : goal.returns-in_default
returns-in_default c = λ c' scope. c.transfer.ensures c' scope
    (is_transfer c.args.instruction.now refl)
  where
    is_transfer : (i : Instruction) → c.args.instruction.now ≡ i → IsTransfer i
    is_transfer instr.Drop e = c.in_default.not-Drop e
    is_transfer instr.Select e = c.in_default.not-Select e
    is_transfer (instr.LocalGet x) e = c.in_default.not-LocalGet x e
    is_transfer (instr.LocalSet x) e = c.in_default.not-LocalSet x e
    is_transfer (instr.LocalTee x) e = c.in_default.not-LocalTee x e
    is_transfer (instr.GlobalGet x) e = c.in_default.not-GlobalGet x e
    is_transfer (instr.GlobalSet x) e = c.in_default.not-GlobalSet x e
    is_transfer (instr.Load o m) e = c.in_default.not-Load o m e
    is_transfer (instr.Store o m) e = c.in_default.not-Store o m e
    is_transfer instr.MemorySize e = c.in_default.not-MemorySize e
    is_transfer instr.MemoryGrow e = c.in_default.not-MemoryGrow e
    is_transfer instr.MemoryCopy e = c.in_default.not-MemoryCopy e
    is_transfer instr.MemoryFill e = c.in_default.not-MemoryFill e
    is_transfer (instr.Const v) e = c.in_default.not-Const v e
    is_transfer (instr.Eqz t) e = c.in_default.not-Eqz t e
    is_transfer (instr.Compare t o) e = c.in_default.not-Compare t o e
    is_transfer (instr.Unary t o) e = c.in_default.not-Unary t o e
    is_transfer (instr.Binary t o) e = c.in_default.not-Binary t o e
    is_transfer (instr.Convert o) e = c.in_default.not-Convert o e
    is_transfer _ e = tt
