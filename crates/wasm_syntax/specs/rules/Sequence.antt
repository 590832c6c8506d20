-- Instruction sequences as the standard nests them (Core Specification 1.0, section 2.4), and the
-- flat opcodes that spell them.
use Rattle.std.specs.Prelude.{◌≡◌, List, [], ◌∷◌, ◌++◌, Option}
use Rattle.wasm_syntax.specs.declared.types.ValueType.{ValueType}
use Rattle.wasm_syntax.specs.declared.instruction.Instruction.{Instruction}
use Rattle.wasm_syntax.specs.declared.instruction.Instruction.TheVariants as instr

-- A sequence is empty, or a first instruction and what follows it. Block, loop and if hold
-- sequences of their own. An `if` whose second part is written, be it empty, is told from one
-- without: the opcodes differ, the meaning doesn't.
pub data Sequence : Type 0 where
  Stop : Sequence
  Plain : (i : Instruction) (rest : Sequence) → Sequence
  InBlock : (t : Option ValueType) (body rest : Sequence) → Sequence
  InLoop : (t : Option ValueType) (body rest : Sequence) → Sequence
  InIf : (t : Option ValueType) (first rest : Sequence) → Sequence
  InIfElse : (t : Option ValueType) (first second rest : Sequence) → Sequence

-- the opcodes of a sequence
abbrev pub spelled : Sequence → List Instruction
spelled Stop = []
spelled (Plain i rest) = i ∷ spelled rest
spelled (InBlock t body rest) = instr.Block t ∷ (spelled body ++ (instr.End ∷ spelled rest))
spelled (InLoop t body rest) = instr.Loop t ∷ (spelled body ++ (instr.End ∷ spelled rest))
spelled (InIf t first rest) = instr.If t ∷ (spelled first ++ (instr.End ∷ spelled rest))
spelled (InIfElse t first second rest) =
    instr.If t ∷ (spelled first ++ (instr.Else ∷ (spelled second ++ (instr.End ∷ spelled rest))))

-- none of the opcodes that open, part or close a sequence
abbrev pub IsPlain : Instruction → Type 0
IsPlain (instr.Block t) = ⊥
IsPlain (instr.Loop t) = ⊥
IsPlain (instr.If t) = ⊥
IsPlain instr.Else = ⊥
IsPlain instr.End = ⊥
IsPlain _ = Unit {0}

-- what a sequence holds beside blocks, loops and ifs is plain
abbrev pub IsNested : Sequence → Type 0
IsNested Stop = Unit {0}
IsNested (Plain i rest) = IsPlain i × IsNested rest
IsNested (InBlock t body rest) = IsNested body × IsNested rest
IsNested (InLoop t body rest) = IsNested body × IsNested rest
IsNested (InIf t first rest) = IsNested first × IsNested rest
IsNested (InIfElse t first second rest) = IsNested first × IsNested second × IsNested rest

-- these opcodes are that sequence and the end that closes it
pub record Spells (opcodes : List Instruction) (s : Sequence) : Type 0 where
  pub is : opcodes ≡ spelled s ++ instr.End ∷ []
  pub nested : IsNested s
