-- The modules of the worked examples are valid.
use Rattle.std.proofs.Common.{◌≡◌, inl, ℕ, ◌==◌, true, false, get_or, codes, ap, List, [], ◌∷◌}
use Rattle.std.proofs.Common.{◌++◌, ◌<◌, ◌^◌, Some, refl, lit<, lit≤, arith}
use Rattle.std.specs.Prelude.{slice_get}
use Rattle.std.specs.List.{AllByRecursion}
use Rattle.wasm_syntax.specs.declared.types.ValueType.{ValueType}
use Rattle.wasm_syntax.specs.declared.types.ValueType.TheVariants.{I32}
use Rattle.wasm_syntax.specs.declared.types.FunctionType.{FunctionType}
use Rattle.wasm_syntax.specs.declared.value.Value.TheVariants as value
use Rattle.wasm_syntax.specs.declared.instruction.Instruction.{Instruction}
use Rattle.wasm_syntax.specs.declared.instruction.Instruction.TheVariants as instr
use Rattle.wasm_syntax.specs.rules.Sequence.{Sequence, Stop, Plain, Spells}
use Rattle.wasm_syntax.specs.laws.Examples.{hello, hello_body as hello_opcodes, idle_with_code}
use Rattle.wasm_syntax.specs.laws.Examples.{no_type, transfer_type, exit_type, one_page}
use Rattle.wasm_syntax.specs.laws.Examples.{exports_from}
use Rattle.wasm_rules.specs.laws.Examples.{hello_sequence, const_32}
use Rattle.wasm_rules.specs.Types.{takes_of, gives_of}
use Rattle.wasm_rules.specs.Typing.{Context, HasType, body_context}
use Rattle.wasm_rules.specs.Validity.{IsValid, IsMemoryTypeValid, HaveDistinctNames, module_context}

pub page_is_valid : AllByRecursion IsMemoryTypeValid (one_page ∷ [])
page_is_valid = ((lit≤ tt, tt), tt)

pub names_differ : (function : ℕ) → HaveDistinctNames (exports_from function)
names_differ function = (((λ e. absurd (begin_alike e)), tt), (tt, tt))
  where
    begin_alike : codes "_start" ≡ codes "memory" → ⊥
    begin_alike e = let alike : true ≡ false = ap (λ (name : List ℕ). get_or name 0 0 == 95) e in
        absurd (cc)

-- ---- types of sequences, from their ends to their beginnings

-- in this context, inside of these labels, from these operands to none
pub record IsTyped (c : Context) (labels : List (List ValueType)) (rest : Sequence)
    (operands : List ValueType) : Type 0 where
  pub is : HasType c labels rest operands []

pub stops : {c : Context} {labels : List (List ValueType)} → IsTyped c labels Stop []
stops = record { is = refl }

pub constant : {c : Context} {labels : List (List ValueType)} (x : ℕ) {rest : Sequence}
    {operands : List ValueType} → x < 2 ^ 32 → IsTyped c labels rest (I32 ∷ operands)
    → IsTyped c labels (Plain (const_32 x) rest) operands
constant x {operands = operands} small typed = record {
  is = ([], I32 ∷ [], operands, refl, (I32, small, refl, refl), typed.is);
}

pub drops : {c : Context} {labels : List (List ValueType)} {rest : Sequence}
    {operands : List ValueType} → IsTyped c labels rest operands
    → IsTyped c labels (Plain instr.Drop rest) (I32 ∷ operands)
drops {operands = operands} typed = record {
  is = (I32 ∷ [], [], operands, refl, (I32, refl, refl), typed.is);
}

-- a call of a function of this type, above no further operands
pub calls : {c : Context} {labels : List (List ValueType)} {x : ℕ} {rest : Sequence}
    (f : FunctionType) → slice_get c.functions x ≡ Some f
    → IsTyped c labels rest (gives_of f ++ [])
    → IsTyped c labels (Plain (instr.Call x) rest) (takes_of f ++ [])
calls f found typed =
    record { is = (takes_of f, gives_of f, [], refl, (f, found, refl, refl), typed.is) }

-- ---- hello

pub hello_spells : Spells hello_opcodes hello_sequence
hello_spells = record { is = refl; nested = omega arith }

abbrev pub functions : List FunctionType
functions = transfer_type ∷ exit_type ∷ no_type ∷ []

hello_typed : IsTyped (body_context (module_context hello functions) no_type []) ([] ∷ [])
    hello_sequence []
hello_typed =
    constant 1 (lit< tt) (constant 0 (lit< tt) (constant 1 (lit< tt) (constant 16 (lit< tt)
    (calls transfer_type refl (drops (constant 7 (lit< tt) (calls exit_type refl stops)))))))

pub hello_is_valid : IsValid hello
hello_is_valid = record {
  functions = functions;
  types = (lit≤ tt, (lit≤ tt, (lit≤ tt, tt)));
  function_types = (refl, (refl, (refl, tt)));
  bodies = ((no_type, hello_sequence, refl, hello_spells, hello_typed.is), tt);
  tables = tt;
  memories = page_is_valid;
  globals = tt;
  exports = (lit< tt, (lit< tt, tt));
  names = names_differ 2;
  start = tt;
  elements = tt;
  data_segments = ((lit< tt, inl (value.I32 0, lit< tt, refl), omega arith), tt);
  one_table = lit≤ tt;
  one_memory = lit≤ tt;
}

-- ---- a `_start` alone

pub alone_is_valid : (opcodes : List Instruction) (body : Sequence) → Spells opcodes body
    → HasType (body_context (module_context (idle_with_code [] opcodes) (no_type ∷ [])) no_type [])
    ([] ∷ []) body [] [] → IsValid (idle_with_code [] opcodes)
alone_is_valid opcodes body spells typed = record {
  functions = no_type ∷ [];
  types = (lit≤ tt, tt);
  function_types = (refl, tt);
  bodies = ((no_type, body, refl, spells, typed), tt);
  tables = tt;
  memories = page_is_valid;
  globals = tt;
  exports = (lit< tt, (lit< tt, tt));
  names = names_differ 0;
  start = tt;
  elements = tt;
  data_segments = tt;
  one_table = lit≤ tt;
  one_memory = lit≤ tt;
}
