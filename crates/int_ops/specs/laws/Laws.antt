-- Laws of the definitions in `Integers`: what they give is an integer of its width, and they give
-- the values that the standard gives.
use Rattle.std.specs.Prelude.{◌≡◌, ℕ, ◌+◌, ◌-◌, ◌^◌, ◌<◌, ◌≤◌, Bool, true, false, Ok, Err}
use Rattle.std.specs.Int.{Width, w32, w64}
use mir.Val.{bits, hbits}
use Rattle.wasm_syntax.specs.declared.value.Trap.TheVariants.{DivideByZero, IntegerOverflow}
use Rattle.wasm_syntax.specs.declared.operator.UnaryOperator.{UnaryOperator}
use Rattle.wasm_syntax.specs.declared.operator.UnaryOperator.TheVariants.{Clz, Ctz, Popcnt}
use Rattle.wasm_syntax.specs.declared.operator.BinaryOperator.{BinaryOperator}
use Rattle.wasm_syntax.specs.declared.operator.BinaryOperator.TheVariants.{DivS, DivU, RemS, Shl}
use Rattle.wasm_syntax.specs.declared.operator.BinaryOperator.TheVariants.{ShrS, Rotr}
use Rattle.wasm_syntax.specs.declared.operator.Comparison.TheVariants.{LtS, LtU}
use Rattle.wasm_syntax.specs.declared.operator.Conversion.{Conversion}
use Rattle.wasm_syntax.specs.declared.operator.Conversion.TheVariants.{I32WrapI64, I64ExtendI32S}
use Rattle.wasm_syntax.specs.declared.operator.Conversion.TheVariants.{I64ExtendI32U, I32Extend8S}
use Rattle.wasm_syntax.specs.declared.operator.Conversion.TheVariants.{I32Extend16S, I64Extend8S}
use Rattle.wasm_syntax.specs.declared.operator.Conversion.TheVariants.{I64Extend16S, I64Extend32S}
use Rattle.int_ops.specs.rules.Integers.{unary_of, binary_of, compare_of, truth, sign_extended}
use Rattle.int_ops.specs.rules.Integers.{convert_of, converted_from, converted_to}

-- of integers of a width, an operator gives an integer of that width
abbrev pub UnaryFits : Type 0
UnaryFits = (w : Width) (operator : UnaryOperator) (a : ℕ) → a < 2 ^ bits w
    → unary_of w operator a < 2 ^ bits w

abbrev pub BinaryFits : Type 0
BinaryFits = (w : Width) (operator : BinaryOperator) (a b n : ℕ) → a < 2 ^ bits w → b < 2 ^ bits w
    → binary_of w operator a b ≡ Ok n → n < 2 ^ bits w

-- a truth value is an i32
abbrev pub TruthFits : Type 0
TruthFits = (b : Bool) → truth b < 2 ^ bits w32

abbrev pub ConversionFits : Type 0
ConversionFits = (operator : Conversion) (a : ℕ) → a < 2 ^ bits (converted_from operator)
    → convert_of operator a < 2 ^ bits (converted_to operator)

-- to a width with as many bits at least, beside the sign
abbrev pub ExtensionFits : Type 0
ExtensionFits = (from to : Width) (a : ℕ) → hbits from ≤ bits to
    → sign_extended from to a < 2 ^ bits to

-- the integer that is read with a sign as -k
abbrev pub minus : Width → ℕ → ℕ
minus w k = 2 ^ bits w - k

pub record IntegerExamples : Type 0 where
  pub clz_of_zero : unary_of w32 Clz 0 ≡ 32
  pub ctz_of_zero : unary_of w64 Ctz 0 ≡ 64
  pub popcnt : unary_of w32 Popcnt 0xff00ff00 ≡ 16
  pub shl_counts_modulo_32 : binary_of w32 Shl 1 33 ≡ Ok 2
  pub shr_s_keeps_the_sign : binary_of w64 ShrS (minus w64 1) 63 ≡ Ok (minus w64 1)
  pub rotr : binary_of w32 Rotr 0x80000001 1 ≡ Ok 0xc0000000
  pub div_s_is_cut_toward_zero : binary_of w32 DivS (minus w32 7) 2 ≡ Ok (minus w32 3)
  pub rem_s_has_the_dividends_sign : binary_of w32 RemS (minus w32 7) 2 ≡ Ok (minus w32 1)
  pub div_s_overflows : binary_of w32 DivS (minus w32 (2 ^ 31)) (minus w32 1) ≡ Err IntegerOverflow
  pub rem_s_does_not : binary_of w64 RemS (minus w64 (2 ^ 63)) (minus w64 1) ≡ Ok 0
  pub div_u_by_zero : binary_of w32 DivU 7 0 ≡ Err DivideByZero
  pub lt_s : compare_of w32 LtS 0xffffffff 0 ≡ true
  pub lt_u : compare_of w32 LtU 0xffffffff 0 ≡ false
  pub wrap : convert_of I32WrapI64 (2 ^ 32 + 5) ≡ 5
  pub extend_s : convert_of I64ExtendI32S 0x80000000 ≡ 0xffffffff80000000
  pub extend_u : convert_of I64ExtendI32U 0x80000000 ≡ 0x80000000
  pub extend_8_keeps_the_sign : convert_of I32Extend8S 0x180 ≡ minus w32 128
  pub extend_8_without_one : convert_of I64Extend8S 0xff7f ≡ 127
  pub extend_16 : convert_of I32Extend16S 0x18000 ≡ minus w32 32768
  pub extend_16_to_64 : convert_of I64Extend16S 0x8000 ≡ minus w64 32768
  pub extend_32 : convert_of I64Extend32S 0x180000000 ≡ minus w64 0x80000000
