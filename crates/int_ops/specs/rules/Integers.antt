-- Integer arithmetic (Core Specification 1.0, section 4.3.2). An integer of width w, which is w32
-- or w64, is a number below 2 ^ N, where N is `bits w`. Read with a sign it is `cast_signed w a`: a
-- itself below 2 ^ (N - 1), else a - 2 ^ N. `cast_unsigned w` leads back, z + 2 ^ N where z is
-- negative.
use Rattle.std.specs.Prelude.{ℕ, ◌+◌, ◌-◌, ◌*◌, ◌/◌, ◌%◌, ◌^◌, Bool, true, false, not, ◌==◌, ◌&&◌}
use Rattle.std.specs.Prelude.{nat_lt, nat_le, if◌then◌else◌, Result, Ok, Err, pos, bit_and, bit_or}
use Rattle.std.specs.Prelude.{bit_xor, int_div, int_rem, int_lt, int_le, count_ones}
use mir.Val.{bits, hbits}
use Rattle.std.specs.Int.{Width, w8, w16, w32, w64, cast_signed, cast_unsigned, int_div_euclid}
use Rattle.std.specs.Int.{leading_zeros, trailing_zeros}
use Rattle.wasm_syntax.specs.declared.value.Trap.{Trap}
use Rattle.wasm_syntax.specs.declared.value.Trap.TheVariants.{DivideByZero, IntegerOverflow}
use Rattle.wasm_syntax.specs.declared.operator.UnaryOperator.{UnaryOperator}
use Rattle.wasm_syntax.specs.declared.operator.UnaryOperator.TheVariants.{Clz, Ctz, Popcnt}
use Rattle.wasm_syntax.specs.declared.operator.BinaryOperator.{BinaryOperator}
use Rattle.wasm_syntax.specs.declared.operator.BinaryOperator.TheVariants.{Add, Sub, Mul, DivS}
use Rattle.wasm_syntax.specs.declared.operator.BinaryOperator.TheVariants.{DivU, RemS, RemU, And}
use Rattle.wasm_syntax.specs.declared.operator.BinaryOperator.TheVariants.{Or, Xor, Shl, ShrS, ShrU}
use Rattle.wasm_syntax.specs.declared.operator.BinaryOperator.TheVariants.{Rotl, Rotr}
use Rattle.wasm_syntax.specs.declared.operator.Comparison.{Comparison}
use Rattle.wasm_syntax.specs.declared.operator.Comparison.TheVariants.{Eq, Ne, LtS, LtU, GtS, GtU}
use Rattle.wasm_syntax.specs.declared.operator.Comparison.TheVariants.{LeS, LeU, GeS, GeU}
use Rattle.wasm_syntax.specs.declared.operator.Conversion.{Conversion}
use Rattle.wasm_syntax.specs.declared.operator.Conversion.TheVariants.{I32WrapI64, I64ExtendI32S}
use Rattle.wasm_syntax.specs.declared.operator.Conversion.TheVariants.{I64ExtendI32U, I32Extend8S}
use Rattle.wasm_syntax.specs.declared.operator.Conversion.TheVariants.{I32Extend16S, I64Extend8S}
use Rattle.wasm_syntax.specs.declared.operator.Conversion.TheVariants.{I64Extend16S, I64Extend32S}

-- how many bits above the highest 1, below the lowest 1, or that are 1. Without any 1 the first two
-- count all bits
abbrev pub unary_of : Width → UnaryOperator → ℕ → ℕ
unary_of w Clz a = leading_zeros w a
unary_of w Ctz a = trailing_zeros w a
unary_of w Popcnt a = count_ones a

-- quotients are cut toward zero, and a remainder has the dividend's sign
abbrev pub signed_quotient : Width → ℕ → ℕ → Result ℕ Trap
signed_quotient w a b =
    if b == 0 then Err DivideByZero
    else if (a == 2 ^ hbits w) && (b == 2 ^ bits w - 1) then Err IntegerOverflow
    else Ok (cast_unsigned w (int_div (cast_signed w a) (cast_signed w b)))

-- `rem_s`: the remainder with the sign of the dividend; a trap where the divisor is 0
abbrev pub signed_remainder : Width → ℕ → ℕ → Result ℕ Trap
signed_remainder w a b =
    if b == 0 then Err DivideByZero
    else Ok (cast_unsigned w (int_rem (cast_signed w a) (cast_signed w b)))

-- What leaves at one end comes in at the other.
abbrev pub rotated_left : Width → ℕ → ℕ → ℕ
rotated_left w a k = (a * 2 ^ k) % 2 ^ bits w + a / 2 ^ (bits w - k)

-- `rotr`: the bits moved down by k, the lowest k put on top
abbrev pub rotated_right : Width → ℕ → ℕ → ℕ
rotated_right w a k = a / 2 ^ k + (a * 2 ^ (bits w - k)) % 2 ^ bits w

-- Arithmetic wraps modulo 2 ^ N, and shifts count modulo N. A signed shift to the right is the
-- quotient cut downward.
abbrev pub binary_of : Width → BinaryOperator → ℕ → ℕ → Result ℕ Trap
binary_of w Add a b = Ok ((a + b) % 2 ^ bits w)
binary_of w Sub a b = Ok ((a + (2 ^ bits w - b)) % 2 ^ bits w)
binary_of w Mul a b = Ok ((a * b) % 2 ^ bits w)
binary_of w DivS a b = signed_quotient w a b
binary_of w DivU a b = if b == 0 then Err DivideByZero else Ok (a / b)
binary_of w RemS a b = signed_remainder w a b
binary_of w RemU a b = if b == 0 then Err DivideByZero else Ok (a % b)
binary_of w And a b = Ok (bit_and a b)
binary_of w Or a b = Ok (bit_or a b)
binary_of w Xor a b = Ok (bit_xor a b)
binary_of w Shl a b = Ok ((a * 2 ^ (b % bits w)) % 2 ^ bits w)
binary_of w ShrS a b =
    Ok (cast_unsigned w (int_div_euclid (cast_signed w a) (pos (2 ^ (b % bits w)))))
binary_of w ShrU a b = Ok (a / 2 ^ (b % bits w))
binary_of w Rotl a b = Ok (rotated_left w a (b % bits w))
binary_of w Rotr a b = Ok (rotated_right w a (b % bits w))

-- the answer of a test as an integer
abbrev pub truth : Bool → ℕ
truth true = 1
truth false = 0

-- the comparisons
abbrev pub compare_of : Width → Comparison → ℕ → ℕ → Bool
compare_of w Eq a b = a == b
compare_of w Ne a b = not (a == b)
compare_of w LtS a b = int_lt (cast_signed w a) (cast_signed w b)
compare_of w LtU a b = nat_lt a b
compare_of w GtS a b = int_lt (cast_signed w b) (cast_signed w a)
compare_of w GtU a b = nat_lt b a
compare_of w LeS a b = int_le (cast_signed w a) (cast_signed w b)
compare_of w LeU a b = nat_le a b
compare_of w GeS a b = int_le (cast_signed w b) (cast_signed w a)
compare_of w GeU a b = nat_le b a

-- an integer of one width, read with a sign, at another width
abbrev pub sign_extended : Width → Width → ℕ → ℕ
sign_extended from to a = cast_unsigned to (cast_signed from a)

-- The conversions. The last five extend the low bits of a number, read with their sign.
abbrev pub convert_of : Conversion → ℕ → ℕ
convert_of I32WrapI64 a = a % 2 ^ 32
convert_of I64ExtendI32S a = sign_extended w32 w64 a
convert_of I64ExtendI32U a = a
convert_of I32Extend8S a = sign_extended w8 w32 (a % 2 ^ 8)
convert_of I32Extend16S a = sign_extended w16 w32 (a % 2 ^ 16)
convert_of I64Extend8S a = sign_extended w8 w64 (a % 2 ^ 8)
convert_of I64Extend16S a = sign_extended w16 w64 (a % 2 ^ 16)
convert_of I64Extend32S a = sign_extended w32 w64 (a % 2 ^ 32)

-- the widths that a conversion leads from and to
abbrev pub converted_from : Conversion → Width
converted_from I32WrapI64 = w64
converted_from I64ExtendI32S = w32
converted_from I64ExtendI32U = w32
converted_from I32Extend8S = w32
converted_from I32Extend16S = w32
converted_from I64Extend8S = w64
converted_from I64Extend16S = w64
converted_from I64Extend32S = w64

-- the width that a conversion gives
abbrev pub converted_to : Conversion → Width
converted_to I32WrapI64 = w32
converted_to I64ExtendI32S = w64
converted_to I64ExtendI32U = w64
converted_to I32Extend8S = w32
converted_to I32Extend16S = w32
converted_to I64Extend8S = w64
converted_to I64Extend16S = w64
converted_to I64Extend32S = w64
