-- What the operators give is an integer of its width.
use Rattle.std.proofs.Common.{◌≡◌, ℕ, zero, suc, ◌-◌, ◌/◌, ◌%◌, ◌^◌, ◌<◌, ◌≤◌, Bool, true, false}
use Rattle.std.proofs.Common.{not, ◌==◌, ◌&&◌, if◌then◌else◌, Result, Ok, Err, IfOk, ℤ, pos, refl}
use Rattle.std.proofs.Common.{arith, suc-le-suc}
use Rattle.std.specs.Prelude.{int_div, int_rem, unsigned_abs}
use Rattle.std.specs.Int.{Width, w8, w16, w32, w64, cast_signed, cast_unsigned, int_div_euclid}
use Rattle.std.proofs.Math.IntN.{negsuc, neg_ℤ}
use Rattle.std.proofs.Math.Nat.{mod-lt, mod-le, div-le_self, lt_of_le_of_lt, lt_of_lt_of_le}
use Rattle.std.proofs.Math.Pow.{pow-sub-lt, pow_mono}
use Rattle.std.proofs.Math.Dec.{T, ltb, ltb→lt, nltb→le}
use Rattle.std.proofs.lemmas.Nat.{pow_pos, leading_le, trailing_le, ones-le, and_le_l, or_lt}
use Rattle.std.proofs.lemmas.Nat.{xor_lt}
use Rattle.std.proofs.lemmas.Result.{IfOk-at_ok}
use mir.Val.{bits, hbits, sel}
use Rattle.wasm_syntax.specs.declared.value.Trap.{Trap}
use Rattle.wasm_syntax.specs.declared.value.Trap.TheVariants.{DivideByZero, IntegerOverflow}
use Rattle.wasm_syntax.specs.declared.operator.UnaryOperator.{UnaryOperator}
use Rattle.wasm_syntax.specs.declared.operator.UnaryOperator.TheVariants.{Clz, Ctz, Popcnt}
use Rattle.wasm_syntax.specs.declared.operator.BinaryOperator.{BinaryOperator}
use Rattle.wasm_syntax.specs.declared.operator.BinaryOperator.TheVariants.{DivS, DivU, RemS, RemU}
use Rattle.wasm_syntax.specs.declared.operator.BinaryOperator.TheVariants.{And, Or, Xor, ShrS, ShrU}
use Rattle.wasm_syntax.specs.declared.operator.BinaryOperator.TheVariants.{Rotl, Rotr}
use Rattle.wasm_syntax.specs.declared.operator.Conversion.{Conversion}
use Rattle.wasm_syntax.specs.declared.operator.Conversion.TheVariants.{I32WrapI64, I64ExtendI32S}
use Rattle.wasm_syntax.specs.declared.operator.Conversion.TheVariants.{I64ExtendI32U, I32Extend8S}
use Rattle.wasm_syntax.specs.declared.operator.Conversion.TheVariants.{I32Extend16S, I64Extend8S}
use Rattle.wasm_syntax.specs.declared.operator.Conversion.TheVariants.{I64Extend16S, I64Extend32S}
use Rattle.int_ops.specs.rules.Integers.{unary_of, binary_of, signed_quotient, truth, sign_extended}
use Rattle.int_ops.specs.rules.Integers.{convert_of, converted_from, converted_to, rotated_left}
use Rattle.int_ops.specs.rules.Integers.{rotated_right}
use Rattle.int_ops.proofs.Rotations.{rotate_left_is, rotate_right_is}

pub truth_below : (b : Bool) → truth b < 2 ^ 32
truth_below true = omega arith
truth_below false = omega arith

-- a count of bits is a number of that many bits
bits_below : (w : Width) → bits w < 2 ^ bits w
bits_below w8 = omega arith
bits_below _ = omega arith

pub unary_below : (w : Width) (operator : UnaryOperator) (a : ℕ) → a < 2 ^ bits w
    → unary_of w operator a < 2 ^ bits w
unary_below w Clz a h = lt_of_le_of_lt (leading_le (bits w) a) (bits_below w)
unary_below w Ctz a h = lt_of_le_of_lt (trailing_le (bits w) a) (bits_below w)
unary_below w Popcnt a h = lt_of_le_of_lt (ones-le (bits w) a h) (bits_below w)

-- ---- signed numbers

cast_unsigned_below : (w : Width) (z : ℤ) → unsigned_abs z < 2 ^ bits w
    → cast_unsigned w z < 2 ^ bits w
cast_unsigned_below w (pos n) h = h
cast_unsigned_below w (negsuc n) h = pow-sub-lt (bits w) (omega arith)

unsigned_abs-neg : (n : ℕ) → unsigned_abs (neg_ℤ (pos n)) ≡ n
unsigned_abs-neg zero = refl
unsigned_abs-neg (suc n) = refl

unsigned_abs-div : (a b : ℤ) → unsigned_abs (int_div a b) ≤ unsigned_abs a
unsigned_abs-div (pos a) (pos b) = div-le_self a b
unsigned_abs-div (pos a) (negsuc b) = rw unsigned_abs-neg (div-le_self a (suc b))
unsigned_abs-div (negsuc a) (pos b) = rw unsigned_abs-neg (div-le_self (suc a) b)
unsigned_abs-div (negsuc a) (negsuc b) = div-le_self (suc a) (suc b)

unsigned_abs-rem : (a b : ℤ) → unsigned_abs (int_rem a b) ≤ unsigned_abs a
unsigned_abs-rem (pos a) b = mod-le a (unsigned_abs b)
unsigned_abs-rem (negsuc a) b = rw unsigned_abs-neg (mod-le (suc a) (unsigned_abs b))

unsigned_abs-div_euclid : (a : ℤ) (m : ℕ) → unsigned_abs (int_div_euclid a (pos m)) ≤ unsigned_abs a
unsigned_abs-div_euclid (pos a) m = div-le_self a m
unsigned_abs-div_euclid (negsuc a) m = suc-le-suc (div-le_self a m)

-- the two halves of the integers of a width
by_test : (P : ℤ → Type 0) (test : Bool) (x y : ℤ) → (T test → P x) → (T (not test) → P y)
    → P (sel test x y)
by_test P true x y holds fails = holds tt
by_test P false x y holds fails = fails tt

by_sign : (P : ℤ → Type 0) (w : Width) (a : ℕ) → (a < 2 ^ hbits w → P (pos a))
    → (2 ^ hbits w ≤ a → P (negsuc (2 ^ bits w - suc a))) → P (cast_signed w a)
by_sign P w a low high =
    by_test P (ltb a (2 ^ hbits w)) (pos a) (negsuc (2 ^ bits w - suc a)) (λ t.
    low (ltb→lt a (2 ^ hbits w) t)) (λ t. high (nltb→le a (2 ^ hbits w) t))

unsigned_abs-cast_signed : (w : Width) (a : ℕ) → a < 2 ^ bits w
    → unsigned_abs (cast_signed w a) < 2 ^ bits w
unsigned_abs-cast_signed w a h =
    by_sign (λ z. unsigned_abs z < 2 ^ bits w) w a (λ low. h) (λ high. omega (
      arith,
      pow_pos (hbits w),
    ))

-- whatever keeps a signed number or brings it nearer to 0 keeps it within its width
nearer_below : (w : Width) (a : ℕ) (z : ℤ) → a < 2 ^ bits w
    → unsigned_abs z ≤ unsigned_abs (cast_signed w a) → cast_unsigned w z < 2 ^ bits w
nearer_below w a z h nearer =
    cast_unsigned_below w z (lt_of_le_of_lt nearer (unsigned_abs-cast_signed w a h))

pub sign_extended_below : (from to : Width) (a : ℕ) → hbits from ≤ bits to
    → sign_extended from to a < 2 ^ bits to
sign_extended_below from to a wider =
    by_sign (λ z. cast_unsigned to z < 2 ^ bits to) from a (λ low.
    lt_of_lt_of_le low (pow_mono wider)) (λ high. pow-sub-lt (bits to) (omega arith))

-- ---- binary operators

rotated_left_below : (w : Width) (a k : ℕ) → a < 2 ^ bits w
    → rotated_left w a (k % bits w) < 2 ^ bits w
rotated_left_below w a k h =
    rw (← rotate_left_is w a k h) (or_lt (bits w) _ _ (mod-lt _ (pow_pos (bits w)))
    (lt_of_le_of_lt (div-le_self a _) h))

rotated_right_below : (w : Width) (a k : ℕ) → a < 2 ^ bits w
    → rotated_right w a (k % bits w) < 2 ^ bits w
rotated_right_below w a k h =
    rw (← rotate_right_is w a k h) (or_lt (bits w) _ _ (lt_of_le_of_lt (div-le_self a _) h)
    (mod-lt _ (pow_pos (bits w))))

module _ (w : Width) (a b : ℕ) (in_a : a < 2 ^ bits w) (in_b : b < 2 ^ bits w) where
  abbrev below : ℕ → Type 0
  below n = n < 2 ^ bits w

  abbrev x : ℤ
  x = cast_signed w a

  abbrev y : ℤ
  y = cast_signed w b

  unless : (test : Bool) (trap : Trap) (r : Result ℕ Trap) → IfOk r below
      → IfOk (if test then Err trap else r) below
  unless true trap r h = tt
  unless false trap r h = h

  signed_quotient_ok : IfOk (signed_quotient w a b) below
  signed_quotient_ok =
      let fits = nearer_below w a (int_div x y) in_a (unsigned_abs-div x y) in
      let quotient : Result ℕ Trap = Ok (cast_unsigned w (int_div x y)) in
      let overflows = (a == 2 ^ hbits w) && (b == 2 ^ bits w - 1) in
      unless (b == 0) DivideByZero (if overflows then Err IntegerOverflow
      else quotient) (unless overflows IntegerOverflow quotient fits)

  binary_ok : (operator : BinaryOperator) → IfOk (binary_of w operator a b) below
  binary_ok DivS = signed_quotient_ok
  binary_ok DivU = unless (b == 0) DivideByZero (Ok (a / b)) (lt_of_le_of_lt (div-le_self a b) in_a)
  binary_ok RemS =
      unless (b == 0) DivideByZero (Ok (cast_unsigned w (int_rem x y)))
      (nearer_below w a (int_rem x y) in_a (unsigned_abs-rem x y))
  binary_ok RemU = unless (b == 0) DivideByZero (Ok (a % b)) (lt_of_le_of_lt (mod-le a b) in_a)
  binary_ok And = lt_of_le_of_lt (and_le_l a b) in_a
  binary_ok Or = or_lt (bits w) a b in_a in_b
  binary_ok Xor = xor_lt (bits w) a b in_a in_b
  binary_ok ShrS = let by = 2 ^ (b % bits w) in
      nearer_below w a (int_div_euclid x (pos by)) in_a (unsigned_abs-div_euclid x by)
  binary_ok ShrU = lt_of_le_of_lt (div-le_self a _) in_a
  binary_ok Rotl = rotated_left_below w a b in_a
  binary_ok Rotr = rotated_right_below w a b in_a
  binary_ok _ = mod-lt _ (pow_pos (bits w))

pub binary_below : (w : Width) (operator : BinaryOperator) (a b n : ℕ) → a < 2 ^ bits w
    → b < 2 ^ bits w → binary_of w operator a b ≡ Ok n → n < 2 ^ bits w
binary_below w operator a b n in_a in_b ok =
    IfOk-at_ok (λ m. m < 2 ^ bits w) ok (binary_ok w a b in_a in_b operator)

pub convert_below : (operator : Conversion) (a : ℕ) → a < 2 ^ bits (converted_from operator)
    → convert_of operator a < 2 ^ bits (converted_to operator)
convert_below I32WrapI64 a h = mod-lt a (pow_pos 32)
convert_below I64ExtendI32S a h = sign_extended_below w32 w64 a (omega arith)
convert_below I64ExtendI32U a h = omega arith
convert_below I32Extend8S a h = sign_extended_below w8 w32 (a % 2 ^ 8) (omega arith)
convert_below I32Extend16S a h = sign_extended_below w16 w32 (a % 2 ^ 16) (omega arith)
convert_below I64Extend8S a h = sign_extended_below w8 w64 (a % 2 ^ 8) (omega arith)
convert_below I64Extend16S a h = sign_extended_below w16 w64 (a % 2 ^ 16) (omega arith)
convert_below I64Extend32S a h = sign_extended_below w32 w64 (a % 2 ^ 32) (omega arith)
