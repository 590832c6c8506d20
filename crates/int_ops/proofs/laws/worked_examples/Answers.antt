use Rattle.std.proofs.Common.{◌≡◌, refl, ◌∙◌, arith}
use Rattle.std.specs.Int.{w32, w64}
use Rattle.std.specs.Int.Count.{ones, ones_in, count_leading_zeros, count_trailing_zeros}
use Rattle.std.proofs.lemmas.Nat.{ones_cat}
use Rattle.wasm_syntax.specs.declared.operator.UnaryOperator.TheVariants.{Clz, Ctz}
use Rattle.int_ops.specs.rules.Integers.{unary_of}
use Rattle.int_ops.proofs.laws.worked_examples.Goals as goal

clz : unary_of w32 Clz 0 ≡ 32
unfolding count_leading_zeros
clz = refl

ctz : unary_of w64 Ctz 0 ≡ 64
unfolding count_trailing_zeros
ctz = refl

-- `ones` counts only a small number by computing: the large one goes by its parts
ones_in_byte : ones 0xff ≡ 8
unfolding ones ones_in
ones_in_byte = refl

ones_in_none : ones 0 ≡ 0
unfolding ones ones_in
ones_in_none = refl

ones_in_half : ones 0xff00 ≡ 8
ones_in_half = ones_cat 8 0xff 0 (omega arith) ∙ rw (ones_in_byte, ones_in_none)

popcnt : ones 0xff00ff00 ≡ 16
popcnt = ones_cat 16 0xff00 0xff00 (omega arith) ∙ rw ones_in_half

pub returns : goal.returns
returns c = record {
  clz_of_zero = clz;
  ctz_of_zero = ctz;
  popcnt = popcnt;
  shl_counts_modulo_32 = refl;
  shr_s_keeps_the_sign = refl;
  rotr = refl;
  div_s_is_cut_toward_zero = refl;
  rem_s_has_the_dividends_sign = refl;
  div_s_overflows = refl;
  rem_s_does_not = refl;
  div_u_by_zero = refl;
  lt_s = refl;
  lt_u = refl;
  wrap = refl;
  extend_s = refl;
  extend_u = refl;
  extend_8_keeps_the_sign = refl;
  extend_8_without_one = refl;
  extend_16 = refl;
  extend_16_to_64 = refl;
  extend_32 = refl;
}
