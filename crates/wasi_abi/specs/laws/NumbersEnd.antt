-- Where the numbers of steps, lines and generations end.
use Rattle.std.specs.Prelude.{◌≡◌, ◌^◌}
use Rattle.wasi_abi.specs.declared.numbers.TheConstants.{NUMBERS_END}

pub record NumbersEndThere : Type 0 where
  pub numbers_end : NUMBERS_END ≡ 2 ^ 63
  pub in_digits : NUMBERS_END ≡ 9223372036854775808
