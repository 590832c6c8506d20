-- What is asked for the time of a clock.
use Rattle.std.specs.Prelude.{ℕ, nat_le, Result, Ok}
use Rattle.wasi_abi.specs.declared.answer.Question.{Question}
use Rattle.wasi_abi.specs.declared.errno.Errno.TheVariants.{Inval}
use Rattle.wasi_calls_rules.specs.Checks.{Halt, check_or, ◌>>=◌}
use Rattle.wasi_calls_rules.specs.Small.{clock_question}

-- what it asks for, where the clock is there
abbrev pub question_asked : ℕ → Result Question Halt
question_asked clock = check_or (nat_le clock 1) Inval >>= λ _. Ok (clock_question clock)
