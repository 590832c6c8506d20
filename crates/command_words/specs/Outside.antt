-- What a clock shows.
use Rattle.std.specs.Prelude.{ℕ, ⊤, Bool, Option, Some}
use Rattle.wasi_abi.specs.declared.answer.Answer.{Answer}
use Rattle.wasi_abi.specs.declared.answer.Answer.TheVariants as answer
use Rattle.command_words.specs.rules.Outside.{IsRealTime}

-- where the answer is a time, it is such a one
abbrev pub ShowsRealTime : (ℕ → Bool) → Option Answer → Type 0
ShowsRealTime gives (Some (answer.Realtime n)) = IsRealTime gives n
ShowsRealTime gives (Some (answer.Monotonic n)) = IsRealTime gives n
ShowsRealTime gives _ = ⊤
