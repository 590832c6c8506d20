-- Worked examples of a widening, under any configuration.
use Rattle.std.specs.Prelude.{◌≡◌, ℕ, ◌<◌, List, [], ◌∷◌, length, Some}
use Rattle.wasm_syntax.specs.laws.Examples.{hello, echo}
use Rattle.wasi_abi.specs.declared.answer.Answer.TheVariants as answer
use Rattle.wasi_abi.specs.rules.Answers.{IsRequestText}
use Rattle.wasi_abi.specs.rules.Configs.{Settings}
use Rattle.process_rules.specs.Processes.{ProcessState}
use Rattle.process_rules.specs.Runs.{Wider, widened, IsWanted, Reaches}
use Rattle.process_rules.specs.Behind.{AnswersBehindLine}
use Rattle.process_rules.specs.laws.Examples.{ComesTo, hello_end}

-- Widened after four steps, before it writes, `hello` goes on to the same end but for the widening:
-- version 2, and one answer taken. Its line is after that answer, and not after none: so it would
-- be if a front could run on past the widening that comes next. Widened after its end, it has
-- emitted its line before, and takes no step more.
pub record HelloIsWidened (config : Settings) : Type 0 where
  pub comes : ComesTo hello config (Wider 4 ∷ []) (widened (hello_end config))
  pub behind : AnswersBehindLine hello config (Wider 4 ∷ []) 1 1
  pub no_fewer : (a : ℕ) → AnswersBehindLine hello config (Wider 4 ∷ []) 1 a → a ≡ 1
  pub ended : ComesTo hello config (Wider 8 ∷ []) (widened (hello_end config))
  pub before : AnswersBehindLine hello config (Wider 8 ∷ []) 1 0

-- `echo` asks for a request after five steps. A text that is too long for version 1 is an answer
-- that it wants once it has been widened there. A widening that changed nothing would leave it
-- refused.
pub record EchoWantsMore (config : Settings) : Type 0 where
  pub asking : ProcessState
  pub reached : Reaches echo config [] 5 asking
  pub too_long : (text : List ℕ) → 4096 < length text
      → IsWanted reached.guest asking (Some (answer.Request text)) → ⊥
  pub wide : Reaches echo config (Wider 5 ∷ []) 5 (widened asking)
  pub wanted : (text : List ℕ) → IsRequestText 65536 text
      → IsWanted wide.guest (widened asking) (Some (answer.Request text))
