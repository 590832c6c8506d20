-- What is told of a call, and of which calls (this project's own).
use Rattle.std.specs.Prelude.{◌≡◌, ◌≢◌, ℕ, ◌<◌, ◌^◌, List, [], ◌∷◌, length, Option, Some, None}
use Rattle.std.specs.Prelude.{Result, Ok, Err, IsOk}
use Rattle.wasm_syntax.specs.declared.types.ValueType.{ValueType}
use Rattle.wasm_syntax.specs.declared.types.ValueType.TheVariants.{I32, I64}
use Rattle.guest_memory.specs.rules.Memories.{LinearMemory}
use Rattle.wasi_abi.specs.declared.answer.Answer.{Answer}
use Rattle.wasi_abi.specs.declared.answer.Question.{Question}
use Rattle.wasi_abi.specs.declared.call.Call.{Call}
use Rattle.wasi_calls_rules.specs.WasiStates.{WasiState}
use Rattle.wasi_calls_rules.specs.Checks.{Bytes, Done, Halt, Ruling, Refuses, Asks, Ends}
use Rattle.wasi_calls_rules.specs.CallRules.{call_rule, CallEnding, IsDone, IsRefused, IsAsk}
use Rattle.wasi_calls_rules.specs.CallRules.{IsExit, NoMemory}
use Rattle.wasi_calls.specs.declared.outcome.CallOutcome.{CallOutcome}
use Rattle.wasi_calls.specs.declared.outcome.CallOutcome.TheVariants as outcome
use Rattle.wasi_calls.specs.rules.Held.{HeldWasiState, ShowsWasiState}

-- one number a parameter, each of its type
abbrev pub AreArguments : List ValueType → List ℕ → Type 0
AreArguments [] [] = Unit {0}
AreArguments (I32 ∷ types) (n ∷ numbers) = (n < 2 ^ 32) × AreArguments types numbers
AreArguments (I64 ∷ types) (n ∷ numbers) = (n < 2 ^ 64) × AreArguments types numbers
AreArguments [] (n ∷ numbers) = ⊥
AreArguments (t ∷ types) [] = ⊥

-- what the code's answer to a call tells
abbrev pub ending_of_call : CallOutcome → CallEnding
ending_of_call outcome.Done = IsDone
ending_of_call (outcome.Refused e) = IsRefused e
ending_of_call (outcome.Ask question) = IsAsk question
ending_of_call (outcome.Exit code) = IsExit code
ending_of_call outcome.Memory = NoMemory

-- What a caller is told is what the call's rule says of a host that was shown before. After a call
-- that is done the host of the call's rule is shown. All other outcomes leave memory and host as
-- they were. Memory may be wanting for a call alone that its rule does.
abbrev pub ShowsCallRule : CallEnding → Bytes → HeldWasiState → Bytes → HeldWasiState
    → Ruling → Type 0
ShowsCallRule IsDone m held old_m old ruling = (done : Done) × (ruling ≡ Ok done)
    × (m ≡ done.memory) × ShowsWasiState held done.host
ShowsCallRule (IsRefused e) m held old_m old ruling = (ruling ≡ Err (Refuses e)) × (m ≡ old_m)
    × (held ≡ old)
ShowsCallRule (IsAsk question) m held old_m old ruling = (ruling ≡ Err (Asks question))
    × (m ≡ old_m) × (held ≡ old)
ShowsCallRule (IsExit code) m held old_m old ruling = (ruling ≡ Err (Ends code)) × (m ≡ old_m)
    × (held ≡ old)
ShowsCallRule NoMemory m held old_m old ruling = IsOk ruling × (m ≡ old_m) × (held ≡ old)

-- the answer from outside that a call's rule asks for
abbrev pub question_of : {A : Type 0} → Result A Halt → Option Question
question_of (Err (Asks question)) = Some question
question_of (Err (Refuses e)) = None
question_of (Err (Ends code)) = None
question_of (Ok x) = None

-- the call with these arguments doesn't end the process, whatever host, memory and answer it has
abbrev pub EndsNothing : Call → List ℕ → Type 0
EndsNothing call arguments = (given : Option Answer) (m : Bytes) (h : WasiState) (code : ℕ)
    → call_rule call arguments given m h ≢ Err (Ends code)

-- as long as it was, with the same limit
pub record IsAsLarge (old new : LinearMemory) : Type 0 where
  pub size : length new.bytes ≡ length old.bytes
  pub limit : new.limit ≡ old.limit
