-- Clock 1 tells the last monotonic time.
use Rattle.std.proofs.Common.{◌≡◌, ℕ, refl}
use Rattle.std.specs.Prelude.{nat_le, true, Option}
use Rattle.guest_memory.specs.rules.Bytes.{with_part}
use Rattle.wasi_abi.specs.declared.answer.Answer.{Answer}
use Rattle.wasi_abi.specs.declared.answer.Answer.TheVariants as answer
use Rattle.wasi_abi.specs.declared.answer.Question.TheVariants as question
use Rattle.wasi_abi.specs.declared.errno.Errno.TheVariants.{Inval}
use Rattle.wasi_abi.specs.rules.Layouts.{u64_bytes}
use Rattle.wasi_abi.specs.rules.Versions.{text_limit}
use Rattle.wasi_calls_rules.specs.WasiStates.{WasiState}
use Rattle.wasi_calls_rules.specs.Checks.{Bytes, Done, check_or, in_memory, answered_by, does_fit}
use Rattle.wasi_calls_rules.specs.Small.{time_put, clock_time_get}
use Rattle.wasi_calls_rules.specs.laws.Laws.{LastTimesAreTold}
use Rattle.wasi_calls_rules.proofs.Steps.{HoldsAfter, next, step, answered, done_with}

abbrev TellsLast : ℕ → Bytes → Done → Type 0
TellsLast ret m done = done.memory ≡ with_part m ret (u64_bytes done.host.last_monotonic)

abbrev IsMonotonic : WasiState → Answer → Type 0
IsMonotonic h a = does_fit (text_limit h.version) question.Monotonic a ≡ true

time_told : (m : Bytes) (h : WasiState) (ret : ℕ) (a : Answer) → IsMonotonic h a
    → HoldsAfter (TellsLast ret m) (time_put a ret m h)
time_told m h ret (answer.Monotonic n) fits = done_with (TellsLast ret m) _ refl
time_told m h ret _ fits = absurd (cc)

clock_told : (m : Bytes) (h : WasiState) (ret : ℕ) (given : Option Answer)
    → HoldsAfter (TellsLast ret m) (clock_time_get 1 ret given m h)
clock_told m h ret given =
    next (check_or (nat_le 1 1) Inval) _ (λ _. next (in_memory m ret 8) _ (λ _.
    step (IsMonotonic h) (answered_by h question.Monotonic given) _
    (answered (IsMonotonic h) h question.Monotonic given (λ a is fits. fits))
    (λ a fits. time_told m h ret a fits)))

pub last_times_are_told : LastTimesAreTold
last_times_are_told precision ret given m h done e = (clock_told m h ret given).holds done e
