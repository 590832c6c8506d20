-- Calls that want no answer from outside.
use Rattle.std.proofs.Common.{◌≡◌, ◌≢◌, ℕ, List, None, refl, ap, ◌∙◌}
use Rattle.std.specs.Prelude.{Result, Ok, Err}
use Rattle.wasi_abi.specs.declared.answer.Question.{Question}
use Rattle.wasi_abi.specs.declared.call.Call.{Call}
use Rattle.wasi_abi.specs.declared.call.Call.TheVariants as call
use Rattle.wasi_calls_rules.specs.WasiStates.{Line, WasiState}
use Rattle.wasi_calls_rules.specs.Checks.{Bytes, Halt, Ruling, Asks, ◌>>=◌}
use Rattle.wasi_calls_rules.specs.CallRules.{call_rule}
use Rattle.wasi_calls_rules.specs.laws.Laws.{MayAsk}
use Rattle.wasi_calls_rules.proofs.Halting.{few_call_rules_ask}
use Rattle.wasi_calls.specs.rules.Held.{HeldWasiState, ShowsWasiState}
use Rattle.wasi_calls.specs.Held.{behind_lines_of_call_rule}
use Rattle.wasi_calls.specs.rules.Calls.{question_of}
use Rattle.wasi_calls.proofs.CallRulesInFront.{call_rule_behind}

no_question_in : (r : Ruling) → ((question : Question) → r ≢ Err (Asks question)) → None
    ≡ question_of r
no_question_in (Err (Asks question)) asks_not = absurd (asks_not question refl)
no_question_in _ asks_not = refl

-- a call that may ask for none
pub wants_none : (c : Call) → (MayAsk c → ⊥) → (arguments : List ℕ) (m : Bytes) (h : WasiState)
    → None ≡ question_of (call_rule c arguments None m h)
wants_none c may_not arguments m h =
    no_question_in (call_rule c arguments None m h)
    (λ question e. may_not (few_call_rules_ask c arguments None m h question e))

-- no call but these three may ask
pub few_may_ask : (c : Call) → (c ≡ call.ClockTimeGet → ⊥) → (c ≡ call.FdRead → ⊥)
    → (c ≡ call.RandomGet → ⊥) → MayAsk c → ⊥
few_may_ask call.ClockTimeGet no_clock no_read no_random may = no_clock refl
few_may_ask call.FdRead no_clock no_read no_random may = no_read refl
few_may_ask call.RandomGet no_clock no_read no_random may = no_random refl
few_may_ask _ no_clock no_read no_random may = may

-- what is after a step that gives something asks for nothing
pub question_after : {A B : Type 0} (r : Result A Halt) (go : A → B)
    → question_of (r >>= λ x. Ok (go x)) ≡ question_of r
question_after (Ok x) go = refl
question_after _ go = refl

-- with lines in front a call asks for the same
question_behind : (before : List Line) (r : Ruling) → question_of
    (behind_lines_of_call_rule before r) ≡ question_of r
question_behind before (Ok done) = refl
question_behind before _ = refl

pub question_shown : (c : Call) (arguments : List ℕ) (m : Bytes) (held : HeldWasiState)
    (h : WasiState) → ShowsWasiState held h
    → question_of (call_rule c arguments None m h) ≡ question_of
    (call_rule c arguments None m held.host)
question_shown c arguments m held h s =
    ap (λ (g : WasiState). question_of (call_rule c arguments None m g)) s.is
    ∙ ap (λ (r : Ruling). question_of r) (call_rule_behind s.before c arguments None m held.host)
    ∙ question_behind s.before (call_rule c arguments None m held.host)
