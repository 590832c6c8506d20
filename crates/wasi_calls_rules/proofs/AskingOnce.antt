-- A call that wants an answer wants none once it has one that fits.
use Rattle.std.proofs.Common.{◌≡◌, ◌≢◌, ℕ, List, [], ◌∷◌, sym, ap, subst}
use Rattle.std.specs.Prelude.{Bool, true, false, if◌then◌else◌, Option, Some, None, Result, Ok, Err}
use Rattle.wasi_abi.specs.declared.errno.Errno.{Errno}
use Rattle.wasi_abi.specs.declared.answer.Question.{Question}
use Rattle.wasi_abi.specs.declared.answer.Answer.{Answer}
use Rattle.wasi_abi.specs.declared.call.Call.TheVariants as call
use Rattle.wasi_abi.specs.rules.Answers.{Fits}
use Rattle.wasi_abi.specs.rules.Versions.{text_limit}
use Rattle.wasi_calls_rules.specs.WasiStates.{Target, Stream, Node, Descriptor, WasiState}
use Rattle.wasi_calls_rules.specs.Checks.{Bytes, Buffer, Halt, Refuses, Asks, Ends, ◌>>=◌, check_or}
use Rattle.wasi_calls_rules.specs.Checks.{some_or, buffers, asked, does_fit, answered_by}
use Rattle.wasi_calls_rules.specs.Small.{time_put, clock_time_get, random_put, random_get}
use Rattle.wasi_calls_rules.specs.Moving.{input_taken, input_read, target_read, fd_read}
use Rattle.wasi_calls_rules.specs.laws.Laws.{CallRulesAskOnce}
use Rattle.wasi_calls_rules.proofs.Fitting.{tests_tell}
use Rattle.wasi_calls_rules.proofs.Halting.{HaltsBy, done, buffers_halt, time_put_halts}
use Rattle.wasi_calls_rules.proofs.Halting.{random_put_halts, input_taken_halts, few_call_rules_ask}

abbrev IsRefusal : Halt → Type 0
IsRefusal (Refuses e) = Unit {0}
IsRefusal (Asks k) = ⊥
IsRefusal (Ends code) = ⊥

refusals : (e : Errno) → IsRefusal (Refuses e)
refusals e = tt

only_done : {A : Type 0} (x : A) → HaltsBy IsRefusal (Ok x)
only_done x = done IsRefusal refusals x

module _ (h : WasiState) (a : Answer) where
  -- Without an answer, and with this one: where the first asks for one that this fits, the second
  -- asks for none.
  record AsksOnce {A : Type 0} (without with_it : Result A Halt) : Type 0 where
    pub once : (k other : Question) → without ≡ Err (Asks k) → Fits (text_limit h.version) k a
        → with_it ≢ Err (Asks other)

  -- one that only refuses asks for nothing
  refuses_alone : {A : Type 0} (r s : Result A Halt) → HaltsBy IsRefusal r → AsksOnce r s
  refuses_alone r s only = record { once = λ k other e fits. absurd (only.halts (Asks k) e) }

  check_once : {A : Type 0} (b : Bool) (e : Errno) (go went : Unit {0} → Result A Halt)
      → AsksOnce (go tt) (went tt) → AsksOnce (check_or b e >>= go) (check_or b e >>= went)
  check_once true e go went once = once
  check_once false e go went once = record { once = λ k other e fits. absurd (cc) }

  found_once : {A B : Type 0} (e : Errno) (o : Option A) (go went : A → Result B Halt)
      → ((x : A) → AsksOnce (go x) (went x)) → AsksOnce (some_or e o >>= go) (some_or e o >>= went)
  found_once e None go went once = record { once = λ k other e fits. absurd (cc) }
  found_once e (Some x) go went once = once x

  same_once : {A B : Type 0} (r : Result A Halt) (go went : A → Result B Halt) → HaltsBy IsRefusal r
      → ((x : A) → AsksOnce (go x) (went x)) → AsksOnce (r >>= go) (r >>= went)
  same_once (Ok x) go went only once = once x
  same_once (Err halt) go went only once =
      record {
        once = λ k other e fits. absurd
            (only.halts (Asks k) (let is : halt ≡ Asks k = cc in ap (λ z. Err z) is));
      }

  either_once : {A : Type 0} (b : Bool) (x y s t : Result A Halt) → AsksOnce x s → AsksOnce y t
      → AsksOnce (if b then x else y) (if b then s else t)
  either_once true x y s t p q = p
  either_once false x y s t p q = q

  -- what follows asks for nothing
  then_once : {A B : Type 0} (r s : Result A Halt) (go : A → Result B Halt) → AsksOnce r s
      → ((x : A) → HaltsBy IsRefusal (go x)) → AsksOnce (r >>= go) (s >>= go)
  then_once (Ok x) s go once only = refuses_alone (go x) (s >>= go) (only x)
  then_once (Err why) (Ok y) go once only =
      record { once = λ k other e fits f. (only y).halts (Asks other) f }
  then_once (Err why) (Err halt) go once only = record {
    once = λ k other e fits f.
        let is : why ≡ Asks k = cc in
        let was : halt ≡ Asks other = cc in
        once.once k other (ap (λ z. Err z) is) fits (ap (λ z. Err z) was);
  }

  tested : (k : Question) (b : Bool) → (Fits (text_limit h.version) k a → b ≡ true)
      → (other : Question) → Fits (text_limit h.version) k a → asked k (if b then Some a else None)
      ≢ Err (Asks other)
  tested k true fit other fits e = absurd (cc)
  tested k false fit other fits e = let t = fit fits in absurd (cc)

  answered_once : (k : Question) → AsksOnce (answered_by h k None) (answered_by h k (Some a))
  answered_once k = record {
    once = λ question other e fits.
        let is : k ≡ question = cc in
        let P : Question → Type 0 = λ z. Fits (text_limit h.version) z a in
        tested k (does_fit (text_limit h.version) k a) (λ f.
        (tests_tell (text_limit h.version) k a).1 f) other (subst P (sym is) fits);
  }

  module _ (m : Bytes) where
    clock_once : (id ret : ℕ) → AsksOnce (clock_time_get id ret None m h)
        (clock_time_get id ret (Some a) m h)
    clock_once id ret = search (check_once, then_once, answered_once, put_only) depth 12
      where
        put_only : (x : Answer) → HaltsBy IsRefusal (time_put x ret m h)
        put_only x = time_put_halts IsRefusal refusals m h x ret

    random_once : (buf len : ℕ) → AsksOnce (random_get buf len None m h)
        (random_get buf len (Some a) m h)
    random_once buf len =
        search (
          check_once,
          either_once,
          refuses_alone,
          only_done,
          then_once,
          answered_once,
          put_only,
        ) depth 12
      where
        put_only : (x : Answer) → HaltsBy IsRefusal (random_put x buf m h)
        put_only x = random_put_halts IsRefusal refusals m h x buf

    input_once : (n : ℕ) → AsksOnce (input_read n None h) (input_read n (Some a) h)
    input_once n =
        search (either_once, refuses_alone, only_done, then_once, answered_once, taken_only)
        depth 12
      where
        taken_only : (x : Answer) → HaltsBy IsRefusal (input_taken n x h)
        taken_only x = input_taken_halts IsRefusal refusals m h n x

    target_once : (t : Target) (fd : ℕ) (d : Descriptor) (n : ℕ)
        → AsksOnce (target_read t fd d n None h) (target_read t fd d n (Some a) h)
    target_once (Stream s) fd d n = input_once n
    target_once (Node k) fd d n = refuses_alone _ _ (done IsRefusal refusals _)

    buffers_once : {A : Type 0} (iovs count : ℕ) (go went : List Buffer → Result A Halt)
        → ((bs : List Buffer) → AsksOnce (go bs) (went bs)) → AsksOnce (buffers m iovs count >>= go)
        (buffers m iovs count >>= went)
    buffers_once iovs count go went once =
        same_once (buffers m iovs count) go went (buffers_halt IsRefusal refusals m iovs count) once

    read_once : (fd iovs count ret : ℕ) → AsksOnce (fd_read fd iovs count ret None m h)
        (fd_read fd iovs count ret (Some a) m h)
    read_once fd iovs count ret =
        search (found_once, check_once, buffers_once, then_once, target_once, only_done) depth 14

-- ---- all calls

pub call_rules_ask_once : CallRulesAskOnce
call_rules_ask_once call.ClockTimeGet (id ∷ precision ∷ ret ∷ []) m h k other a e fits =
    (clock_once h a m id ret).once k other e fits
call_rules_ask_once call.ClockTimeGet [] m h k other a e fits = absurd (cc)
call_rules_ask_once call.ClockTimeGet (x ∷ []) m h k other a e fits = absurd (cc)
call_rules_ask_once call.ClockTimeGet (x ∷ y ∷ []) m h k other a e fits = absurd (cc)
call_rules_ask_once call.ClockTimeGet (x ∷ y ∷ z ∷ w ∷ more) m h k other a e fits = absurd (cc)
call_rules_ask_once call.FdRead (fd ∷ iovs ∷ count ∷ ret ∷ []) m h k other a e fits =
    (read_once h a m fd iovs count ret).once k other e fits
call_rules_ask_once call.RandomGet (buf ∷ len ∷ []) m h k other a e fits =
    (random_once h a m buf len).once k other e fits
call_rules_ask_once call.RandomGet [] m h k other a e fits = absurd (cc)
call_rules_ask_once call.RandomGet (x ∷ []) m h k other a e fits = absurd (cc)
call_rules_ask_once call.RandomGet (x ∷ y ∷ z ∷ more) m h k other a e fits = absurd (cc)
call_rules_ask_once call.FdRead _ m h k other a e fits = absurd (cc)
call_rules_ask_once c arguments m h k other a e fits = absurd
    (few_call_rules_ask c arguments None m h k e)
