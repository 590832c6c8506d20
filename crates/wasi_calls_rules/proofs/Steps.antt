-- What holds of a rule's answer where there is one, step by step along its checks.
use Rattle.std.proofs.Common.{◌≡◌, ℕ, ◌+◌, ◌≤◌, length, refl}
use Rattle.std.specs.Prelude.{Bool, true, false, Result, Ok, Err, if◌then◌else◌, nat_le, Option}
use Rattle.std.specs.Prelude.{Some, None}
use Rattle.std.proofs.lemmas.Bool.{leb-true}
use Rattle.wasi_abi.specs.declared.errno.Errno.{Errno}
use Rattle.wasi_abi.specs.declared.errno.Errno.TheVariants.{Fault, Inval}
use Rattle.wasi_abi.specs.declared.answer.Question.{Question}
use Rattle.wasi_abi.specs.declared.answer.Answer.{Answer}
use Rattle.wasi_abi.specs.rules.Versions.{text_limit}
use Rattle.file_tree.specs.rules.Files.{Name}
use Rattle.wasi_calls_rules.specs.WasiStates.{WasiState}
use Rattle.wasi_calls_rules.specs.Checks.{Bytes, Halt, Refuses, Asks, ◌>>=◌, check_or, some_or}
use Rattle.wasi_calls_rules.specs.Checks.{in_memory, asked, does_fit, answered_by}
use Rattle.wasi_calls_rules.specs.Paths.{WalkEnd, Self, Leaf}
use Rattle.wasi_calls_rules.specs.Entries.{a_leaf}

-- where the answer is there, this holds of it
pub record HoldsAfter {A : Type 0} (P : A → Type 0) (r : Result A Halt) : Type 0 where
  pub holds : (x : A) → r ≡ Ok x → P x

pub refused : {A : Type 0} (P : A → Type 0) (halt : Halt) → HoldsAfter P (Err halt)
refused P halt = record { holds = λ x e. absurd (cc) }

pub done_with : {A : Type 0} (P : A → Type 0) (x : A) → P x → HoldsAfter P (Ok x)
done_with P x h = record { holds = λ y e. let same : x ≡ y = cc in rw same at h }

-- what holds of the first answer helps with the rest
pub step : {A B : Type 0} (P : A → Type 0) {R : B → Type 0} (r : Result A Halt) (go : A
    → Result B Halt)
    → HoldsAfter P r → ((x : A) → P x → HoldsAfter R (go x)) → HoldsAfter R (r >>= go)
step P (Ok x) go h f = f x (h.holds x refl)
step P {R = R} (Err halt) go h f = refused R halt

pub next : {A B : Type 0} {R : B → Type 0} (r : Result A Halt) (go : A → Result B Halt)
    → ((x : A) → HoldsAfter R (go x)) → HoldsAfter R (r >>= go)
next (Ok x) go f = f x
next {R = R} (Err halt) go f = refused R halt

-- the same, where the answer itself is known
pub next_is : {A B : Type 0} {R : B → Type 0} (r : Result A Halt) (go : A → Result B Halt)
    → ((x : A) → r ≡ Ok x → HoldsAfter R (go x)) → HoldsAfter R (r >>= go)
next_is (Ok x) go f = f x refl
next_is {R = R} (Err halt) go f = refused R halt

pub checked : (b : Bool) (e : Errno) → HoldsAfter (λ (_ : Unit {0}). b ≡ true) (check_or b e)
checked true e = done_with (λ (_ : Unit {0}). true ≡ true) tt refl
checked false e = record { holds = λ x h. absurd (cc) }

pub within : {B : Type 0} {R : B → Type 0} (m : Bytes) (from len : ℕ) (go : Unit {0}
    → Result B Halt)
    → (from + len ≤ length m → HoldsAfter R (go tt)) → HoldsAfter R (in_memory m from len >>= go)
within m from len go f =
    step (λ _. nat_le (from + len) (length m)
    ≡ true) (in_memory m from len) go (checked (nat_le (from + len) (length m)) Fault)
    (λ _ e. f (leb-true (from + len) (length m) e))

pub either_way : {B : Type 0} {R : B → Type 0} (b : Bool) (x y : Result B Halt) → HoldsAfter R x
    → HoldsAfter R y → HoldsAfter R (if b then x else y)
either_way true x y h k = h
either_way false x y h k = k

-- what a check that passes says
pub passed : (b : Bool) (e : Errno) (u : Unit {0}) → check_or b e ≡ Ok u → b ≡ true
passed true e u h = refl
passed false e u h = absurd (cc)

-- what is there where it has to be
pub some_there : {A : Type 0} (e : Errno) (o : Option A) (x : A) → some_or e o ≡ Ok x → o ≡ Some x
some_there e None x h = absurd (cc)
some_there e (Some y) x h = cc

-- either of two answers, knowing which
pub by_test : {B : Type 0} {R : B → Type 0} (b : Bool) (x y : Result B Halt)
    → (b ≡ true → HoldsAfter R x) → (b ≡ false → HoldsAfter R y) → HoldsAfter R (if b then x else y)
by_test true x y f g = f refl
by_test false x y f g = g refl

-- ---- where an answer from outside is wanted

asked_where : (P : Answer → Type 0) (k : Question) (a : Answer) (b : Bool) → (b ≡ true → P a)
    → HoldsAfter P (asked k (if b then Some a else None))
asked_where P k a true f = done_with P a (f refl)
asked_where P k a false f = refused P (Asks k)

pub answered : (P : Answer → Type 0) (h : WasiState) (k : Question) (given : Option Answer)
    → ((a : Answer) → given ≡ Some a → does_fit (text_limit h.version) k a ≡ true → P a)
    → HoldsAfter P (answered_by h k given)
answered P h k None f = refused P (Asks k)
answered P h k (Some a) f = asked_where P k a (does_fit (text_limit h.version) k a) (f a refl)

-- ---- where a name in a directory is wanted

pub leaf : {A : Type 0} {R : A → Type 0} (place : WalkEnd) (go : ℕ → Name → Result A Halt)
    → ((d : ℕ) (name : Name) → HoldsAfter R (go d name)) → HoldsAfter R (a_leaf place go)
leaf {R = R} (Self k) go f = refused R (Refuses Inval)
leaf (Leaf d name) go f = f d name
