-- Question after question to a source.
use Rattle.std.proofs.Common.{inl, inr, ◌≡◌, ℕ, ◌+◌, List, [], ◌∷◌, length, None, Some, Ok}
use Rattle.std.proofs.Common.{Err, refl, sym, ap, subst, ◌∙◌, arith, append-nil, length-append}
use Rattle.std.specs.Prelude.{Option}
use Rattle.std.specs.Option.{IsSomeAnd}
use Rattle.wasi_abi.specs.declared.answer.Answer.{Answer}
use Rattle.wasi_abi.specs.declared.answer.Answer.TheVariants as answer
use Rattle.wasi_abi.specs.declared.answer.Question.{Question}
use Rattle.wasi_abi.specs.declared.answer.Question.TheVariants as questions
use Rattle.wasi_abi.specs.rules.Answers.{Fits}
use Rattle.process_rules.specs.Runs.{Kept, Given}
use Rattle.record_replay.specs.declared.fault.SourceFault.{SourceFault}
use Rattle.command_words.specs.declared.lines.fault.LineFault.{LineFault}
use Rattle.command_words.specs.declared.lines.fault.LineFault.TheVariants as line
use Rattle.command_words.specs.rules.Outside.{ComesFrom, ComeFrom, request_in, requests_in}
use Rattle.command_words.specs.rules.Outside.{words_in, words_of}
use Rattle.command_words.specs.rules.Requests.{GiveUpTo, BeginsWithOther, BeginsWithNumber}
use Rattle.command_words.specs.Lines.Reads.{AreSome}
use Rattle.command_words.specs.Lines.Answers.{SourceState, HandsNext, HandsAnswer, TakesOther}
use Rattle.command_words.specs.Lines.Answers.{Finds, IsNext, MissesNext, IsRefusedFor, IsRefusedAt}
use Rattle.command_words.specs.Lines.Answers.{IsClockless, IsWordless, LeavesFault}
use Rattle.command_words.proofs.LineLemmas.Passing.{passed_nothing, up_to_on}

-- ---- one answer

-- From one state of a source to another an answer was handed over, to whichever question.
pub record HandsOver (s t : SourceState) (a : Answer) : Type 0 where
  pub counted : t.taken ≡ s.taken + length (request_in a)
  pub drawn : t.place ≡ s.place + words_in a
  pub comes : ComesFrom s.outside s.stream s.place a
  pub given : GiveUpTo s.limit s.taken s.unread (request_in a) (λ rest. t.unread ≡ Some rest)

-- the answer of a request line
next_hands : (s t : SourceState) (a : Answer) → t.place ≡ s.place
    → IsNext s.limit s.taken s.unread a t.taken t.unread → HandsOver s t a
next_hands s t a same next = by_answer a next next.fits
  where
    by_answer : (a : Answer) → IsNext s.limit s.taken s.unread a t.taken t.unread
        → Fits s.limit questions.Request a → HandsOver s t a
    by_answer (answer.Request text) next fits = record {
      counted = next.counted;
      drawn = let e = same in omega (arith, e);
      comes = tt;
      given = next.given;
    }
    by_answer answer.End next fits = record {
      counted = next.counted;
      drawn = let e = same in omega (arith, e);
      comes = tt;
      given = next.given;
    }
    by_answer (answer.Realtime n) next fits = absurd fits
    by_answer (answer.Monotonic n) next fits = absurd fits
    by_answer (answer.Random bytes) next fits = absurd fits

other_hands : (question : Question) (s t : SourceState) (a : Answer) → TakesOther question s a t
    → HandsOver s t a
other_hands question s t a other =
    let none : length (request_in a) ≡ 0 = ap length other.other in
    let taken = other.taken in
    record {
      counted = omega (arith, none, taken);
      drawn = other.place;
      comes = other.comes;
      given = subst (λ z. GiveUpTo s.limit s.taken s.unread z (λ rest. t.unread ≡ Some rest))
          (sym other.other)
          (subst (λ z. GiveUpTo s.limit s.taken s.unread [] (λ rest. z ≡ Some rest))
          (sym other.unread) (passed_nothing s.limit s.taken s.unread));
    }

pub finds_hands : (question : Question) (s t : SourceState) (a : Answer)
    → Finds question s (Some a) t → HandsOver s t a
finds_hands questions.Request s t a h = next_hands s t a h.0 h.1
finds_hands questions.Realtime s t a h = other_hands questions.Realtime s t a h
finds_hands questions.Monotonic s t a h = other_hands questions.Monotonic s t a h
finds_hands (questions.Random n) s t a h = other_hands (questions.Random n) s t a h

-- ---- answers

-- From one state of a source to another, with no fault, these answers were handed over.
pub record HasAnswered (s t : SourceState) (kept : List Kept) : Type 0 where
  pub unspoilt : t.fault ≡ None
  pub steady : t.failed ≡ s.failed
  pub same : t.outside ≡ s.outside
  pub same_limit : t.limit ≡ s.limit
  pub same_stream : t.stream ≡ s.stream
  pub counted : t.taken ≡ s.taken + length (requests_in kept)
  pub drawn : t.place ≡ s.place + words_of kept
  pub come : ComeFrom s.outside s.stream s.place kept
  pub given : GiveUpTo s.limit s.taken s.unread (requests_in kept) (λ rest. t.unread ≡ Some rest)

pub answered_nothing : (s : SourceState) → s.fault ≡ None → HasAnswered s s []
answered_nothing s none = record {
  unspoilt = none;
  steady = refl;
  same = refl;
  same_limit = refl;
  same_stream = refl;
  counted = omega arith;
  drawn = omega arith;
  come = tt;
  given = passed_nothing s.limit s.taken s.unread;
}

pub answered_first : (question : Question) (s t u : SourceState) (a : Answer) (more : List Kept)
    → HandsAnswer question s (Some a) t → HasAnswered t u more → HasAnswered s u (Given a ∷ more)
answered_first question s t u a more hands others =
    let one = finds_hands question s t a hands.finds in
    let count = one.counted in
    let counts = others.counted in
    let place = one.drawn in
    let places = others.drawn in
    let long = length-append (request_in a) (requests_in more) in
    record {
      unspoilt = others.unspoilt;
      steady = others.steady ∙ hands.steady;
      same = others.same ∙ hands.same;
      same_limit = others.same_limit ∙ hands.same_limit;
      same_stream = others.same_stream ∙ hands.same_stream;
      counted = omega (arith, count, counts, long);
      drawn = omega (arith, place, places);
      come = (
        one.comes,
        subst (λ o. ComeFrom o s.stream (s.place + words_in a) more) hands.same
            (subst (λ v. ComeFrom t.outside v (s.place + words_in a) more) hands.same_stream
            (subst (λ k. ComeFrom t.outside t.stream k more) place others.come)),
      );
      given = up_to_on s.limit s.taken s.unread t.unread (request_in a) (requests_in more)
          (λ rest. u.unread ≡ Some rest) one.given
          (subst (λ n. GiveUpTo s.limit n t.unread (requests_in more)
          (λ rest. u.unread ≡ Some rest)) count
          (subst (λ n. GiveUpTo n t.taken t.unread (requests_in more)
          (λ rest. u.unread ≡ Some rest)) hands.same_limit others.given));
    }

-- ---- behind them

module _ (s u t : SourceState) (kept : List Kept) (before : HasAnswered s u kept)
    (question : Question) where
  -- what the lines give after these answers
  behind : (P : List ℕ → Type 0) → GiveUpTo u.limit u.taken u.unread [] P
      → GiveUpTo s.limit s.taken s.unread (requests_in kept) P
  behind P back =
      subst (λ k. GiveUpTo s.limit s.taken s.unread k P) (append-nil (requests_in kept))
      (up_to_on s.limit s.taken s.unread u.unread (requests_in kept) [] P before.given
      (subst (λ n. GiveUpTo s.limit n u.unread [] P) before.counted
      (subst (λ n. GiveUpTo n u.taken u.unread [] P) before.same_limit back)))

  -- the lines have come to their end
  abbrev AreOver : Type 0
  AreOver = GiveUpTo u.limit u.taken u.unread [] (λ rest. (rest ≡ []) × (t.unread ≡ Some rest))

  -- none is left
  pub none_left : HandsNext question u (Ok None) t → (question ≡ questions.Request)
      × (t.failed ≡ s.failed) × GiveUpTo s.limit s.taken s.unread (requests_in kept)
      (λ rest. rest ≡ [])
  none_left hands =
      let found = of_request question hands.finds in (
        found.0,
        hands.steady ∙ before.steady,
        behind (λ rest. rest ≡ []) (ends u.limit u.taken u.unread t.unread found.1),
      )
    where
      of_request : (question : Question) → Finds question u None t
          → (question ≡ questions.Request) × AreOver
      of_request questions.Request found = (refl, found.1.1)
      of_request questions.Realtime found = absurd found
      of_request questions.Monotonic found = absurd found
      of_request (questions.Random n) found = absurd found

      ends : (limit n : ℕ) (old new : Option (List ℕ))
          → GiveUpTo limit n old [] (λ rest. (rest ≡ []) × (new ≡ Some rest))
          → GiveUpTo limit n old [] (λ rest. rest ≡ [])
      ends limit n None new h = tt
      ends limit n (Some bytes) new h = (h.0, h.1, h.2.0)

  -- what holds of the lines by how long a text may be
  behind_so : (P : ℕ → List ℕ → Type 0) → GiveUpTo u.limit u.taken u.unread [] (P u.limit)
      → GiveUpTo s.limit s.taken s.unread (requests_in kept) (P s.limit)
  behind_so P back =
      subst (λ n. GiveUpTo s.limit s.taken s.unread (requests_in kept) (P n)) before.same_limit
      (behind (P u.limit) back)

  misses_behind : (why : LineFault) → MissesNext u.limit u.taken u.unread [] u.failed t.failed
      why → MissesNext s.limit s.taken s.unread (requests_in kept) s.failed t.failed why
  misses_behind (line.Number given wanted) h =
      let count = before.counted in
      let is = h.0 in (
        omega (arith, count, is),
        h.1,
        behind_so (λ n. BeginsWithNumber n given) h.2,
        h.3 ∙ before.steady,
      )
  misses_behind line.Form h = (behind_so BeginsWithOther h.0, h.1 ∙ before.steady)
  misses_behind line.Read h = h
  misses_behind line.Memory (inl h) = inl h
  misses_behind line.Memory (inr h) = inr (behind AreSome h.0, h.1 ∙ before.steady)
  misses_behind line.Clock h = absurd h
  misses_behind line.Words h = absurd h

  -- the words after those that were taken
  wordless_behind : (n : ℕ) (why : LineFault) → IsWordless u.place n why
      → IsWordless (s.place + words_of kept) n why
  wordless_behind n why h = subst (λ k. IsWordless k n why) before.drawn h

  clockless_behind : (why : LineFault) → IsClockless u.outside why → IsClockless s.outside why
  clockless_behind why h = subst (λ o. IsClockless o why) before.same h

  -- why a question after them is refused
  abbrev IsRefused : Question → LineFault → Type 0
  IsRefused k why =
      IsRefusedFor k s (s.place + words_of kept) (requests_in kept) t.failed why

  refused_behind : (k : Question) (why : LineFault) → IsRefusedAt k u t.failed why → IsRefused k why
  refused_behind questions.Request why h = misses_behind why h
  refused_behind questions.Realtime why h = (clockless_behind why h.0, h.1 ∙ before.steady)
  refused_behind questions.Monotonic why h = (clockless_behind why h.0, h.1 ∙ before.steady)
  refused_behind (questions.Random n) why h = (wordless_behind n why h.0, h.1 ∙ before.steady)

  kept_by : (e : SourceFault) → HandsNext question u (Err e) t → LeavesFault question u t None
  kept_by e h = subst (LeavesFault question u t) before.unspoilt h.5

  pub refused_for : (e : SourceFault) (why : LineFault) → t.fault ≡ Some why
      → HandsNext question u (Err e) t → IsRefused question why
  refused_for e why is h = refused_behind question why (kept_at t.fault is (kept_by e h))
    where
      kept_at : (kept_fault : Option LineFault) → kept_fault ≡ Some why
          → IsSomeAnd kept_fault (IsRefusedAt question u t.failed)
          → IsRefusedAt question u t.failed why
      kept_at kept_fault is h = let here : IsSomeAnd (Some why) (IsRefusedAt question u t.failed) =
          subst (λ f. IsSomeAnd f (IsRefusedAt question u t.failed)) is h in here

  -- a refusal leaves a fault
  pub refused_so : (e : SourceFault) → t.fault ≡ None → HandsNext question u (Err e) t → ⊥
  refused_so e none h = gone t.fault none (kept_by e h)
    where
      gone : (kept_fault : Option LineFault) → kept_fault ≡ None
          → IsSomeAnd kept_fault (IsRefusedAt question u t.failed) → ⊥
      gone kept_fault is h = let here : IsSomeAnd None (IsRefusedAt question u t.failed) =
          subst (λ f. IsSomeAnd f (IsRefusedAt question u t.failed)) is h in here
