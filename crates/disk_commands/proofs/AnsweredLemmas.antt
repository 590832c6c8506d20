-- All answers of a source are those of its lines, its clock and its stream.
use Rattle.std.proofs.Common.{◌≡◌, ℕ, ◌+◌, List, [], ◌∷◌, ◌++◌, Some, None, Ok, Err, refl}
use Rattle.std.proofs.Common.{sym, ap, subst, ◌∙◌, arith, length-append}
use Rattle.std.specs.Prelude.{Option, Result, ⊤}
use Rattle.std.specs.Option.{IsSomeAnd}
use Rattle.wasi_abi.specs.declared.answer.Answer.{Answer}
use Rattle.wasi_abi.specs.declared.answer.Question.{Question}
use Rattle.wasi_abi.specs.declared.answer.Question.TheVariants as questions
use Rattle.process_rules.specs.Runs.{Kept, Given}
use Rattle.record_replay.specs.declared.fault.SourceFault.{SourceFault}
use Rattle.record_replay.specs.rules.Calls.{Ask, AnswersInOrder}
use Rattle.record_replay.specs.rules.Slices.{handed_by, handed}
use Rattle.command_words.specs.declared.lines.fault.LineFault.{LineFault}
use Rattle.command_words.specs.rules.Outside.{ComeFrom, request_in, requests_in, words_in}
use Rattle.command_words.specs.rules.Requests.{GiveUpTo}
use Rattle.command_words.specs.Lines.Answers.{SourceState, HandsNext, HandsAnswer, Finds}
use Rattle.command_words.specs.Lines.Answers.{LeavesFault, IsRefusedAt}
use Rattle.command_words.proofs.LineLemmas.Asking.{HandsOver, finds_hands}
use Rattle.command_words.proofs.LineLemmas.Passing.{passed_nothing, up_to_on, up_to_map}
use Rattle.command_words.proofs.LineLemmas.Passing.{behind_passed}
use Rattle.disk_commands.specs.laws.Answered.{AreOfLines, AnswersComeFromTheLines}
use Rattle.disk_commands.specs.rules.ServedOnDisk.{handing}

-- of no answers, the lines ask nothing
some_rest : (lines : Option (List ℕ)) (limit n : ℕ) → GiveUpTo limit n lines [] (λ _. ⊤)
some_rest lines limit n =
    up_to_map limit n lines [] (λ rest. lines ≡ Some rest) (λ _. ⊤) (λ rest e. tt)
    (passed_nothing limit n lines)

-- where it is when it has given nothing
nothing : (s t : SourceState) → t.taken ≡ s.taken → t.place ≡ s.place → AreOfLines s [] t
nothing s t taken place = record {
  requests = some_rest s.unread s.limit s.taken;
  others = tt;
  taken = let e = taken in omega (arith, e);
  drawn = let e = place in omega (arith, e);
}

-- a source with a fault answers nothing more
module _ (why : LineFault) where
  nothing_more : (asks : List Ask) (s t : SourceState) → s.fault ≡ Some why
      → AnswersInOrder handing s asks t
      → (handed asks ≡ []) × (t.taken ≡ s.taken) × (t.place ≡ s.place)
  nothing_more [] s t is leads =
      (refl, ap (λ (z : SourceState). z.taken) leads, ap (λ (z : SourceState). z.place) leads)
  nothing_more (ask ∷ asks) s t is leads =
      by_said (λ now. nothing_more asks leads.0 t now leads.2) ask.said refl leads.1
    where
      u : SourceState
      u = leads.0

      by_said : (u.fault ≡ Some why
          → (handed asks ≡ []) × (t.taken ≡ u.taken) × (t.place ≡ u.place))
          → (said : Result (Option Answer) SourceFault) → ask.said ≡ said
          → HandsNext ask.question s ask.said u
          → (handed (ask ∷ asks) ≡ []) × (t.taken ≡ s.taken) × (t.place ≡ s.place)
      by_said more (Ok answered) e hands =
          let h : HandsAnswer ask.question s answered u =
          subst (λ r. HandsNext ask.question s r u) e hands in
          let none = h.unfailed in absurd (cc)
      by_said more (Err fault) e hands =
          let h : HandsNext ask.question s (Err fault) u =
          subst (λ r. HandsNext ask.question s r u) e hands in
          let stays : LeavesFault ask.question s u (Some why) =
          subst (LeavesFault ask.question s u) is h.5 in
          let others = more stays.0 in (
            subst (λ r. handed_by r ++ handed asks ≡ []) (sym e) others.0,
            others.1 ∙ h.2,
            others.2 ∙ h.3,
          )

-- a question that is answered
answered_first : (s u t : SourceState) (a : Answer) (kept : List Kept) → HandsOver s u a
    → u.outside ≡ s.outside → u.limit ≡ s.limit → u.stream ≡ s.stream → AreOfLines u kept t
    → AreOfLines s (Given a ∷ kept) t
answered_first s u t a kept one same limit stream others =
    let count = one.counted in
    let counts = others.taken in
    let place = one.drawn in
    let places = others.drawn in
    let long = length-append (request_in a) (requests_in kept) in
    record {
      requests = up_to_on s.limit s.taken s.unread u.unread (request_in a) (requests_in kept)
          (λ _. ⊤) one.given
          (subst (λ n. GiveUpTo s.limit n u.unread (requests_in kept) (λ _. ⊤)) count
          (subst (λ n. GiveUpTo n u.taken u.unread (requests_in kept) (λ _. ⊤)) limit
          others.requests));
      others = (
        one.comes,
        subst (λ o. ComeFrom o s.stream (s.place + words_in a) kept) same
            (subst (λ v. ComeFrom u.outside v (s.place + words_in a) kept) stream
            (subst (λ k. ComeFrom u.outside u.stream k kept) place others.others)),
      );
      taken = omega (arith, count, counts, long);
      drawn = omega (arith, place, places);
    }

-- the lines have come to their end
ended_first : (s u t : SourceState) (kept : List Kept) → u.outside ≡ s.outside
    → u.limit ≡ s.limit → u.stream ≡ s.stream → u.place ≡ s.place → u.taken ≡ s.taken
    → GiveUpTo s.limit s.taken s.unread [] (λ rest. u.unread ≡ Some rest) → AreOfLines u kept t
    → AreOfLines s kept t
ended_first s u t kept same limit stream place taken passed others =
    let counts = others.taken in
    let places = others.drawn in
    record {
      requests = behind_passed s.limit s.taken s.unread u.unread (requests_in kept) (λ _. ⊤) passed
          (subst (λ n. GiveUpTo s.limit n u.unread (requests_in kept) (λ _. ⊤)) taken
          (subst (λ n. GiveUpTo n u.taken u.unread (requests_in kept) (λ _. ⊤)) limit
          others.requests));
      others = subst (λ o. ComeFrom o s.stream s.place kept) same
          (subst (λ v. ComeFrom u.outside v s.place kept) stream
          (subst (λ k. ComeFrom u.outside u.stream k kept) place others.others));
      taken = omega (arith, taken, counts);
      drawn = omega (arith, place, places);
    }

-- what is left where no request comes
abbrev pub IsAtEnd : SourceState → SourceState → Type 0
IsAtEnd s u = (u.place ≡ s.place) × (u.taken ≡ s.taken)
    × GiveUpTo s.limit s.taken s.unread [] (λ rest. u.unread ≡ Some rest)

pub at_end : (question : Question) (s u : SourceState) → Finds question s None u → IsAtEnd s u
at_end questions.Request s u found = (
  found.0,
  found.1.0,
  up_to_map s.limit s.taken s.unread [] (λ rest. (rest ≡ []) × (u.unread ≡ Some rest))
      (λ rest. u.unread ≡ Some rest) (λ rest h. h.1) found.1.1,
)
at_end questions.Realtime s u found = absurd found
at_end questions.Monotonic s u found = absurd found
at_end (questions.Random n) s u found = absurd found

-- a source that has refused
refused_first : (s u t : SourceState) (asks : List Ask) (kept_fault : Option LineFault)
    → u.fault ≡ kept_fault → IsSomeAnd kept_fault (λ _. ⊤) → u.taken ≡ s.taken → u.place ≡ s.place
    → AnswersInOrder handing u asks t → AreOfLines s (handed asks) t
refused_first s u t asks None is some taken place leads = absurd some
refused_first s u t asks (Some why) is some taken place leads =
    let none = nothing_more why asks u t is leads in
    subst (λ kept. AreOfLines s kept t) (sym none.0)
    (nothing s t (none.1 ∙ taken) (none.2 ∙ place))

-- a refusal leaves a fault
pub leaves_some : (question : Question) (s u : SourceState) (found : Option LineFault)
    → LeavesFault question s u found → IsSomeAnd u.fault (λ _. ⊤)
leaves_some question s u (Some first) h =
    subst (λ f. IsSomeAnd f (λ _. ⊤)) (sym h.0) tt
leaves_some question s u None h = some u.fault h
  where
    some : (kept_fault : Option LineFault) → IsSomeAnd kept_fault (IsRefusedAt question s u.failed)
        → IsSomeAnd kept_fault (λ _. ⊤)
    some None h = absurd h
    some (Some why) h = tt

pub answers_are_of_lines : AnswersComeFromTheLines
answers_are_of_lines [] s t leads =
    nothing s t (ap (λ (z : SourceState). z.taken) leads) (ap (λ (z : SourceState). z.place) leads)
answers_are_of_lines (ask ∷ asks) s t leads =
    by_said (answers_are_of_lines asks leads.0 t leads.2) ask.said refl leads.1
  where
    u : SourceState
    u = leads.0

    by_said : AreOfLines u (handed asks) t → (said : Result (Option Answer) SourceFault)
        → ask.said ≡ said → HandsNext ask.question s ask.said u
        → AreOfLines s (handed (ask ∷ asks)) t
    by_said more (Ok (Some a)) e hands =
        let h : HandsAnswer ask.question s (Some a) u =
        subst (λ r. HandsNext ask.question s r u) e hands in
        subst (λ r. AreOfLines s (handed_by r ++ handed asks) t) (sym e)
        (answered_first s u t a (handed asks) (finds_hands ask.question s u a h.finds) h.same
        h.same_limit h.same_stream more)
    by_said more (Ok None) e hands =
        let h : HandsAnswer ask.question s None u =
        subst (λ r. HandsNext ask.question s r u) e hands in
        let here = at_end ask.question s u h.finds in
        subst (λ r. AreOfLines s (handed_by r ++ handed asks) t) (sym e)
        (ended_first s u t (handed asks) h.same h.same_limit h.same_stream here.0 here.1 here.2
        more)
    by_said more (Err fault) e hands =
        let h : HandsNext ask.question s (Err fault) u =
        subst (λ r. HandsNext ask.question s r u) e hands in
        subst (λ r. AreOfLines s (handed_by r ++ handed asks) t) (sym e)
        (refused_first s u t asks u.fault refl (leaves_some ask.question s u s.fault h.5) h.2 h.3
        leads.2)
