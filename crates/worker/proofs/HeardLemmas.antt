-- What was said and heard in a life is what was put into it.
use Rattle.std.proofs.Common.{◌≡◌, ℕ, suc, ◌-◌, List, [], ◌∷◌, ◌++◌, refl, sym, ap, ◌∙◌, subst}
use Rattle.std.proofs.Common.{append_assoc, arith}
use Rattle.std.proofs.lemmas.List.{append-nil}
use Rattle.std.proofs.lemmas.Bool.Decides.{nat_tests}
use Rattle.std.specs.Prelude.{Bool, true, false, Result, Ok, Err, map, ◌==◌, if◌then◌else◌}
use Prim.Native.Nat.{zero}
use Rattle.wasi_abi.specs.declared.answer.Answer.{Answer}
use Rattle.record_replay.specs.declared.fault.OutletFault.{OutletFault}
use Rattle.record_replay.specs.declared.line_list.NumberedLine.{NumberedLine}
use Rattle.record_replay.specs.rules.Calls.{Begun, Exchange, Asks, Tells, Releases}
use Rattle.record_replay.specs.rules.Calls.{AnswersInOrder, asks_of, releases_of}
use Rattle.record_replay.specs.declared.refusing.RefusingOutlet.{RefusingOutlet}
use Rattle.record_replay.specs.rules.Lists.{KeepsLine, inner_outlet, until_fault}
use Rattle.worker_store.specs.restart_theorem.Courses.{first_taken, without_first}
use Rattle.worker_store.specs.restart_theorem.Exchanges.{was_taken, release_of}
use Rattle.worker_store.specs.rules.BetweenCalls.{Foretell}
use Rattle.worker.specs.laws.OneLife.{released_in}
use Rattle.worker.specs.declared.story.hearing.HeardLines.{HeardLines}
use Rattle.worker.specs.rules.Planned.{said_of, takes_but}
use Rattle.worker.specs.rules.Told.{told_line}
use Rattle.worker.specs.Hearing.{HearsLine, MarksRefusal, hands_out, hears}

stays_marked : (said : Result (Unit {0}) OutletFault) (old new : Bool) → MarksRefusal old said new
    → old ≡ true → new ≡ true
stays_marked (Ok done) old new marks e = marks ∙ e
stays_marked (Err why) old new marks e = marks

-- a mark stays
stays_refused : (begun : List Begun) (old new : RefusingOutlet HeardLines)
    → Releases hears old begun new → (inner_outlet old).has_refused ≡ true
    → (inner_outlet new).has_refused ≡ true
stays_refused [] old new e refused =
    ap (λ (h : RefusingOutlet HeardLines). (inner_outlet h).has_refused) e ∙ refused
stays_refused (one ∷ begun) old new released refused =
    let refuses = released.1 in
    let took = refuses.took in
    stays_refused begun released.0 new released.2
    (stays_marked refuses.said_inside (inner_outlet old).has_refused
    (inner_outlet released.0).has_refused took.marks refused)

-- where the end has no mark, the lines inside were taken
taken_so : (said : Result (Unit {0}) OutletFault) (old mid : Bool)
    → MarksRefusal old said mid → (mid ≡ true → ⊥) → was_taken said ≡ true
taken_so (Ok done) old mid marks unmarked = refl
taken_so (Err why) old mid marks unmarked = absurd (unmarked marks)

unmarked_before : (begun : List Begun) (mid new : RefusingOutlet HeardLines)
    → Releases hears mid begun new → (inner_outlet new).has_refused ≡ false
    → (inner_outlet mid).has_refused ≡ true → ⊥
unmarked_before begun mid new released none refused =
    let one = stays_refused begun mid new released refused in absurd (cc)

-- ---- the one line that is refused

not_one : (n : ℕ) → (suc (suc n) == 1) ≡ true → ⊥
not_one n is = let e : suc (suc n) ≡ 1 = grind (arith, nat_tests) in absurd (omega (arith, e))

-- a line is taken but where it is the one
takes_first : (n : ℕ) (said inside : Result (Unit {0}) OutletFault)
    → said ≡ (if n == 1 then Err (record {}) else inside) → was_taken inside ≡ true
    → was_taken said ≡ first_taken (takes_but n)
takes_first zero said inside is taken = ap was_taken is ∙ taken
takes_first (suc zero) said inside is taken = ap was_taken is
takes_first (suc (suc n)) said inside is taken = by (suc (suc n) == 1) refl is
  where
    by : (b : Bool) → (suc (suc n) == 1) ≡ b → said ≡ (if b then Err (record {}) else inside)
        → was_taken said ≡ true
    by true test e = absurd (not_one n test)
    by false test e = ap was_taken e ∙ taken

-- and the later ones are counted from there
takes_rest : (n k : ℕ) → k ≡ n - 1 → without_first (takes_but n) ≡ takes_but k
takes_rest zero k is = ap takes_but (sym is)
takes_rest (suc zero) k is = ap takes_but (sym is)
takes_rest (suc (suc n)) k is =
    let e : suc n ≡ k = omega (arith, is) in ap takes_but e

-- the answers were said in their order, and each line was taken but the one
pub said_so : (exchanges : List Exchange) (answers answers_left : List Answer)
    (old new : RefusingOutlet HeardLines)
    → AnswersInOrder hands_out answers (asks_of exchanges) answers_left
    → Releases hears old (releases_of exchanges) new → (inner_outlet new).has_refused ≡ false
    → Foretell (map said_of answers) (takes_but (until_fault old)) exchanges
said_so [] answers answers_left old new asked released none = tt
said_so (Tells begun ∷ exchanges) answers answers_left old new asked released none =
    let refuses = released.1 in
    let took = refuses.took in
    let inside : was_taken refuses.said_inside ≡ true =
    taken_so refuses.said_inside (inner_outlet old).has_refused
    (inner_outlet released.0).has_refused took.marks
    (unmarked_before (releases_of exchanges) released.0 new released.2 none) in (
      takes_first (until_fault old) begun.said refuses.said_inside refuses.said_is inside,
      subst (λ (t : List Bool). Foretell (map said_of answers) t exchanges)
          (sym (takes_rest (until_fault old) (until_fault released.0) refuses.counted))
          (said_so exchanges answers answers_left released.0 new asked released.2 none),
    )
said_so (Asks ask ∷ exchanges) [] answers_left old new asked released none = (
  asked.1.0,
  said_so exchanges [] answers_left old new
      (subst (λ (a : List Answer). AnswersInOrder hands_out a (asks_of exchanges)
      answers_left) asked.1.1 asked.2) released none,
)
said_so (Asks ask ∷ exchanges) (a ∷ answers) answers_left old new asked released none = (
  asked.1.0,
  said_so exchanges answers answers_left old new
      (subst (λ (as' : List Answer). AnswersInOrder hands_out as' (asks_of exchanges) answers_left)
      asked.1.1 asked.2) released none,
)

-- one line is heard
heard_one : (begun : Begun) (said : Result (Unit {0}) OutletFault) (old mid : HeardLines)
    → HearsLine old begun.number begun.line said mid → (mid.has_refused ≡ true → ⊥)
    → mid.lines ≡ old.lines ++ told_line (release_of begun) ∷ []
heard_one begun said old mid heard unmarked = by said heard.keeps heard.marks
  where
    by : (said : Result (Unit {0}) OutletFault)
        → KeepsLine old.lines begun.number begun.line said mid.lines
        → MarksRefusal old.has_refused said mid.has_refused
        → mid.lines ≡ old.lines ++ told_line (release_of begun) ∷ []
    by (Ok done) keeps marks = keeps
    by (Err why) keeps marks = absurd (unmarked marks)

-- all lines are heard, in order
pub heard_all : (exchanges : List Exchange) (old new : RefusingOutlet HeardLines)
    → Releases hears old (releases_of exchanges) new → (inner_outlet new).has_refused ≡ false
    → (inner_outlet new).lines
    ≡ (inner_outlet old).lines ++ map told_line (released_in exchanges)
heard_all [] old new released none =
    ap (λ (h : RefusingOutlet HeardLines). (inner_outlet h).lines) released
    ∙ sym (append-nil (inner_outlet old).lines)
heard_all (Asks ask ∷ exchanges) old new released none = heard_all exchanges old new released none
heard_all (Tells begun ∷ exchanges) old new released none =
    let refuses = released.1 in
    let one = heard_one begun refuses.said_inside (inner_outlet old) (inner_outlet released.0)
    refuses.took (unmarked_before (releases_of exchanges) released.0 new released.2 none) in
    heard_all exchanges released.0 new released.2 none
    ∙ ap (λ (l : List NumberedLine). l ++ map told_line (released_in exchanges)) one
    ∙ append_assoc (inner_outlet old).lines (told_line (release_of begun) ∷ [])
    (map told_line (released_in exchanges))
