-- What calls have led to, one list of them after another.
use Rattle.std.proofs.Common.{◌≡◌, ℕ, suc, ◌+◌, List, [], ◌∷◌, ◌++◌, length, map, refl, sym, ◌∙◌}
use Rattle.std.proofs.Common.{ap, subst, inl, inr, ◌⊎◌, arith, append_assoc, length-append}
use Rattle.std.proofs.lemmas.List.{append-nil}
use Rattle.std.specs.List.{AllByRecursion}
use Rattle.wasi_abi.specs.declared.answer.Question.{Question}
use Rattle.process_rules.specs.Processes.{ProcessState, Guest}
use Rattle.process_rules.specs.Runs.{Runs}
use Rattle.process_rules.proofs.Quiet.{runs_join}
use Rattle.record_replay.specs.rules.Calls.{Ask, Begun, Exchange, Asks, Tells, asks_of, releases_of}
use Rattle.record_replay.specs.rules.Calls.{all_taken}
use Rattle.record_replay.proofs.Following.{asks_of-append, releases_of-append, lines_in_order}
use Rattle.record_replay.specs.rules.Slices.{handed, handed_by, SliceLeadsTo, HasAnswer}
use Rattle.record_replay.specs.rules.Slices.{AreAnswered, LeadsToQuestion, AreWanted}

-- ---- answers

pub handed_join : (a b : List Ask) → handed (a ++ b) ≡ handed a ++ handed b
handed_join [] b = refl
handed_join (ask ∷ a) b = ap (λ z. handed_by ask.said ++ z) (handed_join a b)
    ∙ sym (append_assoc (handed_by ask.said) (handed a) (handed b))

pub handed_of_both : (xs ys : List Exchange)
    → handed (asks_of (xs ++ ys)) ≡ handed (asks_of xs) ++ handed (asks_of ys)
handed_of_both xs ys = ap handed (asks_of-append xs ys) ∙ handed_join (asks_of xs) (asks_of ys)

-- ---- questions that were answered

pub none_answered : AreAnswered []
none_answered = record { all = tt }

all_answered : (a b : List Ask) → AllByRecursion HasAnswer a → AllByRecursion HasAnswer b
    → AllByRecursion HasAnswer (a ++ b)
all_answered [] b h k = k
all_answered (ask ∷ a) b h k = (h.0, all_answered a b h.1 k)

pub answered_join : (xs ys : List Exchange) → AreAnswered xs → AreAnswered ys
    → AreAnswered (xs ++ ys)
answered_join xs ys h k =
    record {
      all = subst (λ z. AllByRecursion HasAnswer z) (sym (asks_of-append xs ys))
          (all_answered (asks_of xs) (asks_of ys) h.all k.all);
    }

-- ---- where in two lists a call is

cons_same : (a b : Exchange) (xs ys : List Exchange) → a ≡ b → xs ≡ ys → a ∷ xs ≡ b ∷ ys
cons_same a b xs ys e f = cc

nil_not : (more rest : List Exchange) (x : Exchange) → [] ≡ more ++ (x ∷ rest) → ⊥
nil_not [] rest x e = absurd (cc)
nil_not (m ∷ more) rest x e = absurd (cc)

split_at : (xs ys front rest : List Exchange) (x : Exchange) → xs ++ ys ≡ front ++ (x ∷ rest)
    → ((others : List Exchange) × (xs ≡ front ++ (x ∷ others)))
    ⊎ ((more : List Exchange) × (front ≡ xs ++ more) × (ys ≡ more ++ (x ∷ rest)))
split_at [] ys front rest x e = inr (front, refl, e)
split_at (a ∷ xs) ys [] rest x e = let same : a ≡ x = cc in inl (xs, cons_same a x xs xs same refl)
split_at (a ∷ xs) ys (b ∷ front) rest x e =
    let same : a ≡ b = cc in
    let tails : xs ++ ys ≡ front ++ (x ∷ rest) = cc in
    elim (split_at xs ys front rest x tails) [
      | inl k ↦ inl (k.0, cons_same a b xs (front ++ (x ∷ k.0)) same k.1)
      | inr k ↦ inr (k.0, cons_same b a front (xs ++ k.0) (sym same) k.1, k.2)
    ]

-- a list of one call holds no other
one_alone : (more rest : List Exchange) (x y : Exchange) → x ∷ [] ≡ more ++ (y ∷ rest)
    → (more ≡ []) × (x ≡ y)
one_alone [] rest x y e = let same : x ≡ y = cc in (refl, same)
one_alone (m ∷ more) rest x y e = let tails : [] ≡ more ++ (y ∷ rest) = cc in
    absurd (nil_not more rest y tails)

-- ---- releases alone

abbrev pub tells : List Begun → List Exchange
tells begun = map Tells begun

pub tells_ask_nothing : (begun : List Begun) → asks_of (tells begun) ≡ []
tells_ask_nothing [] = refl
tells_ask_nothing (b ∷ begun) = tells_ask_nothing begun

pub releases_of_tells : (begun : List Begun) → releases_of (tells begun) ≡ begun
releases_of_tells [] = refl
releases_of_tells (b ∷ begun) = ap (λ z. b ∷ z) (releases_of_tells begun)

pub answered_tells : (begun : List Begun) → AreAnswered (tells begun)
answered_tells begun =
    record { all = subst (λ z. AllByRecursion HasAnswer z) (sym (tells_ask_nothing begun)) tt }

no_ask_in : (begun : List Begun) (more rest : List Exchange) (ask : Ask)
    → tells begun ≡ more ++ (Asks ask ∷ rest) → ⊥
no_ask_in [] more rest ask e = nil_not more rest (Asks ask) e
no_ask_in (b ∷ begun) [] rest ask e = absurd (cc)
no_ask_in (b ∷ begun) (m ∷ more) rest ask e =
    let tails : tells begun ≡ more ++ (Asks ask ∷ rest) = cc in no_ask_in begun more rest ask tails

-- ---- what they have led to

pub leads_join : (guest : Guest) (p q r : ProcessState) (xs ys : List Exchange) (n k : ℕ)
    → SliceLeadsTo guest p xs n q → SliceLeadsTo guest q ys k r
    → SliceLeadsTo guest p (xs ++ ys) (n + k) r
leads_join guest p q r xs ys n k a b =
    let joined = runs_join guest p q r (handed (asks_of xs)) (handed (asks_of ys)) n k a.runs b.runs
    in
    let size : length q.host.lines ≡ length (p.host.lines ++ a.lines) = ap length a.emitted in
    let next : suc (length q.host.lines) ≡ suc (length p.host.lines) + length a.lines =
    omega (arith, size, length-append p.host.lines a.lines) in
    record {
      runs = subst (λ z. Runs guest p z (n + k) r) (sym (handed_of_both xs ys)) joined;
      lines = a.lines ++ b.lines;
      emitted = b.emitted ∙ ap (λ z. z ++ b.lines) a.emitted
          ∙ append_assoc p.host.lines a.lines b.lines;
      released =
          releases_of-append xs ys ∙ ap (λ z. z ++ releases_of ys) a.released
          ∙ ap (λ z. all_taken (suc (length p.host.lines)) a.lines ++ z) (b.released
          ∙ ap (λ z. all_taken z b.lines) next)
          ∙ sym (lines_in_order (suc (length p.host.lines)) a.lines b.lines);
    }

-- a question that brought no answer leads nowhere else
pub asked_leads : (guest : Guest) (p q : ProcessState) (xs : List Exchange) (n : ℕ) (ask : Ask)
    → handed_by ask.said ≡ [] → SliceLeadsTo guest p xs n q
    → SliceLeadsTo guest p (xs ++ (Asks ask ∷ [])) n q
asked_leads guest p q xs n ask nothing a =
    let same : handed (asks_of (xs ++ (Asks ask ∷ []))) ≡ handed (asks_of xs) =
    handed_of_both xs (Asks ask ∷ []) ∙ ap (λ z. handed (asks_of xs) ++ (z ++ [])) nothing
    ∙ append-nil (handed (asks_of xs)) in
    record {
      runs = subst (λ z. Runs guest p z n q) (sym same) a.runs;
      lines = a.lines;
      emitted = a.emitted;
      released = releases_of-append xs (Asks ask ∷ []) ∙ append-nil (releases_of xs) ∙ a.released;
    }

question_join : (guest : Guest) (p q : ProcessState) (xs front : List Exchange) (n : ℕ)
    (question : Question) → SliceLeadsTo guest p xs n q → AreAnswered xs
    → LeadsToQuestion guest q front question → LeadsToQuestion guest p (xs ++ front) question
question_join guest p q xs front n question a answered b = record {
  steps = n + b.steps;
  process = b.process;
  leads = leads_join guest p q b.process xs front n b.steps a b.leads;
  running = b.running;
  wants = b.wants;
  answered = answered_join xs front answered b.answered;
}

-- ---- each question is wanted

pub none_wanted : (guest : Guest) (p : ProcessState) → AreWanted guest p []
none_wanted guest p = λ front rest ask e. absurd (nil_not front rest (Asks ask) e)

pub wanted_join : (guest : Guest) (p q : ProcessState) (xs ys : List Exchange) (n : ℕ)
    → AreWanted guest p xs → SliceLeadsTo guest p xs n q → AreAnswered xs → AreWanted guest q ys
    → AreWanted guest p (xs ++ ys)
wanted_join guest p q xs ys n before leads answered after = λ front rest ask e.
    elim (split_at xs ys front rest (Asks ask) e) [
      | inl k ↦ before front k.0 ask k.1
      | inr k ↦ subst (λ z. LeadsToQuestion guest p z ask.question) (sym k.1)
          (question_join guest p q xs k.0 n ask.question leads answered (after k.0 rest ask k.2))
    ]

pub wanted_ask : (guest : Guest) (p : ProcessState) (xs : List Exchange) (ask : Ask)
    → AreWanted guest p xs → LeadsToQuestion guest p xs ask.question
    → AreWanted guest p (xs ++ (Asks ask ∷ []))
wanted_ask guest p xs ask before led = λ front rest other e.
    elim (split_at xs (Asks ask ∷ []) front rest (Asks other) e) [
      | inl k ↦ before front k.0 other k.1
      | inr k ↦
          let alone = one_alone k.0 rest (Asks ask) (Asks other) k.2 in
          let same : ask ≡ other = asked_same ask other alone.1 in
          let there : xs ≡ front = sym (k.1 ∙ ap (λ z. xs ++ z) alone.0 ∙ append-nil xs) in
          subst (λ z. LeadsToQuestion guest p front z.question) same
          (subst (λ z. LeadsToQuestion guest p z ask.question) there led)
    ]
  where
    asked_same : (a b : Ask) → ◌≡◌ {A = Exchange} (Asks a) (Asks b) → a ≡ b
    asked_same a b e = cc

pub wanted_tells : (guest : Guest) (p : ProcessState) (xs : List Exchange) (begun : List Begun)
    → AreWanted guest p xs → AreWanted guest p (xs ++ tells begun)
wanted_tells guest p xs begun before = λ front rest ask e.
    elim (split_at xs (tells begun) front rest (Asks ask) e) [
      | inl k ↦ before front k.0 ask k.1
      | inr k ↦ absurd (no_ask_in begun k.0 rest ask k.2)
    ]
