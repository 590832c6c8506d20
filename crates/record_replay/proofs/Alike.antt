-- Two slices of the same fuel from the same process, on the same answers.
use Rattle.std.proofs.Common.{◌≡◌, ◌⊎◌, inl, inr, ℕ, zero, suc, ◌+◌, ◌<◌, ◌≤◌, List, length, None}
use Rattle.std.proofs.Common.{refl, sym, ◌∙◌, ap, subst, arith}
use Rattle.std.proofs.lemmas.List.{append_cancel_left}
use Rattle.process_rules.specs.Processes.{ProcessState, Guest}
use Rattle.process_rules.specs.Runs.{next_of, LeadsTo as Leads, Moves, Kept, Runs}
use Rattle.process_rules.proofs.OneProcess.{runs_once}
use Rattle.record_replay.specs.rules.Calls.{Exchange, asks_of, releases_of, all_taken}
use Rattle.record_replay.proofs.OnTheWay.{goes_on, first_moves}
use Rattle.process.specs.declared.stop.ProcessEnd.{ProcessEnd}
use Rattle.process.specs.declared.stop.ProcessEnd.TheVariants as end
use Rattle.process.specs.rules.Values.{ending_of}
use Rattle.record_replay.specs.declared.slices.now.Now.{Now}
use Rattle.record_replay.specs.declared.slices.now.Now.TheVariants as now
use Rattle.record_replay.specs.rules.Slices.{handed, SliceLeadsTo, IsNow}
use Rattle.record_replay.specs.laws.SliceLaws.{OneSlice}

-- ---- as many steps

within : (guest : Guest) (q : ProcessState) (xs : List Exchange) (n fuel : ℕ) (why : Now)
    → IsNow guest q xs n fuel why → n ≤ fuel
within guest q xs n fuel now.Spent h = let spent : n ≡ fuel = h.0 in omega arith
within guest q xs n fuel now.Waiting h = let less : n < fuel = h.0 in omega arith
within guest q xs n fuel (now.Ended how) h = h.0

-- where a slice is over before its fuel is spent no step goes on without an answer
no_step_follows : (guest : Guest) (q r : ProcessState) (xs : List Exchange) (n fuel : ℕ) (why : Now)
    → IsNow guest q xs n fuel why → n < fuel → Moves guest q None r → ⊥
no_step_follows guest q r xs n fuel now.Spent h less moves = let spent : n ≡ fuel = h.0 in
    absurd (omega arith)
no_step_follows guest q r xs n fuel now.Waiting h less moves =
    let stopped : Leads guest (next_of guest q None) None q r = moves.leads in
    (rw h.3 at stopped)
no_step_follows guest q r xs n fuel (now.Ended how) h less moves = let ended = h.1 in
    let running = moves.running in absurd (cc)

no_longer : (guest : Guest) (p q r : ProcessState) (kept : List Kept) (xs ys : List Exchange)
    (n m k fuel : ℕ) (why other : Now) → Runs guest p kept n q → Runs guest p kept m r
    → IsNow guest q xs n fuel why → IsNow guest r ys m fuel other → m ≡ n + suc k → ⊥
no_longer guest p q r kept xs ys n m k fuel why other a b h h' e =
    let few : m ≤ fuel = within guest r ys m fuel other h' in
    let less : n < fuel = omega (arith, few, e) in
    let first = first_moves guest q r k (goes_on guest p q r kept n m k a b e) in
    no_step_follows guest q first.0 xs n fuel why h less first.1

compare : (n m : ℕ) → (n ≡ m) ⊎ (((k : ℕ) × (m ≡ n + suc k)) ⊎ ((k : ℕ) × (n ≡ m + suc k)))
compare zero zero = inl refl
compare zero (suc m) = inr (inl (m, omega arith))
compare (suc n) zero = inr (inr (n, omega arith))
compare (suc n) (suc m) =
    elim (compare n m) [
      | inl e ↦ inl (ap suc e)
      | inr (inl k) ↦ (let same = k.1 in inr (inl (k.0, omega arith)))
      | inr (inr k) ↦ (let same = k.1 in inr (inr (k.0, omega arith)))
    ]

-- ---- why they are over

same_end : (a b : ProcessEnd) → ending_of a ≡ ending_of b → a ≡ b
same_end (end.Exited m) (end.Exited n) e = cc
same_end (end.Exited m) (end.Trapped why) e = absurd (cc)
same_end (end.Trapped why) (end.Exited n) e = absurd (cc)
same_end (end.Trapped why) (end.Trapped other) e = cc

same_why : (guest : Guest) (q : ProcessState) (xs ys : List Exchange) (n fuel : ℕ) (why other : Now)
    → IsNow guest q xs n fuel why → IsNow guest q ys n fuel other → why ≡ other
same_why guest q xs ys n fuel now.Spent now.Spent h k = refl
same_why guest q xs ys n fuel now.Spent now.Waiting h k = let spent : n ≡ fuel = h.0 in
    let less : n < fuel = k.0 in absurd (omega arith)
same_why guest q xs ys n fuel now.Spent (now.Ended how) h k = let running = h.1 in let ended = k.1
    in absurd (cc)
same_why guest q xs ys n fuel now.Waiting now.Spent h k = let spent : n ≡ fuel = k.0 in
    let less : n < fuel = h.0 in absurd (omega arith)
same_why guest q xs ys n fuel now.Waiting now.Waiting h k = refl
same_why guest q xs ys n fuel now.Waiting (now.Ended how) h k = let running = h.1 in let ended = k.1
    in absurd (cc)
same_why guest q xs ys n fuel (now.Ended how) now.Spent h k = let running = k.1 in let ended = h.1
    in absurd (cc)
same_why guest q xs ys n fuel (now.Ended how) now.Waiting h k = let running = k.1 in let ended = h.1
    in absurd (cc)
same_why guest q xs ys n fuel (now.Ended how) (now.Ended other) h k =
    let one = h.1 in
    let two = k.1 in
    let same : ending_of how ≡ ending_of other = cc in
    ap now.Ended (same_end how other same)

-- ---- both

-- with as many steps
alike : (guest : Guest) (p q r : ProcessState) (xs ys : List Exchange) (n fuel : ℕ)
    (why other : Now) → SliceLeadsTo guest p xs n q → IsNow guest q xs n fuel why
    → SliceLeadsTo guest p ys n r → IsNow guest r ys n fuel other
    → handed (asks_of xs) ≡ handed (asks_of ys) → (q ≡ r) × (why ≡ other)
    × (releases_of xs ≡ releases_of ys)
alike guest p q r xs ys n fuel why other a h b k answers =
    let same : q ≡ r =
    runs_once guest p q r (handed (asks_of ys)) n
    (subst (λ z. Runs guest p z n q) answers a.runs) b.runs in
    let lines : a.lines ≡ b.lines = append_cancel_left p.host.lines a.lines b.lines (sym a.emitted
    ∙ ap (λ (z : ProcessState). z.host.lines) same ∙ b.emitted) in (
      same,
      same_why guest r xs ys n fuel why other (subst (λ z. IsNow guest z xs n fuel why) same h) k,
      a.released ∙ ap (λ z. all_taken (suc (length p.host.lines)) z) lines ∙ sym b.released,
    )

pub one_slice : OneSlice
one_slice guest p q r xs ys n m fuel why other a h b k answers =
    let runs : Runs guest p (handed (asks_of ys)) n q =
    subst (λ z. Runs guest p z n q) answers a.runs in
    elim (compare n m) [
      | inl e ↦
          alike guest p q r xs ys m fuel why other (subst (λ z. SliceLeadsTo guest p xs z q) e a)
          (subst (λ z. IsNow guest q xs z fuel why) e h) b k answers
      | inr (inl e) ↦ absurd (no_longer guest p q r (handed (asks_of ys)) xs ys n m e.0 fuel why
          other runs b.runs h k e.1)
      | inr (inr e) ↦ absurd (no_longer guest p r q (handed (asks_of ys)) ys xs m n e.0 fuel other
          why b.runs runs k h e.1)
    ]
