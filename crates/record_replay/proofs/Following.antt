-- Lists of calls follow one another.
use Rattle.std.proofs.Common.{◌≡◌, ℕ, ◌+◌, List, [], ◌∷◌, ◌++◌, length, refl, Ok, sym, ap, subst}
use Rattle.std.proofs.Common.{arith}
use Rattle.wasi_calls_rules.specs.WasiStates.{Line}
use Rattle.record_replay.specs.rules.Calls.{Leads, Giving, Taking, Asked, Released, AnswersInOrder}
use Rattle.record_replay.specs.rules.Calls.{Releases, Exchange, Asks, Tells, asks_of, releases_of}
use Rattle.record_replay.specs.rules.Calls.{Exchanges, all_taken}
use Rattle.record_replay.specs.laws.Laws.{AreInOrder, ExchangesAreInOrder, LinesAreInOrder}

module _ {V C : Type 0} (step : V → C → V → Type 0) where
  -- a list of calls that leads on from where another led
  pub leads_join : (v w u : V) (front rest : List C) → Leads step v front u → Leads step u rest w
      → Leads step v (front ++ rest) w
  leads_join v w u [] rest same leads = subst (λ z. Leads step z rest w) same leads
  leads_join v w u (call ∷ front) rest h leads = (h.0, h.1, leads_join h.0 w u front rest h.2 leads)

  -- where the front of a list leads, and its rest from there
  pub leads_split : (v w : V) (front rest : List C) → Leads step v (front ++ rest) w
      → (u : V) × Leads step v front u × Leads step u rest w
  leads_split v w [] rest leads = (v, refl, leads)
  leads_split v w (call ∷ front) rest h =
      let r = leads_split h.0 w front rest h.2 in (r.0, (h.0, h.1, r.1), r.2)

  -- one call alone
  pub leads_once : (v w : V) (call : C) → step v call w → Leads step v (call ∷ []) w
  leads_once v w call is_step = (w, is_step, refl)

  pub once_leads : (v w : V) (call : C) → Leads step v (call ∷ []) w → step v call w
  once_leads v w call h = subst (λ z. step v call z) (sym h.2) h.1

  -- one call more
  pub leads_on : (v w u : V) (calls : List C) (call : C) → Leads step v calls u → step u call w
      → Leads step v (calls ++ call ∷ []) w
  leads_on v w u calls call leads is_step =
      leads_join v w u calls (call ∷ []) leads (leads_once u w call is_step)

  pub leads_before : (v w : V) (calls : List C) (call : C) → Leads step v (calls ++ call ∷ []) w
      → (u : V) × Leads step v calls u × step u call w
  leads_before v w calls call h = let r = leads_split v w calls (call ∷ []) h in
      (r.0, r.1, once_leads r.0 w call r.2)

  pub in_order : AreInOrder step
  in_order = record {
    none = λ v w. (λ h. h, λ h. h);
    one = λ v w call. (once_leads v w call, leads_once v w call);
    one_more = λ v w calls call. (
      leads_before v w calls call,
      λ h. leads_on v w h.0 calls call h.1 h.2,
    );
    joined = λ v w front rest. (
      leads_split v w front rest,
      λ h. leads_join v w h.0 front rest h.1 h.2,
    );
  }

-- ---- both

pub asks_of-append : (front rest : List Exchange)
    → asks_of (front ++ rest) ≡ asks_of front ++ asks_of rest
asks_of-append [] rest = refl
asks_of-append (Asks ask ∷ front) rest = ap (λ z. ask ∷ z) (asks_of-append front rest)
asks_of-append (Tells begun ∷ front) rest = asks_of-append front rest

pub releases_of-append : (front rest : List Exchange)
    → releases_of (front ++ rest) ≡ releases_of front ++ releases_of rest
releases_of-append [] rest = refl
releases_of-append (Asks ask ∷ front) rest = releases_of-append front rest
releases_of-append (Tells begun ∷ front) rest = ap (λ z. begun ∷ z) (releases_of-append front rest)

module _ {S O : Type 0} (gives : Giving S) (takes : Taking O) where
  pub exchanges_join : (s t u : S) (o p q : O) (front rest : List Exchange)
      → Exchanges gives takes s o front u q → Exchanges gives takes u q rest t p
      → Exchanges gives takes s o (front ++ rest) t p
  exchanges_join s t u o p q front rest first second = record {
    asked = subst (λ z. AnswersInOrder gives s z t) (sym (asks_of-append front rest))
        (leads_join (Asked gives) s t u (asks_of front) (asks_of rest) first.asked second.asked);
    released = subst (λ z. Releases takes o z p) (sym (releases_of-append front rest))
        (leads_join (Released takes) o p q (releases_of front)
        (releases_of rest) first.released second.released);
  }

  pub exchanges_split : (s t : S) (o p : O) (front rest : List Exchange)
      → Exchanges gives takes s o (front ++ rest) t p
      → (u : S) × (q : O) × Exchanges gives takes s o front u q × Exchanges gives takes u q rest t p
  exchanges_split s t o p front rest whole =
      let a = leads_split (Asked gives) s t (asks_of front) (asks_of rest)
      (subst (λ z. AnswersInOrder gives s z t) (asks_of-append front rest) whole.asked) in
      let b = leads_split (Released takes) o p (releases_of front) (releases_of rest)
      (subst (λ z. Releases takes o z p) (releases_of-append front rest) whole.released) in
      (a.0, b.0, record { asked = a.1; released = b.1 }, record { asked = a.2; released = b.2 })

  pub exchanges_in_order : ExchangesAreInOrder gives takes
  exchanges_in_order s t o p front rest =
      (exchanges_split s t o p front rest, λ h. exchanges_join s t h.0 o p h.1 front rest h.2 h.3)

-- ---- lines

pub lines_in_order : LinesAreInOrder
lines_in_order first [] rest = ap (λ z. all_taken z rest) (omega arith)
lines_in_order first (line ∷ front) rest =
    let next : (first + 1) + length front ≡ first + length (line ∷ front) = omega arith in
    let e : all_taken (first + 1) (front ++ rest) ≡ all_taken (first + 1) front
    ++ all_taken (first + length (line ∷ front)) rest =
    subst (λ z. all_taken (first + 1) (front ++ rest) ≡ all_taken (first + 1) front
    ++ all_taken z rest) next (lines_in_order (first + 1) front rest) in
    ap (λ z. record { number = first; line = line; said = Ok tt } ∷ z) e

-- one line more was taken
pub tells_on : {O : Type 0} (takes : Taking O) (o p q : O) (first : ℕ) (lines : List Line)
    (line : Line)
    → Releases takes o (all_taken first lines) p → takes p (first + length lines) line (Ok tt) q
    → Releases takes o (all_taken first (lines ++ line ∷ [])) q
tells_on {O} takes o p q first lines line told is_taken =
    let more : Releases takes o (all_taken first lines ++ record {
      number = first + length lines;
      line = line;
      said = Ok tt;
    } ∷ []) q =
    leads_on (Released takes) o q p (all_taken first lines) (record {
      number = first + length lines;
      line = line;
      said = Ok tt;
    }) told is_taken in
    subst (λ z. Releases takes o z q) (sym (lines_in_order first lines (line ∷ []))) more
