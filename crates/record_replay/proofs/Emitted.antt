-- Lines that were emitted, and those of them that were released.
use Rattle.std.proofs.Common.{◌≡◌, ℕ, suc, ◌+◌, ◌-◌, ◌≤◌, List, [], ◌∷◌, ◌++◌, length, drop, refl}
use Rattle.std.proofs.Common.{sym, ◌∙◌, ap, subst, Err, arith, append_assoc, length-append}
use Rattle.std.proofs.lemmas.List.{append-nil, drop_all, drop-append-le, length-drop}
use Rattle.std.proofs.Math.Seq.{drop-append_seam}
use Rattle.wasi_calls_rules.specs.WasiStates.{Line, WasiState}
use Rattle.wasi_calls_rules.specs.laws.Laws.{Emits}
use Rattle.wasi_calls.specs.rules.Held.{HeldWasiState, ShowsWasiState}
use Rattle.process_rules.specs.Processes.{ProcessState, Guest}
use Rattle.process.specs.rules.Values.{ProcessValue, ShowsProcess, waiting_in}
use Rattle.record_replay.specs.rules.Calls.{Taking, Begun, Released, Releases, all_taken}
use Rattle.record_replay.specs.rules.Calls.{last_refused}
use Rattle.record_replay.specs.rules.Waiting.{ReleasesAll, ReleasesSome}
use Rattle.record_replay.specs.rules.Replays.{TellsFrom, RefusesFrom}
use Rattle.record_replay.proofs.Following.{leads_join, lines_in_order}

-- ---- lists

-- two lists of lines are one, cut at the same place
same_cut : (a b c d : List Line) → a ++ b ≡ c ++ d → length a ≡ length c → b ≡ d
same_cut [] b [] d e n = e
same_cut [] b (y ∷ c) d e n = absurd (omega (arith, n))
same_cut (x ∷ a) b [] d e n = absurd (omega (arith, n))
same_cut (x ∷ a) b (y ∷ c) d e n =
    let tails : a ++ b ≡ c ++ d = cc in
    let sizes : length a ≡ length c = omega (arith, n) in
    same_cut a b c d tails sizes

-- where no line waited, those that wait are those that were emitted
pub lines_on : (old new : HeldWasiState) (g h : WasiState) → ShowsWasiState old g
    → ShowsWasiState new h → Emits g h → old.host.lines ≡ [] → new.released ≡ old.released → h.lines
    ≡ g.lines ++ new.host.lines
lines_on old new g h s t emits empty same =
    let lines_g : g.lines ≡ s.before ++ old.host.lines = ap (λ (z : WasiState). z.lines) s.is in
    let before_g : g.lines ≡ s.before = lines_g ∙ ap (λ z. s.before ++ z) empty
    ∙ append-nil s.before in
    let lines_h : h.lines ≡ t.before ++ new.host.lines = ap (λ (z : WasiState). z.lines) t.is in
    let both : g.lines ++ emits.lines ≡ t.before ++ new.host.lines = sym emits.are ∙ lines_h in
    let sizes : length g.lines ≡ length t.before = ap length before_g ∙ s.count ∙ sym same
    ∙ sym t.count in
    emits.are
    ∙ ap (λ z. g.lines ++ z) (same_cut g.lines emits.lines t.before new.host.lines both sizes)

-- how many lines were released, where so many were and others wait
pub released_count : (v : HeldWasiState) (h : WasiState) (front told : List Line)
    → ShowsWasiState v h → h.lines ≡ front ++ (told ++ v.host.lines) → v.released
    ≡ length front + length told
released_count v h front told s e =
    let lines : h.lines ≡ s.before ++ v.host.lines = ap (λ (z : WasiState). z.lines) s.is in
    let one : length h.lines ≡ length s.before + length v.host.lines =
    ap length lines ∙ length-append s.before v.host.lines in
    let two : length h.lines ≡ length front + length (told ++ v.host.lines) =
    ap length e ∙ length-append front (told ++ v.host.lines) in
    let three : length (told ++ v.host.lines) ≡ length told + length v.host.lines =
    length-append told v.host.lines in
    let count = s.count in
    omega arith

-- ---- lines of a process that is shown

module _ (v : ProcessValue) (guest : Guest) (p : ProcessState) (shows : ShowsProcess v guest p)
  where
    emitted : p.host.lines ≡ shows.host.before ++ waiting_in v
    emitted = ap (λ (z : WasiState). z.lines) shows.host.is

    -- no more were released than were emitted
    pub released_few : v.host.released ≤ length p.host.lines
    released_few =
        let whole : length p.host.lines ≡ length shows.host.before + length (waiting_in v) =
        ap length emitted ∙ length-append shows.host.before (waiting_in v) in
        let count = shows.host.count in
        omega arith

    -- all were, where none waits
    pub released_whole : waiting_in v ≡ [] → v.host.released ≡ length p.host.lines
    released_whole empty =
        let whole : length p.host.lines ≡ length shows.host.before + length (waiting_in v) =
        ap length emitted ∙ length-append shows.host.before (waiting_in v) in
        let none : length (waiting_in v) ≡ 0 = ap length empty in
        let count = shows.host.count in
        omega arith

    -- those that wait are after the released ones
    pub waiting_behind : drop v.host.released p.host.lines ≡ waiting_in v
    waiting_behind =
        let same : v.host.released ≡ length shows.host.before = sym shows.host.count in
        rw (same, emitted) (drop-append_seam shows.host.before (waiting_in v))

-- ---- lines told one after another

module _ {O : Type 0} (takes : Taking O) where
  -- after lines were released none waits
  pub released_none : (now new : ProcessValue) (q r : O) → ReleasesAll takes now new q r
      → waiting_in new ≡ []
  released_none now new q r all =
      ap waiting_in all.released.is
      ∙ drop_all (length (waiting_in now)) (waiting_in now) (omega arith)

  pub released_steps : (now new : ProcessValue) (q r : O) → ReleasesAll takes now new q r
      → new.steps ≡ now.steps
  released_steps now new q r all = ap (λ (z : ProcessValue). z.steps) all.released.is

  -- where all lines were released there is nothing to tell
  pub tells_none : (v : ProcessValue) (guest : Guest) (p : ProcessState) (o : O)
      → ShowsProcess v guest p → waiting_in v ≡ [] → TellsFrom takes v.host.released p o o
  tells_none v guest p o shows empty =
      subst (λ z. Releases takes o (all_taken (suc v.host.released) z) o)
      (sym (waiting_behind v guest p shows ∙ empty)) refl

  -- the lines that wait, released
  pub tells_waiting : (v w : ProcessValue) (guest : Guest) (p : ProcessState) (o q : O)
      → ShowsProcess v guest p → ReleasesAll takes v w o q → TellsFrom takes v.host.released p o q
  tells_waiting v w guest p o q shows all =
      subst (λ z. Releases takes o (all_taken (suc v.host.released) z) q)
      (sym (waiting_behind v guest p shows)) all.told

  pub refuses_waiting : (v w : ProcessValue) (guest : Guest) (p : ProcessState) (o q : O)
      → ShowsProcess v guest p → ReleasesSome takes v w o q
      → RefusesFrom takes v.host.released p o q
  refuses_waiting v w guest p o q shows some = record {
    told = some.told;
    line = some.line;
    others = some.others;
    are = waiting_behind v guest p shows ∙ some.waiting;
    refused = some.refused;
  }

  pub tells_same : (released : ℕ) (p q : ProcessState) (o o' : O)
      → q.host.lines ≡ p.host.lines → TellsFrom takes released p o o'
      → TellsFrom takes released q o o'
  tells_same released p q o o' same told =
      subst (λ z. Releases takes o (all_taken (suc released) (drop released z)) o') (sym same) told

  module _ (released : ℕ) (p q : ProcessState) (more : List Line) (o o' o'' : O)
      (few : released ≤ length p.host.lines) (emitted : q.host.lines ≡ p.host.lines ++ more)
      (told : TellsFrom takes released p o o') where
    abbrev before : List Line
    before = drop released p.host.lines

    behind : drop released q.host.lines ≡ before ++ more
    behind = ap (λ z. drop released z) emitted ∙ drop-append-le released p.host.lines more few

    size : suc released + length before ≡ suc (length p.host.lines)
    size =
        let count_left : length before ≡ length p.host.lines - released =
        length-drop released p.host.lines in
        omega (arith, count_left, few)

    in_order : (lines : List Line) → all_taken (suc released) (before ++ lines)
        ≡ all_taken (suc released) before ++ all_taken (suc (length p.host.lines)) lines
    in_order lines = lines_in_order (suc released) before lines
        ∙ ap (λ z. all_taken (suc released) before ++ all_taken z lines) size

    -- all further lines as well
    pub tells_more : Releases takes o' (all_taken (suc (length p.host.lines)) more) o''
        → TellsFrom takes released q o o''
    tells_more others =
        let whole = leads_join (Released takes) o o'' o' (all_taken (suc released) before)
        (all_taken (suc (length p.host.lines)) more) told others in
        subst (λ z. Releases takes o z o'')
        (sym (ap (all_taken (suc released)) behind ∙ in_order more)) whole

    -- some of the further ones, and one that was refused
    pub refuses_more : (first : List Line) (line : Line) (others : List Line)
        → more ≡ first ++ (line ∷ others)
        → Releases takes o' (last_refused (suc (length p.host.lines)) first line) o''
        → RefusesFrom takes released q o o''
    refuses_more first line others is refused =
        let refusal : ℕ → List Begun = λ z.
        record { number = z; line = line; said = Err (record {}) } ∷ [] in
        let number : suc released + length (before ++ first)
        ≡ suc (length p.host.lines) + length first =
        (let both : length (before ++ first) ≡ length before + length first =
        length-append before first in
        let few = size in
        omega (arith, both, few)) in
        let begun : last_refused (suc released) (before ++ first) line
        ≡ all_taken (suc released) before
        ++ last_refused (suc (length p.host.lines)) first line =
        ap (λ z. all_taken (suc released) (before ++ first) ++ refusal z) number
        ∙ ap (λ z. z ++ refusal (suc (length p.host.lines) + length first)) (in_order first)
        ∙ append_assoc (all_taken (suc released) before)
        (all_taken (suc (length p.host.lines)) first)
        (refusal (suc (length p.host.lines) + length first)) in
        record {
          told = before ++ first;
          line = line;
          others = others;
          are = behind ∙ ap (λ z. before ++ z) is ∙ sym (append_assoc before first (line ∷ others));
          refused = subst (λ z. Releases takes o z o'') (sym begun)
              (leads_join (Released takes) o o'' o' (all_taken (suc released) before)
              (last_refused (suc (length p.host.lines)) first line) told refused);
        }
