-- A queue of lines serves as an outlet, and an outlet takes what is in it.
use Rattle.std.proofs.Common.{◌≡◌, ℕ, suc, ◌+◌, ◌≤◌, ◌<◌, List, [], ◌∷◌, ◌++◌, length, take, refl}
use Rattle.std.proofs.Common.{sym, ap, ◌∙◌, subst, arith, inl, inr, Option, Some, None, Ok, Err}
use Rattle.std.proofs.Common.{append_assoc, length-append, true, false, Bool, drop, get_or}
use Rattle.std.specs.Prelude.{Result, ◌≢◌, ◌-◌, OnOk, OnErr}
use Rattle.std.specs.Result.{is_ok, is_err}
use Rattle.std.proofs.lemmas.List.{append-nil, map-append, take_more}
use Rattle.std.proofs.Math.Seq.{split_at, take-append_seam}
use Rattle.wasi_abi.specs.declared.answer.Answer.{Answer}
use Rattle.wasi_calls_rules.specs.WasiStates.{Line}
use Rattle.process_rules.specs.Processes.{ProcessState, Guest}
use Rattle.process.specs.rules.Values.{ProcessValue, waiting_in}
use Rattle.process.specs.declared.fault.ProcessFault.{ProcessFault}
use Rattle.process.specs.declared.fault.ProcessFault.TheVariants as stop
use Rattle.sector_disk.specs.declared.fault.DiskFault.{DiskFault}
use Rattle.disk_layout.specs.rules.Journal.{Record}
use Rattle.record_replay.specs.declared.fault.OutletFault.{OutletFault}
use Rattle.record_replay.specs.declared.line_list.NumberedLine.{NumberedLine}
use Rattle.record_replay.specs.rules.Calls.{Giving, Taking, Ask, Begun, Exchange, Asks, Exchanges}
use Rattle.record_replay.specs.rules.Calls.{Released, Releases, all_taken, asks_of, releases_of}
use Rattle.record_replay.specs.rules.Lists.{KeepsLine, numbered}
use Rattle.record_replay.specs.rules.Calls.{last_refused, ports}
use Rattle.record_replay.specs.rules.Waiting.{first_waiting, ReleasesAll, ReleasesSome}
use Rattle.record_replay.proofs.Following.{leads_join, leads_on, releases_of-append}
use Rattle.process_rules.specs.Runs.{Runs}
use Rattle.worker_store.specs.declared.store.WorkerStore.{WorkerStore}
use Rattle.worker_store.specs.rules.Calls.{AppendFails}
use Rattle.worker_store.specs.declared.fault.StoreFault.{StoreFault}
use Rattle.worker_store.specs.declared.fault.StoreFault.TheVariants as store
use Rattle.record_replay.specs.declared.slices.now.Now.{Now}
use Rattle.record_replay.specs.declared.slices.now.Now.TheVariants as now
use Rattle.record_replay.specs.declared.slices.fault.SliceFault.TheVariants as slice
use Rattle.record_replay.specs.declared.slices.fault.Refusal.TheVariants as refusal
use Rattle.record_replay.specs.rules.Slices.{handed, handed_by, SliceLeadsTo, AreWanted, IsNow}
use Rattle.record_replay.specs.rules.Slices.{AreAnswered, Slices}
use Rattle.record_replay.specs.rules.Faults.{LeadsUpTo}
use Rattle.record_replay.specs.rules.Refusals.{slice_fault}
use Rattle.record_replay.specs.Turns.{working}
use Rattle.record_replay.proofs.Joining.{handed_of_both}
use Rattle.worker.specs.declared.fault.WorkFault.{WorkFault}
use Rattle.worker.specs.declared.fault.WorkFault.TheVariants.{Work, Disk, Store, Upgrade}
use Rattle.worker.specs.rules.Batches.{keeping, taking, TellsFront, ToldUpTo, StopsBatch}
use Rattle.worker.specs.rules.Batches.{IsBatchCause}
use Rattle.worker.specs.rules.DurableFailures.{IsDiskCause, SlicesOnDiskInVain}
use Rattle.worker.specs.rules.WorkFaults.{fault_of_store}
use Rattle.worker.specs.declared.running_worker.RunningWorker.{RunningWorker}
use Rattle.worker.specs.BatchTurns.{held_as_begun, HoldsLines, RefusesOne, StopsInBatch}
use Rattle.worker.specs.BatchTurns.{IsBarrierFault, holding}
use Rattle.worker.proofs.DurableLemmas.Holding.{length_taken}

-- ---- lists of lines

-- these lines with their numbers
abbrev pub numbered_all : ℕ → List Line → List NumberedLine
numbered_all n [] = []
numbered_all n (line ∷ lines) = numbered n line ∷ numbered_all (n + 1) lines

abbrev line_taken : ℕ → Line → Begun
line_taken n line = record { number = n; line = line; said = Ok tt }

pub length_held : (lines : List NumberedLine) → length (held_as_begun lines) ≡ length lines
length_held [] = refl
length_held (line ∷ lines) = let others = length_held lines in omega (arith, others)

kept_said : (front a b : List NumberedLine) (n : ℕ) (line : Line)
    (said : Result (Unit {0}) OutletFault) → KeepsLine a n line said b
    → KeepsLine (front ++ a) n line said (front ++ b)
kept_said front a b n line (Ok x) e =
    ap (λ z. front ++ z) e ∙ sym (append_assoc front a (numbered n line ∷ []))
kept_said front a b n line (Err f) e = ap (λ z. front ++ z) e

-- behind other lines
pub kept_behind : (front a b : List NumberedLine) (begun : List Begun)
    → Releases keeping a begun b → Releases keeping (front ++ a) begun (front ++ b)
kept_behind front a b [] e = ap (λ z. front ++ z) e
kept_behind front a b (x ∷ begun) h = (
  front ++ h.0,
  kept_said front a h.0 x.number x.line x.said h.1,
  kept_behind front h.0 b begun h.2,
)

-- a list has what was released to it at its end
pub kept_taken : (n : ℕ) (lines : List Line) (a b : List NumberedLine)
    → Releases keeping a (all_taken n lines) b → held_as_begun b ≡ held_as_begun a
    ++ all_taken n lines
kept_taken n [] a b e = ap (λ z. held_as_begun z) e ∙ sym (append-nil (held_as_begun a))
kept_taken n (line ∷ lines) a b h =
    let here : h.0 ≡ a ++ numbered n line ∷ [] = h.1 in
    let rest = kept_taken (n + 1) lines h.0 b h.2 in
    let one : held_as_begun h.0 ≡ held_as_begun a ++ (line_taken n line ∷ []) =
    ap (λ z. held_as_begun z) here ∙ map-append taking a (numbered n line ∷ []) in
    rest ∙ ap (λ z. z ++ all_taken (n + 1) lines) one
    ∙ append_assoc (held_as_begun a) (line_taken n line ∷ []) (all_taken (n + 1) lines)

-- what it had is at its front
record IsLonger (a b : List NumberedLine) : Type 0 where
  pub more : List NumberedLine
  pub is : b ≡ a ++ more

longer_said : (a b : List NumberedLine) (n : ℕ) (line : Line)
    (said : Result (Unit {0}) OutletFault) → KeepsLine a n line said b → IsLonger a b
longer_said a b n line (Ok x) e = record { more = numbered n line ∷ []; is = e }
longer_said a b n line (Err f) e = record { more = []; is = e ∙ sym (append-nil a) }

longer : (a b : List NumberedLine) (begun : List Begun) → Releases keeping a begun b
    → IsLonger a b
longer a b [] e = record { more = []; is = e ∙ sym (append-nil a) }
longer a b (x ∷ begun) h =
    let one = longer_said a h.0 x.number x.line x.said h.1 in
    let rest = longer h.0 b begun h.2 in
    record {
      more = one.more ++ rest.more;
      is = rest.is ∙ ap (λ z. z ++ rest.more) one.is ∙ append_assoc a one.more rest.more;
    }

pub kept_front : (a b : List NumberedLine) (begun : List Begun) → Releases keeping a begun b
    → take (length a) b ≡ a
kept_front a b begun h =
    let more = longer a b begun h in
    ap (λ z. take (length a) z) more.is ∙ take-append_seam a more.more

-- all of them are kept
pub keep_all : (n : ℕ) (lines : List Line) (a : List NumberedLine)
    → Releases keeping a (all_taken n lines) (a ++ numbered_all n lines)
keep_all n [] a = append-nil a
keep_all n (line ∷ lines) a = (
  a ++ numbered n line ∷ [],
  refl,
  subst (λ z. Releases keeping (a ++ numbered n line ∷ []) (all_taken (n + 1) lines) z)
      (append_assoc a (numbered n line ∷ []) (numbered_all (n + 1) lines))
      (keep_all (n + 1) lines (a ++ numbered n line ∷ [])),
)

pub taken_all : (n : ℕ) (lines : List Line) → held_as_begun (numbered_all n lines)
    ≡ all_taken n lines
taken_all n lines = kept_taken n lines [] (numbered_all n lines) (keep_all n lines [])

-- as many lines more as were released to it
kept_length : (n : ℕ) (lines : List Line) (a b : List NumberedLine)
    → Releases keeping a (all_taken n lines) b → length b ≡ length a + length lines
kept_length n lines a b h =
    let all : length (held_as_begun b) ≡ length (held_as_begun a ++ all_taken n lines) =
    ap (λ z. length z) (kept_taken n lines a b h) in
    let both = length-append (held_as_begun a) (all_taken n lines) in
    let long_b = length_held b in
    let long_a = length_held a in
    let more = length_taken n lines in
    omega (arith, all, both, long_a, long_b, more)

-- ---- lines that wait are held, or not

pub holds_so : (most : ℕ) (old : RunningWorker) (process : ProcessValue)
    (lines lines' : List NumberedLine) → waiting_in old.process ≢ [] → old.process.ended ≡ None
    → length (waiting_in old.process) + length lines ≤ most - 1
    → ReleasesAll keeping old.process process lines lines'
    → HoldsLines most (holding old lines) (holding (record old { process = process }) lines')
holds_so most old process lines lines' some unended few all = record {
  some = some;
  unended = unended;
  holds = all;
  few = (let long = kept_length (first_waiting old.process) (waiting_in old.process) lines lines'
      all.told in
      omega (arith, few, long));
  same_store = refl;
  same_says = refl;
}

module _ (v w : ProcessValue) (a b : List NumberedLine) (said : Result (Unit {0}) OutletFault)
    (all : OnOk said (ReleasesAll keeping v w a b))
    (some : OnErr said (ReleasesSome keeping v w a b)) where
  pub front_by : take (length a) b ≡ a
  front_by = by said all some
    where
      by : (said : Result (Unit {0}) OutletFault) → OnOk said (ReleasesAll keeping v w a b)
          → OnErr said (ReleasesSome keeping v w a b) → take (length a) b ≡ a
      by (Ok done) all some = kept_front a b (all_taken (first_waiting v) (waiting_in v)) all.told
      by (Err fault) all some =
          kept_front a b (last_refused (first_waiting v) some.told some.line) some.refused

  pub all_held : (said_ok : Bool) → said_ok ≡ is_ok said → said_ok ≡ true
      → ReleasesAll keeping v w a b
  all_held said_ok is so = by said all some said_ok is so
    where
      by : (said : Result (Unit {0}) OutletFault) → OnOk said (ReleasesAll keeping v w a b)
          → OnErr said (ReleasesSome keeping v w a b) → (said_ok : Bool) → said_ok ≡ is_ok said
          → said_ok ≡ true → ReleasesAll keeping v w a b
      by (Ok done) all some said_ok is so = all
      by (Err fault) all some said_ok is so = absurd (cc)

-- ---- lines of it are released one after another

-- what an outlet has said, by whether it failed
abbrev said_by_flag : Bool → Result (Unit {0}) OutletFault
said_by_flag false = Ok tt
said_by_flag true = Err (record {})

flagged : (said : Result (Unit {0}) OutletFault) (b : Bool) → b ≡ is_err said
    → said ≡ said_by_flag b
flagged (Ok done) b is = sym (ap said_by_flag is)
flagged (Err e) b is = sym (ap said_by_flag is)

module _ {O : Type 0} (takes : Taking O) (o p q : O) (lines : List NumberedLine) (i : ℕ)
    (line : NumberedLine) (text : List ℕ) (said : Result (Unit {0}) OutletFault) (b : Bool)
    (within : i < length lines) (at : line ≡ get_or lines i line) (same_text : text ≡ line.text)
    (told : Releases takes o (held_as_begun (take i lines)) p)
    (is_told : takes p line.number (record { stream = line.stream; text = text }) said q)
    (tells : b ≡ is_err said) where
  told_so : takes p line.number (record { stream = line.stream; text = line.text }) said q
  told_so =
      subst (λ z. takes p line.number (record { stream = line.stream; text = z }) said q) same_text
      is_told

  pub one_more_held : b ≡ false → Releases takes o (held_as_begun (take (i + 1) lines)) q
  one_more_held no_fault =
      let all : held_as_begun (take (i + 1) lines) ≡ held_as_begun (take i lines)
      ++ (taking line ∷ []) =
      ap (λ z. held_as_begun z) (take_more lines i line within
      ∙ ap (λ z. take i lines ++ (z ∷ [])) (sym at))
      ∙ map-append taking (take i lines) (line ∷ []) in
      subst (λ z. Releases takes o z q) (sym all)
      (leads_on (Released takes) o q p (held_as_begun (take i lines)) (taking line) told
      (subst (λ z. takes p line.number (record { stream = line.stream; text = line.text }) z q)
      (flagged said b tells ∙ ap said_by_flag no_fault) told_so))

  pub one_refused : b ≡ true → RefusesOne takes (held_as_begun lines) o q
  one_refused fault = (
    held_as_begun (take i lines),
    taking line,
    held_as_begun (drop (suc i) lines),
    record {},
    ap (λ z. held_as_begun z) (split_at lines i line within
        ∙ ap (λ z. take i lines ++ (z ∷ drop (suc i) lines)) (sym at))
        ∙ map-append taking (take i lines) (line ∷ drop (suc i) lines),
    leads_on (Released takes) o q p (held_as_begun (take i lines))
        (record (taking line) { said = Err (record {}) }) told
        (subst (λ z. takes p line.number (record { stream = line.stream; text = line.text }) z q)
        (flagged said b tells ∙ ap said_by_flag fault) told_so),
  )

-- ---- what an outlet takes of it

module _ {S O : Type 0} (gives : Giving S) (takes : Taking O) where
  pub exchanged_told : (s u : S) (o q : O) (exchanges : List Exchange) (kept : List NumberedLine)
      (n : ℕ) (lines : List Line) → Exchanges gives keeping s [] exchanges u kept
      → releases_of exchanges ≡ all_taken n lines → Releases takes o (held_as_begun kept) q
      → Exchanges gives takes s o exchanges u q
  exchanged_told s u o q exchanges kept n lines exchanged is released =
      let all : held_as_begun kept ≡ all_taken n lines =
      kept_taken n lines [] kept
      (subst (λ z. Releases keeping [] z kept) is exchanged.released) in
      record {
        asked = exchanged.asked;
        released = subst (λ z. Releases takes o z q) (all ∙ sym is) released;
      }

  -- a slice whose lines go to a list is one whose lines go to such an outlet
  pub slices_told : (old new : ProcessValue) (fuel : ℕ) (why : Now) (s u : S) (o q : O)
      (kept : List NumberedLine)
      → Slices gives keeping (working old) fuel why (working new) (ports s []) (ports u kept)
      → Releases takes o (held_as_begun kept) q
      → Slices gives takes (working old) fuel why (working new) (ports s o) (ports u q)
  slices_told old new fuel why s u o q kept h released = record {
    had_not_failed = h.had_not_failed;
    has_not_failed = h.has_not_failed;
    none_waits = h.none_waits;
    shown = λ guest p shows.
        let k = h.shown guest p shows in
        let works = k.0 in
        let leads = works.leads in (
          record {
            exchanges = works.exchanges;
            exchanged = exchanged_told s u o q works.exchanges kept (suc (length p.host.lines))
                leads.lines works.exchanged leads.released released;
            wanted = works.wanted;
            steps = works.steps;
            process = works.process;
            leads = works.leads;
            shows = works.shows;
          },
          k.1,
        );
  }

-- ---- where it has stopped

-- without its last question, which brought nothing
unasked_leads : (guest : Guest) (p q : ProcessState) (front : List Exchange) (n : ℕ) (ask : Ask)
    → handed_by ask.said ≡ [] → SliceLeadsTo guest p (front ++ (Asks ask ∷ [])) n q
    → SliceLeadsTo guest p front n q
unasked_leads guest p q front n ask nothing a =
    let same : handed (asks_of (front ++ (Asks ask ∷ []))) ≡ handed (asks_of front) =
    handed_of_both front (Asks ask ∷ [])
    ∙ ap (λ z. handed (asks_of front) ++ (z ++ [])) nothing
    ∙ append-nil (handed (asks_of front)) in
    record {
      runs = subst (λ z. Runs guest p z n q) same a.runs;
      lines = a.lines;
      emitted = a.emitted;
      released = sym (releases_of-append front (Asks ask ∷ []) ∙ append-nil (releases_of front))
          ∙ a.released;
    }

none_few : 0 ≤ 1
none_few = omega arith

one_few : 1 ≤ 1
one_few = omega arith

pub stops_plain : (guest : Guest) (p : ProcessState) (made : List Exchange) (n : ℕ)
    (q : ProcessState) → SliceLeadsTo guest p made n q → AreAnswered made
    → StopsBatch guest p made n q
stops_plain guest p made n q leads answered =
    (made, [], none_few, sym (append-nil made), leads, answered)

pub stops_up_to : (guest : Guest) (p : ProcessState) (made : List Exchange) (n : ℕ)
    (q : ProcessState) (given : Option Answer) → LeadsUpTo guest p made n q given
    → StopsBatch guest p made n q
stops_up_to guest p made n q None up = (up.front, [], none_few, up.is, up.leads, up.answered)
stops_up_to guest p made n q (Some a) up = (
  up.front,
  record { question = up.question; said = Ok (Some a) } ∷ [],
  one_few,
  up.is,
  up.leads,
  up.answered,
)

-- that it has stopped, in the steps that it may take
abbrev HasStopped : ℕ → Guest → ProcessState → List Exchange → ℕ → ProcessState → Type 0
HasStopped fuel guest p made n q = (n ≤ fuel) × StopsBatch guest p made n q

stopped_now : (fuel : ℕ) (guest : Guest) (p : ProcessState) (made : List Exchange) (n : ℕ)
    (q : ProcessState) (why : Now) → AreWanted guest p made → SliceLeadsTo guest p made n q
    → IsNow guest q made n fuel why → HasStopped fuel guest p made n q
stopped_now fuel guest p made n q now.Spent wanted leads is =
    let all = is.0 in (omega (arith, all), stops_plain guest p made n q leads is.2)
stopped_now fuel guest p made n q (now.Ended how) wanted leads is =
    (is.0, stops_plain guest p made n q leads is.2)
stopped_now fuel guest p made n q now.Waiting wanted leads is =
    let less = is.0 in
    let last : Ask = record { question = is.2; said = Ok None } in
    let front = is.4.0 in
    let asked = wanted front [] last is.4.1 in (
      omega (arith, less),
      (
        front,
        last ∷ [],
        one_few,
        is.4.1,
        unasked_leads guest p q front n last refl
            (subst (λ z. SliceLeadsTo guest p z n q) is.4.1 leads),
        asked.answered,
      ),
    )

module _ {S : Type 0} (gives : Giving S) (old new : ProcessValue) (fuel : ℕ) (s u : S)
    (kept : List NumberedLine) where
  -- in order
  pub slices_stop : (why : Now)
      → Slices gives keeping (working old) fuel why (working new) (ports s []) (ports u kept)
      → StopsInBatch gives old fuel (Ok why) new s u kept
  slices_stop why h = record {
    none_waits = h.none_waits;
    done = h;
    shown = λ guest p shows.
        let k = h.shown guest p shows in
        let works = k.0 in (
          record {
            exchanges = works.exchanges;
            exchanged = works.exchanged;
            wanted = works.wanted;
            steps = works.steps;
            process = works.process;
            shows = works.shows;
          },
          stopped_now fuel guest p works.exchanges works.steps works.process why works.wanted
              works.leads k.1,
          tt,
        );
  }

  -- by its source, for memory, or since its numbers are at their end
  source_stopped : (guest : Guest) (p : ProcessState) (made : List Exchange) (n : ℕ)
      (q : ProcessState) → AreWanted guest p made
      → IsDiskCause guest p fuel made n q (Work slice.Source) → HasStopped fuel guest p made n q
  source_stopped guest p made n q wanted cause =
      let less = cause.0 in
      let at = cause.1 in
      let asked = wanted at.front [] at.ask at.is in (
        omega (arith, less),
        (at.front, at.ask ∷ [], one_few, at.is, at.leads, asked.answered),
      )

  memory_stopped : (guest : Guest) (p : ProcessState) (made : List Exchange) (n : ℕ)
      (q : ProcessState) → IsDiskCause guest p fuel made n q (Work slice.Memory)
      → HasStopped fuel guest p made n q
  memory_stopped guest p made n q cause =
      let less = cause.0 in
      (omega (arith, less), stops_up_to guest p made n q cause.3 cause.4)

  numbers_stopped : (guest : Guest) (p : ProcessState) (made : List Exchange) (n : ℕ)
      (q : ProcessState)
      → IsDiskCause guest p fuel made n q (Work (slice.Refused refusal.StepsSpent))
      → HasStopped fuel guest p made n q
  numbers_stopped guest p made n q cause =
      let less = cause.0 in
      (omega (arith, less), stops_up_to guest p made n q cause.2 cause.3)

  abbrev Vain : WorkFault → Type 0
  Vain why = SlicesOnDiskInVain gives keeping old fuel why new (ports s []) (ports u kept)

  module _ (none_waits : waiting_in new ≡ []) where
    pub source_stops : Vain (Work slice.Source)
        → StopsInBatch gives old fuel (Err (Work slice.Source)) new s u kept
    source_stops h = record {
      none_waits = none_waits;
      done = tt;
      shown = λ guest p shows.
          let k = h guest p shows in
          let did = k.0 in (
            did,
            source_stopped guest p did.exchanges did.steps did.process did.wanted k.1,
            k.1,
          );
    }

    pub memory_stops_it : Vain (Work slice.Memory)
        → StopsInBatch gives old fuel (Err (Work slice.Memory)) new s u kept
    memory_stops_it h = record {
      none_waits = none_waits;
      done = tt;
      shown = λ guest p shows.
          let k = h guest p shows in
          let did = k.0 in
          (did, memory_stopped guest p did.exchanges did.steps did.process k.1, k.1);
    }

    pub numbers_stop_it : Vain (Work (slice.Refused refusal.StepsSpent))
        → StopsInBatch gives old fuel (Err (Work (slice.Refused refusal.StepsSpent))) new s u kept
    numbers_stop_it h = record {
      none_waits = none_waits;
      done = tt;
      shown = λ guest p shows.
          let k = h guest p shows in
          let did = k.0 in
          (did, numbers_stopped guest p did.exchanges did.steps did.process k.1, k.1);
    }

-- ---- how much was told

module _ {O : Type 0} (takes : Taking O) (untaken : Type 0) (o q : O)
    (told lines : List NumberedLine) (released : Releases takes o (held_as_begun told) q) where
  both_held : held_as_begun (told ++ lines) ≡ held_as_begun told ++ held_as_begun lines
  both_held = map-append taking told lines

  first_ones : TellsFront takes (held_as_begun (told ++ lines)) o q
  first_ones = (held_as_begun told, held_as_begun lines, both_held, released)

  -- the first lines, where a barrier has failed
  pub told_by_store : (kept : WorkerStore) (fault : StoreFault) → IsBarrierFault kept fault
      → ToldUpTo takes untaken (fault_of_store fault) (held_as_begun (told ++ lines)) o q
  told_by_store kept (store.Disk f) fails = first_ones
  told_by_store kept store.Full fails = first_ones
  told_by_store kept store.Failed fails = first_ones
  told_by_store kept store.Memory fails = absurd fails
  told_by_store kept store.TooLong fails = absurd fails
  told_by_store kept store.TooBig fails = absurd fails
  told_by_store kept store.Damaged fails = absurd fails
  told_by_store kept (store.Layout f) fails = absurd fails

  -- where an answer isn't kept
  pub told_unkept : (kept : WorkerStore) (r : Record) (fault : StoreFault)
      → AppendFails kept r fault → untaken
      → ToldUpTo takes untaken (fault_of_store fault) (held_as_begun (told ++ lines)) o q
  told_unkept kept r store.Memory fails left = inr (left, first_ones)
  told_unkept kept r store.Failed fails left = first_ones
  told_unkept kept r store.Full fails left = first_ones
  told_unkept kept r store.TooLong fails left = first_ones
  told_unkept kept r store.TooBig fails left = absurd fails
  told_unkept kept r store.Damaged fails left = absurd fails
  told_unkept kept r (store.Disk f) fails left = absurd fails
  told_unkept kept r (store.Layout f) fails left = absurd fails

  -- or isn't taken
  pub told_untaken : (fault : ProcessFault)
      → ◌≢◌ {A = WorkFault} (Work (slice_fault fault)) (Work slice.Source) → untaken
      → ToldUpTo takes untaken (Work (slice_fault fault)) (held_as_begun (told ++ lines)) o q
  told_untaken stop.WrongAnswer other left = absurd (other refl)
  told_untaken stop.Memory other left = inr (left, first_ones)
  told_untaken stop.StepsSpent other left = inr (left, first_ones)

  -- one is refused
  pub told_to_one : (r : O) → RefusesOne takes (held_as_begun lines) q r
      → ToldUpTo takes untaken (Work slice.Outlet) (held_as_begun (told ++ lines)) o r
  told_to_one r h = (
    held_as_begun told ++ h.0,
    h.1,
    h.2,
    h.3,
    both_held ∙ ap (λ z. held_as_begun told ++ z) h.4
        ∙ sym (append_assoc (held_as_begun told) h.0 (h.1 ∷ h.2)),
    subst (λ z. Releases takes o z r)
        (sym (append_assoc (held_as_begun told) h.0 (record h.1 { said = Err h.3 } ∷ [])))
        (leads_join (Released takes) o r q (held_as_begun told)
        (h.0 ++ (record h.1 { said = Err h.3 } ∷ [])) released h.5),
  )

-- all of them
module _ {O : Type 0} (takes : Taking O) (untaken : Type 0) (all : List Begun) (o q : O)
    (released : Releases takes o all q) where
  all_ones : TellsFront takes all o q
  all_ones = (all, [], sym (append-nil all), released)

  pub told_whole : (why : WorkFault) → why ≢ Work slice.Outlet → ToldUpTo takes untaken why all o q
  told_whole (Work slice.Outlet) one = absurd (one refl)
  told_whole (Work slice.Source) one = released
  told_whole (Work slice.Memory) one = inl released
  told_whole (Work (slice.Refused r)) one = inl released
  told_whole (Work slice.Failed) one = all_ones
  told_whole (Disk f) one = all_ones
  told_whole (Store store.TooBig) one = released
  told_whole (Store store.Full) one = all_ones
  told_whole (Store store.TooLong) one = all_ones
  told_whole (Store store.Damaged) one = all_ones
  told_whole (Store store.Memory) one = all_ones
  told_whole (Store store.Failed) one = all_ones
  told_whole (Store (store.Layout f)) one = all_ones
  told_whole (Store (store.Disk f)) one = all_ones
  told_whole (Upgrade f) one = all_ones

-- ---- why it has failed

pub cause_by : (fuel : ℕ) (guest : Guest) (p : ProcessState) (made : List Exchange) (n : ℕ)
    (q : ProcessState) (why : WorkFault)
    → ((f : DiskFault) → why ≡ Disk f → StopsBatch guest p made n q) → why ≢ Work slice.Outlet
    → IsDiskCause guest p fuel made n q why → IsBatchCause guest p fuel made n q why
cause_by fuel guest p made n q (Disk f) stops other cause = (cause.0, stops f refl)
cause_by fuel guest p made n q (Work slice.Outlet) stops other cause = absurd (other refl)
cause_by fuel guest p made n q (Work slice.Source) stops other cause = cause
cause_by fuel guest p made n q (Work slice.Memory) stops other cause = cause
cause_by fuel guest p made n q (Work slice.Failed) stops other cause = cause
cause_by fuel guest p made n q (Work (slice.Refused refusal.StepsSpent)) stops other cause = cause
cause_by fuel guest p made n q (Work (slice.Refused (refusal.Module r))) stops other cause = cause
cause_by fuel guest p made n q (Store store.Full) stops other cause = (cause.0, inl cause.1)
cause_by fuel guest p made n q (Store store.TooLong) stops other cause = cause
cause_by fuel guest p made n q (Store store.TooBig) stops other cause = cause
cause_by fuel guest p made n q (Store store.Damaged) stops other cause = cause
cause_by fuel guest p made n q (Store store.Memory) stops other cause = cause
cause_by fuel guest p made n q (Store store.Failed) stops other cause = cause
cause_by fuel guest p made n q (Store (store.Layout f)) stops other cause = cause
cause_by fuel guest p made n q (Store (store.Disk f)) stops other cause = cause
cause_by fuel guest p made n q (Upgrade f) stops other cause = cause
