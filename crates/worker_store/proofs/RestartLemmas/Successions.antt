-- What a worker and those that succeed it told is one history.
use Rattle.std.proofs.Common.{◌≡◌, ◌≢◌, ◌⊎◌, inl, inr, ⊎_elim, ℕ, ◌+◌, ◌<◌, ◌≤◌, Bool, true, false}
use Rattle.std.proofs.Common.{List, [], ◌∷◌, ◌++◌, length, take, drop, None, refl, sym, ap, ◌∙◌}
use Rattle.std.proofs.Common.{subst, arith, length-append}
use Rattle.std.proofs.lemmas.Bool.{cases_lt}
use Rattle.std.proofs.lemmas.List.{append-nil, length-take-le}
use Rattle.std.specs.List.{AllByRecursion}
use Rattle.std.specs.Prelude.{map, max}
use Rattle.wasm_syntax.specs.declared.module.Module.{Module}
use Rattle.wasm_rules.specs.Validity.{IsValid}
use Rattle.wasi_abi.specs.declared.answer.Question.TheVariants as question
use Rattle.wasi_abi.specs.rules.Configs.{Settings}
use Rattle.wasi_calls_rules.specs.WasiStates.{Line}
use Rattle.process_rules.specs.Processes.{ProcessState, Guest}
use Rattle.process_rules.specs.Runs.{Kept, Wants, Runs, Reaches, next_of}
use Rattle.process_rules.specs.Behind.{IsNarrowTo}
use Rattle.process_rules.proofs.Growing.{runs_emit}
use Rattle.disk_layout.specs.rules.Journal.{Record}
use Rattle.record_replay.specs.rules.Records.{Recorded, given_in, none as no_record}
use Rattle.record_replay.specs.rules.Records.{more as one_more}
use Rattle.sector_disk.specs.rules.DiskImage.{DiskImage}
use Rattle.sector_disk.specs.rules.Medium.{Medium}
use Rattle.worker_store.specs.restart_theorem.Lives.{Release, Event, Told, Asked, Opened, Ended}
use Rattle.worker_store.specs.restart_theorem.Lives.{Inputs, Life, events_of, told_in, told_lines}
use Rattle.worker_store.specs.restart_theorem.Promises.{Promise, after, promised, created_by}
use Rattle.worker_store.specs.restart_theorem.Promises.{promised_by, heard_by, GoOn}
use Rattle.worker_store.specs.restart_theorem.Successions.{promised_by_all, IsAtRest, IsLeft}
use Rattle.worker_store.specs.restart_theorem.Successions.{promised_from, HasNumber, IsFirstNumber}
use Rattle.worker_store.specs.restart_theorem.Successions.{LeaveNoneOut, alone, followed}
use Rattle.worker_store.specs.restart_theorem.laws.Laws.{HasOneText, HaveOneText, TellBeyond}
use Rattle.worker_store.specs.restart_theorem.laws.Successions.{SuccessorsGoOn, Succession}
use Rattle.worker_store.specs.restart_theorem.laws.Successions.{IsWholeHistory, SuccessiveTellAll}
use Rattle.worker_store.proofs.RestartLemmas.Abreast.{wants_no_step, stays_put}
use Rattle.worker_store.proofs.RestartLemmas.ForGood.{tells_beyond}
use Rattle.worker_store.proofs.RestartLemmas.Fronts.{LeadsOn, fronts_lead_on, reached_counts}
use Rattle.worker_store.proofs.RestartLemmas.NextLives.{lives_on}
use Rattle.worker_store.proofs.RestartLemmas.Promised.{AreKeptSomewhere, but_for_count}
use Rattle.worker_store.proofs.RestartLemmas.Promised.{lives_kept_from, one_text}

-- ---- promises after lives, read off their events

pub promised_both : (so_far : Promise) (first then : List Event)
    → promised so_far (first ++ then) ≡ promised (promised so_far first) then
promised_both so_far [] then = refl
promised_both so_far (e ∷ first) then = promised_both (after so_far e) first then

-- the same but for the count of what has happened, and whether a creation was begun
abbrev IsSameButFor : Promise → Promise → Type 0
IsSameButFor one other =
    one ≡ record other { was_created = one.was_created; events = one.events }

-- So what is promised through lives is what their events promise.
through_events : (so_far : Promise) (b : Bool) (n : ℕ) (lives : List Life)
    → IsSameButFor (promised_by_all (record so_far { was_created = b; events = n }) lives)
    (promised so_far (events_of lives))
through_events so_far b n [] = refl
through_events so_far b n (life ∷ lives) =
    let now : Bool = created_by life.begins b in
    let later : Promise = promised (record so_far { was_created = now; events = n }) life.events in
    let behind : Promise = record (promised so_far life.events) {
      was_created = later.was_created;
      events = later.events + 1;
    } in
    let same : promised_by (record so_far { was_created = b; events = n }) life ≡ behind =
    ap (λ (z : Promise). record z { events = z.events + 1 })
    (but_for_count so_far now n life.events) in
    subst (λ (z : Promise). IsSameButFor (promised_by_all z lives)
    (promised so_far (life.events ++ events_of lives))) (sym same)
    (subst (λ (z : Promise). IsSameButFor (promised_by_all behind lives) z)
    (sym (promised_both so_far life.events (events_of lives)))
    (through_events (promised so_far life.events) later.was_created (later.events + 1) lives))

abbrev through : Promise → List Life → Promise
through so_far lives = promised so_far (events_of lives)

-- so each field but these is that of the events
module _ (so_far : Promise) (lives : List Life) where
  but_for : IsSameButFor (promised_by_all so_far lives) (through so_far lives)
  but_for = through_events so_far so_far.was_created so_far.events lives

  begun_through : (promised_by_all so_far lives).begun ≡ (through so_far lives).begun
  begun_through = ap (λ (z : Promise). z.begun) but_for

  heard_through : (promised_by_all so_far lives).heard ≡ (through so_far lives).heard
  heard_through = ap (λ (z : Promise). z.heard) but_for

  passed_through : (promised_by_all so_far lives).passed ≡ (through so_far lives).passed
  passed_through = ap (λ (z : Promise). z.passed) but_for

  pub kept_through : (promised_by_all so_far lives).kept ≡ (through so_far lives).kept
  kept_through = ap (λ (z : Promise). z.kept) but_for

-- ---- numbers of lines that were told

abbrev IsWithin : ℕ → Release → Type 0
IsWithin n r = r.number ≤ n

abbrev IsBeyond : ℕ → Release → Type 0
IsBeyond n r = n < r.number

-- none is forgotten that was begun
begun_grows : (so_far : Promise) (events : List Event)
    → so_far.begun ≤ (promised so_far events).begun
begun_grows so_far [] = omega arith
begun_grows so_far (Told r t ∷ events) =
    let more = begun_grows (after so_far (Told r t)) events in
    omega (arith, more)
begun_grows so_far (Asked n k said fits ∷ events) =
    begun_grows (after so_far (Asked n k said fits)) events
begun_grows so_far (Opened held shown ∷ events) =
    begun_grows (after so_far (Opened held shown)) events
begun_grows so_far (Ended act reply held shown ∷ events) =
    begun_grows (after so_far (Ended act reply held shown)) events

-- and each that was told was begun
told_begun : (so_far : Promise) (n : ℕ) (events : List Event)
    → (promised so_far events).begun ≤ n → AllByRecursion (IsWithin n) (told_in events)
told_begun so_far n [] few = tt
told_begun so_far n (Told r t ∷ events) few =
    let more = begun_grows (after so_far (Told r t)) events in (
      omega (arith, more, few),
      told_begun (after so_far (Told r t)) n events few,
    )
told_begun so_far n (Asked steps k said fits ∷ events) few =
    told_begun (after so_far (Asked steps k said fits)) n events few
told_begun so_far n (Opened held shown ∷ events) few =
    told_begun (after so_far (Opened held shown)) n events few
told_begun so_far n (Ended act reply held shown ∷ events) few =
    told_begun (after so_far (Ended act reply held shown)) n events few

passed_grows : (so_far : Promise) (events : List Event)
    → so_far.passed ≤ (promised so_far events).passed
passed_grows so_far [] = omega arith
passed_grows so_far (Told r t ∷ events) = passed_grows (after so_far (Told r t)) events
passed_grows so_far (Asked n k said fits ∷ events) =
    passed_grows (after so_far (Asked n k said fits)) events
passed_grows so_far (Opened held shown ∷ events) =
    let more = passed_grows (after so_far (Opened held shown)) events in
    omega (arith, more)
passed_grows so_far (Ended act reply held shown ∷ events) =
    let more = passed_grows (after so_far (Ended act reply held shown)) events in
    omega (arith, more)

-- a line that no outlet had taken, and that one has taken now, was told
heard_now : (is_taken : Bool) (i number heard : ℕ) → heard < i
    → i ≤ max (heard_by is_taken number) heard → number ≤ heard + 1 → number ≡ i
heard_now true i number heard late now next = omega (arith, late, now, next)
heard_now false i number heard late now next = absurd (omega (arith, late, now))

module _ (m : Module) (config : Settings) where
  -- each that an outlet has taken since then was told
  heard_told : (so_far : Promise) (i : ℕ) (events : List Event)
      → AreKeptSomewhere m config so_far events → so_far.heard < i
      → i ≤ (promised so_far events).heard → HasNumber i (told_in events)
  heard_told so_far i [] kept late now = absurd (omega (arith, late, now))
  heard_told so_far i (Told r t ∷ events) kept late now =
      let then : Promise = after so_far (Told r t) in
      let next : r.number ≤ so_far.heard + 1 = kept.0.kept.none_skipped in
      ⊎_elim
      (λ (later : then.heard < i). inr (heard_told then i events kept.1 later now))
      (λ (there : i ≤ then.heard). inl (heard_now t i r.number so_far.heard late there next))
      (cases_lt then.heard i)
  heard_told so_far i (Asked n k said fits ∷ events) kept late now =
      heard_told (after so_far (Asked n k said fits)) i events kept.1 late now
  heard_told so_far i (Opened held shown ∷ events) kept late now =
      heard_told (after so_far (Opened held shown)) i events kept.1 late now
  heard_told so_far i (Ended act reply held shown ∷ events) kept late now =
      heard_told (after so_far (Ended act reply held shown)) i events kept.1 late now

  -- and none is left out before one that was told
  none_out : (so_far : Promise) (events : List Event) → AreKeptSomewhere m config so_far events
      → LeaveNoneOut so_far.heard (told_in events)
  none_out so_far [] kept i k late few there = there
  none_out so_far (Told r t ∷ events) kept i k late few there =
      let then : Promise = after so_far (Told r t) in
      let next : r.number ≤ so_far.heard + 1 = kept.0.kept.none_skipped in
      ⊎_elim
      (λ (here : r.number ≡ k). inl (omega (arith, here, next, late, few)))
      (λ (behind : HasNumber k (told_in events)).
      ⊎_elim
      (λ (later : then.heard < i). inr (none_out then events kept.1 i k later few behind))
      (λ (now : i ≤ then.heard). inl (heard_now t i r.number so_far.heard late now next))
      (cases_lt then.heard i))
      there
  none_out so_far (Asked n j said fits ∷ events) kept i k late few there =
      none_out (after so_far (Asked n j said fits)) events kept.1 i k late few there
  none_out so_far (Opened held shown ∷ events) kept i k late few there =
      none_out (after so_far (Opened held shown)) events kept.1 i k late few there
  none_out so_far (Ended act reply held shown ∷ events) kept i k late few there =
      none_out (after so_far (Ended act reply held shown)) events kept.1 i k late few there

  -- where all that an outlet has taken was passed, the next line comes first
  first_next : (so_far : Promise) (n : ℕ) (events : List Event)
      → AreKeptSomewhere m config so_far events → so_far.heard ≡ n → n ≤ so_far.passed
      → IsFirstNumber (n + 1) (told_in events)
  first_next so_far n [] kept heard passed = tt
  first_next so_far n (Told r t ∷ events) kept heard passed =
      let next : r.number ≤ so_far.heard + 1 = kept.0.kept.none_skipped in
      let beyond : so_far.passed < r.number = kept.0.kept.not_passed in
      omega (arith, next, beyond, heard, passed)
  first_next so_far n (Asked steps k said fits ∷ events) kept heard passed =
      first_next (after so_far (Asked steps k said fits)) n events kept.1 heard passed
  first_next so_far n (Opened held shown ∷ events) kept heard passed =
      first_next (after so_far (Opened held shown)) n events kept.1 heard (omega (arith, passed))
  first_next so_far n (Ended act reply held shown ∷ events) kept heard passed =
      first_next (after so_far (Ended act reply held shown)) n events kept.1 heard
      (omega (arith, passed))

beyond_all : (n : ℕ) (events : List Event) → TellBeyond n events
    → AllByRecursion (IsBeyond n) (told_in events)
beyond_all n [] beyond = tt
beyond_all n (Told r t ∷ events) beyond = (beyond.0, beyond_all n events beyond.1)
beyond_all n (Asked steps k said fits ∷ events) beyond = beyond_all n events beyond
beyond_all n (Opened held shown ∷ events) beyond = beyond_all n events beyond
beyond_all n (Ended act reply held shown ∷ events) beyond = beyond_all n events beyond

-- ---- a process at rest

-- A process that has ended, or waits for a request, comes nowhere without an answer.
rests : (guest : Guest) (p q : ProcessState) (kept : List Kept) (n : ℕ) → Runs guest p kept n q
    → kept ≡ [] → IsAtRest guest p → q ≡ p
rests guest p q kept n runs e rest = stays_put guest p q kept n runs e (λ next moves. ⊎_elim
    (λ (over : p.ended ≢ None). over moves.running)
    (λ (waits : next_of guest p None ≡ Wants question.Request).
    wants_no_step guest p next question.Request waits moves) rest)

-- no more answers than these are none
none_more : (a b : ℕ) (kept more : List Kept) → a ≤ b → b ≤ length kept
    → take b kept ++ more ≡ take a kept → more ≡ []
none_more a b kept more few within e =
    let left = length-take-le b kept within in
    let right = length-take-le a kept (omega (arith, few, within)) in
    let long : length (take b kept ++ more) ≡ length (take a kept) =
    ap (λ (l : List Kept). length l) e in
    let both = length-append (take b kept) more in
    empty_of more (omega (arith, few, left, right, long, both))
  where
    empty_of : (l : List Kept) → length l ≤ 0 → l ≡ []
    empty_of [] h = refl
    empty_of (x ∷ l) h = absurd (omega (arith, h))

no_records_last : (guest : Guest) (p q : ProcessState) (records : List Record)
    → Recorded guest p records q → records ≡ [] → q ≡ p
no_records_last guest p q records (no_record {p = p'}) e = refl
no_records_last guest p q records (one_more first moves recorded) e = absurd (cc)

-- So a process that is left has emitted each line that was begun.
left_emitted : (m : Module) (config : Settings) (promise : Promise) (disk : DiskImage)
    (p : ProcessState) → IsValid m → IsLeft m config promise disk p
    → promise.begun ≤ length p.host.lines
left_emitted m config promise disk p valid left =
    let kept : List Kept = promise.kept in
    let holds = left.holds.holds in
    let held : ℕ = left.holds.held in
    let stands = left.holds.stands in
    let q : ProcessState = stands.process in
    let guest : Guest = stands.reached.guest in
    let front : stands.front ≡ take held kept =
    sym (append-nil stands.front)
    ∙ ap (λ (l : List Record). stands.front ++ map given_in l) (sym left.no_records)
    ∙ sym stands.rest in
    let same : stands.last ≡ q =
    no_records_last guest q stands.last stands.records stands.recorded left.no_records in
    let steps : left.holds.steps ≡ stands.steps =
    stands.at_step ∙ ap (λ (z : ProcessState). z.steps) same
    ∙ reached_counts m config stands.front stands.steps q stands.reached in
    let here : Reaches m config (take held kept) stands.steps q = record {
      guest = guest;
      start = stands.reached.start;
      begins = stands.reached.begins;
      runs = subst (λ (l : List Kept). Runs guest stands.reached.start l stands.steps q) front
          stands.reached.runs;
    } in
    let line = holds.lines promise.begun (omega arith) in
    let a : ℕ = line.0 in
    let behind = line.2 in
    let lines : ℕ = length q.host.lines in
    let emitted : promise.begun ≤ lines =
    ⊎_elim
    (λ (on : LeadsOn guest q behind.process (take held kept) (take a kept)).
    let nothing : on.kept ≡ [] = none_more a held kept on.kept line.1 holds.within on.front in
    let there : behind.process ≡ q =
    rests guest q behind.process on.kept on.steps on.runs nothing left.at_rest in
    subst (λ (z : ProcessState). promise.begun ≤ length z.host.lines) there behind.emitted)
    (λ (on : LeadsOn guest behind.process q (take a kept) (take held kept)).
    let emits = runs_emit guest behind.process q on.kept on.steps on.runs in
    let long : lines ≡ length behind.process.host.lines + length emits.lines =
    ap (λ (l : List Line). length l) emits.are
    ∙ length-append behind.process.host.lines emits.lines in
    let early = behind.emitted in
    omega (arith, long, early))
    (fronts_lead_on m config kept held a stands.steps behind.steps q behind.process valid here
    behind.reached (subst (λ z. IsNarrowTo (drop held kept) z) steps holds.up_to) behind.up_to) in
    subst (λ (z : ProcessState). promise.begun ≤ length z.host.lines) (sym left.is) emitted

-- ---- texts of two workers

no_two : (n a b : ℕ) → a ≤ n → n < b → b ≡ a → ⊥
no_two n a b within beyond same = omega (arith, within, beyond, same)

apart : (n : ℕ) (r : Release) (later : List Release) → IsWithin n r
    → AllByRecursion (IsBeyond n) later → HasOneText later r
apart n r [] within beyond = tt
apart n r (other ∷ later) within beyond = (
  λ same. absurd (no_two n r.number other.number within beyond.0 same),
  apart n r later within beyond.1,
)

both_texts : (told later : List Release) (r : Release) → HasOneText told r → HasOneText later r
    → HasOneText (told ++ later) r
both_texts [] later r x y = y
both_texts (other ∷ told) later r x y = (x.0, both_texts told later r x.1 y)

join_texts : (n : ℕ) (told later : List Release) → HaveOneText told → HaveOneText later
    → AllByRecursion (IsWithin n) told → AllByRecursion (IsBeyond n) later
    → HaveOneText (told ++ later)
join_texts n [] later one two within beyond = two
join_texts n (r ∷ told) later one two within beyond = (
  both_texts told later r one.0 (apart n r later within.0 beyond),
  join_texts n told later one.1 two within.1 beyond,
)

-- ---- numbers of two workers

number_before : (n : ℕ) (told later : List Release) → HasNumber n told
    → HasNumber n (told ++ later)
number_before n (r ∷ told) later (inl here) = inl here
number_before n (r ∷ told) later (inr there) = inr (number_before n told later there)
number_before n [] later there = absurd there

number_behind : (n : ℕ) (told later : List Release) → HasNumber n later
    → HasNumber n (told ++ later)
number_behind n [] later there = there
number_behind n (r ∷ told) later there = inr (number_behind n told later there)

number_of_both : (n : ℕ) (told later : List Release) → HasNumber n (told ++ later)
    → HasNumber n told ⊎ HasNumber n later
number_of_both n [] later there = inr there
number_of_both n (r ∷ told) later (inl here) = inl (inl here)
number_of_both n (r ∷ told) later (inr there) =
    ⊎_elim
    (λ (before : HasNumber n told). inl (inr before))
    (λ (behind : HasNumber n later). inr behind)
    (number_of_both n told later there)

-- where the first worker has told all up to there, and the second one leaves none out beyond it,
-- they leave none out together
join_numbers : (first n : ℕ) (told later : List Release)
    → ((i : ℕ) → first < i → i ≤ n → HasNumber i told) → LeaveNoneOut first told
    → LeaveNoneOut n later → LeaveNoneOut first (told ++ later)
join_numbers first n told later all one two i k late few there =
    ⊎_elim
    (λ (before : HasNumber k told). number_before i told later (one i k late few before))
    (λ (behind : HasNumber k later).
    ⊎_elim
    (λ (beyond : n < i). number_behind i told later (two i k beyond few behind))
    (λ (within : i ≤ n). number_before i told later (all i late within))
    (cases_lt n i))
    (number_of_both k told later there)

none_is_at_least : (n k : ℕ) (told : List Release) → AllByRecursion (IsBeyond n) told → k ≤ n
    → AllByRecursion (IsBeyond k) told
none_is_at_least n k [] beyond few = tt
none_is_at_least n k (r ∷ told) beyond few =
    let there : n < r.number = beyond.0 in
    (omega (arith, there, few), none_is_at_least n k told beyond.1 few)

all_of_both : (n : ℕ) (told later : List Release) → AllByRecursion (IsBeyond n) told
    → AllByRecursion (IsBeyond n) later → AllByRecursion (IsBeyond n) (told ++ later)
all_of_both n [] later one two = two
all_of_both n (r ∷ told) later one two = (one.0, all_of_both n told later one.1 two)

-- ---- the laws

pub successors_go_on : {D : Type 0} (medium : D → Medium) → SuccessorsGoOn medium
successors_go_on medium m config v o inputs lives disk keeps within lived =
    lives_on medium m config (promised_from v o) inputs lives disk keeps within lived

-- what a worker told alone
told_alone : (m : Module) (config : Settings) (so_far : Promise) (inputs : List Inputs)
    (lives : List Life) → IsValid m → GoOn m config so_far inputs lives
    → IsWholeHistory so_far (told_lines lives)
told_alone m config so_far inputs lives valid goes =
    let kept = lives_kept_from m config so_far inputs lives goes in
    record {
      one_text = one_text m config so_far (events_of lives) valid kept;
      none_left_out = none_out m config so_far (events_of lives) kept;
      beyond = beyond_all so_far.passed (events_of lives)
          (tells_beyond m config so_far so_far.passed (events_of lives) kept (omega arith));
    }

-- what a worker told, by which its successor goes on
record IsToldBefore (so_far left : Promise) (n : ℕ) (told : List Release) : Type 0 where
  onward : so_far.passed ≤ n
  heard : n ≤ left.heard
  all_told : (i : ℕ) → so_far.heard < i → i ≤ n → HasNumber i told
  within : AllByRecursion (IsWithin n) told

told_before : (m : Module) (config : Settings) (so_far : Promise) (disk : DiskImage)
    (p : ProcessState) (inputs : List Inputs) (lives : List Life) → IsValid m
    → GoOn m config so_far inputs lives
    → IsLeft m config (promised_by_all so_far lives) disk p
    → IsToldBefore so_far (promised_by_all so_far lives) (length p.host.lines) (told_lines lives)
told_before m config so_far disk p inputs lives valid goes left =
    let kept = lives_kept_from m config so_far inputs lives goes in
    let end : Promise = promised_by_all so_far lives in
    let n : ℕ = length p.host.lines in
    let stands = left.holds.stands in
    let saved : stands.saved.lines ≡ n =
    stands.shown.lines ∙ ap (λ (z : ProcessState). length z.host.lines) (sym left.is) in
    let taken : stands.saved.lines ≤ end.heard = left.holds.snapshot_heard in
    let passed : end.passed ≤ stands.saved.lines = left.holds.snapshot_passed in
    let emitted : end.begun ≤ n = left_emitted m config end disk p valid left in
    let grows : so_far.passed ≤ (through so_far lives).passed =
    passed_grows so_far (events_of lives) in
    let begun = begun_through so_far lives in
    let heard = heard_through so_far lives in
    let told_no_more = passed_through so_far lives in
    record {
      onward = omega (arith, saved, passed, grows, told_no_more);
      heard = omega (arith, saved, taken);
      all_told = λ i late few.
          heard_told m config so_far i (events_of lives) kept late
          (omega (arith, few, saved, taken, heard));
      within = told_begun so_far n (events_of lives) (omega (arith, begun, emitted));
    }

pub succession : Succession
succession m next config settings so_far v o disk p inputs more lives later valid accepted goes left
    same on =
    let n : ℕ = length p.host.lines in
    let lines : length o.lines ≡ n = ap (λ (l : List Line). length l) same in
    let first = told_alone m config so_far inputs lives valid goes in
    let told = told_before m config so_far disk p inputs lives valid goes left in
    let from : Promise = promised_from v o in
    let kept = lives_kept_from next settings from more later on in
    let second = told_alone next settings from more later accepted on in
    let beyond : AllByRecursion (IsBeyond n) (told_lines later) =
    subst (λ k. AllByRecursion (IsBeyond k) (told_lines later)) lines second.beyond in
    record {
      onward = told.onward;
      heard = told.heard;
      all_told = told.all_told;
      within = told.within;
      next = subst (λ k. IsFirstNumber (k + 1) (told_lines later)) lines
          (first_next next settings from (length o.lines) (events_of later) kept refl
          (omega arith));
      beyond = beyond;
      none_left_out = join_numbers so_far.heard n (told_lines lives) (told_lines later)
          told.all_told first.none_left_out
          (subst (λ k. LeaveNoneOut k (told_lines later)) lines second.none_left_out);
      one_text = join_texts n (told_lines lives) (told_lines later) first.one_text
          second.one_text told.within beyond;
    }

pub successive_tell_all : SuccessiveTellAll
successive_tell_all so_far told
    (alone m config inputs lives valid goes) =
    told_alone m config so_far inputs lives valid goes
successive_tell_all so_far told
    (followed {later = later} m config inputs lives disk p v o valid goes left same rest) =
    let n : ℕ = length p.host.lines in
    let lines : length o.lines ≡ n = ap (λ (l : List Line). length l) same in
    let first = told_alone m config so_far inputs lives valid goes in
    let before = told_before m config so_far disk p inputs lives valid goes left in
    let second = successive_tell_all (promised_from v o) later rest in
    let beyond : AllByRecursion (IsBeyond n) later =
    subst (λ k. AllByRecursion (IsBeyond k) later) lines second.beyond in
    record {
      one_text = join_texts n (told_lines lives) later first.one_text second.one_text before.within
          beyond;
      none_left_out = join_numbers so_far.heard n (told_lines lives) later before.all_told
          first.none_left_out (subst (λ k. LeaveNoneOut k later) lines second.none_left_out);
      beyond = all_of_both so_far.passed (told_lines lives) later first.beyond
          (none_is_at_least n so_far.passed later beyond before.onward);
    }
