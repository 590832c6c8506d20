-- Parts of a call, one after another: what they make of what was promised, and of the disk.
use Rattle.std.proofs.Common.{◌≡◌, ℕ, ◌+◌, ◌<◌, ◌≤◌, true, false, List, ◌++◌, length, take}
use Rattle.std.proofs.Common.{drop, ◌⊎◌, refl, sym, ap, ◌∙◌, subst, inl, inr, ⊎_elim, arith}
use Rattle.std.proofs.Common.{length-append}
use Rattle.std.proofs.Math.Nat.{le_of_eq, le_trans}
use Rattle.std.proofs.lemmas.Bool.{cases_lt}
use Rattle.std.proofs.lemmas.List.{take_all, take-append-le, length-take-le}
use Rattle.wasm_syntax.specs.declared.module.Module.{Module}
use Rattle.wasm_rules.specs.Validity.{IsValid}
use Rattle.wasi_abi.specs.rules.Configs.{Settings}
use Rattle.process_rules.specs.Processes.{ProcessState}
use Rattle.process_rules.specs.Runs.{Kept, Reaches}
use Rattle.process_rules.specs.Behind.{IsNarrowTo, AnswersBehindLine, AnswersBehindSync}
use Rattle.sector_disk.specs.rules.DiskImage.{DiskImage}
use Rattle.sector_disk.specs.rules.Medium.{Medium, LeavesOnly}
use Rattle.sector_disk.proofs.Moments.{started, leaves_only}
use Rattle.record_replay.specs.rules.Calls.{Exchange}
use Rattle.worker_store.specs.restart_theorem.Stands.{StandsFor}
use Rattle.worker_store.specs.restart_theorem.Lives.{Event, Told, Asked, Ended, kept_of_said}
use Rattle.worker_store.specs.restart_theorem.Courses.{Stage, next_stage, stage_after}
use Rattle.worker_store.specs.restart_theorem.Promises.{Promise, after, promised, HoldsAll}
use Rattle.worker_store.specs.restart_theorem.Holds.{HoldsPromise, IsUnopened, DiskImageHolds}
use Rattle.record_replay.proofs.Recordings.{recorded_count}
use Rattle.worker_store.proofs.RestartLemmas.Fronts.{reached_counts, up_to_behind, said_widens_none}
use Rattle.worker_store.specs.restart_theorem.Exchanges.{was_taken, release_of, AreEvents, none}
use Rattle.worker_store.specs.restart_theorem.Exchanges.{told, asked}
use Rattle.worker_store.specs.rules.Carried.{answers_at, count_at, SyncsAreHeld}
use Rattle.worker_store.specs.laws.Carried.{PromisesNoMore}
use Rattle.worker_store.specs.laws.Raised.{ToldCarries, MoreCarries}
use Rattle.worker_store.specs.laws.Turns.{ToldStillHolds, AskedStillHolds}
use Rattle.worker_store.specs.laws.Turns.{EndedStillHolds, LeavesBegun, PartsLeaveBegun, GoesOnFrom}
use Rattle.worker_store.specs.laws.Turns.{TurnsJoin, TurnsCarry, RestsGoOn, LinesCarry}
use Rattle.worker_store.proofs.LawLemmas.Carrying.{less_is_held, answers_count, within_of, retold}
use Rattle.worker_store.proofs.LawLemmas.Telling.{adds_none, adds_more}
use Rattle.worker_store.proofs.LawLemmas.Raising.{no_earlier, behind_front, line_of_more}
use Rattle.worker_store.proofs.LawLemmas.Raising.{up_to_rest, up_to_before, up_to_end}
use Rattle.worker_store.proofs.LawLemmas.Raising.{front_of_more}

-- ---- what an image holds

-- an image that stands for these answers, with the lines of its snapshot within these bounds
record IsStood (m : Module) (config : Settings) (kept : List Kept) (n heard passed : ℕ)
    (disk : DiskImage) : Type 0 where
  pub stands : StandsFor disk m config kept n
  pub heard_is : stands.saved.lines ≤ heard
  pub passed_is : passed ≤ stands.saved.lines

-- Where the front is the same, and all is held that was promised first, it holds that.
holds_still : (m : Module) (config : Settings) (first then now : Promise) (image : DiskImage)
    (holds : HoldsPromise m config first then image)
    → now.was_created ≡ then.was_created → then.heard ≤ now.heard
    → take holds.held then.kept ≡ take holds.held now.kept
    → HoldsAll m config now.kept first holds.held holds.steps
    → HoldsPromise m config first now image
holds_still m config first then now image holds created more same all =
    let here : IsStood m config (take holds.held then.kept) holds.steps now.heard first.passed
    image = record {
      stands = holds.stands;
      heard_is = le_trans holds.snapshot_heard more;
      passed_is = holds.snapshot_passed;
    } in
    let there = subst (λ l. IsStood m config l holds.steps now.heard first.passed image) same here
    in
    record {
      created = created ∙ holds.created;
      held = holds.held;
      steps = holds.steps;
      stands = there.stands;
      holds = all;
      snapshot_heard = there.heard_is;
      snapshot_passed = there.passed_is;
    }

-- what has no worker has none
still : (m : Module) (config : Settings) (first then now : Promise) (image : DiskImage)
    → (HoldsPromise m config first then image → HoldsPromise m config first now image)
    → DiskImageHolds m config first then image → DiskImageHolds m config first now image
still m config first then now image goes held =
    ⊎_elim
    (λ (unopened : IsUnopened first image). inl unopened)
    (λ (holds : HoldsPromise m config first then image). inr (goes holds))
    held

pub told_still_holds : ToldStillHolds
told_still_holds m config promise promise' line adds first image no_more held =
    still m config first promise promise' image
    (λ holds. holds_still m config first promise promise' image holds adds.created
    adds.heard
    (ap (λ l. take holds.held l) (sym adds.kept))
    (subst (λ l. HoldsAll m config l first holds.held holds.steps) (sym adds.kept) holds.holds))
    held

pub ended_still_holds : EndedStillHolds
ended_still_holds m config promise act reply n shown same first image no_more held =
    let then : Promise = record (after promise (Ended act reply n shown)) { kept = promise.kept } in
    subst
    (λ (l : List Kept). DiskImageHolds m config first
    (record (after promise (Ended act reply n shown)) { kept = l }) image) (sym same)
    (still m config first promise then image
    (λ holds. record {
      created = holds.created;
      held = holds.held;
      steps = holds.steps;
      stands = holds.stands;
      holds = holds.holds;
      snapshot_heard = holds.snapshot_heard;
      snapshot_passed = holds.snapshot_passed;
    }) held)

-- No sync up to a step needs an answer that comes after it.
module _ (m : Module) (config : Settings) (kept more_kept : List Kept) (n : ℕ) (p : ProcessState)
    (valid : IsValid m) (reached : Reaches m config kept n p) (up : IsNarrowTo more_kept n) where
  here_reached : Reaches m config (take (length kept) (kept ++ more_kept)) n p
  here_reached =
      subst (λ l. Reaches m config l n p)
      (sym (take-append-le (length kept) kept more_kept (omega arith)
      ∙ take_all (length kept) kept (omega arith))) reached

  not_behind : (k b : ℕ) → k ≤ n → length kept < b
      → AnswersBehindSync m config (kept ++ more_kept) k b → ⊥
  not_behind k b below all behind =
      let some : b ≤ length (kept ++ more_kept) = behind.within in
      let long = length-append kept more_kept in
      let one : length (take (length kept) (kept ++ more_kept)) ≡ length kept =
      length-take-le (length kept) (kept ++ more_kept) (omega (arith, long)) in
      let two : length (take b (kept ++ more_kept)) ≡ b =
      length-take-le b (kept ++ more_kept) some in
      let next : k ≡ behind.before + 1 = behind.next in
      let later : n ≤ behind.before =
      no_earlier m config (kept ++ more_kept) (length kept) b n behind.before p
      behind.process valid (omega (arith, one, two, all)) here_reached behind.reached
      (up_to_rest kept more_kept n up)
      (up_to_before (drop b (kept ++ more_kept)) k behind.before (omega (arith, next))
      behind.up_to) in
      omega (arith, later, next, below)

  -- so those after earlier ones stay held
  pub syncs_of_more : (held : ℕ) → SyncsAreHeld m config kept held n
      → SyncsAreHeld m config (kept ++ more_kept) held n
  syncs_of_more held syncs k b below behind = ⊎_elim
      (λ (all : length kept < b). absurd (not_behind k b below all behind))
      (λ (few : b ≤ length kept).
      syncs k b below (behind_front m config kept more_kept k b few behind))
      (cases_lt (length kept) b)

  -- a front that has come further has all that is kept
  no_less : (a steps : ℕ) (q : ProcessState) → a ≤ length kept → n < steps
      → Reaches m config (take a kept) steps q → IsNarrowTo (drop a kept) steps → a ≡ length kept
  no_less a steps q within late there up_there = ⊎_elim
      (λ (less : a < length kept).
      let one = length-take-le a kept within in
      let two = length-take-le (length kept) kept (omega arith) in
      let earlier : steps ≤ n =
      no_earlier m config kept a (length kept) steps n q p valid (omega (arith, less, one, two))
      there
      (subst (λ l. Reaches m config l n p) (sym (take_all (length kept) kept (omega arith)))
      reached) up_there (up_to_end kept n) in
      absurd (omega (arith, earlier, late)))
      (λ (all : length kept ≤ a). omega (arith, all, within))
      (cases_lt a (length kept))

  -- Each line that was begun stays after answers that are held.
  line_stays : (i held begun : ℕ) → i ≤ begun
      → ((step : ℕ) → IsNarrowTo more_kept step) ⊎ (begun ≤ length p.host.lines)
      → (a : ℕ) × (a ≤ held) × AnswersBehindLine m config kept i a
      → (a : ℕ) × (a ≤ held) × AnswersBehindLine m config (kept ++ more_kept) i a
  line_stays i held begun below (inl none_widens) line = (
    line.0,
    line.1,
    line_of_more m config kept more_kept i line.0 line.2 (none_widens line.2.steps),
  )
  line_stays i held begun below (inr emitted) line = ⊎_elim
      (λ (late : n < line.2.steps).
      let whole : line.0 ≡ length kept =
      no_less line.0 line.2.steps line.2.process line.2.within late line.2.reached line.2.up_to in
      let long = length-append kept more_kept in
      let few : line.0 ≤ held = line.1 in (
        length kept,
        omega (arith, whole, few),
        record {
          within = omega (arith, long);
          steps = n;
          process = p;
          reached = here_reached;
          up_to = up_to_rest kept more_kept n up;
          emitted = omega (arith, below, emitted);
        },
      ))
      (λ (early : line.2.steps ≤ n). (
        line.0,
        line.1,
        line_of_more m config kept more_kept i line.0 line.2
            (up_to_before more_kept n line.2.steps early up),
      ))
      (cases_lt n line.2.steps)

  all_of_more : (first : Promise) (held steps : ℕ) → first.synced ≤ n → IsNarrowTo more_kept steps
      → ((step : ℕ) → IsNarrowTo more_kept step) ⊎ (first.begun ≤ length p.host.lines)
      → HoldsAll m config kept first held steps
      → HoldsAll m config (kept ++ more_kept) first held steps
  all_of_more first held steps early up_there may holds =
      let within : held ≤ length kept = holds.within in
      let long = length-append kept more_kept in
      record {
        within = omega (arith, within, long);
        up_to = up_to_behind held steps kept more_kept within holds.up_to up_there;
        answers = holds.answers;
        steps_held = holds.steps_held;
        lines = λ i below. line_stays i held first.begun below may (holds.lines i below);
        syncs = λ k b below behind. ⊎_elim
            (λ (all : length kept < b).
            absurd (not_behind k b (le_trans below early) all behind))
            (λ (few : b ≤ length kept).
            holds.syncs k b below (behind_front m config kept more_kept k b few behind))
            (cases_lt (length kept) b);
      }

module _ {D : Type 0} (medium : D → Medium) where
  pub more_carries : MoreCarries medium
  more_carries m config promise point journal records pending last now p n more disk is valid
      reached early later may =
      let held = is.held in
      let holds = held.holds in
      let counted : p.steps ≡ n = reached_counts m config promise.kept n p reached in
      let up : IsNarrowTo more n = subst (λ k. IsNarrowTo more k) counted may.up_to in
      let so_far : last.steps ≤ now.steps =
      recorded_count point.reached.guest last now pending is.journaled.recorded in
      let all = all_of_more m config promise.kept more n p valid reached up promise
      (count_at point records) last.steps early
      (up_to_before more n last.steps (omega (arith, so_far, later)) up) may.emitted holds in
      let long : count_at point (records ++ pending) ≤ length promise.kept =
      within_of (count_at point (records ++ pending)) promise.kept
      (answers_at point (records ++ pending)) is.answers
      (answers_count point (records ++ pending)) in
      record {
        journaled = is.journaled;
        held = record {
          created = held.created;
          front = front_of_more (count_at point records) promise.kept more
              (answers_at point records) held.front holds.within;
          recorded = held.recorded;
          holds = record {
            within = all.within;
            up_to = all.up_to;
            answers = all.answers;
            steps_held = all.steps_held;
            lines = all.lines;
            syncs = all.syncs;
          };
          heard = held.heard;
          passed = held.passed;
        };
        answers = front_of_more (count_at point (records ++ pending)) promise.kept more
            (answers_at point (records ++ pending)) is.answers long;
        up_to = up_to_behind (count_at point (records ++ pending)) now.steps promise.kept more long
            is.up_to (up_to_before more n now.steps later up);
      }

pub asked_still_holds : AskedStillHolds
asked_still_holds m config promise p question said fits valid reached synced first image
    no_more held = still m config first promise (after promise
    (Asked p.steps question said fits)) image
    (λ holds.
    let all = holds.holds in
    let before : first.synced ≤ promise.synced = no_more.synced in
    holds_still m config first promise (after promise (Asked p.steps question said
    fits)) image holds refl (omega arith)
    (sym (take-append-le holds.held promise.kept (kept_of_said said fits) all.within))
    (all_of_more m config promise.kept (kept_of_said said fits) p.steps p valid reached
    (said_widens_none said fits p.steps) first holds.held holds.steps
    (omega (arith, before, synced)) (said_widens_none said fits holds.steps)
    (inl (said_widens_none said fits)) all)) held

-- ---- what parts leave alone

no_more_join : (a b c : Promise) → PromisesNoMore a b → PromisesNoMore b c → PromisesNoMore a c
no_more_join a b c x y = record {
  answers = le_trans x.answers y.answers;
  steps = le_trans x.steps y.steps;
  passed = le_trans x.passed y.passed;
  begun = le_trans x.begun y.begun;
  synced = le_trans x.synced y.synced;
}

pub same_no_more : (promise : Promise) → PromisesNoMore promise promise
same_no_more promise = record {
  answers = omega arith;
  steps = omega arith;
  passed = omega arith;
  begun = omega arith;
  synced = omega arith;
}

begun_join : (first between last : Promise) (stage inside stage' : Stage)
    → LeavesBegun first between stage inside → LeavesBegun between last inside stage'
    → LeavesBegun first last stage stage'
begun_join first between last stage inside stage' a b = record {
  opened = b.opened ∙ a.opened;
  step = b.step ∙ a.step;
  acts = b.acts ∙ a.acts;
  no_more = no_more_join first between last a.no_more b.no_more;
  events = le_trans a.events b.events;
}

-- where as much is begun and promised, and more may have been asked and told
only_more : {first last : Promise} {stage stage' : Stage} → last.has_opened ≡ first.has_opened
    → stage'.step ≡ stage.step → stage'.acts ≡ stage.acts → last.answers ≡ first.answers
    → last.steps ≡ first.steps → last.passed ≡ first.passed → first.begun ≤ last.begun
    → first.synced ≤ last.synced → first.events ≤ last.events
    → LeavesBegun first last stage stage'
only_more opened step acts answers steps passed begun synced events = record {
  opened = opened;
  step = step;
  acts = acts;
  no_more = record {
    answers = omega (arith, answers);
    steps = omega (arith, steps);
    passed = omega (arith, passed);
    begun = begun;
    synced = synced;
  };
  events = events;
}

begun_of : (promise : Promise) (stage : Stage) (exchanges : List Exchange) (events : List Event)
    → AreEvents exchanges events
    → LeavesBegun promise (promised promise events) stage (stage_after stage events)
begun_of promise stage exchanges events none =
    only_more refl refl refl refl refl refl (omega arith) (omega arith) (omega arith)
begun_of promise stage exchanges events (told {begun = begun} {exchanges = rest} {events = others}
    are) =
    let e : Event = Told (release_of begun) (was_taken begun.said) in
    begun_join promise (after promise e) (promised (after promise e) others) stage
    (next_stage stage e) (stage_after (next_stage stage e) others)
    (only_more refl refl refl refl refl refl (omega arith) (omega arith) (omega arith))
    (begun_of (after promise e) (next_stage stage e) rest others are)
begun_of promise stage exchanges events (asked {ask = ask} {steps = steps} {fits = fits}
    {exchanges = rest} {events = others} are) =
    let e : Event = Asked steps ask.question ask.said fits in
    begun_join promise (after promise e) (promised (after promise e) others) stage
    (next_stage stage e) (stage_after (next_stage stage e) others)
    (only_more refl refl refl refl refl refl (omega arith) (omega arith) (omega arith))
    (begun_of (after promise e) (next_stage stage e) rest others are)

pub parts_leave_begun : PartsLeaveBegun
parts_leave_begun m config promise promise' stage stage' exchanges done =
    subst (λ z. LeavesBegun promise z stage stage') (sym done.promised_is)
    (subst (λ z. LeavesBegun promise (promised promise done.events) stage z) (sym done.stage_is)
    (begun_of promise stage exchanges done.events done.are))

-- ---- a disk

-- a promise that has opened isn't one of nothing
not_unopened : (promise : Promise) (image : DiskImage) → promise.has_opened ≡ true
    → IsUnopened promise image → ⊥
not_unopened promise image opened unopened =
    let never : promise.has_opened ≡ false = ap (λ (p : Promise). p.has_opened) unopened.0 in
    absurd (cc)

-- what holds the more holds the less
lowered : (m : Module) (config : Settings) (less more now : Promise) (image : DiskImage)
    → more.has_opened ≡ true → PromisesNoMore less more → DiskImageHolds m config more now image
    → DiskImageHolds m config less now image
lowered m config less more now image opened no_more held =
    ⊎_elim
    (λ (unopened : IsUnopened more image). absurd (not_unopened more image opened unopened))
    (λ (holds : HoldsPromise m config more now image).
    inr (less_is_held m config less more now image no_more holds))
    held

module _ (m : Module) (config : Settings) (first between last : Promise) (old inside new : Medium)
    (a : GoesOnFrom m config first between old inside)
    (b : GoesOnFrom m config between last inside new) where
  -- a cut in the second part
  from_second : (image : DiskImage) → DiskImageHolds m config between last image
      → DiskImageHolds m config first last image
  from_second image held =
      lowered m config first between last image a.opened_now a.no_more held

  -- and one in the first, once the second is over
  from_first : (image : DiskImage) → DiskImageHolds m config first between image
      → DiskImageHolds m config first last image
  from_first image held = b.still first image a.no_more held

  leaves_joined : LeavesOnly old new (DiskImageHolds m config first last)
  leaves_joined =
      let one = a.leaves in
      let two = b.leaves in
      let x = one.passes in
      let y = two.passes in
      record {
        each = λ image crashed. ⊎_elim
            (λ past. from_first image (one.each image past))
            (λ now. from_second image now)
            (y.nothing_else old.moment image x.later crashed);
        passes = record {
          sectors = y.sectors ∙ x.sectors;
          fault_plan = y.fault_plan ∙ x.fault_plan;
          room = y.room ∙ x.room;
          faults = omega (arith, x.faults, y.faults);
          later = omega (arith, x.later, y.later);
          nothing_else = λ t image le crashed. ⊎_elim
              (λ past. ⊎_elim
              (λ before. inl before)
              (λ now. inr (from_first image now))
              (x.nothing_else t image le past))
              (λ now. inr (from_second image now))
              (y.nothing_else t image (le_trans le x.later) crashed);
        };
      }

module _ {D : Type 0} (medium : D → Medium) where
  pub turns_join : TurnsJoin medium
  turns_join m config first between last old inside new a b = record {
    opened = a.opened;
    opened_now = b.opened_now;
    no_more = no_more_join first between last a.no_more b.no_more;
    still = λ promise image no_more held.
        b.still promise image (no_more_join promise first between no_more a.no_more)
        (a.still promise image no_more held);
    leaves = leaves_joined m config first between last (medium old) (medium inside) (medium new) a
        b;
  }

  pub turns_carry : TurnsCarry medium
  turns_carry m config then now old new goes keeps = record {
    at_any_moment = goes.leaves;
    in_the_end = keeps;
  }

  pub rests_go_on : RestsGoOn medium
  rests_go_on m config then now disk opened opened_now no_more goes keeps = record {
    opened = opened;
    opened_now = opened_now;
    no_more = no_more;
    still = goes;
    leaves = leaves_only (medium disk) (medium disk) (DiskImageHolds m config then now)
        (started (medium disk) (DiskImageHolds m config then now))
        (λ image crashed. lowered m config then now now image opened_now no_more
        (keeps image crashed));
  }

  pub lines_carry : LinesCarry medium
  lines_carry m config promise promise' point journal records pending last now p n disk is
      on_record reached adds =
      let long : length promise.kept ≡ count_at point records =
      ap (λ l. length l) on_record ∙ answers_count point records in
      record {
        journaled = is.journaled;
        held = retold m config promise promise' point records last (length p.host.lines) is.held
            adds (λ i few. (
              length promise.kept,
              le_of_eq long,
              record {
                within = omega arith;
                steps = n;
                process = p;
                reached = subst (λ l. Reaches m config l n p)
                    (sym (take_all (length promise.kept) promise.kept (omega arith))) reached;
                up_to = up_to_end promise.kept n;
                emitted = few;
              },
            ));
        answers = ap (λ l. take (count_at point (records ++ pending)) l) adds.kept ∙ is.answers;
        up_to = subst (λ (l : List Kept).
            IsNarrowTo (drop (count_at point (records ++ pending)) l) now.steps) (sym adds.kept)
            is.up_to;
      }

  pub told_carries : ToldCarries medium
  told_carries m config promise point journal records pending last now p n r is_taken disk is
      on_record reached few =
      let then : Promise = after promise (Told r is_taken) in
      let lines : ℕ = length p.host.lines in
      lines_carry m config promise then point journal records pending last now p n disk is on_record
      reached (adds_more promise then r is_taken lines few (adds_none then lines))
