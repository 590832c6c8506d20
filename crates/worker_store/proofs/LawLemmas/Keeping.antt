-- What calls of a journal leave of a disk that stands for a worker.
use Rattle.std.proofs.Common.{◌≡◌, ◌^◌, ◌<◌, List, [], ◌∷◌, ◌++◌, refl, sym, ap, ◌∙◌, subst}
use Rattle.std.proofs.lemmas.List.{append-nil}
use Rattle.std.proofs.lemmas.Grind.{flat_map-append}
use Rattle.sector_disk.specs.rules.Medium.{Medium}
use Rattle.wasi_abi.specs.declared.version.Version.{Version}
use Rattle.disk_layout.specs.rules.Places.{Geometry}
use Rattle.disk_layout.specs.rules.Journal.{Record, record_bytes}
use Rattle.journal.specs.rules.State.{JournalState}
use Rattle.journal.specs.rules.Steps.{AppendsFront, HoldsRecords, RecordFits, AllRecordsFit}
use Rattle.journal.specs.rules.Steps.{records_bytes, IsOn}
use Rattle.record_replay.specs.rules.Records.{none}
use Rattle.worker_store.specs.rules.Savepoints.{places}
use Rattle.worker_store.specs.laws.Journaled.{BarrierAtAnyMoment, BarrierInTheEnd}
use Rattle.worker_store.specs.laws.Journaled.{AppendGoesOn, StaysJournaled, BeginsJournaled}
use Rattle.worker_store.proofs.LawLemmas.Fronts.{recorded_once, barrier_leaves_front}
use Rattle.worker_store.proofs.LawLemmas.Fronts.{barrier_leaves_all}
use Rattle.journal.proofs.HeldLemmas.{fresh_holds_none}
use Rattle.journal.proofs.SpelledLemmas.{both_fit}
use Rattle.worker_store.proofs.LawLemmas.Passing.{step_at_any_moment, crashed_in_the_end}

-- ---- the bytes in memory

one_more : (v : Version) (pending : List Record) (r : Record)
    → records_bytes v pending ++ record_bytes v r ≡ records_bytes v (pending ++ r ∷ [])
one_more v pending r =
    ap (λ l. records_bytes v pending ++ l) (sym (append-nil (record_bytes v r)))
    ∙ sym (flat_map-append (record_bytes v) pending (r ∷ []))

appended_on : (geometry : Geometry) (journal : JournalState) (records pending : List Record)
    (r : Record) (disk : Medium)
    → IsOn geometry journal.version journal.generation journal.used journal.kept records pending
    disk.crash_images
    → RecordFits journal.version r
    → IsOn geometry journal.version journal.generation journal.used
    (journal.kept ++ record_bytes journal.version r) records (pending ++ r ∷ []) disk.crash_images
appended_on geometry journal records pending r disk on fits = record {
  holds_records = on.holds_records;
  spells = ap (λ l. l ++ record_bytes journal.version r) on.spells
      ∙ one_more journal.version pending r;
  fit = on.fit;
  fit_kept = both_fit journal.version pending (r ∷ []) on.fit_kept (fits, tt);
  generation = on.generation;
}

module _ {D : Type 0} (medium : D → Medium) where
  pub barrier_at_any_moment : BarrierAtAnyMoment medium
  barrier_at_any_moment m config point journal records pending last now old new is leaves =
      step_at_any_moment (medium old) (medium new) _ _ _ is.at_savepoint
      (λ a b at appends.
      barrier_leaves_front m config point records pending last now journal.used a b at
      is.recorded is.numbers
      (subst (λ g. AppendsFront (places point) point.saved.version g journal.used records pending
      a b)
      is.generation
      (subst (λ v. AppendsFront (places point) v journal.generation journal.used records pending a
      b) is.version appends))) leaves

  pub barrier_in_the_end : BarrierInTheEnd medium
  barrier_in_the_end m config point before after records pending last now used old new is leaves
      e held =
      let same : after.generation ≡ before.generation =
      ap (λ (j : JournalState). j.generation) e in
      let version : after.version ≡ before.version = ap (λ (j : JournalState). j.version) e in
      let on = is.on in
      record {
        version = version ∙ is.version;
        generation = same ∙ is.generation;
        at_savepoint = λ image crashed.
            let step = crashed_in_the_end (medium old) (medium new) _ leaves image crashed in
            barrier_leaves_all m config point records pending last now before.used after.used
            step.0 image (is.at_savepoint step.0 step.1) is.recorded is.numbers
            (subst (λ g. AppendsFront (places point) point.saved.version g before.used records
            pending step.0 image)
            is.generation
            (subst (λ v. AppendsFront (places point) v before.generation before.used records
            pending step.0 image) is.version step.2))
            (subst (λ v. AllRecordsFit v records) is.version on.fit)
            (subst (λ v. AllRecordsFit v pending) is.version on.fit_kept)
            (subst (λ g. HoldsRecords (places point) point.saved.version g after.used
            (records ++ pending) image)
            (same ∙ is.generation)
            (subst (λ v. HoldsRecords (places point) v after.generation after.used
            (records ++ pending) image) (version ∙ is.version) (held image crashed)));
        on = record {
          holds_records = held;
          spells = ap (λ (j : JournalState). j.kept) e;
          fit = subst (λ v. AllRecordsFit v (records ++ pending)) (sym version)
              (both_fit before.version records pending on.fit on.fit_kept);
          fit_kept = tt;
          generation = subst (λ g. g < 2 ^ 64) (sym same) on.generation;
        };
        recorded = none;
        numbers = is.numbers;
      }

  pub append_goes_on : AppendGoesOn medium
  append_goes_on m config point before after records pending last now asks next a n disk is runs
      moves fits numbers e =
      let r : Record = record { step = next.steps; answer = a } in
      let grown = appended_on (places point) before records pending r (medium disk) is.on fits in
      record {
        version = ap (λ (j : JournalState). j.version) e ∙ is.version;
        generation = ap (λ (j : JournalState). j.generation) e ∙ is.generation;
        at_savepoint = is.at_savepoint;
        on = subst (λ (j : JournalState).
            IsOn (places point) j.version j.generation j.used j.kept records (pending ++ r ∷ [])
            (medium disk).crash_images) (sym e) grown;
        recorded = recorded_once point.reached.guest last now asks next pending a n is.recorded
            runs moves;
        numbers = numbers;
      }

  pub stays_journaled : StaysJournaled medium
  stays_journaled m config point journal records pending last now old new is stays =
      let on = is.on in
      record {
        version = is.version;
        generation = is.generation;
        at_savepoint = λ image crashed. is.at_savepoint image (stays image crashed);
        on = record {
          holds_records = λ image crashed. on.holds_records image (stays image crashed);
          spells = on.spells;
          fit = on.fit;
          fit_kept = on.fit_kept;
          generation = on.generation;
        };
        recorded = is.recorded;
        numbers = is.numbers;
      }

  pub begins_journaled : BeginsJournaled medium
  begins_journaled m config point disk begins below numbers = record {
    version = refl;
    generation = refl;
    at_savepoint = λ image crashed. (let begun = begins image crashed in begun.at);
    on = record {
      holds_records = λ image crashed.
          let begun = begins image crashed in
          fresh_holds_none (places point) point.saved.version point.generation image begun.earlier;
      spells = refl;
      fit = tt;
      fit_kept = tt;
      generation = below;
    };
    recorded = none;
    numbers = numbers;
  }
