-- A process that is restored shows the one that was reached and saved.
use Rattle.std.proofs.Common.{◌≡◌, ℕ, List, Option, sym, subst, ◌∙◌}
use Rattle.wasm_rules.specs.Validity.{module_context}
use Rattle.process_rules.proofs.ReachedStates.{reached_are_configured}
use Rattle.state_image.specs.rules.ProcessImage.{Saved, SavedShowsProcess}
use Rattle.state_image.specs.rules.Restored.{SavedShowsIn}
use Rattle.state_image.specs.rules.Saving.{saved_of}
use Rattle.state_image.specs.laws.Laws.{RestoredShowsReached}
use Rattle.state_image.proofs.Outermost.{reached_is_called}
use Rattle.state_image.proofs.ReachedWellTyped.{reached_is_well_typed}
use Rattle.state_image.proofs.Whole.{told_apart}

pub restored_shows_reached : RestoredShowsReached
restored_shows_reached bytes m config functions kept n p table s v accepted few texts reached small
    lines types shown restored =
    let well = reached_is_well_typed bytes m config functions kept n p table s accepted few texts
    reached small lines types shown in
    let same : saved_of v ≡ s = told_apart m config (saved_of v) s restored.well_typed well
    (sym restored.is) in
    let called = reached_is_called m config kept n p reached in
    let as_before = reached_are_configured m config kept n p reached in
    let same_table : table ≡ reached.begins.begins.store.table =
    sym shown.machine.same_table ∙ called.same_table in
    let shows : SavedShowsIn m config s reached.guest p = record {
      start = reached.start;
      begins = reached.begins;
      functions = functions;
      function_types = types;
      shown = subst (λ (t : List (Option ℕ)). SavedShowsProcess (module_context m functions)
          reached.guest.program t s p) same_table shown;
      configured = search (as_before);
    } in (
      same,
      restored.shows reached.guest p
          (subst (λ (z : Saved). SavedShowsIn m config z reached.guest p) (sym same) shows),
    )
