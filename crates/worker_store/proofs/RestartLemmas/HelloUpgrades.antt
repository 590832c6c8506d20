-- The lives of `hello` go on that upgrade it.
use Rattle.std.proofs.Common.{◌≤◌, ◌^◌, [], ◌∷◌, refl, arith}
use Rattle.wasm_syntax.specs.laws.Examples.{hello}
use Rattle.wasi_abi.specs.declared.version.Version.TheVariants.{Two}
use Rattle.wasi_abi.specs.rules.Configs.{Settings}
use Rattle.process_rules.specs.Runs.{Wider}
use Rattle.disk_layout.specs.rules.Journal.{TakesRecords}
use Rattle.worker_store.specs.restart_theorem.Lives.{Slice, Upgrade, Event, Done, Ended, Creates}
use Rattle.worker_store.specs.restart_theorem.Promises.{nothing_yet, promised_by, IsAt, IsLived}
use Rattle.worker_store.specs.restart_theorem.laws.Refused.{in_peace, creation_begun}
use Rattle.worker_store.specs.restart_theorem.laws.WholeLives.{hello_first, hello_last, wide_first}
use Rattle.worker_store.specs.restart_theorem.laws.WholeLives.{wide_last, early_upgrade}
use Rattle.worker_store.specs.restart_theorem.laws.WholeLives.{opened_wide, late_upgrade}
use Rattle.worker_store.specs.restart_theorem.laws.WholeLives.{ended_wide, saved_inputs, saved_life}
use Rattle.worker_store.specs.restart_theorem.laws.WholeLives.{found_ended, HelloUpgrades}
use Rattle.worker_store.proofs.RestartLemmas.Widenings.{widened_at}
use Rattle.worker_store.proofs.RestartLemmas.Events.{never, all_held, opens_at, ends, only_opens}
use Rattle.worker_store.proofs.RestartLemmas.HelloShown.{at_first_step, at_last_step}
use Rattle.worker_store.proofs.RestartLemmas.HelloLives.{begins, slice_100, to_the_end, saves}

module _ (config : Settings) (pages : 1 ≤ config.pages) (few : config.pages ≤ 2 ^ 16)
    (room : TakesRecords Two config.journal) where
  at_wide_first : IsAt hello config (Wider 0 ∷ []) 0 wide_first
  at_wide_first = widened_at hello config [] 0 hello_first refl (at_first_step config pages few)

  at_wide_last : IsAt hello config (Wider 8 ∷ []) 8 wide_last
  at_wide_last = widened_at hello config [] 8 hello_last refl (at_last_step config pages few)

  -- ---- upgraded when it is created

  lives_early : IsLived hello config nothing_yet (in_peace [] (Upgrade ∷ [])) early_upgrade
  lives_early = record {
    kept = (
      begins config pages few creation_begun refl refl refl refl (omega arith) refl,
      (
        record {
          is_next = refl;
          within = omega arith;
          at = at_wide_first;
          onward = omega arith;
          reply = (refl, refl, refl, record { all_taken = refl; all_told = refl });
          bound = tt;
          widens = λ differs. record { lines = omega arith; syncs = omega arith; room = room };
        },
        tt,
      ),
    );
    ends = (refl, refl, tt);
    begins = λ creates. (refl, (refl, refl));
  }

  lives_wide : IsLived hello config (promised_by nothing_yet early_upgrade) (in_peace [] [])
      opened_wide
  lives_wide = only_opens refl at_wide_first (all_held 1 at_wide_first refl (λ n. tt) (omega arith)
      (omega arith) (omega arith)) (omega arith)

  -- ---- upgraded when it has ended, twice

  abbrev upgraded : Event
  upgraded = Ended Upgrade Done 1 wide_last

  lives_late : IsLived hello config nothing_yet
      (slice_100 config pages few (Upgrade ∷ Upgrade ∷ [])) late_upgrade
  lives_late = record {
    kept = to_the_end config pages few creation_begun Creates (Upgrade ∷ Upgrade ∷ [])
        (upgraded ∷ upgraded ∷ []) refl refl (omega arith) refl refl (
          record {
            is_next = refl;
            within = omega arith;
            at = at_wide_last;
            onward = omega arith;
            reply = (refl, refl, refl, record { all_taken = refl; all_told = refl });
            bound = tt;
            widens = λ differs. record { lines = omega arith; syncs = omega arith; room = room };
          },
          (
            ends refl at_wide_last refl (omega arith) (omega arith)
                (refl, refl, refl, record { all_taken = refl; all_told = refl }) (λ at. tt),
            tt,
          ),
        );
    ends = (refl, refl, tt);
    begins = λ creates. (refl, (refl, refl));
  }

  lives_ended : IsLived hello config (promised_by nothing_yet late_upgrade)
      (in_peace [] (Slice 1 ∷ [])) ended_wide
  lives_ended = record {
    kept = (
      opens_at refl refl refl at_wide_last (all_held 1 at_wide_last refl (λ n. tt) (omega arith)
          (omega arith) (omega arith)) (omega arith),
      (
        ends refl at_wide_last refl (omega arith) (omega arith)
            (refl, omega arith, refl, record { all_taken = refl; all_told = refl }) (λ at. tt),
        tt,
      ),
    );
    ends = (refl, refl, tt);
    begins = λ creates. never creates;
  }

  -- ---- upgraded by a life that finds that it has ended

  lives_saved : IsLived hello config nothing_yet saved_inputs saved_life
  lives_saved = record {
    kept = saves config pages few creation_begun Creates refl refl (omega arith) refl refl;
    ends = (refl, refl, tt);
    begins = λ creates. (refl, (refl, refl));
  }

  lives_found : IsLived hello config (promised_by nothing_yet saved_life)
      (in_peace [] (Upgrade ∷ [])) found_ended
  lives_found =
      let last = at_last_step config pages few in
      record {
        kept = (
          opens_at refl refl refl last (all_held 0 last refl (λ n. tt) (omega arith) (omega arith)
              (omega arith)) (omega arith),
          (
            record {
              is_next = refl;
              within = omega arith;
              at = at_wide_last;
              onward = omega arith;
              reply = (refl, refl, refl, record { all_taken = refl; all_told = refl });
              bound = tt;
              widens = λ differs. record { lines = omega arith; syncs = omega arith; room = room };
            },
            tt,
          ),
        );
        ends = (refl, refl, tt);
        begins = λ creates. never creates;
      }

pub hello_upgrades_hold : (config : Settings) → HelloUpgrades config
hello_upgrades_hold config = record {
  early = λ pages few room.
      (lives_early config pages few room, (lives_wide config pages few room, tt));
  late = λ pages few room.
      (lives_late config pages few room, (lives_ended config pages few room, tt));
  found = λ pages few room.
      (lives_saved config pages few room, (lives_found config pages few room, tt));
}
