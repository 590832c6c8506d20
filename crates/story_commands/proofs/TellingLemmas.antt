-- From how a story went to what the exit status says.
use Rattle.std.proofs.Common.{◌≡◌, inl, inr, ℕ, List, refl, sym, ap, subst}
use Rattle.worker.specs.declared.story.life.PlannedLife.{PlannedLife}
use Rattle.worker.specs.declared.story.report.LifeReport.{LifeReport}
use Rattle.worker.specs.rules.StoryDisks.{TellsLives}
use Rattle.wasi_abi.specs.rules.Configs.{Settings}
use Rattle.command_words.specs.declared.configuring.Sizes.{Sizes}
use Rattle.command_words.specs.declared.preparing.Prepared.{Prepared}
use Rattle.command_words.specs.declared.preparing.Unprepared.{Unprepared}
use Rattle.command_words.specs.declared.preparing.Unprepared.TheVariants as unprepared
use Rattle.command_words.specs.declared.telling.Obstacle.TheVariants as obstacle
use Rattle.command_words.specs.rules.Preparations.{IsPreparedAs, IsUnprepared, status_unprepared}
use Rattle.command_words.specs.rules.Reports.{SaysLine, obstacle_status, obstacle_words}
use Rattle.command_words.specs.rules.Pieces.{lines_of}
use Rattle.command_words.specs.rules.Printers.{PrinterState, IsPrinted, IsSaid, SaysText}
use Rattle.command_words.specs.rules.Printers.{HasOneFailed, printers}
use Rattle.command_words.specs.declared.status.Status.{Status}
use Rattle.command_words.specs.declared.status.Status.TheVariants as exit
use Rattle.story_commands.specs.rules.Scripts.{IsScript, IsFaultAt}
use Rattle.story_commands.specs.declared.stories.fault.LineCause.{LineCause}
use Rattle.story_commands.specs.rules.Stories.{TellsStory, script_lines, story_config}
use Rattle.story_commands.specs.Said.{SaysLives}

module _ (script wasm : List ℕ) (sizes : Sizes) (out out' err err' : PrinterState) where
  abbrev pub Says : Status → Type 0
  Says status = TellsStory script wasm sizes (printers out err) (printers out' err') status

  -- a write has failed
  says_unwritten : HasOneFailed (printers out' err') → Says exit.Unwritten
  says_unwritten failed = record {
    told = λ is. absurd cc;
    faulty = λ is. absurd cc;
    refused = λ is. absurd cc;
    starved = λ is. absurd cc;
    heeded = inr (refl, failed);
    known = inr (inr (inr (inr refl)));
  }

  says_starved : out' ≡ out → err'.failed ≡ err.failed → Says exit.OutOfMemory
  says_starved stays heeds = record {
    told = λ is. absurd cc;
    faulty = λ is. absurd cc;
    refused = λ is. absurd cc;
    starved = λ is. stays;
    heeded = inl ((λ is. cc), ap (λ p. p.failed) stays, heeds);
    known = inr (inr (inr (inl refl)));
  }

  says_refused : (lives : List PlannedLife) → IsScript (lines_of script) lives → (why : Unprepared)
      → IsUnprepared (story_config sizes) wasm why → status_unprepared why ≡ exit.Refused
      → out' ≡ out → err'.failed ≡ err.failed → Says exit.Refused
  says_refused lives spelled why unprepared three stays heeds = record {
    told = λ is. absurd cc;
    faulty = λ is. absurd cc;
    refused = λ is. (
      record {
        lives = lives;
        spelled = spelled;
        why = why;
        unprepared = unprepared;
        refused = three;
      },
      stays,
    );
    starved = λ is. absurd cc;
    heeded = inl ((λ is. cc), ap (λ p. p.failed) stays, heeds);
    known = inr (inr (inl refl));
  }

  says_usage : (number : ℕ) (why : LineCause) → IsFaultAt (lines_of script) number why
      → IsPrinted err err' (script_lines number why) → out' ≡ out → Says exit.Usage
  says_usage number why faulty said stays = record {
    told = λ is. absurd cc;
    faulty = λ is. (
      record { number = number; why = why; faulty = faulty; said = said.0 },
      stays,
    );
    refused = λ is. absurd cc;
    starved = λ is. absurd cc;
    heeded = inl ((λ is. cc), ap (λ p. p.failed) stays, said.1);
    known = inr (inl refl);
  }

  pub starved_told : (status : Status) → IsSaid exit.OutOfMemory err status err' → out' ≡ out
      → Says status
  starved_told status (inl said) stays = subst Says (sym said.0) (says_starved stays said.1)
  starved_told status (inr unsaid) stays = subst Says (sym unsaid.0) (says_unwritten (inr unsaid.1))

  pub memory_told : (status : Status)
      → SaysLine (obstacle_words obstacle.Memory) (obstacle_status obstacle.Memory) err status err'
      → out' ≡ out → Says status
  memory_told status (inl said) stays = subst Says (sym said.0) (says_starved stays said.1.1)
  memory_told status (inr unsaid) stays = subst Says (sym unsaid.0) (says_unwritten (inr unsaid.1))

  pub line_told : (number : ℕ) (why : LineCause) (status : Status)
      → IsFaultAt (lines_of script) number why
      → SaysText (script_lines number why) exit.Usage err status err' → out' ≡ out → Says status
  line_told number why status faulty (inl said) stays =
      subst Says (sym said.0) (says_usage number why faulty said.1 stays)
  line_told number why status faulty (inr unsaid) stays =
      subst Says (sym unsaid.0) (says_unwritten (inr unsaid.1))

  by_why : (lives : List PlannedLife) → IsScript (lines_of script) lives → (why : Unprepared)
      → IsUnprepared (story_config sizes) wasm why → out' ≡ out → err'.failed ≡ err.failed
      → Says (status_unprepared why)
  by_why lives spelled (unprepared.Range bound) is stays heeds =
      says_refused lives spelled (unprepared.Range bound) is refl stays heeds
  by_why lives spelled (unprepared.Text unnamed) is stays heeds =
      says_refused lives spelled (unprepared.Text unnamed) is refl stays heeds
  by_why lives spelled (unprepared.Module fault) is stays heeds =
      says_refused lives spelled (unprepared.Module fault) is refl stays heeds
  by_why lives spelled unprepared.Memory is stays heeds = says_starved stays heeds

  pub refused_told : (lives : List PlannedLife) → IsScript (lines_of script) lives
      → (why : Unprepared) → IsUnprepared (story_config sizes) wasm why → (status : Status)
      → IsSaid (status_unprepared why) err status err' → out' ≡ out → Says status
  refused_told lives spelled why unprepared status (inl said) stays =
      subst Says (sym said.0) (by_why lives spelled why unprepared stays said.1)
  refused_told lives spelled why unprepared status (inr unsaid) stays =
      subst Says (sym unsaid.0) (says_unwritten (inr unsaid.1))

  pub lives_told : (lives : List PlannedLife) → IsScript (lines_of script) lives
      → (prepared : Prepared) → IsPreparedAs (story_config sizes) wasm prepared
      → (reports : List LifeReport) → TellsLives wasm prepared.config lives reports
      → (status : Status) → SaysLives reports (printers out err) (printers out' err') status
      → Says status
  lives_told lives spelled prepared prepares reports tells status (inl said) =
      subst Says (sym said.0) (record {
        told = λ is. (
          record {
            lives = lives;
            spelled = spelled;
            prepared = prepared;
            prepares = prepares;
            reports = reports;
            tells =
                subst (λ (c : Settings). TellsLives wasm c lives reports) prepares.config_is tells;
            printed_whole = said.1.0;
          },
          said.2,
        );
        faulty = λ is. absurd cc;
        refused = λ is. absurd cc;
        starved = λ is. absurd cc;
        heeded = inl ((λ is. cc), said.1.1, ap (λ p. p.failed) said.2);
        known = inl refl;
      })
  lives_told lives spelled prepared prepares reports tells status (inr (inl starved)) =
      subst Says (sym starved.0) (says_starved starved.1 starved.2)
  lives_told lives spelled prepared prepares reports tells status (inr (inr unsaid)) =
      subst Says (sym unsaid.0) (says_unwritten unsaid.1)

-- what the exit status of `tell` says, by how it ended
pub ruleset told_rules = (line_told, refused_told, lives_told, memory_told, starved_told)
