-- From how a sweep went to what the exit status says.
use Rattle.std.proofs.Common.{◌≡◌, inl, inr, ℕ, List, refl, sym, ap, ◌∙◌, subst}
use Rattle.std.specs.Prelude.{Option, Some, None, Result, Ok, Err, IfErr, IfOk, IfSome}
use Rattle.worker.specs.declared.recover_fault.RecoverFault.{RecoverFault}
use Rattle.worker.specs.declared.story.life.PlannedLife.{PlannedLife}
use Rattle.wasi_abi.specs.rules.Configs.{Settings}
use Rattle.command_words.specs.declared.configuring.Sizes.{Sizes}
use Rattle.command_words.specs.declared.preparing.Prepared.{Prepared}
use Rattle.command_words.specs.declared.preparing.Unprepared.{Unprepared}
use Rattle.command_words.specs.declared.preparing.Unprepared.TheVariants as unprepared
use Rattle.command_words.specs.rules.Preparations.{IsPreparedAs, status_unprepared}
use Rattle.command_words.specs.rules.Pieces.{lines_of}
use Rattle.command_words.specs.rules.Printers.{PrinterState, IsSaid, HasOneFailed, SaysText}
use Rattle.command_words.specs.rules.Printers.{printers}
use Rattle.command_words.specs.declared.status.Status.{Status}
use Rattle.command_words.specs.declared.status.Status.TheVariants as exit
use Rattle.story_commands.specs.rules.Stories.{script_lines, story_config}
use Rattle.story_commands.specs.declared.stories.fault.LineCause.{LineCause}
use Rattle.story_commands.specs.declared.stories.fault.ScriptFault.{ScriptFault}
use Rattle.story_commands.specs.declared.stories.fault.ScriptFault.TheVariants as unread
use Rattle.story_commands.specs.declared.sweeping.reading.SweepScriptFault.{SweepScriptFault}
use Rattle.story_commands.specs.declared.sweeping.reading.SweepScriptFault.TheVariants as unswept
use Rattle.story_commands.specs.rules.Sweeps.{AreCompared, AreSweptLives, HasFailedPlan}
use Rattle.story_commands.specs.rules.Sweeps.{IsDoneAgain, IsSwept, IsUnreadSweep, LeavesAnswers}
use Rattle.story_commands.specs.rules.SweepTexts.{IsOfScript, IsUnsweepable, SaysScriptFault}
use Rattle.story_commands.specs.rules.SweepTexts.{TellsSweep, answers_left_line, no_upgrade_line}
use Rattle.story_commands.specs.Said.{SaysDifference, SaysPlan, SaysSwept}
use Rattle.story_commands.specs.declared.sweeping.fault.SweepFault.{SweepFault}
use Rattle.story_commands.specs.declared.sweeping.fault.SweepFault.TheVariants as fault
use Rattle.story_commands.specs.declared.sweeping.whole_sweep.Swept.{Swept}
use Rattle.story_commands.specs.laws.CutRuns.{HeedsProgress, IsFoundFirst, IsSweepFault}
use Rattle.story_commands.specs.laws.SweepEnds.{SaysEnd}

-- what is wrong with a script, by its fault
pub script_fault_said : (why : ScriptFault) (old : PrinterState) (status : Status)
    (new : PrinterState)
    → ((number : ℕ) (cause : LineCause) → why ≡ unread.Line number cause
    → SaysText (script_lines number cause) exit.Usage old status new)
    → (why ≡ unread.Memory → IsSaid exit.OutOfMemory old status new)
    → SaysScriptFault (unswept.Script why) old status new
script_fault_said (unread.Line number cause) old status new faulty starved =
    faulty number cause refl
script_fault_said unread.Memory old status new faulty starved = starved refl

module _ (script wasm : List ℕ) (sizes : Sizes) (fronts : List ℕ) (number : Option ℕ)
    (out out' err mid err' : PrinterState) (steady : mid.failed ≡ err.failed) where
  abbrev pub Says : Status → Type 0
  Says status = TellsSweep script wasm sizes fronts number (printers out err)
      (printers out' err') status

  -- a write has failed
  pub says_unwritten : HasOneFailed (printers out' err') → Says exit.Unwritten
  says_unwritten failed = record {
    done = λ is. absurd cc;
    differs = λ is. absurd cc;
    unswept = λ is. absurd cc;
    heeded = inr (refl, failed);
    known = inr (inr (inr (inr (inr refl))));
  }

  -- lives that differ were compared
  says_different : IsOfScript script wasm sizes number (AreCompared wasm (story_config sizes))
      → out'.failed ≡ out.failed → err'.failed ≡ mid.failed → Says exit.Different
  says_different compared same heeds = record {
    done = λ is. absurd cc;
    differs = λ _. compared;
    unswept = λ is. absurd cc;
    heeded = inl ((λ is. cc), same, heeds ∙ steady);
    known = inr (inl refl);
  }

  -- nothing is cut
  pub says_usage : IsUnsweepable script wasm sizes number err.contents err'.contents
      → out' ≡ out → err'.failed ≡ mid.failed → Says exit.Usage
  says_usage why stays heeds = record {
    done = λ is. absurd cc;
    differs = λ is. absurd cc;
    unswept = λ _. (stays, why);
    heeded = inl (
      (λ is. cc),
      ap (λ (p : PrinterState). p.failed) stays,
      heeds ∙ steady,
    );
    known = inr (inr (inl refl));
  }

  says_refused : out'.failed ≡ out.failed → err'.failed ≡ mid.failed → Says exit.Refused
  says_refused same heeds = record {
    done = λ is. absurd cc;
    differs = λ is. absurd cc;
    unswept = λ is. absurd cc;
    heeded = inl ((λ is. cc), same, heeds ∙ steady);
    known = inr (inr (inr (inl refl)));
  }

  says_starved : out'.failed ≡ out.failed → err'.failed ≡ mid.failed → Says exit.OutOfMemory
  says_starved same heeds = record {
    done = λ is. absurd cc;
    differs = λ is. absurd cc;
    unswept = λ is. absurd cc;
    heeded = inl ((λ is. cc), same, heeds ∙ steady);
    known = inr (inr (inr (inr (inl refl))));
  }

  pub said_starved : (status : Status) → IsSaid exit.OutOfMemory mid status err' → out' ≡ out
      → Says status
  said_starved status (inl said) stays =
      subst Says (sym said.0) (says_starved (ap (λ p. p.failed) stays) said.1)
  said_starved status (inr unsaid) stays = subst Says (sym unsaid.0) (says_unwritten (inr unsaid.1))

  by_why : (why : Unprepared) → out'.failed ≡ out.failed → err'.failed ≡ mid.failed
      → Says (status_unprepared why)
  by_why (unprepared.Range bound) same heeds = says_refused same heeds
  by_why (unprepared.Text unnamed) same heeds = says_refused same heeds
  by_why (unprepared.Module fault) same heeds = says_refused same heeds
  by_why unprepared.Memory same heeds = says_starved same heeds

  -- a worker that is refused
  pub refused : (why : Unprepared) (status : Status)
      → IsSaid (status_unprepared why) mid status err' → out' ≡ out → Says status
  refused why status (inl said) stays =
      subst Says (sym said.0) (by_why why (ap (λ p. p.failed) stays) said.1)
  refused why status (inr unsaid) stays =
      subst Says (sym unsaid.0) (says_unwritten (inr unsaid.1))

  -- a cut that differs
  pub differs : (lives : List PlannedLife) (place : ℕ)
      → AreSweptLives (lines_of script) number lives place
      → (prepared : Prepared) → IsPreparedAs (story_config sizes) wasm prepared
      → AreCompared wasm prepared.config lives place
      → (status : Status) → SaysDifference (printers out mid) (printers out' err') status
      → Says status
  differs lives place spelled prepared prepares compared status (inl said) =
      subst Says (sym said.0)
      (says_different (of_script lives place spelled prepared prepares compared) said.1 said.2)
    where
      of_script : (ls : List PlannedLife) (p : ℕ) → AreSweptLives (lines_of script) number ls p
          → (q : Prepared) → IsPreparedAs (story_config sizes) wasm q
          → AreCompared wasm q.config ls p
          → IsOfScript script wasm sizes number (AreCompared wasm (story_config sizes))
      of_script ls p is q prepares them = record {
        lives = ls;
        place = p;
        spelled = is;
        prepared = q;
        prepares = prepares;
        holds = subst (λ (c : Settings). AreCompared wasm c ls p) prepares.config_is them;
      }
  differs lives place spelled prepared prepares compared status (inr (inl said)) =
      subst Says (sym said.0) (says_starved (ap (λ p. p.failed) said.1) said.2)
  differs lives place spelled prepared prepares compared status (inr (inr unsaid)) =
      subst Says (sym unsaid.0) (says_unwritten unsaid.1)

  -- all cuts agree
  pub swept_whole : (lives : List PlannedLife) (place : ℕ)
      → AreSweptLives (lines_of script) number lives place
      → (prepared : Prepared) → IsPreparedAs (story_config sizes) wasm prepared
      → (cuts count : ℕ) → IsSwept wasm prepared.config lives place fronts cuts count
      → (status : Status) → SaysSwept cuts count (printers out mid) (printers out' err') status
      → Says status
  swept_whole lives place spelled prepared prepares cuts count swept status (inl said) =
      subst Says (sym said.0) (record {
        done = λ is. record {
          lives = lives;
          place = place;
          spelled = spelled;
          prepared = prepared;
          prepares = prepares;
          cuts = cuts;
          count = count;
          swept =
              subst (λ (c : Settings). IsSwept wasm c lives place fronts cuts count)
              prepares.config_is swept;
          printed_whole = said.1.0;
        };
        differs = λ is. absurd cc;
        unswept = λ is. absurd cc;
        heeded = inl (
          (λ is. cc),
          said.1.1,
          ap (λ (p : PrinterState). p.failed) said.2 ∙ steady,
        );
        known = inl refl;
      })
  swept_whole lives place spelled prepared prepares cuts count swept status (inr (inl said)) =
      subst Says (sym said.0) (says_starved (ap (λ p. p.failed) said.1) said.2)
  swept_whole lives place spelled prepared prepares cuts count swept status (inr (inr unsaid)) =
      subst Says (sym unsaid.0) (says_unwritten unsaid.1)

-- the same, where nothing was printed before
module _ (script wasm : List ℕ) (sizes : Sizes) (fronts : List ℕ) (number : Option ℕ)
    (out out' err err' : PrinterState) where
  abbrev Now : Status → Type 0
  Now status = TellsSweep script wasm sizes fronts number (printers out err)
      (printers out' err') status

  two : IsUnsweepable script wasm sizes number err.contents err'.contents → out' ≡ out
      → err'.failed ≡ err.failed → Now exit.Usage
  two = says_usage script wasm sizes fronts number out out' err err err' refl

  seven : HasOneFailed (printers out' err') → Now exit.Unwritten
  seven = says_unwritten script wasm sizes fronts number out out' err err err' refl

  -- a script that can't be read
  pub unread_now : (why : SweepScriptFault) (status : Status)
      → IsUnreadSweep (lines_of script) number why → SaysScriptFault why err status err'
      → out' ≡ out → Now status
  unread_now (unswept.Script (unread.Line line cause)) status is (inl said) stays =
      subst Now (sym said.0) (two (inl (line, cause, is, said.1.0)) stays said.1.1)
  unread_now (unswept.Script (unread.Line line cause)) status is (inr unsaid) stays =
      subst Now (sym unsaid.0) (seven (inr unsaid.1))
  unread_now (unswept.Script unread.Memory) status is said stays =
      said_starved script wasm sizes fronts number out out' err err err' refl status said stays
  unread_now unswept.NoLife status is (inl said) stays =
      subst Now (sym said.0) (two (inr (inl (is, said.1.0))) stays said.1.1)
  unread_now unswept.NoLife status is (inr unsaid) stays =
      subst Now (sym unsaid.0) (seven (inr unsaid.1))

  -- a life that has ended by an error without a cut
  pub planned_now : (lives : List PlannedLife) (place : ℕ)
      → AreSweptLives (lines_of script) number lives place
      → (prepared : Prepared) → IsPreparedAs (story_config sizes) wasm prepared
      → (life : ℕ) (why : RecoverFault) → HasFailedPlan wasm prepared.config lives life why
      → (status : Status) → SaysPlan life why err err' status → out' ≡ out → Now status
  planned_now lives place spelled prepared prepares life why failed status (inl said) stays =
      subst Now (sym said.0) (two (inr (inr (inl (record {
        lives = lives;
        place = place;
        spelled = spelled;
        prepared = prepared;
        prepares = prepares;
        holds = (
          life,
          why,
          subst (λ (c : Settings). HasFailedPlan wasm c lives life why) prepares.config_is failed,
          said.1.0,
        );
      })))) stays said.1.1)
  planned_now lives place spelled prepared prepares life why failed status (inr (inl said)) stays =
      said_starved script wasm sizes fronts number out out' err err err' refl status (inl said)
      stays
  planned_now lives place spelled prepared prepares life why failed status (inr (inr un)) stays =
      subst Now (sym un.0) (seven (inr un.1))

  -- a life that has taken fewer answers than the script has for it
  pub left_now : (lives : List PlannedLife) (place : ℕ)
      → AreSweptLives (lines_of script) number lives place
      → (prepared : Prepared) → IsPreparedAs (story_config sizes) wasm prepared
      → (life taken all : ℕ) → LeavesAnswers wasm prepared.config lives life taken all
      → (status : Status) → SaysText (answers_left_line life taken all) exit.Usage err status err'
      → out' ≡ out → Now status
  left_now lives place spelled prepared prepares life taken all leaves status (inl said) stays =
      subst Now (sym said.0) (two (inr (inr (inr (inl (record {
        lives = lives;
        place = place;
        spelled = spelled;
        prepared = prepared;
        prepares = prepares;
        holds = (
          life,
          taken,
          all,
          subst (λ (c : Settings). LeavesAnswers wasm c lives life taken all)
              prepares.config_is leaves,
          said.1.0,
        );
      }))))) stays said.1.1)
  left_now lives place spelled prepared prepares life taken all leaves status (inr unsaid) stays =
      subst Now (sym unsaid.0) (seven (inr unsaid.1))

  -- an upgrade that can't be done again
  pub upgraded_now : (lives : List PlannedLife) (place : ℕ)
      → AreSweptLives (lines_of script) number lives place
      → (prepared : Prepared) → IsPreparedAs (story_config sizes) wasm prepared
      → IsDoneAgain wasm prepared.config lives place
      → (status : Status) → SaysText no_upgrade_line exit.Usage err status err' → out' ≡ out
      → Now status
  upgraded_now lives place spelled prepared prepares again status (inl said) stays =
      subst Now (sym said.0) (two (inr (inr (inr (inr (
        record {
          lives = lives;
          place = place;
          spelled = spelled;
          prepared = prepared;
          prepares = prepares;
          holds = subst (λ (c : Settings). IsDoneAgain wasm c lives place) prepares.config_is again;
        },
        said.1.0,
      ))))) stays said.1.1)
  upgraded_now lives place spelled prepared prepares again status (inr unsaid) stays =
      subst Now (sym unsaid.0) (seven (inr unsaid.1))

  pub refused_now : (why : Unprepared) (status : Status)
      → IsSaid (status_unprepared why) err status err' → out' ≡ out
      → TellsSweep script wasm sizes fronts number (printers out err) (printers out' err') status
  refused_now why status said stays =
      refused script wasm sizes fronts number out out' err err err' refl why status said stays

-- how a sweep has ended, and what is said of that
pub ended_now : (script wasm : List ℕ) (sizes : Sizes) (fronts : List ℕ) (number : Option ℕ)
    (out out' err mid err' : PrinterState) (lives : List PlannedLife) (place : ℕ)
    → AreSweptLives (lines_of script) number lives place
    → (prepared : Prepared) → IsPreparedAs (story_config sizes) wasm prepared
    → (ended : Result (Option Swept) SweepFault)
    → IfOk ended (λ o. IfSome o (λ swept. IsSwept wasm prepared.config lives place fronts
    swept.cuts swept.lines)) → IfErr ended (IsSweepFault wasm prepared.config lives place)
    → HeedsProgress ended err mid → IfErr ended (λ why. IsFoundFirst why → mid ≡ err)
    → (status : Status) → SaysEnd ended (printers out mid) (printers out' err') status
    → TellsSweep script wasm sizes fronts number (printers out err) (printers out' err') status
ended_now script wasm sizes fronts number out out' err mid err' lives place spelled prepared
    prepares
    (Ok (Some swept)) ok failed heeds quiet status said =
    swept_whole script wasm sizes fronts number out out' err mid err' heeds lives place spelled
    prepared prepares swept.cuts swept.lines ok status said
ended_now script wasm sizes fronts number out out' err mid err' lives place spelled prepared
    prepares
    (Ok None) ok failed heeds quiet status said =
    subst (TellsSweep script wasm sizes fronts number (printers out err) (printers out' err'))
    (sym said.0)
    (says_unwritten script wasm sizes fronts number out out' err err err' refl
    (inr (ap (λ (p : PrinterState). p.failed) said.2 ∙ heeds)))
ended_now script wasm sizes fronts number out out' err mid err' lives place spelled prepared
    prepares
    (Err fault.Memory) ok failed heeds quiet status (inl said, stays) =
    said_starved script wasm sizes fronts number out out' err mid err' heeds status
    (inl (said.0, said.1.1)) stays
ended_now script wasm sizes fronts number out out' err mid err' lives place spelled prepared
    prepares
    (Err fault.Memory) ok failed heeds quiet status (inr unsaid, stays) =
    said_starved script wasm sizes fronts number out out' err mid err' heeds status (inr unsaid)
    stays
ended_now script wasm sizes fronts number out out' err mid err' lives place spelled prepared
    prepares
    (Err (fault.Plan life why)) ok failed heeds quiet status said =
    planned_now script wasm sizes fronts number out out' err err' lives place spelled prepared
    prepares life why failed status
    (subst (λ (p : PrinterState). SaysPlan life why p err' status) (quiet tt) said.0) said.1
ended_now script wasm sizes fronts number out out' err mid err' lives place spelled prepared
    prepares
    (Err (fault.AnswersLeft life taken all)) ok failed heeds quiet status said =
    left_now script wasm sizes fronts number out out' err err' lives place spelled prepared
    prepares life taken all failed status
    (subst (λ (p : PrinterState). SaysText (answers_left_line life taken all) exit.Usage p status
    err') (quiet tt) said.0) said.1
ended_now script wasm sizes fronts number out out' err mid err' lives place spelled prepared
    prepares
    (Err (fault.Upgrade run)) ok failed heeds quiet status said =
    upgraded_now script wasm sizes fronts number out out' err err' lives place spelled prepared
    prepares failed status
    (subst (λ (p : PrinterState). SaysText no_upgrade_line exit.Usage p status err') (quiet tt)
    said.0) said.1
ended_now script wasm sizes fronts number out out' err mid err' lives place spelled prepared
    prepares
    (Err (fault.Differs run)) ok failed heeds quiet status said =
    differs script wasm sizes fronts number out out' err mid err' heeds lives place spelled prepared
    prepares failed status said
