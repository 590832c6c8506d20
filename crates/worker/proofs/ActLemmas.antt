-- Acts, one after another.
use Rattle.std.proofs.Common.{◌≡◌, ℕ, ◌+◌, ◌<◌, ◌≤◌, List, [], ◌∷◌, length, get_or, drop, sym, ap}
use Rattle.std.proofs.Common.{◌∙◌, subst, add-one}
use Rattle.std.proofs.Math.Seq.{drop-cons}
use Rattle.std.proofs.lemmas.List.{drop_all}
use Rattle.std.specs.Prelude.{Result, Ok, Err, map}
use Rattle.sector_disk.specs.rules.Medium.{Medium}
use Rattle.record_replay.specs.rules.Calls.{Giving, Taking}
use Rattle.worker_store.specs.restart_theorem.Lives.{Act}
use Rattle.worker.specs.declared.fault.WorkFault.{WorkFault}
use Rattle.worker.specs.declared.recover_fault.RecoverFault.{RecoverFault}
use Rattle.worker.specs.declared.recover_fault.RecoverFault.TheVariants as recover
use Rattle.worker.specs.rules.DurableCalls.{ActCarries, Answered, CallKeeps, MayExchange}
use Rattle.worker.specs.rules.DurableValues.{DurableValue}
use Rattle.worker.specs.rules.OneLife.{CallsInOrder, FailsBy, no_more, called, call_failed}
use Rattle.worker.specs.rules.Scenes.{scene, Surroundings, surroundings}
use Rattle.worker.proofs.DurableLemmas.Working.{nothing_alone}
use Rattle.worker.specs.declared.story.life.PlannedAct.{PlannedAct}
use Rattle.worker.specs.rules.Planned.{act_of}
use Rattle.worker.specs.LifeCalls.{DoesAct}

module _ {D S O : Type 0} (medium : D → Medium) (gives : Giving S) (takes : Taking O) (act : Act)
    (w w' : DurableValue) (disk disk' : D) where
  -- a call that has an answer, and one that has failed
  pub call_is_done : (source source' : S) (outlet outlet' : O) (said : Answered act)
      → CallKeeps medium gives takes act (scene w disk source outlet) (Ok said)
      (scene w' disk' source' outlet')
      → DoesAct medium gives takes act (scene w disk source outlet) (Ok tt)
      (scene w' disk' source' outlet')
  call_is_done source source' outlet outlet' said keeps =
      λ acts undone last rest. called {after = scene w' disk' source' outlet'} said keeps rest

  pub call_fails : (source source' : S) (outlet outlet' : O) (why : WorkFault)
      → CallKeeps medium gives takes act (scene w disk source outlet) (Err why)
      (scene w' disk' source' outlet')
      → FailsBy act w why w' (medium disk) (medium disk')
      → DoesAct medium gives takes act (scene w disk source outlet) (Err why)
      (scene w' disk' source' outlet')
  call_fails source source' outlet outlet' why keeps fails =
      λ acts. call_failed {after = scene w' disk' source' outlet'} keeps fails

  -- one that asks no source and tells no line
  module _ (source : S) (outlet : O) (quiet : MayExchange act []) where
    pub quiet_keeps : (result : Result (Answered act) WorkFault)
        → ActCarries act [] w result w' (medium disk) (medium disk')
        → CallKeeps medium gives takes act (scene w disk source outlet) result
        (scene w' disk' source outlet)
    quiet_keeps result carries = ([], nothing_alone gives takes source outlet, carries, quiet)

    pub quiet_is_done : (said : Answered act)
        → ActCarries act [] w (Ok said) w' (medium disk) (medium disk')
        → DoesAct medium gives takes act (scene w disk source outlet) (Ok tt)
        (scene w' disk' source outlet)
    quiet_is_done said carries =
        call_is_done source source outlet outlet said (quiet_keeps (Ok said) carries)

    pub quiet_fails : (why : WorkFault)
        → ActCarries act [] w (Err why) w' (medium disk) (medium disk')
        → FailsBy act w why w' (medium disk) (medium disk')
        → DoesAct medium gives takes act (scene w disk source outlet) (Err why)
        (scene w' disk' source outlet)
    quiet_fails why carries fails =
        call_fails source source outlet outlet why (quiet_keeps (Err why) carries) fails

-- ---- a list of them

-- some acts are done; after what comes of the rest all are done
pub record HasDone {D S O : Type 0} (medium : D → Medium) (gives : Giving S) (takes : Taking O)
    (all rest : List PlannedAct) (w w' : DurableValue) (disk disk' : D) (source source' : S)
    (outlet outlet' : O) : Type 0 where
  pub behind : (undone : Result (List Act) RecoverFault) (last : Surroundings D S O)
      → CallsInOrder medium gives takes (map act_of rest) (scene w' disk' source' outlet') undone
      last
      → CallsInOrder medium gives takes (map act_of all) (scene w disk source outlet) undone last

-- an act that is read at a place is the first of those from there on
acts_from : (acts : List PlannedAct) (i : ℕ) (other : PlannedAct) → i < length acts
    → drop i acts ≡ get_or acts i other ∷ drop (i + 1) acts
acts_from acts i other within =
    drop-cons acts i other within
    ∙ ap (λ (k : ℕ). get_or acts i other ∷ drop k acts) (sym (add-one i))

module _ {D S O : Type 0} (medium : D → Medium) (gives : Giving S) (takes : Taking O)
    (acts : List PlannedAct) (w : DurableValue) (disk : D) (source : S) (outlet : O) where
  pub none_is_done : HasDone medium gives takes acts (drop 0 acts) w w disk disk source source
      outlet outlet
  none_is_done = record { behind = λ undone last calls. calls }

  module _ (i : ℕ) (other : PlannedAct) (within : i < length acts) (now : DurableValue)
      (disk_now : D) (source_now : S) (outlet_now : O)
      (so_far : HasDone medium gives takes acts (drop i acts) w now disk disk_now source source_now
      outlet outlet_now)
      (w' : DurableValue) (disk' : D) (source' : S) (outlet' : O) where
    first_so_far : HasDone medium gives takes acts (get_or acts i other ∷ drop (i + 1) acts) w now
        disk disk_now source source_now outlet outlet_now
    first_so_far = subst (λ (rest : List PlannedAct). HasDone medium gives takes acts rest w now
        disk disk_now source source_now outlet outlet_now) (acts_from acts i other within) so_far

    pub one_more_is_done : DoesAct medium gives takes (act_of (get_or acts i other))
        (scene now disk_now source_now outlet_now) (Ok tt) (scene w' disk' source' outlet')
        → HasDone medium gives takes acts (drop (i + 1) acts) w w' disk disk' source source' outlet
        outlet'
    one_more_is_done does = record {
      behind = λ undone last calls. first_so_far.behind undone last
          (does (map act_of (drop (i + 1) acts)) undone last calls);
    }

    pub one_fails : (why : WorkFault) → DoesAct medium gives takes (act_of (get_or acts i other))
        (scene now disk_now source_now outlet_now) (Err why) (scene w' disk' source' outlet')
        → CallsInOrder medium gives takes (map act_of acts) (scene w disk source outlet)
        (Err (recover.Worker why)) (surroundings disk' source' outlet')
    one_fails why does =
        first_so_far.behind (Err (recover.Worker why)) (surroundings disk' source' outlet')
        (does (map act_of (drop (i + 1) acts)))

  pub all_are_done : (i : ℕ) → length acts ≤ i → (w' : DurableValue) (disk' : D) (source' : S)
      (outlet' : O)
      → HasDone medium gives takes acts (drop i acts) w w' disk disk' source source' outlet outlet'
      → CallsInOrder medium gives takes (map act_of acts) (scene w disk source outlet) (Ok [])
      (surroundings disk' source' outlet')
  all_are_done i all w' disk' source' outlet' so_far =
      let none : HasDone medium gives takes acts [] w w' disk disk' source source' outlet outlet' =
      subst (λ (rest : List PlannedAct). HasDone medium gives takes acts rest w w' disk disk'
      source source' outlet outlet') (drop_all i acts all) so_far in
      none.behind (Ok []) (surroundings disk' source' outlet') no_more
