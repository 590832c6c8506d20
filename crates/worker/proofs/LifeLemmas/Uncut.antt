-- Lives in which the power isn't cut.
use Rattle.std.proofs.Common.{◌≡◌, inl, List, [], ◌∷◌, length, Ok, Err, refl, sym, ap, subst, arith}
use Rattle.std.proofs.Common.{lit≤}
use Rattle.std.specs.Prelude.{Result}
use Rattle.sector_disk.specs.rules.Medium.{Medium}
use Rattle.record_replay.specs.rules.Calls.{Giving, Taking, Exchange}
use Rattle.worker_store.specs.restart_theorem.Lives.{Act, told_in}
use Rattle.worker_store.specs.laws.Laws.{ProcessImagesFitAreas}
use Rattle.worker.specs.declared.recover_fault.RecoverFault.{RecoverFault}
use Rattle.worker.specs.laws.OneLife.{IsLifeOver, EndsBy, released_in}
use Rattle.worker.specs.laws.Uncut.{uncut, LivesGoOnUncut}
use Rattle.worker.proofs.LifeLemmas.Living.{calls_make_lives, anything_comes_true}
use Rattle.worker.proofs.LifeLemmas.Heard.{all_heard, as_many}

-- whether it is over doesn't hang on what was said
over_still : (acts : List Act) (exchanges : List Exchange) (undone : Result (List Act) RecoverFault)
    → IsLifeOver (uncut acts []) 1 undone → IsLifeOver (uncut acts exchanges) 1 undone
over_still acts exchanges (Ok []) over = tt
over_still acts exchanges (Ok (act ∷ others)) over = absurd over
over_still acts exchanges (Err why) over = tt

pub lives_go_on_uncut : {D S O : Type 0} (medium : D → Medium) (gives : Giving S)
    (takes : Taking O) → ProcessImagesFitAreas → LivesGoOnUncut medium gives takes
lives_go_on_uncut medium gives takes fit m config bytes so_far acts found one accepted calls over
    sectors room keeps bounded =
    let made = calls_make_lives medium gives takes fit m config bytes so_far acts found one accepted
    calls keeps bounded in
    let l = made.2 (uncut acts made.0) 1 refl (record {
      foretold = anything_comes_true made.0;
      sectors = sectors;
      room = room;
      faults = λ later more. inl (lit≤ tt);
      over = over_still acts made.0 one.undone over;
    }) in
    let lived = l.2 keeps bounded in
    let told : told_in (l.0).events ≡ released_in made.0 = l.1.told in
    let many = as_many made.0 in
    let counts = ap length told in (
      made.0,
      made.1,
      record {
        life = l.0;
        begins_so = l.1.begins_so;
        lived = lived.0;
        told = told;
        heard = all_heard m config so_far (uncut acts made.0) l.0 refl
            (omega (arith, many, counts)) lived.0;
        ends = subst (λ n. EndsBy (uncut acts made.0) n one.undone (l.0).ends) (sym l.1.counted)
            l.1.ends;
        keeps = lived.1;
        bounded = lived.2;
      },
    )
