-- `and` makes a struct of no size, and the list that its clause names beside it. Assumes `Logic`.
use Rattle.std.proofs.Common.{[], ◌∷◌, refl}
use Rattle.std.proofs.raw_atomic.Walks.{proved}
use mir.Syntax.{Fn, Args, a_type}
use mir.MapTy.{inst_fn}
use types.Kit.{‵, raw, ◌⊛◌, ◌$◌, ◌∵◌, !, qed, move, keep, split, fjoin, suffices, done}
use types.Part.{agg}
use types.Run.{enter, returns, and_then, no_more}
use types.ByLocal.{alloc_all, pass_all, free_all, look_at, get, sets}
use denote.Builtin.{RefOf}
use denote.Exit.{yes}
use denote.RattleType.{RattleType, Valss, owns}
use denote.Laws.{Is}
use denote.Param.{param, layouts}
use denote.Ref.{shr_vals}
use denote.Signature.{plain, types_at}
use denote.Steps.{nothing, owned}
use denote.Struct.Laws.{makes}
use denote.Struct.Tuple.{Tuple}
use denote.Triple.Clauses.{Ended}
use denote.Triple.Entry.{alive}
use denote.Triple.Walked.{says, Stays, stay_dropped, ends_at, Goes-dropped}
use Rattle.std.specs.contracts.marker.PhantomData as Mark
use Rattle.sector_disk.proofs.LogSteps.{empty, round, rounds}
use Rattle.sector_disk.specs.contracts.log.Log as Log
use Rattle.sector_disk.specs.contracts.log.Log.and as contract
use Rattle.sector_disk.specs.contracts.log.Log.and.Key.{name as #self}
use Rattle.sector_disk.proofs.log.Log.and.Statement.{statement}
use Rattle.sector_disk.proofs.log.Log.and.Code as code

abbrev args : RattleType → RattleType → Args
args A B = layouts (a_type ∷ a_type ∷ []) (A, (B, tt))

abbrev function : RattleType → RattleType → Fn
function A B = inst_fn (args A B) code.function

abbrev mark : RattleType → RattleType → RattleType
mark A B = Mark.the_row (Tuple (param 0 A ∷ param 1 B ∷ []))

-- nothing is wanted of the three references at the end
abbrev stayed : (A B : RattleType)
    → Stays (contract.ended A B).signature.params (contract.ended A B).kept
stayed A B = (
  stay_dropped (RefOf (0 ∷ []) tt (plain (λ _. Log.the_row (param 0 A) (param 1 B))) (λ _. tt)) yes,
  (
    stay_dropped (RefOf (1 ∷ []) tt (plain (λ _. param 0 A)) (λ _. tt)) yes,
    (stay_dropped (RefOf (2 ∷ []) tt (plain (λ _. param 1 B)) (λ _. tt)) yes, tt),
  ),
)

pub and_spec : {M : Type 1} → statement M
and_spec 𝓤 𝓛 𝓜 𝓡 wired A B LA LB =
    let T : Ended = contract.ended A B in
    let c = contract.clauses A B 𝓛 𝓜.mem 𝓡.returns in
    proved 𝓛 T (stayed A B) c 𝓜 𝓡 (
      Goes-dropped 𝓛 5 (RefOf (0 ∷ []) tt (plain (λ _. Log.the_row (param 0 A) (param 1 B))) (λ _.
          tt)) yes (λ κs x w. refl),
      (
        Goes-dropped 𝓛 5 (RefOf (1 ∷ []) tt (plain (λ _. param 0 A)) (λ _. tt)) yes (λ κs x w.
            refl),
        (
          Goes-dropped 𝓛 5 (RefOf (2 ∷ []) tt (plain (λ _. param 1 B)) (λ _. tt)) yes (λ κs x w.
              refl),
          tt,
        ),
      ),
    )
    (#self (args A B)) (function A B) (code.unfolded 𝓤 𝓛.H 𝓜 𝓡 wired (A, (B, tt)))
    (λ κs. (shr_vals, (shr_vals, (shr_vals, tt)))) (λ κs. (
      (λ x vs is. is.0),
      ((λ x vs is. is.0), ((λ x vs is. is.0), tt)),
    )) (λ κs qs bounds a g are.
    let vss : Valss (types_at T.signature.params κs) =
    (shr_vals a.0, (shr_vals a.1.0, (shr_vals a.1.1.0, tt))) in
    let made : (Log.the_row (param 0 A) (param 1 B)).Denot =
    record { of = record {}; items = (a.1.0.now, a.1.1.0.now) ∷ a.0.now.items } in
    qed 𝓛 ((raw (alive 𝓛 T.signature κs qs) ⊛ ‵ (owns (types_at T.signature.params κs) a vss))
    ∷ raw ((c κs a).requires g) ∷ []) ∵
    keep ! (0 ∷ []) $ split ! $ keep ! (0 ∷ []) $
    -- [the tokens; the locals]
    enter ! _ _ _ _ _ $ alloc_all ! (λ l. pass_all ! refl ((tt, tt), ((tt, tt), ((tt, tt), tt))) $
    sets ! (agg ! (no_more !)) refl (tt, tt) $
    sets ! (agg ! (and_then ! (get ! refl) (no_more !))) refl (tt, (tt, tt)) $
    -- [the struct; the tokens; the locals]
    nothing ! $ owned ! (mark A B) (Is (mark A B))
    (makes (Mark.the_type (Tuple (param 0 A ∷ param 1 B ∷ []))) tt 𝓛) (record {}) (empty
    ∷ []) (tt, (refl, tt)) $
    rounds ! (mark A B) (record {}) empty $ fjoin ! $
    returns ! (look_at ! 0 refl) $ free_all ! refl $
    suffices ! _ (ends_at 𝓛 T (stayed A B) c ((κs, qs, bounds, a, vss), g) (round empty) made (
      tt,
      (tt, (tt, tt)),
    ) (tt, (tt, (tt, tt)))) $ says ! refl $
    -- [nothing of the references; the struct; the tokens]
    nothing ! $ nothing ! $ fjoin ! $ nothing ! $ fjoin ! $ nothing ! $ fjoin ! $ move ! (2 ∷ 0 ∷ 1
    ∷ []) $ done !))
