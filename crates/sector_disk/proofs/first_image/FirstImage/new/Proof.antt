-- `new` makes a struct of no size, and the image that its clause names beside it. Assumes `Logic`.
use Rattle.std.proofs.Common.{[], ◌∷◌, refl}
use Rattle.std.proofs.raw_atomic.Walks.{proved}
use mir.Syntax.{Fn}
use types.Kit.{‵, raw, ◌⊛◌, ◌$◌, ◌∵◌, !, qed, move, keep, split, fjoin, suffices, done}
use types.Part.{agg}
use types.Run.{enter, returns, and_then, no_more}
use types.ByLocal.{alloc_all, pass_all, free_all, look_at, get, sets}
use denote.RattleType.{RattleType, owns}
use denote.Laws.{Is}
use denote.Signature.{types_at}
use denote.Steps.{nothing, owned}
use denote.Struct.Laws.{makes}
use denote.Struct.Tuple.{Tuple}
use denote.Triple.Clauses.{Ended}
use denote.Triple.Entry.{alive}
use denote.Triple.Walked.{says, Stays, ends_at}
use Rattle.std.specs.contracts.marker.PhantomData as Mark
use Rattle.sector_disk.proofs.LogSteps.{empty, round, rounds}
use Rattle.sector_disk.specs.contracts.first_image.FirstImage as First
use Rattle.sector_disk.specs.contracts.first_image.FirstImage.new as contract
use Rattle.sector_disk.specs.contracts.first_image.FirstImage.new.Key.{name as #self}
use Rattle.sector_disk.proofs.first_image.FirstImage.new.Statement.{statement}
use Rattle.sector_disk.proofs.first_image.FirstImage.new.Code as code

abbrev function : Fn
function = code.function

abbrev mark : RattleType
mark = Mark.the_row (Tuple [])

abbrev stayed : Stays contract.ended.signature.params contract.ended.kept
stayed = tt

pub new_spec : {M : Type 1} → statement M
new_spec 𝓤 𝓛 𝓜 𝓡 wired =
    let T : Ended = contract.ended in
    let c = contract.clauses 𝓛 𝓜.mem 𝓡.returns in
    proved 𝓛 T stayed c 𝓜 𝓡 tt
    #self function (code.unfolded 𝓤 𝓛.H 𝓜 𝓡 wired)
    (λ κs. tt) (λ κs. tt) (λ κs qs bounds a first are.
    let made : First.the_row.Denot = record { mark = record {}; image = first }
    in
    qed 𝓛 ((raw (alive 𝓛 T.signature κs qs) ⊛ ‵ (owns (types_at T.signature.params κs) a tt))
    ∷ raw ((c κs a).requires first) ∷ []) ∵
    keep ! (0 ∷ []) $ split ! $ keep ! (0 ∷ []) $
    -- [the tokens; the locals]
    enter ! _ _ _ _ _ $ alloc_all ! (λ l. pass_all ! refl tt $
    sets ! (agg ! (no_more !)) refl (tt, tt) $
    sets ! (agg ! (and_then ! (get ! refl) (no_more !))) refl (tt, (tt, tt)) $
    -- [the struct; the tokens; the locals]
    nothing ! $ owned ! mark (Is mark)
    (makes (Mark.the_type (Tuple [])) tt 𝓛) (record {}) (empty
    ∷ []) (tt, (refl, tt)) $
    rounds ! mark (record {}) empty $ fjoin ! $
    returns ! (look_at ! 0 refl) $ free_all ! refl $
    suffices ! _ (ends_at 𝓛 T stayed c (
      (κs, qs, bounds, a, tt),
      first,
    ) (round empty) made tt tt) $ says ! refl $
    nothing ! $ move ! (2 ∷ 0 ∷ 1 ∷ []) $ done !))
