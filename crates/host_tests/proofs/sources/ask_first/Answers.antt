use Rattle.std.proofs.Common.{subst, List, Option, Result, refl}
use denote.Param.Object.{read_made}
use Rattle.wasi_abi.specs.declared.answer.Answer.{Answer}
use Rattle.record_replay.specs.declared.fault.SourceFault.{SourceFault}
use Rattle.record_replay.specs.rules.Lists.{HandsOut}
use Rattle.host_tests.proofs.sources.ask_first.OwnLists.{own-1, at-1-1}
use Rattle.host_tests.proofs.sources.ask_first.Goals as goal

-- What the box says is read off the list that was put into it.
pub returns : goal.returns
returns c =
    let e = own-1.entry at-1-1 in
    let r = read_made own-1 e at-1-1 refl (Result (Option Answer) SourceFault
    → Type 0) (λ j x said. (z : j.0.Denot)
    × j.1.gives x c.args.question said z) _ _ _ c.into_dyn_box.ensures.1 in
    let k : (answers_left : List Answer) × HandsOut c.in_ok-new.field-0.value c.answer.result
    answers_left = subst (λ f. f c.answer.result) r (c.answer.ensures.0, c.answer.ensures.1) in
    subst (λ xs. (answers_left : List Answer) × HandsOut xs c.answer.result answers_left)
    c.in_ok-new.ensures.ok k
