-- Why a source of the program refuses, after all that it has answered.
use Rattle.std.proofs.Common.{◌≡◌, ◌+◌, List, [], ◌∷◌, ◌++◌, Some, None, Ok, Err, refl}
use Rattle.std.proofs.Common.{sym, ap, subst, ◌∙◌, arith}
use Rattle.std.specs.Prelude.{Option, Result, ⊤}
use Rattle.std.specs.Option.{IsSomeAnd}
use Rattle.wasi_abi.specs.declared.answer.Answer.{Answer}
use Rattle.wasi_abi.specs.declared.answer.Question.{Question}
use Rattle.process_rules.specs.Runs.{Kept}
use Rattle.record_replay.specs.declared.fault.SourceFault.{SourceFault}
use Rattle.record_replay.specs.rules.Calls.{Ask, Asked, AnswersInOrder}
use Rattle.record_replay.proofs.Following.{leads_split}
use Rattle.record_replay.specs.rules.Slices.{handed_by, handed}
use Rattle.command_words.specs.declared.lines.fault.LineFault.{LineFault}
use Rattle.command_words.specs.rules.Outside.{ComeFrom, requests_in, words_of}
use Rattle.command_words.specs.rules.Requests.{GiveUpTo}
use Rattle.command_words.specs.Lines.Answers.{SourceState, HandsNext, HandsAnswer, LeavesFault}
use Rattle.command_words.specs.Lines.Answers.{IsRefusedFor}
use Rattle.command_words.proofs.LineLemmas.Asking.{HasAnswered, answered_nothing, answered_first}
use Rattle.command_words.proofs.LineLemmas.Asking.{none_left, refused_for, refused_so}
use Rattle.command_words.proofs.LineLemmas.Passing.{behind_passed}
use Rattle.disk_commands.specs.laws.Answered.{NoneIsLeftAtTheEnd}
use Rattle.disk_commands.specs.rules.ServedOnDisk.{handing}
use Rattle.disk_commands.specs.laws.DiskCauses.{IsRefusedAmong, HasRefused, RefusalsHaveReasons}
use Rattle.disk_commands.proofs.AnsweredLemmas.{at_end, leaves_some}

-- no request came, and the answers behind that
ended_before : (question : Question) (s v u : SourceState) (more : List Kept)
    → HandsAnswer question s None v → HasAnswered v u more → HasAnswered s u more
ended_before question s v u more hands others =
    let here = at_end question s v hands.finds in
    let count = here.1 in
    let counts = others.counted in
    let place = here.0 in
    let places = others.drawn in
    record {
      unspoilt = others.unspoilt;
      steady = others.steady ∙ hands.steady;
      same = others.same ∙ hands.same;
      same_limit = others.same_limit ∙ hands.same_limit;
      same_stream = others.same_stream ∙ hands.same_stream;
      counted = omega (arith, count, counts);
      drawn = omega (arith, place, places);
      come = subst (λ o. ComeFrom o s.stream s.place more) hands.same
          (subst (λ v'. ComeFrom v.outside v' s.place more) hands.same_stream
          (subst (λ k. ComeFrom v.outside v.stream k more) place others.come));
      given = behind_passed s.limit s.taken s.unread v.unread (requests_in more)
          (λ rest. u.unread ≡ Some rest) here.2
          (subst (λ n. GiveUpTo s.limit n v.unread (requests_in more)
          (λ rest. u.unread ≡ Some rest)) count
          (subst (λ n. GiveUpTo n v.taken v.unread (requests_in more)
          (λ rest. u.unread ≡ Some rest)) hands.same_limit others.given));
    }

-- a source with a fault keeps it, and answers nothing more
stays_refused : (why : LineFault) (asks : List Ask) (s t : SourceState) → s.fault ≡ Some why
    → AnswersInOrder handing s asks t
    → (handed asks ≡ []) × (t.fault ≡ Some why) × (t.failed ≡ s.failed)
stays_refused why [] s t is leads =
    (refl, ap (λ (z : SourceState). z.fault) leads ∙ is, ap (λ (z : SourceState). z.failed) leads)
stays_refused why (ask ∷ asks) s t is leads =
    by_said (λ now. stays_refused why asks leads.0 t now leads.2) ask.said refl leads.1
  where
    u : SourceState
    u = leads.0

    by_said : (u.fault ≡ Some why
        → (handed asks ≡ []) × (t.fault ≡ Some why) × (t.failed ≡ u.failed))
        → (said : Result (Option Answer) SourceFault) → ask.said ≡ said
        → HandsNext ask.question s ask.said u
        → (handed (ask ∷ asks) ≡ []) × (t.fault ≡ Some why) × (t.failed ≡ s.failed)
    by_said more (Ok answered) e hands =
        let h : HandsAnswer ask.question s answered u =
        subst (λ r. HandsNext ask.question s r u) e hands in
        let none = h.unfailed in absurd (cc)
    by_said more (Err fault) e hands =
        let h : HandsNext ask.question s (Err fault) u =
        subst (λ r. HandsNext ask.question s r u) e hands in
        let stays : LeavesFault ask.question s u (Some why) =
        subst (LeavesFault ask.question s u) is h.5 in
        let others = more stays.0 in (
          subst (λ r. handed_by r ++ handed asks ≡ []) (sym e) others.0,
          others.1,
          others.2 ∙ stays.1,
        )

-- Behind these answers one of these questions was refused, which has left this fault.
record IsRefusedThere (s t : SourceState) (asks : List Ask) (kept : List Kept) (why : LineFault)
    : Type 0 where
  question : Question
  asked : IsRefusedAmong asks question
  fault : SourceFault
  between : SourceState
  after : SourceState
  before : HasAnswered s between kept
  hands : HandsNext question between (Err fault) after
  kept_fault : after.fault ≡ Some why
  steady : t.failed ≡ after.failed

-- one question more before them, whatever was said
refused_later : (ask : Ask) (asks : List Ask) (question : Question) → IsRefusedAmong asks question
    → IsRefusedAmong (ask ∷ asks) question
refused_later ask asks question r = record {
  front = ask ∷ r.front;
  back = r.back;
  fault = r.fault;
  is = ap (λ z. ask ∷ z) r.is;
  unanswered = r.unanswered;
}

-- the first question is refused
refused_now : (why : LineFault) (question : Question) (fault : SourceFault) (asks : List Ask)
    (s u t : SourceState) → s.fault ≡ None → HandsNext question s (Err fault) u
    → AnswersInOrder handing u asks t → t.fault ≡ Some why
    → (handed asks ≡ [])
    × IsRefusedThere s t (record { question = question; said = Err fault } ∷ asks) [] why
refused_now why question fault asks s u t none hands leads is = by_kept_fault u.fault refl
  where
    by_kept_fault : (kept_fault : Option LineFault) → u.fault ≡ kept_fault
        → (handed asks ≡ [])
        × IsRefusedThere s t (record { question = question; said = Err fault } ∷ asks) [] why
    by_kept_fault None e =
        absurd (refused_so s s u [] (answered_nothing s none) question fault e hands)
    by_kept_fault (Some first) e =
        let stays = stays_refused first asks u t e leads in (
          stays.0,
          record {
            question = question;
            asked = record {
              front = [];
              back = asks;
              fault = fault;
              is = refl;
              unanswered = stays.0;
            };
            fault = fault;
            between = s;
            after = u;
            before = answered_nothing s none;
            hands = hands;
            kept_fault = e ∙ sym stays.1 ∙ is;
            steady = stays.2;
          },
        )

refused_there : (why : LineFault) (asks : List Ask) (s t : SourceState) → s.fault ≡ None
    → AnswersInOrder handing s asks t → t.fault ≡ Some why
    → IsRefusedThere s t asks (handed asks) why
refused_there why [] s t none leads is =
    let same = ap (λ (z : SourceState). z.fault) leads in absurd (cc)
refused_there why (ask ∷ asks) s t none leads is =
    by_said (λ now. refused_there why asks leads.0 t now leads.2 is) ask.said refl leads.1
  where
    u : SourceState
    u = leads.0

    by_said : (u.fault ≡ None → IsRefusedThere u t asks (handed asks) why)
        → (said : Result (Option Answer) SourceFault) → ask.said ≡ said
        → HandsNext ask.question s ask.said u
        → IsRefusedThere s t (ask ∷ asks) (handed (ask ∷ asks)) why
    by_said more (Ok (Some a)) e hands =
        let h : HandsAnswer ask.question s (Some a) u =
        subst (λ r. HandsNext ask.question s r u) e hands in
        let r = more h.unspoilt in
        subst (λ z. IsRefusedThere s t (ask ∷ asks) (handed_by z ++ handed asks) why) (sym e)
        (record {
          question = r.question;
          asked = refused_later ask asks r.question r.asked;
          fault = r.fault;
          between = r.between;
          after = r.after;
          before = answered_first ask.question s u r.between a (handed asks) h r.before;
          hands = r.hands;
          kept_fault = r.kept_fault;
          steady = r.steady;
        })
    by_said more (Ok None) e hands =
        let h : HandsAnswer ask.question s None u =
        subst (λ r. HandsNext ask.question s r u) e hands in
        let r = more h.unspoilt in
        subst (λ z. IsRefusedThere s t (ask ∷ asks) (handed_by z ++ handed asks) why) (sym e)
        (record {
          question = r.question;
          asked = refused_later ask asks r.question r.asked;
          fault = r.fault;
          between = r.between;
          after = r.after;
          before = ended_before ask.question s u r.between (handed asks) h r.before;
          hands = r.hands;
          kept_fault = r.kept_fault;
          steady = r.steady;
        })
    by_said more (Err fault) e hands =
        let h : HandsNext ask.question s (Err fault) u =
        subst (λ r. HandsNext ask.question s r u) e hands in
        let r = refused_now why ask.question fault asks s u t none h leads.2 is in
        let same : record { question = ask.question; said = Err fault } ≡ ask =
        ap (λ z. record { question = ask.question; said = z }) (sym e) in
        subst (λ z. IsRefusedThere s t (ask ∷ asks) (handed_by z ++ handed asks) why) (sym e)
        (subst (λ z. IsRefusedThere s t (ask ∷ asks) z why) (sym r.0)
        (subst (λ z. IsRefusedThere s t (z ∷ asks) [] why) same r.1))

reason_of : (s t : SourceState) (asks : List Ask) (why : LineFault)
    → IsRefusedThere s t asks (handed asks) why → HasRefused s asks t.failed why
reason_of s t asks why r = record {
  question = r.question;
  asked = r.asked;
  reason = subst (λ f. IsRefusedFor r.question s (s.place + words_of (handed asks))
      (requests_in (handed asks)) f why) (sym r.steady)
      (refused_for s r.between r.after (handed asks) r.before r.question r.fault why
      r.kept_fault r.hands);
}

-- a source without a fault in the end has answered all, or had none yet
heard_so_far : (asks : List Ask) (s u : SourceState) → u.fault ≡ None
    → AnswersInOrder handing s asks u → HasAnswered s u (handed asks)
heard_so_far [] s u none leads =
    subst (λ z. HasAnswered s z []) (sym leads)
    (answered_nothing s (ap (λ (z : SourceState). z.fault) (sym leads) ∙ none))
heard_so_far (ask ∷ asks) s u none leads =
    by_said (heard_so_far asks leads.0 u none leads.2) ask.said refl leads.1
  where
    v : SourceState
    v = leads.0

    by_said : HasAnswered v u (handed asks) → (said : Result (Option Answer) SourceFault)
        → ask.said ≡ said → HandsNext ask.question s ask.said v
        → HasAnswered s u (handed (ask ∷ asks))
    by_said more (Ok (Some a)) e hands =
        let h : HandsAnswer ask.question s (Some a) v =
        subst (λ r. HandsNext ask.question s r v) e hands in
        subst (λ r. HasAnswered s u (handed_by r ++ handed asks)) (sym e)
        (answered_first ask.question s v u a (handed asks) h more)
    by_said more (Ok None) e hands =
        let h : HandsAnswer ask.question s None v =
        subst (λ r. HandsNext ask.question s r v) e hands in
        subst (λ r. HasAnswered s u (handed_by r ++ handed asks)) (sym e)
        (ended_before ask.question s v u (handed asks) h more)
    by_said more (Err fault) e hands =
        let h : HandsNext ask.question s (Err fault) v =
        subst (λ r. HandsNext ask.question s r v) e hands in
        absurd (by_kept_fault v.fault refl (leaves_some ask.question s v s.fault h.5))
      where
        by_kept_fault : (kept_fault : Option LineFault) → v.fault ≡ kept_fault
            → IsSomeAnd v.fault (λ _. ⊤) → ⊥
        by_kept_fault None is some =
            let none_there : IsSomeAnd None (λ (_ : LineFault). ⊤) =
            subst (λ f. IsSomeAnd f (λ _. ⊤)) is some in absurd none_there
        by_kept_fault (Some why) is some =
            let stays = stays_refused why asks v u is leads.2 in
            let kept = stays.1 in absurd (cc)

-- from no fault to none, a question that had no answer yet
pub none_is_left : NoneIsLeftAtTheEnd
none_is_left front back question source source' asked =
    let last : Ask = record { question = question; said = Ok None } in
    let parts = leads_split (Asked handing) source source' front (last ∷ back) asked in
    let hands : HandsAnswer question parts.0 None parts.2.0 = parts.2.1 in
    let kept_fault = none_left source parts.0 parts.2.0 (handed front)
    (heard_so_far front source parts.0 hands.unfailed parts.1) question hands in
    (kept_fault.0, kept_fault.2)

pub refusals_have_reasons : RefusalsHaveReasons
refusals_have_reasons asks s t why leads none is =
    reason_of s t asks why (refused_there why asks s t none leads is)
