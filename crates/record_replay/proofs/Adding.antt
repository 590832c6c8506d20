-- Two slices, of which the first took all its steps, are one.
use Rattle.std.proofs.Common.{◌≡◌, ℕ, ◌+◌, ◌<◌, ◌≤◌, List, ◌++◌, sym, ◌∙◌, ap, arith, append_assoc}
use Rattle.process_rules.specs.Processes.{ProcessState, Guest}
use Rattle.record_replay.specs.rules.Calls.{Giving, Taking, Exchange}
use Rattle.record_replay.proofs.Following.{exchanges_join}
use Rattle.record_replay.specs.declared.slices.now.Now.{Now}
use Rattle.record_replay.specs.declared.slices.now.Now.TheVariants as now
use Rattle.record_replay.specs.rules.Slices.{AreAnswered, IsNow}
use Rattle.record_replay.specs.laws.SliceLaws.{SlicesAdd}
use Rattle.record_replay.proofs.Joining.{answered_join, leads_join, wanted_join}

now_on : (guest : Guest) (q : ProcessState) (xs ys : List Exchange) (n k f g : ℕ) (why : Now)
    → n ≡ f → AreAnswered xs → IsNow guest q ys k g why
    → IsNow guest q (xs ++ ys) (n + k) (f + g) why
now_on guest q xs ys n k f g now.Spent same answered h = let spent : k ≡ g = h.0 in
    (omega arith, h.1, answered_join xs ys answered h.2)
now_on guest q xs ys n k f g now.Waiting same answered h =
    let less : k < g = h.0 in (
      omega arith,
      h.1,
      h.2,
      h.3,
      (
        xs ++ h.4.0,
        ap (λ z. xs ++ z) h.4.1
            ∙ sym (append_assoc xs h.4.0 _),
      ),
    )
now_on guest q xs ys n k f g (now.Ended how) same answered h = let few : k ≤ g = h.0 in
    (omega arith, h.1, answered_join xs ys answered h.2)

pub slices_add : {S O : Type 0} (gives : Giving S) (takes : Taking O) → SlicesAdd gives takes
slices_add gives takes first second third f g why before between after a b = record {
  had_not_failed = a.had_not_failed;
  has_not_failed = b.has_not_failed;
  none_waits = b.none_waits;
  shown = λ guest start shows.
      let one = a.shown guest start shows in
      let middle = one.0.process in
      let two = b.shown guest middle one.0.shows in (
        record {
          exchanges = one.0.exchanges ++ two.0.exchanges;
          exchanged = exchanges_join gives takes before.source after.source between.source
              before.outlet after.outlet between.outlet one.0.exchanges two.0.exchanges
              one.0.exchanged two.0.exchanged;
          wanted = wanted_join guest start middle one.0.exchanges two.0.exchanges one.0.steps
              one.0.wanted one.0.leads one.1.2 two.0.wanted;
          steps = one.0.steps + two.0.steps;
          process = two.0.process;
          leads = leads_join guest start middle two.0.process one.0.exchanges two.0.exchanges
              one.0.steps two.0.steps one.0.leads two.0.leads;
          shows = two.0.shows;
        },
        now_on guest two.0.process one.0.exchanges two.0.exchanges one.0.steps two.0.steps f g why
            one.1.0 one.1.2 two.1,
      );
}
