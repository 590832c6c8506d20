-- A slice that fails after one whose fuel is spent is one slice that fails.
use Rattle.std.proofs.Common.{◌≡◌, ℕ, ◌+◌, ◌<◌, ◌≤◌, List, ◌++◌, Option, sym, ◌∙◌, ap, arith}
use Rattle.std.proofs.Common.{append_assoc}
use Rattle.wasi_abi.specs.declared.answer.Answer.{Answer}
use Rattle.process_rules.specs.Processes.{ProcessState, Guest}
use Rattle.record_replay.specs.rules.Calls.{Giving, Taking, Ports, Exchange}
use Rattle.record_replay.proofs.Following.{exchanges_join}
use Rattle.process.specs.rules.Values.{ShowsProcess}
use Rattle.record_replay.specs.declared.slices.now.Now.TheVariants as now
use Rattle.record_replay.specs.declared.slices.fault.SliceFault.{SliceFault}
use Rattle.record_replay.specs.declared.slices.fault.SliceFault.TheVariants as fault
use Rattle.record_replay.specs.declared.slices.fault.Refusal.TheVariants as refusal
use Rattle.record_replay.specs.rules.Workers.{WorkerValue}
use Rattle.record_replay.specs.rules.Slices.{SliceLeadsTo, AreAnswered, Slices}
use Rattle.record_replay.specs.rules.Faults.{StopsAtLine, StopsAtAnswer, LeadsUpTo, last_answer}
use Rattle.record_replay.specs.rules.Faults.{Fails, IsCause, SlicesInVain}
use Rattle.record_replay.specs.laws.SliceLaws.{SlicesAddInVain}
use Rattle.record_replay.proofs.Joining.{answered_join, leads_join, wanted_join}

module _ (guest : Guest) (p q : ProcessState) (xs : List Exchange) (n : ℕ)
    (leads : SliceLeadsTo guest p xs n q) (answered : AreAnswered xs) where
  up_to_join : (r : ProcessState) (ys : List Exchange) (k : ℕ) (given : Option Answer)
      → LeadsUpTo guest q ys k r given → LeadsUpTo guest p (xs ++ ys) (n + k) r given
  up_to_join r ys k given h = record {
    front = xs ++ h.front;
    question = h.question;
    is = ap (λ z. xs ++ z) h.is ∙ sym (append_assoc xs h.front (last_answer h.question given));
    leads = leads_join guest p q r xs h.front n k leads h.leads;
    answered = answered_join xs h.front answered h.answered;
  }

  module _ (r : ProcessState) (ys : List Exchange) (k : ℕ) where
    answer_join : StopsAtAnswer guest q ys k r → StopsAtAnswer guest p (xs ++ ys) (n + k) r
    answer_join h = record {
      front = xs ++ h.front;
      ask = h.ask;
      is = ap (λ z. xs ++ z) h.is ∙ sym (append_assoc xs h.front _);
      leads = leads_join guest p q r xs h.front n k leads h.leads;
      bad = h.bad;
    }

    line_join : StopsAtLine guest q ys k r → StopsAtLine guest p (xs ++ ys) (n + k) r
    line_join h =
        let counted = h.last.counted in
        record {
          front = xs ++ h.front;
          told = h.told;
          line = h.line;
          others = h.others;
          last = record {
            before = h.last.before;
            given = h.last.given;
            steps = n + h.last.steps;
            counted = omega arith;
            leads = up_to_join h.last.before h.front h.last.steps h.last.given h.last.leads;
            moves = h.last.moves;
            emitted = h.last.emitted;
          };
          is = ap (λ z. xs ++ z) h.is ∙ sym (append_assoc xs h.front _);
        }

    cause_join : (f g : ℕ) (why : SliceFault) → n ≡ f → IsCause guest q g ys k r why
        → IsCause guest p (f + g) (xs ++ ys) (n + k) r why
    cause_join f g fault.Source spent h = let less : k < g = h.0 in (omega arith, answer_join h.1)
    cause_join f g fault.Outlet spent h = let few : k ≤ g = h.0 in (omega arith, line_join h.1)
    cause_join f g fault.Memory spent h = let less : k < g = h.0 in
        (omega arith, h.1, h.2, h.3, up_to_join r ys k h.3 h.4)
    cause_join f g fault.Failed spent h = absurd h
    cause_join f g (fault.Refused (refusal.Module why)) spent h = absurd h
    cause_join f g (fault.Refused refusal.StepsSpent) spent h = let less : k < g = h.0 in
        (omega arith, h.1, h.2, up_to_join r ys k h.2 h.3, h.4)

module _ {S O : Type 0} (gives : Giving S) (takes : Taking O) (first second third : WorkerValue)
    (f g : ℕ) (before between after : Ports S O)
    (a : Slices gives takes first f now.Spent second before between) where
  -- what a slice in vain does to each process that is shown
  abbrev InVain : WorkerValue → ℕ → Ports S O → SliceFault → Type 0
  InVain from fuel there why =
      (guest : Guest) (start : ProcessState) → ShowsProcess from.process guest start
      → (fails : Fails gives takes from third guest start there after)
      × IsCause guest start fuel fails.exchanges fails.steps fails.process why

  in_vain_join : (why : SliceFault) → InVain second g between why
      → InVain first (f + g) before why
  in_vain_join why b = λ guest start shows.
      let one = a.shown guest start shows in
      let middle = one.0.process in
      let two = b guest middle one.0.shows in (
        record {
          exchanges = one.0.exchanges ++ two.0.exchanges;
          exchanged = exchanges_join gives takes before.source after.source between.source
              before.outlet after.outlet between.outlet one.0.exchanges two.0.exchanges
              one.0.exchanged two.0.exchanged;
          wanted = wanted_join guest start middle one.0.exchanges two.0.exchanges one.0.steps
              one.0.wanted one.0.leads one.1.2 two.0.wanted;
          steps = one.0.steps + two.0.steps;
          process = two.0.process;
          shows = two.0.shows;
        },
        cause_join guest start middle one.0.exchanges one.0.steps one.0.leads one.1.2
            two.0.process
            two.0.exchanges two.0.steps f g why one.1.0 two.1,
      )

  add_in_vain : (why : SliceFault) → SlicesInVain gives takes second g why third between after
      → SlicesInVain gives takes first (f + g) why third before after
  add_in_vain fault.Source h = (a.had_not_failed, h.1, in_vain_join fault.Source h.2)
  add_in_vain fault.Outlet h = (a.had_not_failed, h.1, in_vain_join fault.Outlet h.2)
  add_in_vain fault.Memory h = (a.had_not_failed, h.1, in_vain_join fault.Memory h.2)
  add_in_vain fault.Failed h = let none = a.has_not_failed in let one = h.0 in absurd (cc)
  add_in_vain (fault.Refused why) h =
      (a.had_not_failed, h.1, in_vain_join (fault.Refused why) h.2)

pub slices_add_in_vain : {S O : Type 0} (gives : Giving S) (takes : Taking O)
    → SlicesAddInVain gives takes
slices_add_in_vain gives takes first second third f g why before between after a b =
    add_in_vain gives takes first second third f g before between after a why b
