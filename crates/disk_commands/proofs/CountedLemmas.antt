-- An outlet that counts the lines that it took prints as one that doesn't count.
use Rattle.std.proofs.Common.{◌≡◌, ◌⊎◌, inl, inr, ap, refl, sym, subst, ◌∙◌, arith, ℕ, ◌+◌, ◌<◌}
use Rattle.std.proofs.Common.{◌^◌, List, [], ◌∷◌, Ok, Err}
use Rattle.std.proofs.lemmas.Bool.Decides.{nat_tests}
use Rattle.std.specs.Prelude.{Result}
use Rattle.record_replay.specs.declared.fault.OutletFault.{OutletFault}
use Rattle.record_replay.specs.rules.Calls.{Begun, Releases}
use Rattle.worker.specs.rules.Outlets.{TakesEach, RefusesLast}
use Rattle.command_words.specs.rules.Printers.{PrinterState}
use Rattle.command_words.specs.rules.Prints.{printing}
use Rattle.command_words.specs.declared.status.Status.{Status}
use Rattle.command_words.specs.declared.status.Status.TheVariants as exit
use Rattle.disk_commands.specs.rules.Refusals.{HeedsRefusal}
use Rattle.disk_commands.specs.rules.ToldLines.{CountedPrinter, counting, one_more, told_with}
use Rattle.disk_commands.specs.laws.Counted.{CountsWhatItTakes, HeedsAsItPrints, one_taken}
use Rattle.disk_commands.specs.laws.Counted.{taken_among}

-- below its end a count takes one more
more_below : (told : ℕ) → told + 1 < 2 ^ 64 → one_more told ≡ told + 1
more_below told below = grind (arith, nat_tests)

-- what is said of a line, and the lines after it
with_said : (said : Result (Unit {0}) OutletFault) (old between rest : ℕ)
    → between ≡ told_with said old → old + (one_taken said + rest) < 2 ^ 64
    → between + rest ≡ old + (one_taken said + rest)
with_said (Ok done) old between rest is below =
    let more : between ≡ old + 1 = is ∙ more_below old (omega (arith, below)) in
    omega (arith, more)
with_said (Err why) old between rest is below = omega (arith, is)

pub counts_what_it_takes : CountsWhatItTakes
counts_what_it_takes [] old new led = (
  ap (λ (z : CountedPrinter). z.printer) led,
  λ below. omega (arith, ap (λ (z : CountedPrinter). z.told) led),
)
counts_what_it_takes (begun ∷ releases) old new led =
    let after = counts_what_it_takes releases led.0 new led.2 in (
      (led.0.printer, led.1.0, after.0),
      λ below.
          let grown : led.0.told + taken_among releases
          ≡ old.told + (one_taken begun.said + taken_among releases) =
          with_said begun.said old.told led.0.told (taken_among releases) led.1.1 below in
          after.1 (omega (arith, grown, below)) ∙ grown,
    )

prints_each : (old new : CountedPrinter) → TakesEach counting old new
    → TakesEach printing old.printer new.printer
prints_each old new takes = record {
  releases = takes.releases;
  led = (counts_what_it_takes takes.releases old new takes.led).0;
  taken = takes.taken;
}

pub heeds_as_it_prints : HeedsAsItPrints
heeds_as_it_prints old new err status (inl told) = inl (prints_each old new told.0, told.1)
heeds_as_it_prints old new err status (inr told) = inr (
  record {
    between = told.0.between.printer;
    before = prints_each old told.0.between told.0.before;
    last = told.0.last;
    released = told.0.released.0;
    fault = told.0.fault;
    said = told.0.said;
  },
  told.1,
)
