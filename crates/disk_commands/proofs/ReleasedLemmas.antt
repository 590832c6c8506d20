-- Lines that were released in a life and taken are printed.
use Rattle.std.proofs.Common.{◌≡◌, ℕ, List, [], ◌∷◌, Ok, Err, refl, subst}
use Rattle.std.specs.Prelude.{Result}
use Rattle.wasi_calls_rules.specs.WasiStates.{Line}
use Rattle.record_replay.specs.declared.fault.OutletFault.{OutletFault}
use Rattle.record_replay.specs.rules.Calls.{Exchange, Asks, Tells}
use Rattle.worker.specs.laws.OneLife.{released_in, taken_in}
use Rattle.worker.specs.laws.Uncut.{AreTrue}
use Rattle.command_words.specs.rules.Texts.{printed}
use Rattle.command_words.specs.rules.Printers.{IsPrinted}
use Rattle.command_words.specs.rules.Prints.{printing}
use Rattle.command_words.proofs.LineLemmas.Printed.{prints_both, prints_nothing}
use Rattle.disk_commands.specs.laws.Released.{released_lines, ReleasedLinesArePrinted}

-- so it is with one release more
abbrev AreTaken : ℕ → Line → List Exchange → Result (Unit {0}) OutletFault → Type 0
AreTaken number line exchanges said = AreTrue (taken_in (Tells (record {
  number = number;
  line = line;
  said = said;
}) ∷ exchanges))

pub released_are_printed : ReleasedLinesArePrinted
released_are_printed [] old new told taken = prints_nothing old new told
released_are_printed (Asks ask ∷ exchanges) old new told taken =
    released_are_printed exchanges old new told taken
released_are_printed (Tells begun ∷ exchanges) old new told taken =
    by_said begun.said refl (λ more. released_are_printed exchanges told.0 new told.2 more)
  where
    by_said : (said : Result (Unit {0}) OutletFault) → begun.said ≡ said
        → (AreTrue (taken_in exchanges)
        → IsPrinted told.0 new (released_lines (released_in exchanges)))
        → IsPrinted old new (released_lines (released_in (Tells begun ∷ exchanges)))
    by_said (Ok done) is others =
        let more : AreTrue (taken_in exchanges) =
        subst (AreTaken begun.number begun.line exchanges) is taken in
        prints_both old told.0 new (printed begun.number begun.line)
        (released_lines (released_in exchanges))
        (subst (λ r. printing old begun.number begun.line r told.0) is told.1) (others more)
    by_said (Err e) is others = absurd (subst (AreTaken begun.number begun.line exchanges) is taken)
