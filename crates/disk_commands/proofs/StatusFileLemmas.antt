-- What is said of the two paths of a status file.
use Rattle.std.proofs.Common.{◌≡◌, inl, inr, refl, ℕ, List, Bool, Bor, subst}
use Rattle.std.specs.Prelude.{Option, Some, None, Result, Ok, Err, IfErr, IfSome, IsSome}
use Rattle.command_words.specs.rules.Printers.{PrinterState}
use Rattle.command_words.specs.declared.status.Status.{Status}
use Rattle.disk_commands.specs.declared.on_disk.found_file.FoundFile.{FoundFile}
use Rattle.disk_commands.specs.rules.StatusFiles.{SaysTaken, SaysUnwatchable, SaysUnwatched}
use Rattle.disk_commands.specs.rules.StatusFiles.{beside, path_named}

module _ {T : Type 0} (found : List ℕ → FoundFile → Bool) (path at : List ℕ)
    (is : at ≡ beside path) (old between new : PrinterState) (same : between ≡ old)
    (r : Result T Status) where
  -- what is said of the path beside it
  pub beside_said : IfErr r (λ status. SaysTaken (found at) at between status new)
      → IfErr r (λ status. SaysUnwatched found path old status new)
  beside_said = by r
    where
      by : (r : Result T Status) → IfErr r (λ status. SaysTaken (found at) at between status new)
          → IfErr r (λ status. SaysUnwatched found path old status new)
      by (Ok done) says = tt
      by (Err status) says =
          let h = subst (λ p. SaysTaken (found p) p between status new) is says in
          inr (subst (λ o. SaysTaken (found (beside path)) (beside path) o status new) same h)

module _ (found : List ℕ → FoundFile → Bool) (old new : PrinterState) (status : Status) where
  -- the path of which it is said
  named_untold : (path : Option (Bor (List ℕ))) → IsSome path
      → IfSome path (λ text. SaysUnwatched found text.now old status new)
      → (text : List ℕ) × (path_named path ≡ Some text)
      × SaysUnwatched found text old status new
  named_untold (Some text) some says = (text.now, refl, says)
  named_untold None some says = absurd cc

  -- the one of the status file
  pub status_untold : (path metrics : Option (Bor (List ℕ))) → IsSome path
      → IfSome path (λ text. SaysUnwatched found text.now old status new)
      → SaysUnwatchable found (path_named path) (path_named metrics) old status new
  status_untold path metrics some says =
      let (text, is, untold) = named_untold path some says in inr (text, inl is, untold)

  -- the one of the metrics
  pub metrics_untold : (path metrics : Option (Bor (List ℕ))) → IsSome metrics
      → IfSome metrics (λ text. SaysUnwatched found text.now old status new)
      → SaysUnwatchable found (path_named path) (path_named metrics) old status new
  metrics_untold path metrics some says =
      let (text, is, untold) = named_untold metrics some says in inr (text, inr is, untold)
