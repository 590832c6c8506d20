use Rattle.journal.proofs.FilledLemmas.{fills_what_is_stored, fills_what_is_held}
use Rattle.journal.proofs.laws.what_is_held_fills.Goals as goal

pub returns : goal.returns
returns c = record { stored = fills_what_is_stored; held = fills_what_is_held }
