use Rattle.journal.proofs.HeldLemmas.{fresh_holds_none, holds_what_is_stored, holds_none_of_later}
use Rattle.journal.proofs.HeldLemmas.{holds_one_list, scans_what_is_held}
use Rattle.journal.proofs.laws.what_is_held_is_scanned.Goals as goal

pub returns : goal.returns
returns c = record {
  fresh = fresh_holds_none;
  stored = holds_what_is_stored;
  none = holds_none_of_later;
  one = holds_one_list;
  scanned = scans_what_is_held;
}
