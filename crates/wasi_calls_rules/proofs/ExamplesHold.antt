-- The examples that test whether a path is UTF-8, and those of writes.
use Rattle.std.proofs.Common.{◌≡◌, refl}
use Rattle.std.specs.Str.{is_utf8, chars}
use lib.Utf8.{encode}
use Rattle.wasi_calls_rules.specs.Checks.{Bytes}
use Rattle.wasi_calls_rules.specs.WasiStates.{WasiState}
use Rattle.wasi_calls_rules.specs.CallRules.{CallEnding, IsDone, TellsCallRule}
use Rattle.wasi_calls_rules.specs.laws.Examples.{OpeningExamples, WritingExamples}
use Rattle.wasi_calls_rules.specs.laws.Examples.{DirectoryExamples, bare_host, write_call_rule}
use Rattle.wasi_calls_rules.specs.laws.Examples.{one_beyond}

pub opening_examples : OpeningExamples
unfolding is_utf8 chars encode
opening_examples = record {
  there_already = refl;
  above_the_root = refl;
  through_a_file = refl;
  empty = refl;
  leading_slash = refl;
  is_opened = refl;
}

pub directory_examples : DirectoryExamples
unfolding is_utf8 chars encode
directory_examples = record {
  cut_entries = refl;
  used_up = refl;
  last_entry = refl;
  is_renamed = refl;
  not_empty = refl;
  below_itself = refl;
}

-- a call that is refused changes nothing, whatever is told
writing_unchanged : (told : CallEnding) (m : Bytes) (h : WasiState)
    → TellsCallRule told m h one_beyond bare_host (write_call_rule 16 one_beyond) → (m ≡ one_beyond)
    × (h ≡ bare_host)
writing_unchanged IsDone m h shown = absurd (cc)
writing_unchanged _ m h shown = (shown.1, shown.2)

pub writing_examples : WritingExamples
writing_examples = record {
  is_done = refl;
  is_refused = refl;
  number = refl;
  nothing_changes = writing_unchanged;
}
