-- The examples of opening. Each computes, UTF-8 included.
use Rattle.std.proofs.Common.{refl}
use Rattle.std.specs.Str.{is_utf8, chars}
use lib.Utf8.{encode}
use Rattle.wasi_calls_rules.specs.laws.OpenExamples.{OpenedExamples, OpenRefusedExamples}
use Rattle.wasi_calls_rules.specs.laws.OpenExamples.{OpenRightExamples, OpenLimitExamples}

pub opened_examples : OpenedExamples
unfolding is_utf8 chars encode
opened_examples = record {
  file = refl;
  few_rights = refl;
  directory = refl;
  fewer_to_hand_on = refl;
  created_file = refl;
  created_alone = refl;
  there_already = refl;
  exclusive_alone = refl;
  truncated = refl;
  wanted_directory = refl;
}

pub open_refused_examples : OpenRefusedExamples
unfolding is_utf8 chars encode
open_refused_examples = record {
  exclusive = refl;
  exclusive_root = refl;
  created_root = refl;
  created_directory = refl;
  truncated_directory = refl;
  written_directory = refl;
  file_as_directory = refl;
  missing = refl;
  missing_exclusive = refl;
  missing_directory = refl;
  in_missing = refl;
  in_removed_one = refl;
  largest_flags = refl;
  flags_beyond = refl;
  created_as_directory = refl;
  descriptor_flags_beyond = refl;
  lookup_beyond = refl;
  path_beyond = refl;
  cell_beyond = refl;
  from_top = refl;
  not_open = refl;
  from_stream = refl;
  from_file = refl;
}

pub open_right_examples : OpenRightExamples
unfolding is_utf8 chars encode
open_right_examples = record {
  bit_13 = refl;
  without_13 = refl;
  bit_10 = refl;
  without_10 = refl;
  bit_19 = refl;
  without_19 = refl;
  neither = refl;
  own_rights = refl;
  more_rights = refl;
  to_hand_on = refl;
  more_to_hand_on = refl;
  no_such_right = refl;
}

pub open_limit_examples : OpenLimitExamples
unfolding is_utf8 chars encode
open_limit_examples = record {
  lowest = refl;
  lower = refl;
  streams_closed = refl;
  last_number = refl;
  no_number = refl;
  directory_first = refl;
  missing_first = refl;
  number_first = refl;
  last_node = refl;
  no_node = refl;
  no_new_node = refl;
}
