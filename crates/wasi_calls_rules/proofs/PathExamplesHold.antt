-- The examples of directories and paths. Each computes, UTF-8 included.
use Rattle.std.proofs.Common.{refl}
use Rattle.std.specs.Str.{is_utf8, chars}
use lib.Utf8.{encode}
use Rattle.wasi_calls_rules.specs.laws.PathExamples.{ListingExamples, FormExamples, WalkExamples}
use Rattle.wasi_calls_rules.specs.laws.PathExamples.{PathStatusExamples, MakingExamples}
use Rattle.wasi_calls_rules.specs.laws.PathExamples.{RemovalExamples, RenameExamples}

pub listing_examples : ListingExamples
unfolding is_utf8 chars encode
listing_examples = record {
  whole = refl;
  behind_one = refl;
  behind_all = refl;
  far_behind = refl;
  cut = refl;
  in_order = refl;
  count_last = refl;
  in_removed_one = refl;
  buffer_beyond = refl;
  cell_beyond = refl;
  without = refl;
  file = refl;
  stream = refl;
  not_open = refl;
}

pub form_examples : FormExamples
unfolding is_utf8 chars encode
form_examples = record {
  empty = refl;
  longest = refl;
  too_long = refl;
  longest_name = refl;
  name_too_long = refl;
  no_text = refl;
  zero_byte = refl;
  from_top = refl;
  too_long_first = refl;
  no_text_first = refl;
  zero_byte_first = refl;
  from_top_first = refl;
  dropped = refl;
}

pub walk_examples : WalkExamples
unfolding is_utf8 chars encode
walk_examples = record {
  leaf = refl;
  below = refl;
  dropped = refl;
  slash_behind_file = refl;
  self = refl;
  back = refl;
  back_twice = refl;
  self_by_back = refl;
  above = refl;
  above_later = refl;
  missing_leaf = refl;
  missing_before = refl;
  through_file = refl;
  leaf_in_file = refl;
  from_d = refl;
  above_d = refl;
  removed_self = refl;
  removed_leaf = refl;
  removed_above = refl;
}

pub path_status_examples : PathStatusExamples
unfolding is_utf8 chars encode
path_status_examples = record {
  other_flag = refl;
  path_beyond = refl;
  cell_beyond = refl;
  no_path = refl;
  without = refl;
  file = refl;
  stream = refl;
  not_open = refl;
}

pub making_examples : MakingExamples
unfolding is_utf8 chars encode
making_examples = record {
  made = refl;
  made_below = refl;
  there = refl;
  there_as_file = refl;
  self = refl;
  in_missing = refl;
  in_file = refl;
  in_removed_one = refl;
  last_node = refl;
  no_node = refl;
  path_beyond = refl;
  without = refl;
  file = refl;
  not_open = refl;
}

pub removal_examples : RemovalExamples
unfolding is_utf8 chars encode
removal_examples = record {
  removed_directory = refl;
  open_directory = refl;
  not_empty = refl;
  no_directory = refl;
  missing_directory = refl;
  self_directory = refl;
  directory_beyond = refl;
  without_right = refl;
  from_file = refl;
  from_none = refl;
  unlinked = refl;
  open_file = refl;
  unlinked_directory = refl;
  missing_file = refl;
  self_file = refl;
  file_beyond = refl;
  unlinked_without = refl;
  unlinked_from_file = refl;
  unlinked_from_none = refl;
}

pub rename_examples : RenameExamples
unfolding is_utf8 chars encode
rename_examples = record {
  file_moved = refl;
  subtree_moved = refl;
  over_file = refl;
  over_open_file = refl;
  same_node = refl;
  same_directory = refl;
  file_on_directory = refl;
  directory_on_file = refl;
  not_empty = refl;
  into_itself = refl;
  below_itself = refl;
  onto_own_file = refl;
  missing = refl;
  self_source = refl;
  self_target = refl;
  target_walked_first = refl;
  source_walked_first = refl;
  target_formed_first = refl;
  two_directories = refl;
  into_removed = refl;
  source_beyond = refl;
  target_beyond = refl;
  without_source = refl;
  without_target = refl;
  target_no_directory = refl;
  source_no_directory = refl;
  target_not_open = refl;
  source_not_open = refl;
}
