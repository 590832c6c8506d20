-- The examples of calls one after another. Each computes, UTF-8 included.
use Rattle.std.proofs.Common.{refl}
use Rattle.std.specs.Str.{is_utf8, chars}
use lib.Utf8.{encode}
use Rattle.wasi_calls_rules.specs.laws.StoryExamples.{RenameStory, UnlinkStory, SizeStory}
use Rattle.wasi_calls_rules.specs.laws.StoryExamples.{AnswerStory, PageStory}

pub rename_story : RenameStory
unfolding is_utf8 chars encode
rename_story = record {
  made = refl;
  moved = refl;
  status_of_file = refl;
  not_empty = refl;
  emptied = refl;
  made_again = refl;
}

pub unlink_story : UnlinkStory
unfolding is_utf8 chars encode
unlink_story = record {
  still_read = refl;
  no_link = refl;
  not_found = refl;
  gone = refl;
}

pub size_story : SizeStory
unfolding is_utf8 chars encode
size_story = record {
  zeros_behind = refl;
  last_byte = refl;
  no_room = refl;
  too_large = refl;
}

pub answer_story : AnswerStory
unfolding is_utf8 chars encode
answer_story = record {
  first_time = refl;
  second_time = refl;
  lo = refl;
  read_without_asking = refl;
  ended = refl;
  nothing_more = refl;
}

pub page_story : PageStory
unfolding is_utf8 chars encode
page_story = record {
  beyond_page = refl;
  at_end_of_page = refl;
  long_line = refl;
  full_line = refl;
  most_moved = refl;
  long_random = refl;
}
