-- The process that an image is of, as the code keeps it (this project's own).
use Rattle.process.specs.rules.Values.{ProcessValue, lines_in}
use Rattle.state_image.specs.rules.ProcessImage.{Saved}

-- All of it but the lines that wait, of which the image keeps only the number.
abbrev pub saved_of : ProcessValue → Saved
saved_of v = record {
  version = v.host.host.version;
  machine = v.machine.state;
  files = v.host.host.files;
  descriptors = v.host.host.descriptors;
  unread = v.host.host.unread;
  input_ended = v.host.host.input_ended;
  last_monotonic = v.host.host.last_monotonic;
  first = v.host.host.first;
  second = v.host.host.second;
  steps = v.steps;
  answers = v.answers;
  requests = v.requests;
  lines = lines_in v;
  ended = v.ended;
}
