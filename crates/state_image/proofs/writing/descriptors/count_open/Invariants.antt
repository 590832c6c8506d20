use Rattle.std.proofs.Common.{◌≡◌, ◌≤◌, length, take}
use Rattle.state_image.specs.rules.ProcessImage.{open_from}
use Rattle.state_image.proofs.writing.descriptors.count_open.Given as goal

abbrev pub invariant-loop-descriptor : goal.invariant-loop-descriptor
invariant-loop-descriptor l = record {
  is : l.count ≡ length (open_from 0 (take l.descriptor-index l.descriptors));
  few : l.count ≤ l.descriptor-index;
}
