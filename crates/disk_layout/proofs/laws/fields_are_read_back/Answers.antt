use Rattle.std.proofs.Common.{refl}
use Rattle.disk_layout.proofs.FieldLemmas.{stamp_again, head_again, marks_again, super_again}
use Rattle.disk_layout.proofs.laws.fields_are_read_back.Goals as goal

pub returns : goal.returns
returns c = record {
  stamp = stamp_again;
  head = head_again;
  marks = marks_again;
  layout = λ s. refl;
  fields = super_again;
}
