use Rattle.state_image.proofs.Fields.{number_field}
use Rattle.state_image.proofs.Machines.{words_field, place_field}
use Rattle.state_image.proofs.Named.{entry_field}
use Rattle.state_image.proofs.Marks.{mark_field}
use Rattle.state_image.proofs.ReadLemmas.{gives}
use Rattle.state_image.proofs.FieldsGiven.{memory_field, front_field, raw_field}
use Rattle.state_image.proofs.FieldsGiven.{counts_given, end_given, streams_given}
use Rattle.state_image.proofs.laws.image_fields_are_read_back.Goals as goal

pub returns-clause-mark : goal.returns-clause-mark
returns-clause-mark c = λ result old new reads. gives mark_field result reads

pub returns-clause-counts : goal.returns-clause-counts
returns-clause-counts c = counts_given

pub returns-clause-phase : goal.returns-clause-phase
returns-clause-phase c = end_given

pub returns-clause-streams : goal.returns-clause-streams
returns-clause-streams c = streams_given

pub returns-clause-count : goal.returns-clause-count
returns-clause-count c = λ result old new reads. gives (number_field 4) result reads

pub returns-clause-number : goal.returns-clause-number
returns-clause-number c = λ result old new reads. gives (number_field 8) result reads

pub returns-clause-words : goal.returns-clause-words
returns-clause-words c = λ result old new reads. gives words_field result reads

pub returns-clause-frame : goal.returns-clause-frame
returns-clause-frame c = λ result old new reads. gives place_field result reads

pub returns-clause-memory : goal.returns-clause-memory
returns-clause-memory c = λ result old new reads. gives memory_field result reads

pub returns-clause-front : goal.returns-clause-front
returns-clause-front c = λ result old new reads. gives front_field result reads

pub returns-clause-entry : goal.returns-clause-entry
returns-clause-entry c = λ result old new reads. gives entry_field result reads

pub returns-clause-descriptor : goal.returns-clause-descriptor
returns-clause-descriptor c = λ result old new reads. gives raw_field result reads
