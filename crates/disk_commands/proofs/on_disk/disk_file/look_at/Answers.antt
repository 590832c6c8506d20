use Rattle.disk_commands.proofs.on_disk.disk_file.look_at.Goals as goal

pub returns-in-Survey : goal.returns-in-Survey
returns-in-Survey g c = rw c.in-Survey.is c.survey.ensures.shows

pub returns-in-Facts : goal.returns-in-Facts
returns-in-Facts g c = rw c.in-Facts.is c.inspect_disk.ensures

pub returns-in-Files : goal.returns-in-Files
returns-in-Files g c = rw c.in-Files.is c.list_files.ensures

pub returns-in-History : goal.returns-in-History
returns-in-History g c = rw c.in-History.is c.tell_history.ensures
