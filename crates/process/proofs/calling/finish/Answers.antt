use Rattle.process.proofs.calling.finish.Goals as goal

pub returns-clause-finishes : goal.returns-clause-finishes
returns-clause-finishes c = λ program d f operands waits signature h shows asks
    is_imported gives host.
    let fin = c.finish.ensures.answers program d f operands waits signature shows asks
    is_imported gives in
    let end = c.end_with_program.ensures in
    record {
      configuration = fin.configuration;
      reduces = fin.reduces;
      shows = fin.shows;
      ends = end.ends program fin.configuration h fin.shows host;
    }
