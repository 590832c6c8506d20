use Rattle.std.proofs.lemmas.Bool.{false≢true}
use Rattle.disk_commands.specs.rules.Watchings.{state_words}
use Rattle.disk_commands.proofs.StatusLemmas.{line_of, line_short, parts_of}
use Rattle.disk_commands.proofs.on_disk.status_line.is_status_line.Goals as goal

pub returns-in-Some-clause-exact : goal.returns-in-Some-clause-exact
returns-in-Some-clause-exact c = (
  λ yes. line_of c.args.bytes.now c.in-Some.words.now c.in-Some.ensures.spelled
      (c.is_state.ensures.0 yes),
  λ line. c.is_state.ensures.1 (record {
    requests = line.requests;
    left = line.left;
    is = line.is;
    requests_fit = line.requests_fit;
    left_fits = line.left_fits;
    code_fits = line.code_fits;
    spelled = c.in-Some.ensures.found (state_words line.requests line.left line.is)
        (parts_of c.args.bytes.now line);
  }),
)

pub returns-in-Some-clause-short : goal.returns-in-Some-clause-short
returns-in-Some-clause-short c = λ yes.
    line_short c.args.bytes.now (line_of c.args.bytes.now c.in-Some.words.now
    c.in-Some.ensures.spelled (c.is_state.ensures.0 yes))

pub returns-in-None-clause-exact : goal.returns-in-None-clause-exact
returns-in-None-clause-exact c = (
  λ no. absurd (false≢true no),
  λ line. absurd (c.in-None.ensures.found (state_words line.requests line.left line.is)
      (parts_of c.args.bytes.now line)),
)
