use Rattle.std.proofs.Common.{rules, [], refl, sym, append-nil}
use Rattle.machine.proofs.execution.calls.clear.Goals as goal

pub returns : goal.returns
returns c = record {
  frames = search rules;
  slots = c.truncate.ensures c.args.state.now.slots [] refl
      (sym (append-nil c.args.state.now.slots));
  later = search rules;
  globals = search rules;
  memory = search rules;
}
