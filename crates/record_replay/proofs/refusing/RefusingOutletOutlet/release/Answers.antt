use Rattle.std.proofs.Common.{rules, arith}
use Rattle.record_replay.proofs.refusing.RefusingOutletOutlet.release.Goals as goal

pub returns-then-is_refused : goal.returns-then-is_refused
returns-then-is_refused g c = record {
  said_inside = c.release-said.result;
  took = c.release-said.ensures;
  counted = search rules;
  said_is = grind arith;
}

pub returns-else-is_refused : goal.returns-else-is_refused
returns-else-is_refused g c = record {
  said_inside = c.release-said.result;
  took = c.release-said.ensures;
  counted = search rules;
  said_is = grind arith;
}
