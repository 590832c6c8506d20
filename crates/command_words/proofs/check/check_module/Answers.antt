use Rattle.command_words.proofs.VerdictLemmas.{checked, unchecked}
use Rattle.command_words.proofs.check.check_module.Goals as goal

pub returns-in-Some : goal.returns-in-Some
returns-in-Some g c =
    checked c.args.wasm.now c.args.lists_all c.args.pages c.in-Some.pages c.args.out.now
    c.check_bytes.new.out c.args.err.now c.check_bytes.result c.in-Some.ensures.0
    c.in-Some.ensures.1 c.in-Some.ensures.2 (record {
      accepted = c.check_bytes.ensures.accepted;
      shown = c.check_bytes.ensures.printed;
      refused = c.check_bytes.ensures.refused;
      more = c.check_bytes.ensures.more;
      heeded = c.check_bytes.ensures.heeded;
      known = c.check_bytes.ensures.known;
    })

pub returns-in-None : goal.returns-in-None
returns-in-None g c =
    unchecked c.args.wasm.now c.args.lists_all c.args.pages c.args.out.now c.args.err.now
    c.say_line.new.out c.say_line.result c.words_of_range.result.now c.in-None.ensures
    c.words_of_range.ensures c.say_line.ensures
