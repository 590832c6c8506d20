use Rattle.std.proofs.Common.{◌+◌, ◌≤◌, List, length, ap, ◌∙◌, arith}
use Rattle.guest_memory.specs.rules.Memories.{LinearMemory}
use Rattle.wasi_calls_rules.specs.WasiStates.{Line}
use Rattle.wasi_calls_rules.specs.Lines.{lines_ended}
use Rattle.wasi_calls_rules.specs.CallRules.{call_rule}
use Rattle.wasi_calls.proofs.FewLines.{calls_begin_few}
use Rattle.process.proofs.Lines.{all_shown, less_when, more_when}
use Rattle.process.proofs.calling.has_numbers.Goals as goal

pub returns-then-lines-clause-few : goal.returns-then-lines-clause-few
returns-then-lines-clause-few c = λ e given h done s ruled.
    let few : length (lines_ended done.host).lines ≤ length (lines_ended h).lines + 65536 =
    calls_begin_few c.args.call c.args.arguments.now given
    c.args.machine.now.state.memory h done ruled in
    let lines = all_shown c.args.host.now h s in
    let waits = ap (λ (ls : List Line). length ls) c.waiting_lines.ensures.lines in
    let lines_left = c.unfinished_line_count-unfinished.ensures.value in
    let released = c.released_count.ensures in
    let less = c.if-lines.true in
    omega (arith, few, lines, waits, lines_left, released, less)

pub returns-clause-few : goal.returns-clause-few
returns-clause-few c = λ e given h done s ruled.
    let count = c.lines_begun-more.ensures.count given h done s
    (ap (λ (m : LinearMemory). call_rule c.args.call c.args.arguments.now given m.bytes h)
    c.memory.ensures ∙ ruled) in
    let lines = all_shown c.args.host.now h s in
    let waits = ap (λ (ls : List Line). length ls) c.waiting_lines.ensures.lines in
    let lines_left = c.unfinished_line_count-unfinished.ensures.value in
    let released = c.released_count.ensures in
    let less = less_when _ _ e in
    omega (arith, count, lines, waits, lines_left, released, less)

pub returns-clause-many : goal.returns-clause-many
returns-clause-many c = λ e.
    let waits = ap (λ (ls : List Line). length ls) c.waiting_lines.ensures.lines in
    let lines_left = c.unfinished_line_count-unfinished.ensures.value in
    let released = c.released_count.ensures in
    let more = more_when _ _ e in
    record {
      done = λ given h done s ruled numbers.
          let count = c.lines_begun-more.ensures.count given h done s
          (ap (λ (m : LinearMemory). call_rule c.args.call c.args.arguments.now given m.bytes h)
          c.memory.ensures ∙ ruled) in
          let lines = all_shown c.args.host.now h s in
          absurd (omega (arith, count, lines, waits, lines_left, released, more, numbers));
      not_stopped = λ given h halt s ruled.
          let none = c.lines_begun-more.ensures.none given h halt s
          (ap (λ (m : LinearMemory). call_rule c.args.call c.args.arguments.now given m.bytes h)
          c.memory.ensures ∙ ruled) in
          let few = c.requires.few in
          absurd (omega (arith, none, waits, lines_left, released, more, few));
    }
