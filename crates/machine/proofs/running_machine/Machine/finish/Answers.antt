use Rattle.std.proofs.Common.{sym, subst}
use Rattle.machine.specs.rules.Answers.{call_results}
use Rattle.machine.specs.rules.Values.{MachineValue}
use Rattle.machine.specs.rules.Runs.{WaitsFor, Answers}
use Rattle.machine.specs.Insides.{seen}
use Rattle.machine.proofs.Finished.{is_waiting, stands_for_some_there, machine_finished}
use Rattle.machine.proofs.Finished.{holds_finished, answers_finished}
use Rattle.machine.proofs.running_machine.Machine.finish.Goals as goal

pub answer-requires : goal.answer-requires
answer-requires c =
    let waits = subst (λ (v : MachineValue). WaitsFor (call_results c.args.answer) v)
    (sym c.self.view_is) c.requires.waits in
    let memory = c.memories_are_of_bytes.ensures in
    is_waiting c.self.invariant memory.shape memory.bytes waits

pub go_on-requires : goal.go_on-requires
go_on-requires c =
    let waits = subst (λ (v : MachineValue). WaitsFor (call_results c.args.answer) v)
    (sym c.self.view_is) c.requires.waits in
    let memory = c.memories_are_of_bytes.ensures in
    stands_for_some_there c.self.invariant memory.shape memory.bytes waits c.answer.new.state
    c.answer.ensures

pub invariant_of-self : goal.invariant_of-self
invariant_of-self c =
    let waits = subst (λ (v : MachineValue). WaitsFor (call_results c.args.answer) v)
    (sym c.self.view_is) c.requires.waits in
    let memory = c.memories_are_of_bytes.ensures in
    machine_finished c.self.invariant memory.shape memory.bytes waits c.answer.new.state
    c.answer.ensures c.go_on.new.state c.go_on.result c.go_on.ensures

pub returns-clause-holds : goal.returns-clause-holds
returns-clause-holds c =
    let waits = subst (λ (v : MachineValue). WaitsFor (call_results c.args.answer) v)
    (sym c.self.view_is) c.requires.waits in
    let memory = c.memories_are_of_bytes.ensures in
    holds_finished c.self.invariant memory.shape memory.bytes waits c.answer.new.state
    c.answer.ensures c.go_on.new.state c.go_on.result c.go_on.ensures

pub returns-clause-answers : goal.returns-clause-answers
returns-clause-answers c =
    let waits = subst (λ (v : MachineValue). WaitsFor (call_results c.args.answer) v)
    (sym c.self.view_is) c.requires.waits in
    let memory = c.memories_are_of_bytes.ensures in
    let P : MachineValue → Type 0 =
    λ v. Answers (call_results c.args.answer) v
    (seen c.self.inside.code c.go_on.new.state c.self.inside.most_pages) in
    subst P c.self.view_is (answers_finished c.self.invariant memory.shape memory.bytes waits
    c.answer.new.state c.answer.ensures c.go_on.new.state c.go_on.result c.go_on.ensures)
