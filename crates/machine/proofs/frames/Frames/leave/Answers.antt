use Rattle.std.proofs.Common.{◌≡◌, ◌+◌, ◌-◌, ◌<◌, ◌≤◌, ◌^◌, ◌∷◌, List, length, take, set, get_or}
use Rattle.std.proofs.Common.{ap, ◌∙◌, arith}
use Rattle.std.specs.Prelude.{reverse}
use Rattle.std.proofs.lemmas.List.{with_items_is, length-set}
use Rattle.machine_frame.specs.declared.rules.frame.StackFrame.{StackFrame}
use Rattle.machine.proofs.FrameLists.{left, second_has, second_is}
use Rattle.machine.proofs.frames.Frames.leave.Goals as goal

pub overflow_add-position : goal.overflow_add-position
overflow_add-position c =
    let items = c.as_mut_slice-frames.ensures.value in
    let all = ap length items in let known = c.self.invariant.0 in let few = c.self.invariant.1 in
    let small = second_has c.as_mut_slice-frames.result.now c.self.inside.height
    (omega (arith, all, known, few)) (record { function = 0; position = 0; base = 0 })
    c.args.self.now (ap (λ z. reverse (take c.self.inside.height z)) items ∙ c.self.view_is)
    c.requires.waits (λ (z : StackFrame). z.position + 1 < 2 ^ 64) c.requires.behind in
    omega (arith, small)

pub returns : goal.returns
returns c = λ frame waiting frames are.
    let xs : List StackFrame = c.as_mut_slice-frames.result.now in
    let height = c.self.inside.height in
    let items = c.as_mut_slice-frames.ensures.value in
    let all = ap length items in let known = c.self.invariant.0 in let few = c.self.invariant.1 in
    let none : StackFrame = record { function = 0; position = 0; base = 0 } in
    let within : height ≤ length xs = omega (arith, all, known, few) in
    let seen : reverse (take height xs) ≡ frame ∷ waiting ∷ frames =
    ap (λ z. reverse (take height z)) items ∙ c.self.view_is ∙ are in
    let now : StackFrame = get_or xs (height - 1 - 1) none in
    let moved : StackFrame = record now { position = now.position + 1 } in (
      ap (λ (z : StackFrame). record z { position = z.position + 1 })
          (second_is xs height within none frame waiting frames seen),
      ap (λ z. reverse (take (height - 1) z))
          (with_items_is c.self.inside.frames (set xs (height - 1 - 1) moved)
          (length-set xs (height - 1 - 1) moved ∙ c.as_mut_slice-frames.ensures.len))
          ∙ left xs height within none frame waiting frames seen moved,
    )
