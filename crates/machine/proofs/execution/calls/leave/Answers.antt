use Rattle.std.proofs.Common.{◌≡◌, List, [], ◌∷◌, Some, ap, arith}
use Rattle.std.specs.Prelude.{slice_get}
use Rattle.machine_frame.specs.declared.rules.frame.StackFrame.{StackFrame}
use Rattle.machine.proofs.execution.calls.leave.Goals as goal

first_of : (frames : List StackFrame) (frame : StackFrame) → slice_get frames 0 ≡ Some frame
    → (others : List StackFrame) × (frames ≡ frame ∷ others)
first_of [] frame e = absurd (cc)
first_of (other ∷ frames) frame e = let same : other ≡ frame = cc in
    (frames, ap (λ z. z ∷ frames) same)

behind_of : (old frames rest others : List StackFrame) (frame other waiting : StackFrame)
    → old ≡ frame ∷ frames → old ≡ other ∷ rest → rest ≡ waiting ∷ others
    → frames ≡ waiting ∷ others
behind_of old frames rest others frame other waiting a b e = cc

pub overflow_add-waiting : goal.overflow_add-waiting
overflow_add-waiting c =
    let f = first_of c.pop-frame.new.self c.top-waiting.result c.top-waiting.ensures in
    let h = c.requires.behind c.top-waiting.result f.0
    (behind_of c.args.state.now.frames c.requires.frames c.pop-frame.new.self f.0
    c.requires.frame c.pop-frame.result c.top-waiting.result c.requires.are
    c.pop-frame.ensures.last f.1) in omega (arith, h)
