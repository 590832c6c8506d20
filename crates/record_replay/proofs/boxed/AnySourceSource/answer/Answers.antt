use Rattle.record_replay.proofs.ObjectSteps.{step_of_same}
use Rattle.record_replay.proofs.boxed.AnySourceSource.answer.Goals as goal

-- the box lends the very source that it holds
pub returns : goal.returns
returns g c =
    step_of_same
    (λ name old new. (g.dyn-1.0.entry name).1.gives old c.args.question c.answer.result new)
    (λ name new. record {
      0 = record {
        ptr = c.args.self.now.0.ptr;
        vtable = name;
        alloc = c.args.self.now.0.alloc;
        value = new;
      };
    })
    _ _ _ _ _ c.deref_box_mut-1.ensures.value.1 c.answer.ensures
