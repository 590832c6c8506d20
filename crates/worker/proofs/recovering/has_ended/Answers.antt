use Rattle.std.proofs.Common.{◌≡◌, Option, Some, None, option_map, is_some, refl, sym, ap, ◌∙◌}
use Rattle.process.specs.rules.Values.{ending_of}
use Rattle.worker.proofs.recovering.has_ended.Goals as goal

some_mapped : {A B : Type 0} (f : A → B) (o : Option A) → is_some (option_map f o) ≡ is_some o
some_mapped f None = refl
some_mapped f (Some x) = refl

pub returns : goal.returns
returns c =
    c.is_some.ensures ∙ sym (some_mapped ending_of c.reached_end.result)
    ∙ ap is_some c.reached_end.ensures.value
