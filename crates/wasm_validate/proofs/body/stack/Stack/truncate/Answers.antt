use Rattle.std.proofs.Common.{◌-◌, length, drop, sym, ap, ◌∙◌}
use Rattle.std.specs.Prelude.{reverse}
use Rattle.std.proofs.lemmas.List.{length-reverse}
use Rattle.wasm_validate.proofs.BodyLemmas.ReachedViews.{turned_front}
use Rattle.wasm_validate.proofs.body.stack.Stack.truncate.Goals as goal

pub returns : goal.returns
returns g c =
    ap reverse c.truncate.ensures.items
    ∙ turned_front c.self.inside.items.items c.args.len
    ∙ ap (λ z. drop (z - c.args.len) (reverse c.self.inside.items.items))
    (sym (length-reverse c.self.inside.items.items))
    ∙ ap (λ z. drop (length z - c.args.len) z) c.self.view_is
