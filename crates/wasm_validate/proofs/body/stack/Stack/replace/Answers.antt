use Rattle.std.proofs.Common.{◌≡◌, ◌≢◌, ℕ, ◌-◌, List, [], ◌∷◌, ◌++◌, length, drop, refl, sym, ap}
use Rattle.std.proofs.Common.{◌∙◌, arith}
use Rattle.std.specs.Prelude.{reverse, slice_set}
use Rattle.std.proofs.lemmas.List.{reverse-reverse, reverse-append, length-reverse}
use Rattle.std.proofs.Math.Seq.{set-append_seam}
use Rattle.wasm_validate.proofs.body.stack.Stack.replace.Goals as goal

replaced : {X : Type 0} (items below : List X) (n : ℕ) (x : X) → reverse items ≡ below → below ≢ []
    → n ≡ length below - 1 → reverse (slice_set items n x) ≡ x ∷ drop 1 below
replaced items [] n x e some at = absurd (some refl)
replaced items (y ∷ ys) n x e some at =
    let is : items ≡ reverse ys ++ y ∷ [] = sym (reverse-reverse items) ∙ ap reverse e
    ∙ reverse-append (y ∷ []) ys in
    let count : length (reverse ys) ≡ length ys = length-reverse ys in
    let last : n ≡ length (reverse ys) = omega arith in
    ap (λ z. reverse (slice_set z n x)) is
    ∙ ap (λ z. reverse (slice_set (reverse ys ++ y ∷ []) z x)) last
    ∙ ap reverse (set-append_seam (reverse ys) y [] x)
    ∙ reverse-append (reverse ys) (x ∷ [])
    ∙ ap (λ z. x ∷ z) (reverse-reverse ys)

pub returns : goal.returns
returns g c =
    replaced c.self.inside.items.items c.args.self.now (c.len-last.result
    - 1) c.args.item c.self.view_is c.requires (ap (λ z. z - 1) c.len-last.ensures)
