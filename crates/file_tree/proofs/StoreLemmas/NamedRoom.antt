-- No more keys have addresses than there are keys.
use Rattle.std.proofs.Common.{◌≡◌, ◌≢◌, ℕ, zero, suc, ◌+◌, ◌<◌, ◌≤◌, inl, inr, List, [], ◌∷◌}
use Rattle.std.proofs.Common.{length, get_or, refl, subst, ◌∙◌, arith}
use Rattle.std.specs.List.{remove}
use Rattle.file_tree.specs.Store.Cuts.{HasElement, AreOrdered}
use Rattle.file_tree.specs.Store.Named.{IsBehind, AreNamed, NoKey, OnlyKey}
use Rattle.file_tree.proofs.Order.{not_itself, behind_if}
use Rattle.file_tree.proofs.StoreLemmas.Places.{held_by_all}
use Rattle.file_tree.proofs.StoreLemmas.NamedKeys.{held_but}

one_less : (xs : List ℕ) (i : ℕ) → i < length xs → length (remove xs i) + 1 ≡ length xs
one_less [] i lt = absurd (omega (arith, lt))
one_less (x ∷ xs) zero lt = omega arith
one_less (x ∷ xs) (suc i) lt = omega (arith, one_less xs i (omega (arith, lt)))

-- where an element is
place_held : (xs : List ℕ) (y : ℕ) → HasElement xs y
    → (i : ℕ) × (i < length xs) × (get_or xs i 0 ≡ y)
place_held [] y at = absurd at
place_held (x ∷ xs) y (inl e) = (0, omega arith, e)
place_held (x ∷ xs) y (inr at) =
    (let r = place_held xs y at in (suc r.0, omega (arith, r.1), r.2))

module _ (address : ℕ → List ℕ) where
  abbrev Follow : List ℕ → Type 0
  Follow xs = AreOrdered (λ j k. IsBehind (address j) (address k)) xs

  no_more : (xs ys : List ℕ) → Follow xs
      → ((k : ℕ) → HasElement xs k → HasElement ys k) → length xs ≤ length ys
  no_more [] ys order among = omega arith
  no_more (x ∷ xs) ys order among =
      let at = place_held ys x (among x (inl refl)) in
      let others : (k : ℕ) → HasElement xs k → k ≢ x = λ k held e.
      not_itself (address x)
      (behind_if (address x) (address x)
      (subst (λ (y : ℕ). IsBehind (address x) (address y)) e
      (held_by_all (λ y. IsBehind (address x) (address y)) xs k order.0 held))) in
      let rest = no_more xs (remove ys at.0) order.1 (λ k held.
      held_but ys at.0 0 k (among k (inr held)) (λ e. others k held (e ∙ at.2))) in
      omega (arith, rest, one_less ys at.0 at.1)

  pub no_more_named : (order names : List ℕ) → AreNamed NoKey address order names
      → length names ≤ length order
  no_more_named order names are = no_more names order are.ordered are.among

  -- a key that is left out has room beside the others
  pub fewer_named : (order names : List ℕ) (key : ℕ)
      → AreNamed (OnlyKey key) address order names
      → HasElement order key → length names < length order
  fewer_named order names key are held =
      let at = place_held order key held in
      let rest = no_more names (remove order at.0) are.ordered (λ k named.
      held_but order at.0 0 k (are.among k named) (λ e. are.without k named (e ∙ at.2))) in
      omega (arith, rest, one_less order at.0 at.1)
