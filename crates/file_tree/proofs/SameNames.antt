-- Names and paths that are the same.
use Rattle.std.proofs.Common.{◌≡◌, ◌≢◌, ◌⊎◌, inl, inr, true, false, eqb, List, [], ◌∷◌, refl}
use Rattle.std.specs.Prelude.{◌&&◌}
use Rattle.std.proofs.lemmas.Bool.{cases_eq, eq-eqb, ne_eqb}
use Rattle.file_tree.specs.rules.Files.{Name, Path, is_same_name, is_same_path}

pub heads : {A : Type 0} (a b : A) (xs ys : List A) → a ∷ xs ≡ b ∷ ys → (a ≡ b) × (xs ≡ ys)
heads a b xs ys e = (cc, cc)

pub name_or_not : (a b : Name) → ((is_same_name a b ≡ true) × (a ≡ b))
    ⊎ ((is_same_name a b ≡ false) × (a ≢ b))
name_or_not [] [] = inl (refl, refl)
name_or_not [] (b ∷ other) = inr (refl, λ e. absurd cc)
name_or_not (a ∷ name) [] = inr (refl, λ e. absurd cc)
name_or_not (a ∷ name) (b ∷ other) = both (cases_eq a b) (name_or_not name other) where
  both : (a ≡ b) ⊎ (a ≢ b) → ((is_same_name name other ≡ true) × (name ≡ other))
      ⊎ ((is_same_name name other ≡ false) × (name ≢ other))
      → (((eqb a b && is_same_name name other) ≡ true) × (a ∷ name ≡ b ∷ other))
      ⊎ (((eqb a b && is_same_name name other) ≡ false) × ((a ∷ name) ≢ (b ∷ other)))
  both (inl e) (inl h) = inl (rw (eq-eqb a b e, h.0) refl, rw (e, h.1) refl)
  both (inl e) (inr h) = inr (rw (eq-eqb a b e, h.0) refl, λ s. h.1 (heads a b name other s).1)
  both (inr n) h = inr (rw (ne_eqb a b n) refl, λ s. n (heads a b name other s).0)

pub same_or_not : (a b : Path) → ((is_same_path a b ≡ true) × (a ≡ b))
    ⊎ ((is_same_path a b ≡ false) × (a ≢ b))
same_or_not [] [] = inl (refl, refl)
same_or_not [] (b ∷ other) = inr (refl, λ e. absurd cc)
same_or_not (a ∷ path) [] = inr (refl, λ e. absurd cc)
same_or_not (a ∷ path) (b ∷ other) = both (name_or_not a b) (same_or_not path other) where
  both : ((is_same_name a b ≡ true) × (a ≡ b)) ⊎ ((is_same_name a b ≡ false) × (a ≢ b))
      → ((is_same_path path other ≡ true) × (path ≡ other)) ⊎ ((is_same_path path other ≡ false)
      × (path ≢ other)) → (((is_same_name a b && is_same_path path other) ≡ true)
      × (a ∷ path ≡ b ∷ other)) ⊎ (((is_same_name a b && is_same_path path other) ≡ false)
      × ((a ∷ path) ≢ (b ∷ other)))
  both (inl e) (inl h) = inl (rw (e.0, h.0) refl, rw (e.1, h.1) refl)
  both (inl e) (inr h) = inr (rw (e.0, h.0) refl, λ s. h.1 (heads a b path other s).1)
  both (inr n) h = inr (rw n.0 refl, λ s. n.1 (heads a b path other s).0)
