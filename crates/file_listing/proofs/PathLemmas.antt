-- Texts of paths.
use Rattle.std.proofs.Common.{◌≡◌, ◌≢◌, ℕ, List, [], ◌∷◌, ◌++◌, Option, Some, None, refl, sym, ap}
use Rattle.std.proofs.Common.{◌∙◌, append_assoc}
use Rattle.std.proofs.lemmas.List.{append-nil}
use Rattle.std.specs.Prelude.{unwrap_or, Result, Ok, Err, OnOk, is_ok, if◌then◌else◌}
use Rattle.file_tree.specs.rules.Files.{Name, Path, Files, slash, path_of}
use Rattle.file_tree.specs.rules.Changes.{path_at, IsParent}
use Rattle.file_listing.specs.rules.Listed.{path_text}
use Rattle.file_listing.specs.Separators.{separator_behind}

-- the text of a path with a name after it
pub text_behind : (p : Path) (name : Name)
    → path_text (p ++ name ∷ []) ≡ path_text p ++ (separator_behind p ++ name)
text_behind [] name = refl
text_behind (first ∷ []) name = refl
text_behind (first ∷ next ∷ p) name =
    ap (λ (t : List ℕ). first ++ slash ∷ t) (text_behind (next ∷ p) name)
    ∙ sym (append_assoc first (slash ∷ path_text (next ∷ p)) (slash ∷ name))

-- a path without a last name has no name
pub no_names : (p : Path) → ((front : Path) (name : Name) → p ≢ front ++ name ∷ []) → p ≡ []
no_names [] none = refl
no_names (first ∷ p) none = absurd (by (no_names p)) where
  by : (((front : Path) (name : Name) → p ≢ front ++ name ∷ []) → p ≡ []) → ⊥
  by later =
      let longer : (front : Path) (name : Name) → p ≢ front ++ name ∷ [] =
      λ front name e. none (first ∷ front) name (ap (λ (q : Path). first ∷ q) e) in
      none [] first (ap (λ (q : Path). first ∷ q) (later longer))

-- the path of a node above which there is no directory
pub top_path : (fs : Files) (k : ℕ)
    → ((path : Path) (name : Name) → path_of fs k ≢ Some (path ++ name ∷ [])) → path_at fs k ≡ []
top_path fs k none = by (path_of fs k) none where
  by : (o : Option Path) → ((path : Path) (name : Name) → o ≢ Some (path ++ name ∷ []))
      → unwrap_or o [] ≡ []
  by None none = refl
  by (Some p) none = no_names p (λ front name e. none front name (ap (λ (q : Path). Some q) e))

-- what is spelled of a node in a directory
pub spelled_below : (fs : Files) (k d : ℕ) (text name : List ℕ) → IsParent fs k d
    → ((path : Path) (last : Name) → path_of fs k ≡ Some (path ++ last ∷ []) → name ≡ last)
    → ((text ++ path_text (path_at fs d)) ++ separator_behind (path_at fs d)) ++ name
    ≡ text ++ path_text (path_at fs k)
spelled_below fs k d text name is last =
    let above : path_at fs d ≡ is.path = ap (λ (o : Option Path). unwrap_or o []) is.above in
    let own : path_at fs k ≡ is.path ++ is.name ∷ [] =
    ap (λ (o : Option Path). unwrap_or o []) is.own in
    let same : name ≡ is.name = last is.path is.name is.own in
    append_assoc (text ++ path_text (path_at fs d)) (separator_behind (path_at fs d)) name
    ∙ append_assoc text (path_text (path_at fs d)) (separator_behind (path_at fs d) ++ name)
    ∙ ap (λ (p : Path). text ++ (path_text p ++ (separator_behind p ++ name))) above
    ∙ ap (λ (n : Name). text ++ (path_text is.path ++ (separator_behind is.path ++ n))) same
    ∙ ap (λ (t : List ℕ). text ++ t) (sym (text_behind is.path is.name))
    ∙ ap (λ (p : Path). text ++ path_text p) (sym own)

-- and of the root
pub spelled_top : (fs : Files) (k : ℕ) (text : List ℕ)
    → ((path : Path) (name : Name) → path_of fs k ≢ Some (path ++ name ∷ []))
    → text ≡ text ++ path_text (path_at fs k)
spelled_top fs k text none =
    sym (append-nil text) ∙ ap (λ (p : Path). text ++ path_text p) (sym (top_path fs k none))

-- what is put after a text where there is memory for it
pub put_behind : {E : Type 0} (r : Result (Unit {0}) E) (old more new : List ℕ)
    → new ≡ (if is_ok r then old ++ more else old) → OnOk r (new ≡ old ++ more)
put_behind (Ok done) old more new is = is
put_behind (Err why) old more new is = tt
