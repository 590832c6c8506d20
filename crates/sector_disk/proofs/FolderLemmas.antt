-- The folder of a path, from what a search for its last slash says.
use Rattle.std.proofs.Common.{◌≡◌, ◌≢◌, ℕ, ◌+◌, ◌-◌, ◌<◌, ◌≤◌, true, false, not, List, [], ◌∷◌}
use Rattle.std.proofs.Common.{codes, length, take, drop, get_or, refl, ap, sym, ◌∙◌, arith}
use Rattle.std.proofs.Common.{eqb, eq-eqb, length-drop, get_or-drop}
use Rattle.std.proofs.lemmas.Bool.{ne_eqb}
use Rattle.std.proofs.lemmas.Str.{len_utf8_ascii}
use Rattle.std.proofs.lemmas.Str.Pattern.{NoCharPasses-char}
use Rattle.std.proofs.lemmas.List.{get_or_default}
use Rattle.std.proofs.lemmas.List.Folds.{list_any_none, list_any_at}
use Rattle.std.proofs.lemmas.List.Sums.{suffix_len_is}
use Rattle.std.specs.List.{list_any, before_last, suffix_len}
use Rattle.std.specs.Str.{NoCharPasses}
use Rattle.std.specs.Str.Pattern.{HasCharAt}
use Rattle.std.specs.Path.{slash}
use Rattle.sector_disk.specs.rules.Folder.{folder_of, is_slash, or_root}

-- no character is a slash, and so no byte is one
no_slash_at : (path : List ℕ) → NoCharPasses (λ c. eqb c slash) path → (k : ℕ) → k < length path
    → is_slash (get_or path k 0) ≡ false
no_slash_at path none k within =
    let other : get_or path k 0 ≢ slash =
    NoCharPasses-char slash path k none (omega arith) within in
    ne_eqb (get_or path k 0) slash other

pub in_current : (path : List ℕ) → NoCharPasses (λ c. eqb c slash) path → folder_of path ≡ codes "."
in_current path none = rw any refl
  where
    any : list_any is_slash path ≡ false
    any = list_any_none is_slash path (λ k d within.
        ap is_slash (get_or_default path k d 0 within) ∙ no_slash_at path none k within)

-- a slash is at i, and after it none
pub before_slash : (path front : List ℕ) (i j : ℕ) → HasCharAt slash path i j
    → NoCharPasses (λ c. eqb c slash) (drop j path) → front ≡ take i path → j ≤ length path
    → folder_of path ≡ or_root front
before_slash path front i j at none front_is within = rw (any, before) refl
  where
    next : j ≡ i + 1
    next = omega (arith, at.ends, len_utf8_ascii slash (omega arith))

    here : is_slash (get_or path i 0) ≡ true
    here = eq-eqb (get_or path i 0) slash (at.byte (omega arith))

    any : list_any is_slash path ≡ true
    any = list_any_at is_slash path i 0 (omega (arith, next)) here

    later : (k : ℕ) → i + 1 ≤ k → k < length path → not (is_slash (get_or path k 0)) ≡ true
    later k after inside =
        let seam : j + (k - j) ≡ k = omega (arith, next) in
        let same = get_or-drop j path (k - j) 0 ∙ ap (λ n. get_or path n 0) seam in
        let before_end : k - j < length (drop j path) = omega (arith, length-drop j path, next) in
        ap (λ byte. not (is_slash byte)) (sym same)
        ∙ ap not (no_slash_at (drop j path) none (k - j) before_end)

    ends : 0 < i + 1 → not (is_slash (get_or path (i + 1 - 1) 0)) ≡ false
    ends some =
        let e : i + 1 - 1 ≡ i = omega arith in
        ap (λ n. not (is_slash (get_or path n 0))) e ∙ ap not here

    count : length path - suffix_len (λ c. not (is_slash c)) path - 1 ≡ i
    count =
        let suffix = suffix_len_is (λ c. not (is_slash c)) path (i + 1) 0 (omega (arith, next))
        later ends in
        omega (arith, suffix, next)

    before : before_last is_slash path ≡ front
    before = ap (λ n. take n path) count ∙ sym front_is

pub or_root_some : (front : List ℕ) → (front ≡ [] → ⊥) → or_root front ≡ front
or_root_some [] none = absurd (none refl)
or_root_some (byte ∷ bytes) none = refl
