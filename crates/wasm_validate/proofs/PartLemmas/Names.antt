-- Names in a set, and distinct names of exports.
use Rattle.std.proofs.Common.{◌≡◌, ◌≢◌, ◌↔◌, ℕ, Bool, true, false, not, ◌||◌, List, [], ◌∷◌}
use Rattle.std.proofs.Common.{Ordering, refl, sym, ap, ◌∙◌, subst}
use Rattle.std.specs.Ordering.{nat_cmp, is_eq, match_ordering}
use Rattle.std.specs.declared.cmp.Ordering.TheVariants.{Less, Equal, Greater}
use Rattle.std.specs.Cmp.Lexicographic.{slice_cmp}
use Rattle.std.specs.List.{AllByRecursion, list_any}
use Rattle.std.specs.BTreeMap.{is_at}
use Rattle.std.specs.BTreeSet.{insert_key}
use Rattle.std.proofs.lemmas.Cmp.{tied_itself, nat_list_cmp_total}
use Rattle.std.proofs.lemmas.Map.Text.{is_eq-slice_cmp}
use Rattle.std.proofs.lemmas.Slice.Eq.{bytes_eq-Decides}
use Rattle.wasm_syntax.specs.declared.module.Export.{Export}
use Rattle.wasm_rules.specs.Validity.{HaveDistinctNames}
use denote.Ref.{Bor}
use Rattle.guest_memory.proofs.Lists.{all_with}

abbrev pub name_cmp : Bor (List ℕ) → Bor (List ℕ) → Ordering
name_cmp a b = slice_cmp nat_cmp a.now b.now

-- none of the keys is this name
abbrev pub IsNewName : List (Bor (List ℕ)) → List ℕ → Type 0
IsNewName keys name = AllByRecursion (λ (k : Bor (List ℕ)). name ≢ k.now) keys

-- the names of these exports are none of the keys, and distinct
abbrev pub AreNewNames : List (Bor (List ℕ)) → List Export → Type 0
AreNewNames keys exports = AllByRecursion (λ (e : Export). IsNewName keys e.name) exports
    × HaveDistinctNames exports

-- equal names compare equal, and no others
same_name : (a b : List ℕ) → slice_cmp nat_cmp a b ≡ Equal → a ≡ b
same_name a b e = (bytes_eq-Decides a b).0 (sym (is_eq-slice_cmp a b) ∙ ap is_eq e)

-- names that don't compare equal differ
other_name : (a b : List ℕ) (o : Ordering) → slice_cmp nat_cmp a b ≡ o → (o ≡ Equal → ⊥) → a ≢ b
other_name a b o e differ s =
    differ (sym e ∙ (ap (λ x. slice_cmp nat_cmp a x) (sym s) ∙ tied_itself nat_list_cmp_total a))

-- ---- a name that is put in

into : (k : Bor (List ℕ)) (x : Bor (List ℕ)) (xs : List (Bor (List ℕ))) (q : List ℕ) (o : Ordering)
    → slice_cmp nat_cmp k.now x.now ≡ o → IsNewName (insert_key name_cmp xs k) q
    ↔ (q ≢ k.now) × IsNewName xs q
    → IsNewName (match_ordering o (k ∷ x ∷ xs) (x ∷ xs) (x ∷ insert_key name_cmp xs k)) q
    ↔ (q ≢ k.now) × IsNewName (x ∷ xs) q
into k x xs q Less e h = (λ n. (n.0, n.1), λ n. (n.0, n.1))
into k x xs q Equal e h = (λ n. (λ s. n.0 (s ∙ same_name k.now x.now e), n), λ n. n.1)
into k x xs q Greater e h = (λ n. ((h.0 n.1).0, (n.0, (h.0 n.1).1)), λ n. (n.1.0, h.1 (n.0, n.1.1)))

pub inserted : (keys : List (Bor (List ℕ))) (k : Bor (List ℕ)) (q : List ℕ)
    → IsNewName (insert_key name_cmp keys k) q ↔ (q ≢ k.now) × IsNewName keys q
inserted [] k q = (λ n. n, λ n. n)
inserted (x ∷ xs) k q = into k x xs q (slice_cmp nat_cmp k.now x.now) refl (inserted xs k q)

-- ---- a name that is looked up

abbrev pub has_name : List (Bor (List ℕ)) → Bor (List ℕ) → Bool
has_name keys k = list_any (is_at (name_cmp k)) keys

absent_first : (a b : List ℕ) (o : Ordering) (more : Bool) → slice_cmp nat_cmp a b ≡ o
    → (is_eq o || more) ≡ false → (a ≢ b) × (more ≡ false)
absent_first a b Less more e h = (other_name a b Less e (λ s. cc), h)
absent_first a b Equal more e h = absurd (cc)
absent_first a b Greater more e h = (other_name a b Greater e (λ s. cc), h)

pub new_from_absent : (keys : List (Bor (List ℕ))) (k : Bor (List ℕ)) → has_name keys k ≡ false
    → IsNewName keys k.now
new_from_absent [] k e = tt
new_from_absent (x ∷ xs) k e =
    let p = absent_first k.now x.now (slice_cmp nat_cmp k.now x.now) (has_name xs k) refl e in
    (p.0, new_from_absent xs k p.1)

found_first : (a b : List ℕ) (o : Ordering) (more : Bool) → slice_cmp nat_cmp a b ≡ o
    → (is_eq o || more) ≡ true → (a ≢ b) → more ≡ true
found_first a b Less more e h n = h
found_first a b Equal more e h n = absurd (n (same_name a b e))
found_first a b Greater more e h n = h

pub present_from_found : (keys : List (Bor (List ℕ))) (k : Bor (List ℕ)) → has_name keys k ≡ true
    → IsNewName keys k.now → ⊥
present_from_found [] k e n = cc
present_from_found (x ∷ xs) k e n =
    present_from_found xs k (found_first k.now x.now (slice_cmp nat_cmp k.now x.now)
    (has_name xs k) refl e n.0) n.1

-- ---- exports

each : {X : Type 0} (P R : X → Type 0) (xs : List X) → ((x : X) → P x → R x) → AllByRecursion P xs
    → AllByRecursion R xs
each P R [] f h = tt
each P R (x ∷ xs) f h = (f x h.0, each P R xs f h.1)

-- the next export's name is put in
pub one_more_name : (keys : List (Bor (List ℕ))) (k : Bor (List ℕ)) (e : Export)
    (exports : List Export) → k.now ≡ e.name → IsNewName keys k.now
    → AreNewNames keys (e ∷ exports) ↔ AreNewNames (insert_key name_cmp keys k) exports
one_more_name keys k e exports is new = (
  λ h. (
    all_with (λ (f : Export). IsNewName keys f.name) (λ (f : Export). e.name
        ≢ f.name) (λ (f : Export). IsNewName (insert_key name_cmp keys k) f.name) exports
        (λ f n apart. (inserted keys k f.name).1 (λ s. apart (sym is ∙ sym s), n)) h.0.1 h.1.0,
    h.1.1,
  ),
  λ h. let N : List ℕ → Type 0 = IsNewName keys in (
    (
      subst N is new,
      each (λ (f : Export). IsNewName (insert_key name_cmp keys k) f.name) (λ (f : Export).
          IsNewName keys f.name) exports (λ f n. ((inserted keys k f.name).0 n).1) h.0,
    ),
    (
      each (λ (f : Export). IsNewName (insert_key name_cmp keys k) f.name) (λ (f : Export). e.name
          ≢ f.name) exports (λ f n s. ((inserted keys k f.name).0 n).0 (sym s ∙ sym is)) h.0,
      h.1,
    ),
  ),
)

pub not_false : (b : Bool) → not b ≡ false → b ≡ true
not_false true e = refl
not_false false e = absurd (cc)

pub not_true : (b : Bool) → not b ≡ true → b ≡ false
not_true true e = absurd (cc)
not_true false e = refl
