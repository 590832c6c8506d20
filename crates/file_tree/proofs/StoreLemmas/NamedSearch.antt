-- A search among keys by their nodes' addresses.
use Rattle.std.proofs.Common.{◌≡◌, ◌≢◌, ℕ, zero, suc, ◌-◌, ◌<◌, ◌≤◌, inl, inr, Bool, List, [], ◌∷◌}
use Rattle.std.proofs.Common.{length, get_or, Some, sym, ap, subst, ◌∙◌, arith}
use Rattle.std.specs.Prelude.{slice_get}
use Rattle.slab.specs.Slab.{Slab, get}
use Rattle.file_tree.specs.declared.store.node.Hook.TheVariants.{In}
use Rattle.file_tree.specs.declared.store.node.Node.{Node}
use Rattle.file_tree.specs.rules.Files.{Name, is_before}
use Rattle.file_tree.specs.Store.Cuts.{HasElement, AreOrdered, IsCut}
use Rattle.file_tree.specs.Store.Named.{address_of, address_at, IsBehind, IsUpTo, KeyBehind}
use Rattle.file_tree.specs.Store.Named.{KeyUpTo, AreByAddress}
use Rattle.file_tree.proofs.Order.{before_both, not_itself, in_front, not_in_front, behind_if}
use Rattle.file_tree.proofs.Order.{not_behind_if}
use Rattle.file_tree.proofs.StoreLemmas.NamedStored.{address_of_node}
use Rattle.file_tree.proofs.StoreLemmas.Places.{held_by_all, front_at, last_before, some_at}

pub seen_at_key : (from : List ℕ) (slab : Slab Node) (key : ℕ) (n : Node) (b : Bool)
    → get slab key ≡ Some n
    → is_before from (address_of n.hook) ≡ b → is_before from (address_at slab key) ≡ b
seen_at_key from slab key n b is e = ap (is_before from) (address_of_node slab key n is) ∙ e

-- what comes before a key up to an address is so itself, and what comes after one after it too
pub up_to_down : (from : List ℕ) (slab : Slab Node) (j k : ℕ)
    → IsBehind (address_at slab j) (address_at slab k)
    → KeyUpTo from slab k → KeyUpTo from slab j
up_to_down from slab j k after up =
    let x = address_at slab j in
    let y = address_at slab k in
    not_in_front from x (λ b.
    not_behind_if from y up (before_both from x y b (behind_if x y after)))

pub behind_up : (from : List ℕ) (slab : Slab Node) (j k : ℕ)
    → IsBehind (address_at slab j) (address_at slab k)
    → KeyBehind from slab j → KeyBehind from slab k
behind_up from slab j k after behind =
    let x = address_at slab j in
    let y = address_at slab k in
    in_front from y (before_both from x y (behind_if from x behind) (behind_if x y after))

module _ {T : Type 0} (Front Back : T → Type 0) where
  pub cut_in_list : (xs : List T) (p : ℕ) → IsCut Front Back xs p → p ≤ length xs
  cut_in_list xs zero cut = omega arith
  cut_in_list [] (suc p) cut = absurd cut
  cut_in_list (x ∷ xs) (suc p) cut = omega (arith, cut_in_list xs p cut.1)

-- ---- the place of a key that is there

own_place : (address : ℕ → List ℕ) (xs : List ℕ) (p key d : ℕ)
    → AreOrdered (λ j k. IsBehind (address j) (address k)) xs
    → IsCut (λ k. IsUpTo (address key) (address k)) (λ k. IsBehind (address key) (address k)) xs p
    → HasElement xs key
    → (1 ≤ p) × (get_or xs (p - 1) d ≡ key)
own_place address xs zero key d order cut at =
    absurd (not_itself (address key) (behind_if (address key) (address key)
    (held_by_all (λ k. IsBehind (address key) (address k)) xs key cut at)))
own_place address xs (suc q) key d order cut at =
    let Up : ℕ → Type 0 = (λ k. IsUpTo (address key) (address k)) in
    let Behind : ℕ → Type 0 = (λ k. IsBehind (address key) (address k)) in
    let After : ℕ → ℕ → Type 0 = (λ j k. IsBehind (address j) (address k)) in
    let within : q < length xs = omega (arith, cut_in_list Up Behind xs (suc q) cut) in
    let last : ℕ = get_or xs q d in
    let there : slice_get xs q ≡ Some last = some_at xs q d within in
    let less : q ≡ suc q - 1 = omega arith in (
      omega arith,
      subst (λ (i : ℕ). get_or xs i d ≡ key) less
          (elim (last_before Up Behind After xs q last key order cut there at (λ b.
          not_itself (address key) (behind_if (address key) (address key) b))) [
            | inl e ↦ sym e
            | inr b ↦ absurd (not_behind_if (address key) (address last)
                (front_at Up Behind xs q last cut there) (behind_if (address key) (address last) b))
          ]),
    )

-- the address that the code has read
pub read_address : (slab : Slab Node) (key : ℕ) (n : Node) (d : ℕ) (name bytes : Name)
    → get slab key ≡ Some n
    → n.hook ≡ In d name → bytes ≡ name → d ∷ bytes ≡ address_at slab key
read_address slab key n d name bytes is hook same =
    ap (λ (y : Name). d ∷ y) same ∙ sym (address_of_node slab key n is ∙ ap address_of hook)

pub read_cut : (slab : Slab Node) (key : ℕ) (from : List ℕ) (keys names : List ℕ) (p : ℕ)
    → from ≡ address_at slab key → keys ≡ names
    → IsCut (KeyUpTo from slab) (KeyBehind from slab) keys p
    → IsCut (λ k. IsUpTo (address_at slab key) (address_at slab k)) (λ k.
    IsBehind (address_at slab key) (address_at slab k)) names p
read_cut slab key from keys names p e f cut =
    subst (λ (ks : List ℕ). IsCut (λ k. IsUpTo (address_at slab key) (address_at slab k)) (λ k.
    IsBehind (address_at slab key) (address_at slab k)) ks p) f
    (subst (λ (a : List ℕ). IsCut (λ k. IsUpTo a (address_at slab k)) (λ k.
    IsBehind a (address_at slab k)) keys p) e cut)

pub own_key : (slab : Slab Node) (key : ℕ) (from : List ℕ) (keys names : List ℕ) (p d : ℕ)
    → AreByAddress slab names
    → from ≡ address_at slab key → keys ≡ names
    → IsCut (KeyUpTo from slab) (KeyBehind from slab) keys p → HasElement names key
    → (1 ≤ p) × (get_or names (p - 1) d ≡ key)
own_key slab key from keys names p d order e f cut at =
    own_place (address_at slab) names p key d order.ordered
    (read_cut slab key from keys names p e f cut) at

pub has_address : (d : ℕ) (name a : List ℕ) → d ∷ name ≡ a → a ≢ []
has_address d name a e none = absurd (let t : d ∷ name ≡ [] = e ∙ none in cc)
