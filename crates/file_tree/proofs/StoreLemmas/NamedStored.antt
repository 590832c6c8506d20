-- Nodes in a slab by their addresses, as lists of nodes.
use Rattle.std.proofs.Common.{◌≡◌, ℕ, zero, suc, ◌<◌, ◌⊎◌, inl, inr, List, [], ◌∷◌, length, get_or}
use Rattle.std.proofs.Common.{Option, Some, refl, sym, ap, subst, ◌∙◌, arith}
use Rattle.std.specs.Prelude.{slice_get}
use Rattle.std.specs.List.{AllByRecursion}
use Rattle.slab.specs.Slab.{Slab, get, ContainsKey}
use Rattle.file_tree.specs.declared.store.node.Node.{Node}
use Rattle.file_tree.specs.Links.{hook_held}
use Rattle.file_tree.specs.Store.Stored.{put, stored}
use Rattle.file_tree.specs.Store.Cuts.{HasElement, AreOrdered, IsCut}
use Rattle.file_tree.specs.Store.Named.{address_of, address_at, IsBehind, IsUpTo, KeyBehind}
use Rattle.file_tree.specs.Store.Named.{KeyUpTo, AreByAddress, AreNamed, NoKey}
use Rattle.file_tree.proofs.NamedNodes.{NodeBehind, NodeUpTo, AreListed}
use Rattle.file_tree.proofs.StoreLemmas.Keys.{is_value, stored_at, length-stored}
use Rattle.file_tree.proofs.StoreLemmas.NamedKeys.{all_of_held}
use Rattle.file_tree.proofs.StoreLemmas.Places.{held_by_all, some_at}

-- the address of a node at a key
pub address_of_node : (slab : Slab Node) (key : ℕ) (n : Node) → get slab key ≡ Some n
    → address_at slab key ≡ address_of n.hook
address_of_node slab key n is = ap (λ (o : Option Node). address_of (hook_held o)) is

pub stored_holds : (slab : Slab Node) (keys : List ℕ) (key : ℕ) (n : Node)
    → AllByRecursion (ContainsKey slab) keys
    → HasElement keys key → get slab key ≡ Some n → HasElement (stored slab keys) n
stored_holds slab [] key n present at is = absurd at
stored_holds slab (k ∷ keys) key n present (inl e) is =
    let here : get slab k ≡ Some n = ap (get slab) e ∙ is in
    rw here (inl refl)
stored_holds slab (k ∷ keys) key n present (inr at) is =
    let v = is_value (get slab k) present.0 in
    rw v.1 (inr (stored_holds slab keys key n present.1 at is))

pub key_of_stored : (slab : Slab Node) (keys : List ℕ) (n : Node)
    → AllByRecursion (ContainsKey slab) keys
    → HasElement (stored slab keys) n → (key : ℕ) × HasElement keys key × (get slab key ≡ Some n)
key_of_stored slab [] n present at = absurd at
key_of_stored slab (k ∷ keys) n present at =
    let v = is_value (get slab k) present.0 in
    by v.0 v.1 (key_of_stored slab keys n present.1) (subst (λ (o : Option Node).
    HasElement (put o (stored slab keys)) n) v.1 at) where
      by : (m : Node) → get slab k ≡ Some m
          → (HasElement (stored slab keys) n → (key : ℕ) × HasElement keys key
          × (get slab key ≡ Some n))
          → (m ≡ n) ⊎ HasElement (stored slab keys) n
          → (key : ℕ) × HasElement (k ∷ keys) key × (get slab key ≡ Some n)
      by m is go (inl e) = (k, inl refl, is ∙ ap (λ (w : Node). Some w) e)
      by m is go (inr later) = (let r = go later in (r.0, inr r.1, r.2))

all_stored : (P : List ℕ → Type 0) (slab : Slab Node) (keys : List ℕ)
    → AllByRecursion (ContainsKey slab) keys
    → AllByRecursion (λ k. P (address_at slab k)) keys
    → AllByRecursion (λ (n : Node). P (address_of n.hook)) (stored slab keys)
all_stored P slab [] present h = tt
all_stored P slab (k ∷ keys) present h =
    let v = is_value (get slab k) present.0 in
    rw v.1 (subst P (address_of_node slab k v.0 v.1) h.0, all_stored P slab keys present.1 h.1)

ordered_stored : (slab : Slab Node) (keys : List ℕ) → AllByRecursion (ContainsKey slab) keys
    → AreOrdered (λ j k. IsBehind (address_at slab j) (address_at slab k)) keys
    → AreOrdered (λ (n m : Node). IsBehind (address_of n.hook) (address_of m.hook))
    (stored slab keys)
ordered_stored slab [] present h = tt
ordered_stored slab (k ∷ keys) present h =
    let v = is_value (get slab k) present.0 in
    let others = all_stored (IsBehind (address_at slab k)) slab keys present.1 h.0 in
    let first = address_of_node slab k v.0 v.1 in
    rw v.1 (
      subst (λ (a : List ℕ). AllByRecursion (λ (n : Node). IsBehind a (address_of n.hook))
          (stored slab keys)) first others,
      ordered_stored slab keys present.1 h.1,
    )

pub cut_stored : (from : List ℕ) (slab : Slab Node) (keys : List ℕ) (p : ℕ)
    → AllByRecursion (ContainsKey slab) keys
    → IsCut (KeyUpTo from slab) (KeyBehind from slab) keys p
    → IsCut (NodeUpTo from) (NodeBehind from) (stored slab keys) p
cut_stored from slab keys zero present cut = all_stored (IsBehind from) slab keys present cut
cut_stored from slab [] (suc p) present cut = cut
cut_stored from slab (k ∷ keys) (suc p) present cut =
    let v = is_value (get slab k) present.0 in
    let first = address_of_node slab k v.0 v.1 in
    rw v.1 (
      subst (λ (a : List ℕ). IsUpTo from a) first cut.0,
      cut_stored from slab keys p present.1 cut.1,
    )

-- ---- what is kept

pub named_present : (Out : ℕ → Type 0) (slab : Slab Node) (order names : List ℕ)
    → AllByRecursion (ContainsKey slab) order
    → AreNamed Out (address_at slab) order names → AllByRecursion (ContainsKey slab) names
named_present Out slab order names present are =
    all_of_held (ContainsKey slab) names (λ k at. held_by_all (ContainsKey slab) order k present
    (are.among k at))

pub in_order : (Out : ℕ → Type 0) (slab : Slab Node) (order names : List ℕ)
    → AllByRecursion (ContainsKey slab) order
    → AreNamed Out (address_at slab) order names → AreByAddress slab names
in_order Out slab order names present are =
    record { present = named_present Out slab order names present are; ordered = are.ordered }

pub are_listed : (slab : Slab Node) (order names : List ℕ)
    → AllByRecursion (ContainsKey slab) order
    → AreNamed NoKey (address_at slab) order names
    → AreListed (stored slab order) (stored slab names)
are_listed slab order names present are =
    let named = named_present NoKey slab order names present are in
    record {
      ordered = ordered_stored slab names named are.ordered;
      among = λ n at. (let k = key_of_stored slab names n named at in
          stored_holds slab order k.0 n present (are.among k.0 k.1) k.2);
      hung = λ n at e. (let k = key_of_stored slab names n named at in
          are.hung k.0 k.1 (address_of_node slab k.0 n k.2 ∙ e));
      all = λ n at some.
          (let k = key_of_stored slab order n present at in
          stored_holds slab names k.0 n named
          (are.all k.0 k.1 (λ e. some (sym (address_of_node slab k.0 n k.2)
          ∙ e)) (λ none. none)) k.2);
    }

-- the node at a place
pub node_at : (slab : Slab Node) (keys : List ℕ) (i d : ℕ) (n : Node)
    → AllByRecursion (ContainsKey slab) keys → i < length keys
    → get slab (get_or keys i d) ≡ Some n → slice_get (stored slab keys) i ≡ Some n
node_at slab keys i d n present lt is =
    some_at (stored slab keys) i n (omega (arith, lt, length-stored slab keys present))
    ∙ ap (λ (w : Node). Some w) (stored_at slab keys i d n n present lt is)
